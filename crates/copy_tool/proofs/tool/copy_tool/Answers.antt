use Rattle.std.proofs.Common.{◌≡◌, ◌∙◌, sym, ⊎_elim, arith}
use Rattle.nor_core.proofs.Cuts.{reads_none}
use Rattle.tool_parts.proofs.Early.{early_board}
use Rattle.copy_tool.proofs.Plans.{ending_early, early_source, one_plan}
use Rattle.copy_tool.proofs.tool.copy_tool.Goals as goal

pub returns-in-Err-clause-reads : goal.returns-in-Err-clause-reads
returns-in-Err-clause-reads g c = reads_none c.args.source.now

pub returns-in-Err-clause-board_fault : goal.returns-in-Err-clause-board_fault
returns-in-Err-clause-board_fault g c = λ (is : c.conclude.result ≡ 7). ⊎_elim
    (λ told. absurd (early_board c.in-Err.ending (ending_early _ _ c.in-Err.ensures.refused) (sym told ∙ is)))
    (λ fault. fault.1)
    c.conclude.ensures.ends

pub returns-in-Err-clause-source_fault : goal.returns-in-Err-clause-source_fault
returns-in-Err-clause-source_fault g c = λ (is : c.conclude.result ≡ 18). absurd (⊎_elim
    (λ told. early_source c.in-Err.ending (ending_early _ _ c.in-Err.ensures.refused) (sym told ∙ is))
    (λ fault. omega (arith, is, fault.0))
    c.conclude.ensures.ends)

pub returns-in-Ok-clause-planned : goal.returns-in-Ok-clause-planned
returns-in-Ok-clause-planned g c = λ accepted. (c.in-Ok.plan, rw (sym c.side_of.ensures, sym c.side_of-2.ensures) c.in-Ok.ensures.planned)

pub returns-in-Ok-clause-does : goal.returns-in-Ok-clause-does
returns-in-Ok-clause-does g c =
    let here = rw (c.side_of.ensures, c.side_of-2.ensures) at c.in-Ok.ensures.planned in
    λ plan planned. rw (one_plan planned here) c.copy_on.ensures.does

pub returns-in-Ok-clause-ends : goal.returns-in-Ok-clause-ends
returns-in-Ok-clause-ends g c = λ plan planned. c.copy_on.ensures.ends
