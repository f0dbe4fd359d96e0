use Rattle.std.proofs.Common.{◌≡◌, ◌∙◌, sym, ⊎_elim, arith}
use Rattle.tool_parts.proofs.Early.{early_status, early_board}
use Rattle.trace_tool.proofs.Early.{ending_early}
use Rattle.trace_tool.proofs.tool.trace_tool.Goals as goal

pub returns-in-Err-clause-board_fault : goal.returns-in-Err-clause-board_fault
returns-in-Err-clause-board_fault g c = λ (is : c.conclude.result ≡ 7). ⊎_elim
    (λ told. absurd (early_board c.in-Err.ending (ending_early _ _ c.in-Err.ensures.refused) (sym told ∙ is)))
    (λ fault. fault.1)
    c.conclude.ensures.ends

pub returns-in-Err-clause-script_fault : goal.returns-in-Err-clause-script_fault
returns-in-Err-clause-script_fault g c = λ (is : c.conclude.result ≡ 8). absurd (⊎_elim
    (λ told. early_status c.in-Err.ending (ending_early _ _ c.in-Err.ensures.refused) (sym told ∙ is))
    (λ fault. omega (arith, is, fault.0))
    c.conclude.ensures.ends)
