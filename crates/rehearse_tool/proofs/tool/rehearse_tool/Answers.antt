use Rattle.std.proofs.Common.{◌≡◌, ◌∙◌, sym, ⊎_elim, arith}
use Rattle.tool_parts.proofs.Early.{early_status, early_board}
use Rattle.rehearse_tool.proofs.Planned.{ending_early, rehearses_as}
use Rattle.rehearse_tool.proofs.tool.rehearse_tool.Goals as goal

pub returns-in-Err-clause-board_fault : goal.returns-in-Err-clause-board_fault
returns-in-Err-clause-board_fault g c = λ (is : c.conclude.result ≡ 7). ⊎_elim
    (λ told. absurd (early_board c.in-Err.ending (ending_early _ _ c.in-Err.ensures.refused) (sym told ∙ is)))
    (λ fault. fault.1)
    c.conclude.ensures.ends

pub returns-in-Err-clause-script_fault : goal.returns-in-Err-clause-script_fault
returns-in-Err-clause-script_fault g c = λ (is : c.conclude.result ≡ 8). absurd (⊎_elim
    (λ told. early_status c.in-Err.ending (ending_early _ _ c.in-Err.ensures.refused) (sym told ∙ is))
    (λ fault. omega (arith, is, fault.0))
    c.conclude.ensures.ends)

pub returns-in-Ok-clause-rehearses : goal.returns-in-Ok-clause-rehearses
returns-in-Ok-clause-rehearses g c = λ accepted.
    rehearses_as g.B.NorState g.S.Source _ c.args.bufs.now c.args.board.now c.rehearse_on.new.board c.args.script.now c.rehearse_on.new.script c.rehearse_on.result
    c.in-Ok.g c.unit.result c.size.result c.measure.result c.wants_tables.result c.unit.ensures c.size.ensures c.measure.ensures c.wants_tables.ensures c.in-Ok.ensures.planned c.rehearse_on.ensures.does
