use Rattle.std.proofs.Common.{◌≡◌, ◌∙◌, sym, ⊎_elim, arith}
use Rattle.tool_core.proofs.Early.{ending_early}
use Rattle.tool_parts.proofs.Early.{early_status, early_board, early_folder}
use Rattle.tool_core.proofs.Geometries.{one_plan}
use Rattle.tool_core.proofs.tool.spiffs_tool.Goals as goal

pub returns-in-Err-clause-script_fault : goal.returns-in-Err-clause-script_fault
returns-in-Err-clause-script_fault g c = λ (is : c.conclude.result ≡ 8). absurd (⊎_elim
    (λ told. early_status c.in-Err.ending (ending_early _ _ c.in-Err.ensures.refused) (sym told ∙ is))
    (λ fault. omega (arith, is, fault.0))
    c.conclude.ensures.ends)

pub returns-in-Err-clause-folder_fault : goal.returns-in-Err-clause-folder_fault
returns-in-Err-clause-folder_fault g c = λ (is : c.conclude.result ≡ 9). absurd (⊎_elim
    (λ told. early_folder c.in-Err.ending (ending_early _ _ c.in-Err.ensures.refused) (sym told ∙ is))
    (λ fault. omega (arith, is, fault.0))
    c.conclude.ensures.ends)

pub returns-in-Err-clause-board_fault : goal.returns-in-Err-clause-board_fault
returns-in-Err-clause-board_fault g c = λ (is : c.conclude.result ≡ 7). ⊎_elim
    (λ told. absurd (early_board c.in-Err.ending (ending_early _ _ c.in-Err.ensures.refused) (sym told ∙ is)))
    (λ fault. fault.1)
    c.conclude.ensures.ends

pub returns-in-Ok-clause-planned : goal.returns-in-Ok-clause-planned
returns-in-Ok-clause-planned g c = λ accepted. (c.in-Ok.command, rw (sym c.unit.ensures, sym c.size.ensures, sym c.measure.ensures) c.in-Ok.ensures.planned)

pub returns-in-Ok-clause-does : goal.returns-in-Ok-clause-does
returns-in-Ok-clause-does g c =
    let here = rw (c.unit.ensures, c.size.ensures, c.measure.ensures) at c.in-Ok.ensures.planned in
    λ command planned. rw (one_plan planned here) c.perform.ensures.does

pub returns-in-Ok-clause-untaken : goal.returns-in-Ok-clause-untaken
returns-in-Ok-clause-untaken g c =
    let here = rw (c.unit.ensures, c.size.ensures, c.measure.ensures) at c.in-Ok.ensures.planned in
    λ none. c.perform.ensures.untaken (none c.in-Ok.command here)

pub returns-in-Ok-clause-untouched : goal.returns-in-Ok-clause-untouched
returns-in-Ok-clause-untouched g c =
    let here = rw (c.unit.ensures, c.size.ensures, c.measure.ensures) at c.in-Ok.ensures.planned in
    λ none. c.perform.ensures.untouched (none c.in-Ok.command here)

pub returns-in-Ok-clause-ends : goal.returns-in-Ok-clause-ends
returns-in-Ok-clause-ends g c =
    let here = rw (c.unit.ensures, c.size.ensures, c.measure.ensures) at c.in-Ok.ensures.planned in
    λ command planned. rw (one_plan planned here) c.perform.ensures.ends
