use Rattle.std.proofs.Common.{rules, ◌≡◌, subst, sym, Result, Err}
use Rattle.nor_core.specs.Count.{Rose}
use Rattle.rehearse_tool.specs.declared.answer.Answer.{Answer}
use Rattle.rehearse_tool.specs.declared.input.Stop.{Stop}
use Rattle.rehearse_tool.specs.Outcomes.{IsOutcomeStatus, outcome_status}
use Rattle.rehearse_tool.proofs.Coming.{board_refused, script_refused, among_unscripted}
use Rattle.rehearse_tool.proofs.tool.perform.Goals as goal

pub returns-in_err-accept-clause-board_fault : goal.returns-in_err-accept-clause-board_fault
returns-in_err-accept-clause-board_fault g c =
    let is : c.from_residual-in_err-accept.result ≡ Err c.in_err-accept.field-0.0 = search rules in
    subst (λ (r : Result Answer Stop). outcome_status r ≡ 7 → Rose (g.B.NorState.faults c.args.board.now) (g.B.NorState.faults c.read_image.new.board)) (sym is)
    (board_refused c.args.g _ c.in_err-accept.field-0.0 c.in_err-accept.ensures.refused)

pub returns-in_err-accept-clause-script_fault : goal.returns-in_err-accept-clause-script_fault
returns-in_err-accept-clause-script_fault g c =
    let is : c.from_residual-in_err-accept.result ≡ Err c.in_err-accept.field-0.0 = search rules in
    subst (λ (r : Result Answer Stop). outcome_status r ≡ 8 → Rose (g.S.Source.faults c.args.script.now) (g.S.Source.faults c.args.script.now)) (sym is)
    (script_refused c.args.g _ c.in_err-accept.field-0.0 c.in_err-accept.ensures.refused)

pub returns-in_err-text-clause-among : goal.returns-in_err-text-clause-among
returns-in_err-text-clause-among g c =
    let is : c.from_residual-in_err-text.result ≡ Err c.in_err-text.field-0.0 = search rules in
    subst (λ (r : Result Answer Stop). IsOutcomeStatus (outcome_status r)) (sym is) (among_unscripted c.in_err-text.field-0.0 c.in_err-text.ensures.cause)
