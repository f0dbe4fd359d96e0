use Rattle.std.proofs.Common.{◌∙◌, Ok, Err, ap}
use Rattle.copy_model.specs.Parts.{IsMissing}
use Rattle.vol_copy.specs.Stages.{Rests, With, StopsFrom}
use Rattle.vol_copy.proofs.Exits.{passed, passed_is}
use Rattle.vol_copy.proofs.Pages.{unopened_cuts, unopened_stops, unmade_cuts, unmade_stops, opened_cuts, opened_done, opened_stops}
use Rattle.table_model.specs.Ask.{Opens}
use Rattle.copy_model.specs.Copying.{working}
use Rattle.vol_copy.specs.Went.{opened_as}
use Rattle.vol_copy.proofs.Causes.{went-never, opened-never}
use Rattle.vol_copy.proofs.filling.fill.Goals as goal

pub returns-in_err-fd-clause-cuts : goal.returns-in_err-fd-clause-cuts
returns-in_err-fd-clause-cuts g c = unopened_cuts c.args.stat.now c.args.from.now c.args.to.now c.open_on.new.to c.open_on.result c.open_on.ensures.went

pub returns-in_err-fd-clause-stops : goal.returns-in_err-fd-clause-stops
returns-in_err-fd-clause-stops g c =
    passed (StopsFrom (With g.N.NorState c.args.from.now (Rests (IsMissing c.args.stat.now))) c.args.to.now c.open_on.new.to) c.from_residual.result _ c.from_residual.ensures.1 (unopened_stops c.args.stat.now c.args.from.now c.args.to.now c.open_on.new.to c.open_on.result c.open_on.ensures.went _ c.in_err-fd.was)

pub returns-in-Some-clause-cuts : goal.returns-in-Some-clause-cuts
returns-in-Some-clause-cuts g c = opened_cuts c.args.stat.now c.args.from.now c.args.to.now c.open_on.new.to c.open_on.result c.open_on.ensures.went c.in-Some.fd (c.in_ok-fd.was ∙ ap Ok c.in-Some.is) c.fill_open.new.to c.fill_open.ensures.cuts

pub returns-in-Some-clause-done : goal.returns-in-Some-clause-done
returns-in-Some-clause-done g c = opened_done c.args.stat.now c.args.from.now c.args.to.now c.open_on.new.to c.open_on.result c.open_on.ensures.went c.in-Some.fd (c.in_ok-fd.was ∙ ap Ok c.in-Some.is) c.fill_open.new.to c.fill_open.result c.fill_open.ensures.done

pub returns-in-Some-clause-stops : goal.returns-in-Some-clause-stops
returns-in-Some-clause-stops g c = opened_stops c.args.stat.now c.args.from.now c.args.to.now c.open_on.new.to c.open_on.result c.open_on.ensures.went c.in-Some.fd (c.in_ok-fd.was ∙ ap Ok c.in-Some.is) c.fill_open.new.to c.fill_open.result c.fill_open.ensures.stops

pub returns-in-None-clause-cuts : goal.returns-in-None-clause-cuts
returns-in-None-clause-cuts g c = unmade_cuts c.args.stat.now c.args.from.now c.args.to.now c.open_on.new.to c.open_on.result c.open_on.ensures.went (c.in_ok-fd.was ∙ ap Ok c.in-None.is) c.give_up.new.to c.give_up.ensures.cuts

pub returns-in-None-clause-stops : goal.returns-in-None-clause-stops
returns-in-None-clause-stops g c = unmade_stops c.args.stat.now c.args.from.now c.args.to.now c.open_on.new.to c.open_on.result c.open_on.ensures.went (c.in_ok-fd.was ∙ ap Ok c.in-None.is) c.give_up.new.to _ c.give_up.ensures.stops

pub returns-in_err-fd-clause-from_cause : goal.returns-in_err-fd-clause-from_cause
returns-in_err-fd-clause-from_cause g c = λ is. absurd (went-never opened_as opened-never (Opens working 52) c.args.to.now c.open_on.new.to c.open_on.result c.open_on.ensures.went (c.in_err-fd.was ∙ ap Err (passed_is c.from_residual.result _ c.from_residual.ensures.1 _ is)))
