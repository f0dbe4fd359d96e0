use Rattle.std.proofs.Common.{Ok, ap, sym, ◌∙◌}
use Rattle.vol_copy.specs.Stages.{Rests, OnlyFaults}
use Rattle.vol_copy.specs.Turns.{IsReady}
use Rattle.copy_model.specs.Copying.{working}
use Rattle.copy_model.proofs.Answering.{fine_working}
use Rattle.vol_copy.proofs.Exits.{passed}
use Rattle.vol_copy.proofs.Places.{on_ok, if_err}
use Rattle.vol_copy.proofs.Seeing.{stat_stops}
use Rattle.vol_copy.proofs.Starting.{none_there, there_never, starts_cuts, starts_cuts_then, starts_leads, starts_stops}
use Rattle.vol_copy.proofs.beginning.remove_working.Goals as goal

pub returns-in_err-stat_on-clause-cuts : goal.returns-in_err-stat_on-clause-cuts
returns-in_err-stat_on-clause-cuts g c = starts_cuts c.args.to.now c.stat_on.new.to c.stat_on.result c.stat_on.ensures.went

pub returns-in_err-stat_on-clause-stops : goal.returns-in_err-stat_on-clause-stops
returns-in_err-stat_on-clause-stops g c =
    passed (OnlyFaults (Rests IsReady) c.args.to.now) c.from_residual.result _ c.from_residual.ensures.1
    (stat_stops IsReady working (λ t files ready. fine_working) c.args.to.now c.stat_on.new.to c.stat_on.result c.stat_on.ensures.went _ c.in_err-stat_on.was)

pub returns-in-Some-clause-cuts : goal.returns-in-Some-clause-cuts
returns-in-Some-clause-cuts g c =
    starts_cuts_then c.in-Some.field-0 c.args.to.now c.stat_on.new.to c.clear.new.to c.stat_on.result c.stat_on.ensures.went (c.in_ok-stat_on.was ∙ ap Ok c.in-Some.is) c.clear.result c.clear.ensures.went

pub returns-in-Some-clause-idle : goal.returns-in-Some-clause-idle
returns-in-Some-clause-idle g c = λ t has known.
    absurd (there_never c.args.to.now c.stat_on.new.to c.stat_on.result c.stat_on.ensures.went c.in-Some.field-0 (c.in_ok-stat_on.was ∙ ap Ok c.in-Some.is) t has known)

pub returns-in-Some-clause-done : goal.returns-in-Some-clause-done
returns-in-Some-clause-done g c = on_ok c.clear.result (λ ok.
    starts_leads c.in-Some.field-0 c.args.to.now c.stat_on.new.to c.clear.new.to c.stat_on.result c.stat_on.ensures.went (c.in_ok-stat_on.was ∙ ap Ok c.in-Some.is) c.clear.result c.clear.ensures.went ok)

pub returns-in-Some-clause-stops : goal.returns-in-Some-clause-stops
returns-in-Some-clause-stops g c = if_err {P = OnlyFaults (Rests IsReady) c.args.to.now} c.clear.result (λ why is.
    starts_stops c.in-Some.field-0 c.args.to.now c.stat_on.new.to c.clear.new.to c.stat_on.result c.stat_on.ensures.went (c.in_ok-stat_on.was ∙ ap Ok c.in-Some.is) c.clear.result c.clear.ensures.went why is)

pub returns-in-None-clause-cuts : goal.returns-in-None-clause-cuts
returns-in-None-clause-cuts g c = starts_cuts c.args.to.now c.stat_on.new.to c.stat_on.result c.stat_on.ensures.went

pub returns-in-None-clause-done : goal.returns-in-None-clause-done
returns-in-None-clause-done g c = none_there c.args.to.now c.stat_on.new.to c.stat_on.result c.stat_on.ensures.went (c.in_ok-stat_on.was ∙ ap Ok c.in-None.is)
