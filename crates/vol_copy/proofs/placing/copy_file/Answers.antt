use Rattle.vol_copy.specs.Stages.{With, Rests, StopsFrom}
use Rattle.copy_model.specs.Parts.{IsMissing}
use Rattle.volume.proofs.Staying.{same_then}
use Rattle.vol_copy.proofs.Chains.{whole_cuts, whole_stops, copied_cuts, copied_done, copied_stops}
use Rattle.vol_copy.proofs.Exits.{passed}
use Rattle.vol_copy.proofs.placing.copy_file.Goals as goal

pub returns-in_err-fill-clause-stops : goal.returns-in_err-fill-clause-stops
returns-in_err-fill-clause-stops g c =
    passed (StopsFrom (With g.N.NorState c.args.from.now (Rests (IsMissing c.args.stat.now))) c.args.to.now c.fill.new.to) c.from_residual.result _ c.from_residual.ensures.1 c.in_err-fill.ensures.stops

pub returns-in_err-mark-clause-cuts : goal.returns-in_err-mark-clause-cuts
returns-in_err-mark-clause-cuts g c = whole_cuts c.args.stat.now (With g.N.NorState c.args.from.now (Rests (IsMissing c.args.stat.now))) c.args.to.now c.fill.new.to c.in_ok-fill.ensures.cuts c.in_ok-fill.ensures.done c.mark.new.to c.in_err-mark.ensures.cuts

pub returns-in_err-mark-clause-stops : goal.returns-in_err-mark-clause-stops
returns-in_err-mark-clause-stops g c =
    passed (StopsFrom (With g.N.NorState c.args.from.now (Rests (IsMissing c.args.stat.now))) c.args.to.now c.mark.new.to) c.from_residual-in_err-mark.result _ c.from_residual-in_err-mark.ensures.1
    (whole_stops c.args.stat.now (With g.N.NorState c.args.from.now (Rests (IsMissing c.args.stat.now))) c.args.to.now c.fill.new.to c.in_ok-fill.ensures.cuts c.in_ok-fill.ensures.done c.mark.new.to _ c.in_err-mark.ensures.stops)

pub returns-clause-cuts : goal.returns-clause-cuts
returns-clause-cuts g c = copied_cuts c.args.stat.now (With g.N.NorState c.args.from.now (Rests (IsMissing c.args.stat.now))) c.args.to.now c.fill.new.to c.in_ok-fill.ensures.cuts c.in_ok-fill.ensures.done c.mark.new.to c.in_ok-mark.ensures.cuts c.in_ok-mark.ensures.done c.place.new.to c.place.ensures.cuts

pub returns-clause-done : goal.returns-clause-done
returns-clause-done g c = copied_done c.args.stat.now (With g.N.NorState c.args.from.now (Rests (IsMissing c.args.stat.now))) c.args.to.now c.fill.new.to c.in_ok-fill.ensures.cuts c.in_ok-fill.ensures.done c.mark.new.to c.in_ok-mark.ensures.cuts c.in_ok-mark.ensures.done c.place.new.to c.place.result c.place.ensures.done

pub returns-clause-stops : goal.returns-clause-stops
returns-clause-stops g c = copied_stops c.args.stat.now (With g.N.NorState c.args.from.now (Rests (IsMissing c.args.stat.now))) c.args.to.now c.fill.new.to c.in_ok-fill.ensures.cuts c.in_ok-fill.ensures.done c.mark.new.to c.in_ok-mark.ensures.cuts c.in_ok-mark.ensures.done c.place.new.to c.place.result c.place.ensures.stops

pub returns-clause-same_to : goal.returns-clause-same_to
returns-clause-same_to g c = same_then (same_then c.fill.ensures.same_to c.mark.ensures.same) c.place.ensures.same
