use Rattle.std.proofs.Common.{Err, ◌∙◌, ap}
use Rattle.copy_model.specs.Parts.{IsMarked}
use Rattle.vol_copy.specs.Stages.{Rests, OnlyFaults}
use Rattle.vol_copy.proofs.Chains.{unplaced_cuts, unplaced_stops, placed_cuts, placed_done, placed_stops}
use Rattle.vol_copy.proofs.Exits.{passed, passed_is}
use Rattle.table_model.specs.Ask.{Removes, Renames}
use Rattle.copy_model.specs.Copying.{working}
use Rattle.vol_copy.specs.Went.{removed_as, done_as}
use Rattle.vol_copy.proofs.Causes.{went-never, removed-never, done-never}
use Rattle.vol_copy.proofs.placing.place.Goals as goal

pub returns-in_err-clear-clause-cuts : goal.returns-in_err-clear-clause-cuts
returns-in_err-clear-clause-cuts g c = unplaced_cuts c.args.stat.now c.as_slice-name.result.now c.as_slice-name.ensures.bytes c.args.to.now c.clear.new.to c.clear.result c.clear.ensures.went

pub returns-in_err-clear-clause-stops : goal.returns-in_err-clear-clause-stops
returns-in_err-clear-clause-stops g c =
    passed (OnlyFaults (Rests (IsMarked c.args.stat.now)) c.args.to.now) c.from_residual.result _ c.from_residual.ensures.1 (unplaced_stops c.args.stat.now c.as_slice-name.result.now c.as_slice-name.ensures.bytes c.args.to.now c.clear.new.to c.clear.result c.clear.ensures.went _ c.in_err-clear.was)

pub returns-clause-cuts : goal.returns-clause-cuts
returns-clause-cuts g c = placed_cuts c.args.stat.now c.as_slice-name.result.now c.as_slice-name.ensures.bytes c.args.to.now c.clear.new.to c.clear.result c.clear.ensures.went c.in_ok-clear.was c.as_slice-name.result.now c.as_slice-name.ensures.bytes c.perform.new.to c.perform.result c.perform.ensures.went

pub returns-clause-done : goal.returns-clause-done
returns-clause-done g c = placed_done c.args.stat.now c.as_slice-name.result.now c.as_slice-name.ensures.bytes c.args.to.now c.clear.new.to c.clear.result c.clear.ensures.went c.in_ok-clear.was c.as_slice-name.result.now c.as_slice-name.ensures.bytes c.perform.new.to c.perform.result c.perform.ensures.went

pub returns-clause-stops : goal.returns-clause-stops
returns-clause-stops g c = placed_stops c.args.stat.now c.as_slice-name.result.now c.as_slice-name.ensures.bytes c.args.to.now c.clear.new.to c.clear.result c.clear.ensures.went c.in_ok-clear.was c.as_slice-name.result.now c.as_slice-name.ensures.bytes c.perform.new.to c.perform.result c.perform.ensures.went

pub returns-in_err-clear-clause-source : goal.returns-in_err-clear-clause-source
returns-in_err-clear-clause-source g c = λ is. went-never removed_as removed-never (Removes c.as_slice-name.result.now) c.args.to.now c.clear.new.to c.clear.result c.clear.ensures.went (c.in_err-clear.was ∙ ap Err (passed_is c.from_residual.result _ c.from_residual.ensures.1 _ is))

pub returns-clause-source : goal.returns-clause-source
returns-clause-source g c = λ is. went-never done_as done-never (Renames working c.as_slice-name.result.now) c.clear.new.to c.perform.new.to c.perform.result c.perform.ensures.went is
