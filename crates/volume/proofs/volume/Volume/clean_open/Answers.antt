use Rattle.std.proofs.Common.{refl}
use Rattle.std.proofs.lemmas.Result.{err_from_is_err_and}
use Rattle.volume.proofs.Staying.{same_then}
use Rattle.volume.proofs.Cleanings.{cleans_by, cleans_read, clean_keeps, cleans_stopped, faults_then}
use Rattle.volume.proofs.volume.Volume.clean_open.Goals as goal

pub returns-in_err-had : goal.returns-in_err-had
returns-in_err-had g c =
    let p = err_from_is_err_and c.from_residual.result c.from_residual.ensures.1 in
    let begun = c.in_err-had.ensures in
    rw (p.1, p.2) (cleans_stopped c.args.aim c.in_err-had.field-0.0 c.requires.takes begun.settles begun.room begun.map)

pub returns : goal.returns
returns g c =
    let first = c.in_ok-had.ensures in
    let begun = first.settles in
    let made = c.clean_settled-result.ensures in
    let after = c.refill.ensures in
    let did = cleans_read made.cleans after.looks after.slots (rw (after.held, after.window) refl) after.stage after.counted in
    let keeps = clean_keeps made.cleans first.room made.room after.room first.map made.map (faults_then begun.same made.same) after.still after.none after.lost after.is in
    cleans_by c.args.aim c.in_ok-had.had c.requires.takes begun (same_then made.same after.same) begun.done.1 c.clean_settled-result.result did keeps
