use Rattle.std.proofs.Common.{◌≡◌, refl, ap, true, false, ⊎_elim}
use Rattle.std.proofs.lemmas.Bool.{cases_Bool}
use Rattle.std.proofs.lemmas.Result.{err_from_is_err_and}
use Rattle.table_model.specs.declared.error.FsErr.{FsErr}
use Rattle.table_model.specs.Reply.{Refuses}
use Rattle.volume.specs.Replies.{breaks}
use Rattle.volume.proofs.LookedAfter.{settles_read}
use Rattle.volume.proofs.KnownMaps.{keeps_settled, keeps_broken}
use Rattle.volume.proofs.volume.Volume.settled.Goals as goal

pub returns-clause-settles : goal.returns-clause-settles
returns-clause-settles g c = λ takes.
    let after = c.refill.ensures in
    let was = c.in_ok-had.ensures.settles in
    settles_read c.in_ok-had.had was after.looks after.same after.slots (rw (after.held, after.window) refl) after.stage after.counted (λ none. ⊎_elim
    (λ (used : c.args.self.now.map.used ≡ true). after.still (rw (was.idle none).1 used))
    (λ (free : c.args.self.now.map.used ≡ false). after.none free)
    (cases_Bool c.args.self.now.map.used))

pub returns-clause-map : goal.returns-clause-map
returns-clause-map g c = λ m takes here.
    let after = c.refill.ensures in
    let begun = c.in_ok-had.ensures in
    let was = begun.settles in
    keeps_settled takes was.done.0 begun.room after.room begun.map was.same.faults after.still after.none after.lost after.is

pub returns-in_err-had-clause-map : goal.returns-in_err-had-clause-map
returns-in_err-had-clause-map g c =
    let p = err_from_is_err_and c.from_residual.result c.from_residual.ensures.1 in
    let begun = c.in_err-had.ensures in
    let why = c.in_err-had.field-0.0 in
    rw (p.1, p.2) (λ m takes here. keeps_broken (breaks (Refuses why)) (ap (λ (w : FsErr). breaks (Refuses w)) (begun.settles.stands m here)) begun.room begun.map)
