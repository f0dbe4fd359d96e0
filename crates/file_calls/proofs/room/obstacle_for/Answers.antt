use Rattle.std.proofs.Common.{◌≡◌, true, false, refl, sym, ◌∙◌, arith}
use Rattle.std.proofs.lemmas.Bool.{le-leb}
use Rattle.table_model.specs.Table.{put_file}
use Rattle.table_model.specs.Room.{has_room}
use Rattle.table_model.specs.Outcome.{page_refusal}
use Rattle.image_model.specs.Tables.{table_of}
use Rattle.image_model.specs.Tidy.{free_blocks, has_spare}
use Rattle.file_calls.proofs.Resizing.{no_room}
use Rattle.file_calls.proofs.room.obstacle_for.Goals.{then-to-ge4294967295-via-then-to-ge4294967295, then-to-ge4294967295-via-else-to-ge4294967295+then-not-has_room_for}
use Rattle.file_calls.proofs.room.obstacle_for.Goals as goal

pub returns-then-to-ge4294967295-clause-told : goal.returns-then-to-ge4294967295-clause-told
unfolding page_refusal
returns-then-to-ge4294967295-clause-told g c = λ tells tidy f new is.
    let view = c.args.v.now in
    let image = g.N.NorState.bytes view.nor.now in
    let looks = c.in_ok-live.ensures.looks in
    let sums = c.in_ok-live.ensures.told tells tidy in
    let two : has_spare view.geometry image ≡ true = le-leb 2 (free_blocks view.geometry image) (omega (arith, sums.free, c.if-live-lt2.false)) in
    let none : has_room view.geometry (put_file new (table_of view.geometry image)) ≡ false = elim c.then-to-ge4294967295.branch [
      | then-to-ge4294967295-via-then-to-ge4294967295 w ↦ no_room view.geometry (table_of view.geometry image) new (omega (arith, is.now, w.if-to-ge4294967295.true))
      | then-to-ge4294967295-via-else-to-ge4294967295+then-not-has_room_for w ↦
          (let told = (rw (looks.same.geometry, looks.reads.bytes) at w.has_room_for.ensures) (looks.reads.told tells) tidy sums f new is in sym told ∙ w.if-not-has_room_for.true)
    ] in
    rw (two, none) refl
