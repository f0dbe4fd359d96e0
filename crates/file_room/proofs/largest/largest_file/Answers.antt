use Rattle.std.proofs.Common.{sym, ◌∙◌, arith}
use Rattle.file_room.proofs.Growing.{some_whole, whole-fails}
use Rattle.file_room.proofs.Putting.{most_is, none_is}
use Rattle.file_room.proofs.largest.largest_file.Goals as goal

pub returns-then-not-is_room_for : goal.returns-then-not-is_room_for
returns-then-not-is_room_for c = record {
  largest = λ s told. none_is c.args.g.now s c.args.info.now told (sym c.is_room_for.ensures ∙ c.if-not-is_room_for.true);
}

pub loop-over-init : goal.loop-over-init
loop-over-init c =
    let g = c.args.g.now in
    record {
      low = sym c.is_room_for.ensures ∙ c.if-not-is_room_for.false;
      high = rw (c.usable.ensures.count, c.body.ensures) (whole-fails g c.args.info.now.index_pages c.args.info.now.data_pages);
      apart = rw (c.usable.ensures.count, c.body.ensures) (some_whole g);
    }

pub returns : goal.returns
returns c =
    let was = c.loop-over.invariant in
    record {
      largest = λ s told. most_is c.args.g.now s c.args.info.now c.loop-over.fits c.loop-over.over told was.low was.high (omega (arith, was.apart, c.loop-over-test.false));
    }
