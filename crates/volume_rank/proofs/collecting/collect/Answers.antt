use Rattle.std.proofs.Common.{◌<◌, length, length-set, arith}
use Rattle.volume_detect.proofs.Found.{place_inside}
use Rattle.volume_rank.proofs.Lists.{one_collected, all_collected, more_collected}
use Rattle.volume_rank.proofs.collecting.collect.Goals as goal

pub returns-then-count-found-clause-more : goal.returns-then-count-found-clause-more
returns-then-count-found-clause-more c =
    more_collected c.args.file.now c.places.found c.places.count c.places.from c.in-Some.place c.in-Some.g c.if-count-found.true c.places.invariant.collected (c.in-Some.ensures c.args.file.now c.requires.words)

pub places-preserved : goal.places-preserved
places-preserved c =
    let was = c.places.invariant in
    let file = c.args.file.now in
    let next = c.in-Some.ensures file c.requires.words in
    let low = place_inside file c.in-Some.place c.in-Some.g next.1.0 in
    let room : c.places.count < length c.places.found = omega (arith, was.room, c.if-count-found.false) in
    record {
      collected = one_collected file c.places.found c.found_at.result c.places.count c.places.from c.in-Some.place c.in-Some.g room was.collected next c.found_at.ensures.found c.found_at.ensures.place;
      room = rw length-set (omega (arith, room));
      few = omega (arith, low, c.requires.small);
    }

pub returns-clause-all : goal.returns-clause-all
returns-clause-all c =
    (c.places.invariant.room, all_collected c.args.file.now c.places.found c.places.count c.places.from c.places.invariant.collected (c.in_default.ensures c.args.file.now c.requires.words))
