use Rattle.std.proofs.Common.{◌+◌, ◌-◌, ◌%◌, ◌<◌, arith, ◌≡◌}
use Rattle.geometry.specs.Numbers.{body}
use Rattle.file_calls.proofs.PartEnds.{ends_page, ends_own}
use Rattle.file_calls.proofs.writing.part_end.Goals as goal
use Rattle.file_calls.proofs.writing.part_end.Goals.{then-end-from, else-end-from}

pub returns-else-from-size-clause-is : goal.returns-else-from-size-clause-is
returns-else-from-size-clause-is c = λ at len low is. elim c.if-end-from.branch [
  | then-end-from w ↦
      let room = c.part_room-left.ensures in
      ends_page (body c.args.g.now) c.args.size c.args.from c.args.end at len c.if-end-from.to c.part_room-left.result room.some room.ends low is w.to-is (let more = w.if-end-from.true in omega (arith, more))
  | else-end-from w ↦ ends_own (body c.args.g.now) c.args.size c.args.from c.args.end at len c.if-end-from.to low c.requires.from is w.to-is
]
