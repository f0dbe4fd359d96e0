use Rattle.std.proofs.Common.{◌≡◌, arith}
use Rattle.geometry.specs.Numbers.{body}
use Rattle.file_calls.proofs.PartRoom.{some_body}
use Rattle.file_calls.proofs.PartEnds.{page_ends, room_ends}
use Rattle.file_calls.proofs.writing.part_room.Goals as goal

pub returns-then-from-size-clause-ends : goal.returns-then-from-size-clause-ends
returns-then-from-size-clause-ends c = rw (c.body.ensures, c.body-then-from-size.ensures) (page_ends (body c.args.g.now) c.args.from (some_body c.args.g.now))

pub returns-else-from-size-clause-ends : goal.returns-else-from-size-clause-ends
returns-else-from-size-clause-ends c = rw c.append_room.ensures (room_ends c.args.g.now c.args.from).1
