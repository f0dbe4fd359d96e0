use Rattle.std.proofs.Common.{rules}
use Rattle.tool_parts.proofs.Reading.{behind_as}
use Rattle.tool_core.proofs.making.make_board.Goals as goal

pub returns-clause-behind : goal.returns-clause-behind
returns-clause-behind g c =
    let made = c.new-volume.ensures in
    let here = rw (made.geometry, made.nor) at c.make_volume.ensures.same.behind in
    behind_as here (search rules)
