use Rattle.std.proofs.Common.{rules}
use Rattle.tool_parts.proofs.Reading.{behind_as}
use Rattle.tool_core.proofs.soaking.soak_board.Goals as goal

pub returns-clause-behind : goal.returns-clause-behind
returns-clause-behind g c =
    let made = c.new-volume.ensures in
    let here = rw (made.geometry, made.nor) at c.soak_volume.ensures.same.behind in
    behind_as here (search rules)
