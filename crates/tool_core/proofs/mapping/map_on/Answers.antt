use Rattle.tool_core.proofs.MapTold.{map_does}
use Rattle.tool_parts.proofs.Among.{ends_among}
use Rattle.tool_core.specs.Among.{MayEndMap}
use Rattle.tool_core.proofs.mapping.map_on.Goals as goal

pub returns-clause-does : goal.returns-clause-does
returns-clause-does g c =
    let mapped = c.map_board-ending.ensures in
    map_does _ c.map_board-ending.result c.conclude.result mapped.maps mapped.cause mapped.behind mapped.few c.conclude.ensures

pub returns-clause-ends : goal.returns-clause-ends
returns-clause-ends g c =
    let ended = c.map_board-ending.ensures in
    ends_among (MayEndMap c.args.id) c.map_board-ending.result c.conclude.result ended.among ended.behind.cuts c.conclude.ensures
