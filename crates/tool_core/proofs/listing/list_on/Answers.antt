use Rattle.tool_parts.proofs.Telling.{only_concludes}
use Rattle.tool_parts.proofs.Among.{ends_among}
use Rattle.tool_core.specs.Among.{MayEndList}
use Rattle.tool_core.proofs.listing.list_on.Goals as goal

pub returns-clause-does : goal.returns-clause-does
returns-clause-does g c =
    let said = c.list_board-ending.ensures in
    only_concludes _ c.list_board-ending.result c.conclude.result said.lists said.cause said.few c.conclude.ensures

pub returns-clause-ends : goal.returns-clause-ends
returns-clause-ends g c =
    let ended = c.list_board-ending.ensures in
    ends_among MayEndList c.list_board-ending.result c.conclude.result ended.among ended.lists.says.cuts c.conclude.ensures
