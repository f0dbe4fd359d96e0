use Rattle.tool_core.proofs.CheckTold.{check_does}
use Rattle.tool_parts.proofs.Among.{ends_among}
use Rattle.tool_core.specs.Among.{MayEndReport}
use Rattle.tool_core.proofs.checking.check_on.Goals as goal

pub returns-clause-does : goal.returns-clause-does
returns-clause-does g c =
    let checked = c.check_board-ending.ensures in
    check_does _ c.check_board-ending.result c.conclude.result checked.checks checked.cause checked.behind checked.few c.conclude.ensures

pub returns-clause-ends : goal.returns-clause-ends
returns-clause-ends g c =
    let ended = c.check_board-ending.ensures in
    ends_among MayEndReport c.check_board-ending.result c.conclude.result ended.among ended.behind.cuts c.conclude.ensures
