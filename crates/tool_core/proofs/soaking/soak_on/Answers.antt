use Rattle.std.specs.Prelude.{length}
use Rattle.tool_core.proofs.SoakEnds.{soak_formatted}
use Rattle.nor_core.proofs.Cuts.{andthen}
use Rattle.script_run.proofs.Working.{goes_of}
use Rattle.tool_parts.specs.Among.{MayEndWork}
use Rattle.tool_parts.proofs.Among.{ends_among}
use Rattle.tool_core.proofs.Among.{broken_work}
use Rattle.tool_core.proofs.soaking.soak_on.Goals as goal

pub returns-clause-does : goal.returns-clause-does
returns-clause-does g c =
    let soaked = c.soak_board-ending.ensures in
    soak_formatted (length c.args.bufs.now.slots.now) c.args.seed c.args.turns c.soak_board-ending.result c.conclude-2.result c.format_board.ensures.changes c.in_default.ensures.done soaked.soaks soaked.behind soaked.cause c.conclude-2.ensures

pub returns-clause-ends : goal.returns-clause-ends
returns-clause-ends g c =
    let soaked = c.soak_board-ending.ensures in
    ends_among MayEndWork c.soak_board-ending.result c.conclude-2.result soaked.among (andthen (goes_of c.format_board.ensures.changes.cuts) (goes_of soaked.behind.cuts)) c.conclude-2.ensures

pub returns-in-Err-clause-ends : goal.returns-in-Err-clause-ends
returns-in-Err-clause-ends g c = ends_among MayEndWork c.in-Err.ending c.conclude.result (broken_work c.in-Err.ending c.in-Err.ensures.stops) c.format_board.ensures.changes.cuts c.conclude.ensures
