use Rattle.tool_core.proofs.MakeEnds.{make_stopped, make_formatted}
use Rattle.nor_core.proofs.Cuts.{andthen}
use Rattle.script_run.proofs.Working.{goes_of}
use Rattle.tool_parts.proofs.Among.{ends_among, ends_at_once}
use Rattle.tool_core.specs.Among.{MayEndMake}
use Rattle.tool_core.proofs.Among.{stops_among, broken_make}
use Rattle.tool_core.proofs.making.make_on.Goals as goal

pub returns-in-Err-clause-does : goal.returns-in-Err-clause-does
returns-in-Err-clause-does g c = make_stopped c.in-Err.ending c.conclude.result c.in-Err.ensures.stops c.accept_folder.ensures.kept c.conclude.ensures

pub returns-clause-does : goal.returns-clause-does
returns-clause-does g c =
    let made = c.make_board-ending.ensures in
    make_formatted c.make_board-ending.result c.conclude-2.result c.in_default.ensures.accepted c.accept_folder.ensures.kept made.kept c.format_board.ensures.changes c.in_default-format_board.ensures.done made.makes made.behind made.cause made.folder_cause made.later.no_full made.later.no_names c.conclude-2.ensures

pub returns-in-Err-clause-ends : goal.returns-in-Err-clause-ends
returns-in-Err-clause-ends g c = ends_at_once MayEndMake c.in-Err.ending c.conclude.result (stops_among g.F.FolderState c.args.g c.args.folder.now c.accept_folder.new.folder c.in-Err.ending c.in-Err.ensures.stops) c.conclude.ensures

pub returns-clause-ends : goal.returns-clause-ends
returns-clause-ends g c =
    let made = c.make_board-ending.ensures in
    ends_among MayEndMake c.make_board-ending.result c.conclude-2.result made.among (andthen (goes_of c.format_board.ensures.changes.cuts) (goes_of made.behind.cuts)) c.conclude-2.ensures

pub returns-in-Err-format_board-clause-ends : goal.returns-in-Err-format_board-clause-ends
returns-in-Err-format_board-clause-ends g c =
    let ending = c.in-Err-format_board.ending in
    ends_among MayEndMake ending c.conclude-in-Err-format_board.result (broken_make ending c.in-Err-format_board.ensures.stops) c.format_board.ensures.changes.cuts c.conclude-in-Err-format_board.ensures
