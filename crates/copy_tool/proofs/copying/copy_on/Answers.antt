use Rattle.copy_tool.proofs.Told.{copy_does}
use Rattle.tool_parts.proofs.Among.{ends_among}
use Rattle.copy_tool.specs.Among.{MayEndCopy}
use Rattle.copy_tool.proofs.copying.copy_on.Goals as goal

pub returns-clause-does : goal.returns-clause-does
returns-clause-does g c =
    let copied = c.copy_boards-ending.ensures in
    copy_does _ _ c.copy_boards-ending.result c.conclude.result copied.copies copied.cause copied.source_cause copied.behind copied.source_few copied.few c.conclude.ensures

pub returns-clause-ends : goal.returns-clause-ends
returns-clause-ends g c =
    let copied = c.copy_boards-ending.ensures in
    ends_among MayEndCopy c.copy_boards-ending.result c.conclude.result copied.among copied.behind.cuts c.conclude.ensures
