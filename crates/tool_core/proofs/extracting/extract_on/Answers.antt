use Rattle.tool_core.proofs.ExtractEnds.{extract_closed}
use Rattle.tool_parts.proofs.Among.{ends_among}
use Rattle.tool_core.specs.Among.{MayEndExtract}
use Rattle.tool_core.proofs.extracting.extract_on.Goals as goal

pub returns-clause-does : goal.returns-clause-does
returns-clause-does g c =
    let said = c.extract_board-ending.ensures in
    extract_closed _ c.extract_board-ending.result c.conclude.result said.extracts said.goes said.cause said.folder_cause said.few c.conclude.ensures

pub returns-clause-ends : goal.returns-clause-ends
returns-clause-ends g c =
    let ended = c.extract_board-ending.ensures in
    ends_among MayEndExtract c.extract_board-ending.result c.conclude.result ended.among ended.extracts.says.cuts c.conclude.ensures
