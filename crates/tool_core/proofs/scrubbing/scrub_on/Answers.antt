use Rattle.tool_core.proofs.ScrubTold.{scrub_does}
use Rattle.tool_parts.proofs.Among.{ends_among}
use Rattle.tool_parts.specs.Among.{MayEndWork}
use Rattle.tool_core.proofs.scrubbing.scrub_on.Goals as goal

pub returns-clause-does : goal.returns-clause-does
returns-clause-does g c =
    let scrubbed = c.scrub_board-ending.ensures in
    scrub_does _ c.scrub_board-ending.result c.conclude.result scrubbed.scrubs scrubbed.cause scrubbed.behind scrubbed.few c.conclude.ensures

pub returns-clause-ends : goal.returns-clause-ends
returns-clause-ends g c =
    let ended = c.scrub_board-ending.ensures in
    ends_among MayEndWork c.scrub_board-ending.result c.conclude.result ended.among ended.behind.cuts c.conclude.ensures
