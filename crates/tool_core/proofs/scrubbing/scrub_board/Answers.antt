use Rattle.std.proofs.Common.{rules}
use Rattle.tool_parts.proofs.Reading.{reads_once, reads_as, behind_as}
use Rattle.tool_core.proofs.scrubbing.scrub_board.Goals as goal

pub returns-clause-behind : goal.returns-clause-behind
returns-clause-behind g c =
    let made = c.new-volume.ensures in
    let here = rw (made.geometry, made.nor) at c.scrub_volume.ensures.same.behind in
    behind_as here (search rules)

pub returns-clause-few : goal.returns-clause-few
returns-clause-few g c =
    let made = c.new-volume.ensures in
    let few = c.scrub_volume.ensures.same.few in
    let here = rw (made.geometry, made.nor) at few in
    reads_as _ (reads_once _ _ _ here made.empty made.cache_size) (search rules)
