use Rattle.std.proofs.Common.{length, ap, rules}
use Rattle.call_model.specs.Memory.{Memory}
use Rattle.tool_parts.proofs.Reading.{reads_once, reads_as, behind_as}
use Rattle.copy_tool.proofs.Rests.{some_slots}
use Rattle.copy_tool.proofs.copying.copy_boards.Goals as goal

pub returns-clause-behind : goal.returns-clause-behind
returns-clause-behind g c =
    let made = c.new-to.ensures in
    let here = rw (made.geometry, made.nor) at c.copy_volumes.ensures.same.behind in
    behind_as here (search rules)

pub returns-clause-few : goal.returns-clause-few
returns-clause-few g c =
    let made = c.new-to.ensures in
    let few = c.copy_volumes.ensures.same.few in
    let here = rw (made.geometry, made.nor) at few in
    reads_as _ (reads_once _ _ _ here made.empty made.cache_size) (search rules)

pub returns-clause-source_few : goal.returns-clause-source_few
returns-clause-source_few g c =
    let made = c.new-from.ensures in
    let few = c.copy_volumes.ensures.same_source.few in
    let here = rw (made.geometry, made.nor) at few in
    reads_as _ (reads_once _ _ _ here made.empty made.cache_size) (search rules)

pub copy_volumes-requires-clause-slots : goal.copy_volumes-requires-clause-slots
copy_volumes-requires-clause-slots g c = some_slots c.new-to.result.slots.now (length c.args.lent.slots.now) c.requires.slots (ap (λ (w : Memory). w.slots) c.new-to.ensures.closed)
