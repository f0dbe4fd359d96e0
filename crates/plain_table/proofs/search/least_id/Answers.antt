use Rattle.std.proofs.Common.{◌+◌, map, length, sym, ◌∙◌, arith}
use Rattle.plain_table.specs.Seen.{file}
use Rattle.plain_table.proofs.Ids.{least_here, least_on}
use Rattle.plain_table.proofs.search.least_id.Goals as goal

pub returns-in-None : goal.returns-in-None
returns-in-None c = sym (least_here (map file c.args.files.now) c.loop-id.id (length c.args.files.now + 2) (omega arith) c.in-None.ensures.missing) ∙ c.loop-id.invariant

pub loop-id-preserved : goal.loop-id-preserved
loop-id-preserved c = sym (least_on (map file c.args.files.now) c.loop-id.id (length c.args.files.now + 2) (file c.in-Some.field-0.now) (omega arith) c.in-Some.ensures.found) ∙ c.loop-id.invariant
