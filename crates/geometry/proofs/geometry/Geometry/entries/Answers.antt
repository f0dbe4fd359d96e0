use Rattle.std.proofs.Common.{◌-◌, arith}
use Rattle.geometry.specs.Numbers.{per_block, lookups, entries}
use Rattle.geometry.proofs.Bounds.{some_entries}
use Rattle.geometry.proofs.geometry.Geometry.entries.Goals as goal

pub overflow_sub-result : goal.overflow_sub-result
overflow_sub-result c = omega (arith, c.per_block.ensures.count, c.lookups.ensures.count, some_entries c.args.self.now)

pub returns-clause-count : goal.returns-clause-count
unfolding entries
returns-clause-count c = omega (arith, c.per_block.ensures.count, c.lookups.ensures.count)
