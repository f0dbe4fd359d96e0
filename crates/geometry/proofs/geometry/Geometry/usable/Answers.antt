use Rattle.std.proofs.Common.{refl, arith}
use Rattle.geometry.specs.Numbers.{usable, entries}
use Rattle.geometry.proofs.Bounds.{few_usable}
use Rattle.geometry.proofs.geometry.Geometry.usable.Goals as goal

pub overflow_mul-result : goal.overflow_mul-result
overflow_mul-result c = rw c.entries.ensures.count (omega (arith, few_usable c.args.self.now))

pub returns-clause-count : goal.returns-clause-count
returns-clause-count c = rw c.entries.ensures.count refl

pub returns-clause-few : goal.returns-clause-few
returns-clause-few c = rw c.entries.ensures.count (few_usable c.args.self.now)
