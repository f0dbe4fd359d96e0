use Rattle.std.proofs.Common.{refl, arith}
use Rattle.geometry.specs.Numbers.{per_block, page_count}
use Rattle.geometry.proofs.Bounds.{few_pages}
use Rattle.geometry.proofs.geometry.Geometry.pages.Goals as goal

pub overflow_mul-result : goal.overflow_mul-result
unfolding page_count
overflow_mul-result c = rw c.per_block.ensures.count (omega (arith, few_pages c.args.self.now))

pub returns-clause-count : goal.returns-clause-count
unfolding page_count
returns-clause-count c = rw c.per_block.ensures.count refl

pub returns-clause-few : goal.returns-clause-few
unfolding page_count
returns-clause-few c = rw c.per_block.ensures.count (few_pages c.args.self.now)
