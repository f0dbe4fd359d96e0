use Rattle.std.proofs.Common.{◌*◌, ◌≤◌, arith}
use Rattle.page_layout.proofs.lookup.count_offset.Goals as goal

pub overflow_mul-result : goal.overflow_mul-result
overflow_mul-result c = rw c.page.ensures (omega (arith, c.lookups.ensures.fits))

pub overflow_mul-result-2 : goal.overflow_mul-result-2
overflow_mul-result-2 c = rw c.page.ensures (omega (arith, c.lookups.ensures.fits))
