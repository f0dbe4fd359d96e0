use Rattle.std.proofs.Common.{arith}
use Rattle.page_layout.proofs.IdBits.{none_set}
use Rattle.free_search.proofs.ids.clear.Goals as goal

pub returns-clause-none : goal.returns-clause-none
returns-clause-none c = none_set c.loop-byte.bits (λ k low. c.loop-byte.invariant k (omega (arith, low, c.loop-byte-test.false, c.loop-byte.auto.bits)))
