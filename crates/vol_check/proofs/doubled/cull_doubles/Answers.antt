use Rattle.std.proofs.Common.{arith}
use Rattle.page_layout.proofs.IdBits.{none_set}
use Rattle.vol_check.proofs.doubled.cull_doubles.Goals as goal

pub cull_noted-requires-clause-clear : goal.cull_noted-requires-clause-clear
cull_noted-requires-clause-clear g c = none_set _ (λ k low. c.clear.ensures k (omega (arith, low)))
