-- The parts so far, and those to come.
use Rattle.std.proofs.Common.{ℕ, if◌then◌else◌}
use Rattle.image_model.specs.Shared.{is_shared, wanted_index_in}
use Rattle.plain_collect.specs.Summed.{Sums}
use Rattle.plain_collect.proofs.shared.shared_index.Given as goal

abbrev pub invariant-loop-block : goal.invariant-loop-block
invariant-loop-block l = Sums (λ (j : ℕ). if is_shared l.g l.image j then wanted_index_in l.g l.image j else 0) l.total l.block l.block-end
