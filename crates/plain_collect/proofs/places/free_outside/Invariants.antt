-- The parts so far, and those to come.
use Rattle.std.proofs.Common.{ℕ, ◌&&◌, ◌==◌, not, if◌then◌else◌}
use Rattle.image_model.specs.Collect.{free_in}
use Rattle.plain_collect.specs.Sorts.{is_of}
use Rattle.plain_collect.specs.Summed.{Sums}
use Rattle.plain_collect.proofs.places.free_outside.Given as goal

abbrev pub invariant-loop-block : goal.invariant-loop-block
invariant-loop-block l = Sums (λ (j : ℕ). if not (j == l.except) && is_of l.g l.image l.kind j then free_in l.g l.image j else 0) l.total l.block l.block-end
