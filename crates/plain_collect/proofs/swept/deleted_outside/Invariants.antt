-- The parts so far, and those to come.
use Rattle.std.proofs.Common.{ℕ, ◌==◌, if◌then◌else◌}
use Rattle.image_model.specs.Collect.{deleted_in}
use Rattle.plain_collect.specs.Summed.{Sums}
use Rattle.plain_collect.proofs.swept.deleted_outside.Given as goal

abbrev pub invariant-loop-block : goal.invariant-loop-block
invariant-loop-block l = Sums (λ (j : ℕ). if j == l.except then 0 else deleted_in l.g l.image j) l.total l.block l.block-end
