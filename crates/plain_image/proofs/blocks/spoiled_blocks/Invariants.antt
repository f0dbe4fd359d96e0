-- Those so far, and those to come.
use Rattle.std.proofs.Common.{ℕ, not}
use Rattle.image_model.specs.Places.{has_magic}
use Rattle.plain_image.specs.Counted.{Counts}
use Rattle.plain_image.proofs.blocks.spoiled_blocks.Given as goal

abbrev pub invariant-loop-block : goal.invariant-loop-block
invariant-loop-block l = Counts (λ (j : ℕ). not (has_magic l.g l.image j)) l.count l.block l.block-end
