-- Those so far, and those to come.
use Rattle.std.proofs.Common.{ℕ}
use Rattle.image_model.specs.Kinds.{is_mixed}
use Rattle.plain_image.specs.Counted.{Counts}
use Rattle.plain_image.proofs.blocks.mixed_blocks.Given as goal

abbrev pub invariant-loop-block : goal.invariant-loop-block
invariant-loop-block l = Counts (λ (j : ℕ). is_mixed l.g l.image j) l.count l.block l.block-end
