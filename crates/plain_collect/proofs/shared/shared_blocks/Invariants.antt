-- Those so far, and those to come.
use Rattle.std.proofs.Common.{ℕ}
use Rattle.image_model.specs.Shared.{is_shared}
use Rattle.plain_image.specs.Counted.{Counts}
use Rattle.plain_collect.proofs.shared.shared_blocks.Given as goal

abbrev pub invariant-loop-block : goal.invariant-loop-block
invariant-loop-block l = Counts (λ (j : ℕ). is_shared l.g l.image j) l.count l.block l.block-end
