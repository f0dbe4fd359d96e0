-- The movable blocks so far, and those to come.
use Rattle.std.proofs.Common.{ℕ, ◌&&◌, not}
use Rattle.image_model.specs.Tidy.{is_free_block}
use Rattle.image_model.specs.Collect.{is_fitting}
use Rattle.plain_collect.specs.Filtered.{Filters}
use Rattle.plain_collect.proofs.wear.movable.Given as goal

abbrev pub invariant-loop-block : goal.invariant-loop-block
invariant-loop-block l = Filters (λ (j : ℕ). not (is_free_block l.g l.image j) && is_fitting l.g l.image j) l.blocks.items l.block l.block-end
