-- The candidates so far, and those to come.
use Rattle.std.proofs.Common.{ℕ, ◌&&◌}
use Rattle.image_model.specs.Collect.{is_worth, is_fitting}
use Rattle.plain_collect.specs.Filtered.{Filters}
use Rattle.plain_collect.proofs.choice.candidates.Given as goal

abbrev pub invariant-loop-block : goal.invariant-loop-block
invariant-loop-block l = Filters (λ (j : ℕ). is_worth l.g l.image j && is_fitting l.g l.image j) l.blocks.items l.block l.block-end
