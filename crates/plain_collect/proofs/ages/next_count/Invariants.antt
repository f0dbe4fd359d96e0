-- The greatest so far.
use Rattle.std.proofs.Common.{ℕ, ◌+◌}
use Rattle.image_model.specs.Places.{has_magic, erase_count}
use Rattle.plain_collect.specs.Greatest.{Greatest}
use Rattle.plain_collect.proofs.ages.next_count.Given as goal

abbrev pub invariant-loop-block : goal.invariant-loop-block
invariant-loop-block l = Greatest (λ (j : ℕ). has_magic l.g l.image j) (λ (j : ℕ). erase_count l.g l.image j + 1) l.next l.block l.block-end
