-- The greatest so far.
use Rattle.std.proofs.Common.{ℕ}
use Rattle.image_model.specs.Tidy.{is_free_block}
use Rattle.image_model.specs.Collect.{age_of}
use Rattle.plain_collect.specs.Greatest.{Greatest}
use Rattle.plain_collect.proofs.wear.young.Given as goal

abbrev pub invariant-loop-block : goal.invariant-loop-block
invariant-loop-block l = Greatest (λ (j : ℕ). is_free_block l.g l.image j) (λ (j : ℕ). age_of l.g l.image j) l.most l.block l.block-end
