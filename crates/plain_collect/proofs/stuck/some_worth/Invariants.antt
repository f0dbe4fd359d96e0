-- The search from `block` on gives the answer.
use Rattle.std.proofs.Common.{◌≡◌, ◌-◌, ℕ}
use Rattle.std.specs.List.{range_with_len, list_any}
use Rattle.image_model.specs.Collect.{is_worth}
use Rattle.plain_collect.proofs.stuck.some_worth.Given as goal

abbrev pub invariant-loop-block : goal.invariant-loop-block
invariant-loop-block l = let test = λ (j : ℕ). is_worth l.g l.image j in list_any test (range_with_len l.block (l.block-end - l.block)) ≡ list_any test (range_with_len 0 l.g.blocks)
