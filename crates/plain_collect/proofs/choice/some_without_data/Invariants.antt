-- The walk from `i` on gives the answer.
use Rattle.std.proofs.Common.{◌≡◌, ℕ, drop, not}
use Rattle.std.specs.List.{list_any}
use Rattle.image_model.specs.Kinds.{is_data_block}
use Rattle.plain_collect.proofs.choice.some_without_data.Given as goal

abbrev pub invariant-loop-i : goal.invariant-loop-i
invariant-loop-i l = let test = λ (block : ℕ). not (is_data_block l.g l.image block) in list_any test (drop l.i l.blocks) ≡ list_any test l.blocks
