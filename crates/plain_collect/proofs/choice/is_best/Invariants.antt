-- The walk from `i` on gives the answer.
use Rattle.std.proofs.Common.{◌≡◌, ℕ, drop}
use Rattle.std.specs.Prelude.{int_le}
use Rattle.std.specs.List.{list_all}
use Rattle.image_model.specs.Collect.{score}
use Rattle.plain_collect.proofs.choice.is_best.Given as goal

abbrev pub invariant-loop-i : goal.invariant-loop-i
invariant-loop-i l = let test = λ (other : ℕ). int_le (score l.g l.image other) (score l.g l.image l.block) in list_all test (drop l.i l.blocks) ≡ list_all test l.blocks
