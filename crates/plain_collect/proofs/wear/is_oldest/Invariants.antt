-- The walk from `i` on gives the answer.
use Rattle.std.proofs.Common.{◌≡◌, ℕ, drop}
use Rattle.std.specs.Prelude.{nat_le}
use Rattle.std.specs.List.{list_all}
use Rattle.image_model.specs.Collect.{age_of}
use Rattle.plain_collect.proofs.wear.is_oldest.Given as goal

abbrev pub invariant-loop-i : goal.invariant-loop-i
invariant-loop-i l = let test = λ (other : ℕ). nat_le (age_of l.g l.image other) (age_of l.g l.image l.block) in list_all test (drop l.i l.blocks) ≡ list_all test l.blocks
