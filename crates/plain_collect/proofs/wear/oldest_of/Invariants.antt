-- The walk from `i` on gives the answer.
use Rattle.std.proofs.Common.{◌≡◌, ℕ, drop}
use Rattle.std.specs.Prelude.{find, nat_le}
use Rattle.std.specs.List.{list_all}
use Rattle.image_model.specs.Collect.{age_of}
use Rattle.plain_collect.proofs.wear.oldest_of.Given as goal

abbrev pub invariant-loop-i : goal.invariant-loop-i
invariant-loop-i l = let test = λ (block : ℕ). list_all (λ other. nat_le (age_of l.g l.image other) (age_of l.g l.image block)) l.blocks in find test (drop l.i l.blocks) ≡ find test l.blocks
