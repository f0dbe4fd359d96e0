-- The walk from `i` on gives the answer.
use Rattle.std.proofs.Common.{◌≡◌, ℕ, drop}
use Rattle.std.specs.Prelude.{find, int_le}
use Rattle.std.specs.List.{list_all}
use Rattle.image_model.specs.Collect.{score}
use Rattle.plain_collect.proofs.choice.best_of.Given as goal

abbrev pub invariant-loop-i : goal.invariant-loop-i
invariant-loop-i l = let test = λ (block : ℕ). list_all (λ other. int_le (score l.g l.image other) (score l.g l.image block)) l.blocks in find test (drop l.i l.blocks) ≡ find test l.blocks
