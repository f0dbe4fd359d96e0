-- The walk from `i` on gives the answer.
use Rattle.std.proofs.Common.{◌≡◌, ◌++◌, ℕ, drop, not}
use Rattle.std.specs.Prelude.{filter}
use Rattle.std.specs.List.{All}
use Rattle.image_model.specs.Kinds.{is_data_block}
use Rattle.std.proofs.Common.{◌<◌}
use Rattle.plain_collect.proofs.choice.without_data.Given as goal

abbrev pub invariant-loop-i : goal.invariant-loop-i
invariant-loop-i l = let test = λ (block : ℕ). not (is_data_block l.g l.image block) in (l.kept.items ++ filter test (drop l.i l.blocks) ≡ filter test l.blocks) × All (λ block. block < l.g.blocks) l.kept.items
