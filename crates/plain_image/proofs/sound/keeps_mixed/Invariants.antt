-- None of the blocks so far is mixed and wasn't so at first.
use Rattle.std.proofs.Common.{◌≡◌, ◌<◌, ◌&&◌, ℕ, false, not}
use Rattle.image_model.specs.Kinds.{is_mixed}
use Rattle.plain_image.proofs.sound.keeps_mixed.Given as goal

abbrev pub invariant-loop-block : goal.invariant-loop-block
invariant-loop-block l = (block : ℕ) → block < l.block → (is_mixed l.g l.image block && not (is_mixed l.g l.first block)) ≡ false
