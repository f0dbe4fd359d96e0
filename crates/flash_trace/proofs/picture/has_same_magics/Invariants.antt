-- The blocks so far have their magic in both images, or in none.
use Rattle.std.proofs.Common.{◌≡◌, ◌<◌, ℕ}
use Rattle.image_model.specs.Places.{has_magic}
use Rattle.flash_trace.proofs.picture.has_same_magics.Given as goal

abbrev pub invariant-loop-block : goal.invariant-loop-block
invariant-loop-block l = (block : ℕ) → block < l.block → has_magic l.g l.b block ≡ has_magic l.g l.a block
