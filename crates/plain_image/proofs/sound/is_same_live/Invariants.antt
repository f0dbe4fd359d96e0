-- The pages so far are the same.
use Rattle.std.proofs.Common.{◌≡◌, ◌<◌, ℕ}
use Rattle.image_model.specs.Live.{live_at}
use Rattle.plain_image.proofs.sound.is_same_live.Given as goal

abbrev pub invariant-loop-p : goal.invariant-loop-p
invariant-loop-p l = (q : ℕ) → q < l.p → live_at l.g l.b q ≡ live_at l.g l.a q
