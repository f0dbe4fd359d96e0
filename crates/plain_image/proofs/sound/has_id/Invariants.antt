-- None of the files so far has that id.
use Rattle.std.proofs.Common.{◌≡◌, ◌<◌, ℕ, get_or}
use Rattle.image_model.specs.declared.damage.Damage.{Damage}
use Rattle.plain_image.proofs.sound.has_id.Given as goal

abbrev pub invariant-loop-d : goal.invariant-loop-d
invariant-loop-d l = (k : ℕ) (d : ℕ × Damage) → k < l.d-index → (get_or l.damaged k d).0 ≡ l.id → ⊥
