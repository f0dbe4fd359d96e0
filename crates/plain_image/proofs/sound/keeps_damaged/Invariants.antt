-- Each of the files so far was damaged at first.
use Rattle.std.proofs.Common.{◌<◌, ℕ, map, get_or}
use Rattle.std.specs.List.{Contains}
use Rattle.image_model.specs.declared.damage.Damage.{Damage}
use Rattle.plain_image.proofs.sound.keeps_damaged.Given as goal

abbrev pub invariant-loop-d : goal.invariant-loop-d
invariant-loop-d l = (k : ℕ) (d : ℕ × Damage) → k < l.d-index → Contains (map (λ d. d.0) l.first) (get_or l.damaged k d).0
