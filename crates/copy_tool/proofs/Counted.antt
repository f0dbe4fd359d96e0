-- The damaged ids of an image, counted one after the other.
use Rattle.std.proofs.Common.{◌≡◌, ℕ, ◌+◌, List, length, Option, Some, None, ap, sym, ◌∙◌}
use Rattle.std.specs.Option.{option_map}
use Rattle.geometry.specs.declared.geometry.Geometry.{Geometry}
use Rattle.image_model.specs.declared.damage.Damage.{Damage}
use Rattle.image_model.specs.Tables.{damaged_of}
use Rattle.file_find.specs.Listing.{damaged_above}
use Rattle.image_laws.proofs.Ascending.{damaged-ascends}
use Rattle.copy_tool.proofs.Remaining.{left_above, none_counted, one_counted, all_counted}

abbrev pub damaged_key : ℕ × Damage → ℕ
damaged_key d = d.0

module _ (g : Geometry) (image : List ℕ) where
  -- so many were counted, and these are left above an id
  abbrev pub DamagedCounted : (after count : ℕ) → Type 0
  DamagedCounted after count = count + left_above damaged_key after (damaged_of g image) ≡ length (damaged_of g image)

  pub damaged_first : DamagedCounted 0 0
  damaged_first = none_counted damaged_key (damaged_of g image) (damaged-ascends g image)

  pub damaged_more : (after count : ℕ) (o : Option (ℕ × Damage)) (next : ℕ × Damage) → o ≡ damaged_above g image after → o ≡ Some next → DamagedCounted after count → DamagedCounted next.0 (count + 1)
  unfolding damaged_above
  damaged_more after count o next found is sum =
      one_counted damaged_key after next.0 count (damaged_of g image) (damaged-ascends g image)
      (ap (λ (x : Option (ℕ × Damage)). option_map damaged_key x) (sym found ∙ is)) sum

  pub damaged_last : (after count : ℕ) (o : Option (ℕ × Damage)) → o ≡ damaged_above g image after → o ≡ None → DamagedCounted after count → count ≡ length (damaged_of g image)
  unfolding damaged_above
  damaged_last after count o found is sum =
      all_counted damaged_key after count (damaged_of g image)
      (ap (λ (x : Option (ℕ × Damage)). option_map damaged_key x) (sym found ∙ is)) sum
