-- The files of a table, and the damaged ids, counted one after the other.
use Rattle.std.proofs.Common.{◌≡◌, ℕ, ◌+◌, List, length, Option, Some, None, ap, sym, ◌∙◌}
use Rattle.std.specs.Prelude.{nat_lt, find}
use Rattle.std.specs.Option.{option_map}
use Rattle.geometry.specs.declared.geometry.Geometry.{Geometry}
use Rattle.table_model.specs.Table.{File, file_above}
use Rattle.image_model.specs.declared.damage.Damage.{Damage}
use Rattle.image_model.specs.Tables.{table_of, damaged_of}
use Rattle.file_find.specs.Listing.{NextFile, damaged_above}
use Rattle.image_laws.proofs.Ascending.{table-ascends, damaged-ascends}
use Rattle.meta_guess.proofs.Remaining.{left_above, none_counted, one_counted, all_counted}

-- files and damaged ids by their ids
abbrev pub file_key : File → ℕ
file_key f = f.id

abbrev pub damaged_key : ℕ × Damage → ℕ
damaged_key d = d.0

module _ (g : Geometry) (image : List ℕ) where
  -- so many files were counted, and these are left above an id
  abbrev pub FilesCounted : (after count : ℕ) → Type 0
  FilesCounted after count = count + left_above file_key after (table_of g image) ≡ length (table_of g image)

  abbrev pub DamagedCounted : (after count : ℕ) → Type 0
  DamagedCounted after count = count + left_above damaged_key after (damaged_of g image) ≡ length (damaged_of g image)

  pub files_first : FilesCounted 0 0
  files_first = none_counted file_key (table_of g image) (table-ascends g image)

  pub damaged_first : DamagedCounted 0 0
  damaged_first = none_counted damaged_key (damaged_of g image) (damaged-ascends g image)

  -- the id of the file that was found
  found_id : (after : ℕ) (o : Option (ℕ × ℕ)) → NextFile g image after o → option_map (λ (n : ℕ × ℕ). n.0) o ≡ option_map file_key (find (λ (f : File). nat_lt after (file_key f)) (table_of g image))
  unfolding file_above
  found_id after None none = sym (ap (λ (x : Option File). option_map file_key x) none)
  found_id after (Some (id, page)) next = sym (ap (λ (x : Option File). option_map file_key x) next.above ∙ ap (λ (n : ℕ). Some n) next.id_is)

  pub file_more : (after count : ℕ) (o : Option (ℕ × ℕ)) (next : ℕ × ℕ) → NextFile g image after o → o ≡ Some next → FilesCounted after count → FilesCounted next.0 (count + 1)
  file_more after count o next found is sum =
      one_counted file_key after next.0 count (table_of g image) (table-ascends g image)
      (sym (found_id after o found) ∙ ap (λ (x : Option (ℕ × ℕ)). option_map (λ (n : ℕ × ℕ). n.0) x) is) sum

  pub file_last : (after count : ℕ) (o : Option (ℕ × ℕ)) → NextFile g image after o → o ≡ None → FilesCounted after count → count ≡ length (table_of g image)
  file_last after count o found is sum =
      all_counted file_key after count (table_of g image)
      (sym (found_id after o found) ∙ ap (λ (x : Option (ℕ × ℕ)). option_map (λ (n : ℕ × ℕ). n.0) x) is) sum

  pub damaged_more : (after count : ℕ) (o : Option (ℕ × Damage)) (next : ℕ × Damage) → o ≡ damaged_above g image after → o ≡ Some next → DamagedCounted after count → DamagedCounted next.0 (count + 1)
  unfolding damaged_above
  damaged_more after count o next found is sum =
      one_counted damaged_key after next.0 count (damaged_of g image) (damaged-ascends g image)
      (ap (λ (x : Option (ℕ × Damage)). option_map damaged_key x) (sym found ∙ is)) sum

  pub damaged_last : (after count : ℕ) (o : Option (ℕ × Damage)) → o ≡ damaged_above g image after → o ≡ None → DamagedCounted after count → count ≡ length (damaged_of g image)
  unfolding damaged_above
  damaged_last after count o found is sum =
      all_counted damaged_key after count (damaged_of g image)
      (ap (λ (x : Option (ℕ × Damage)). option_map damaged_key x) (sym found ∙ is)) sum
