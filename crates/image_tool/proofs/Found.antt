-- What a reader found, as the line that it is told by.
use Rattle.std.proofs.Common.{◌≡◌, ℕ, List, [], ◌∷◌, Option, Some, None, ap, refl, sym, ◌∙◌, ⊎_elim, true, false, map, length, subst}
use Rattle.std.specs.Prelude.{find, nat_lt}
use Rattle.std.specs.Option.{option_map}
use Rattle.std.proofs.lemmas.Bool.{cases_Bool}
use Rattle.std.proofs.lemmas.Option.{none-some, same_Some}
use Rattle.std.proofs.lemmas.List.{length-map}
use Rattle.std.proofs.lemmas.List.Folds.{flat_map-map}
use Rattle.geometry.specs.declared.geometry.Geometry.{Geometry}
use Rattle.table_model.specs.Table.{File, file_above}
use Rattle.table_model.specs.Files.{stat_of}
use Rattle.table_model.specs.declared.reply.Stat.{Stat}
use Rattle.image_model.specs.declared.damage.Damage.{Damage}
use Rattle.image_model.specs.Tables.{table_of, damaged_of}
use Rattle.file_find.specs.Listing.{IsNextFile, damaged_above}
use Rattle.file_read.specs.Whole.{IsFileAt}
use Rattle.vol_mount.proofs.Listed.{file_of_head}
use Rattle.image_tool.specs.declared.listing.Part.{Part}
use Rattle.image_tool.specs.declared.listing.Part.TheVariants.{Files, Damaged}
use Rattle.image_tool.specs.Lists.{NextRecord, next_record, next_damage}
use Rattle.image_tool.specs.Parts.{lines_of, text_of, line_above, next_line}
use Rattle.image_tool.specs.Texts.{stat_line, damage_line, record_line, record_lines, damage_lines, line_if}
use Rattle.table_model.proofs.Ascending.{Ascends}
use Rattle.image_laws.proofs.Ascending.{table-ascends, damaged-ascends}

-- the line of a record that was found
pub record_found : (g : Geometry) (image : List ℕ) (after page : ℕ) (stat : Stat) → NextRecord g image after (Some (page, stat)) → stat_line stat ≡ next_record g image after
record_found g image after page stat found = ap stat_line found.record_is ∙ ap (line_if record_line) (sym found.above)

-- a record that was read in the header page of the next file
pub record_headed : (g : Geometry) (image : List ℕ) (after id page : ℕ) (found : Option Stat) → (next : IsNextFile g image after id page) → found ≡ Some (stat_of next.file) → (stat : Stat) → found ≡ Some stat → NextRecord g image after (Some (page, stat))
record_headed g image after id page found next told stat is =
    let e : stat ≡ stat_of next.file = same_Some stat (stat_of next.file) (sym is ∙ told) in
    record {
      file = next.file;
      above = next.above;
      record_is = e;
      headed = subst (λ (n : ℕ). IsFileAt g image n page next.file) (sym (ap (λ (s : Stat). s.id) e ∙ next.id_is)) (file_of_head g image id page next.file next.has);
    }

-- such a page has one
pub some_headed : {P : Type 0} (found : Option Stat) (stat : Stat) → found ≡ Some stat → found ≡ None → P
some_headed found stat told none = absurd (none-some stat (sym none ∙ told))

-- ---- the parts of a list

module _ {X : Type 0} (h : X → ℕ × List ℕ) (after : ℕ) where
  above-map : (xs : List X) → find (λ (l : ℕ × List ℕ). nat_lt after l.0) (map h xs) ≡ option_map h (find (λ (x : X). nat_lt after (h x).0) xs)
  above-map [] = refl
  above-map (x ∷ xs) = ⊎_elim
      (λ (is : nat_lt after (h x).0 ≡ true). rw is refl)
      (λ (is : nat_lt after (h x).0 ≡ false). rw is (above-map xs))
      (cases_Bool (nat_lt after (h x).0))

  line_of : (o : Option X) → line_if (λ (l : ℕ × List ℕ). l.1) (option_map h o) ≡ line_if (λ (x : X). (h x).1) o
  line_of None = refl
  line_of (Some x) = refl

  id_of : (o : Option X) → option_map (λ (l : ℕ × List ℕ). l.0) (option_map h o) ≡ option_map (λ (x : X). (h x).0) o
  id_of None = refl
  id_of (Some x) = refl

ascends-map : {X : Type 0} (h : X → ℕ × List ℕ) (low : ℕ) (xs : List X) → Ascends (λ (x : X). (h x).0) low xs → Ascends (λ (l : ℕ × List ℕ). l.0) low (map h xs)
unfolding Ascends
ascends-map h low [] a = tt {0}
ascends-map h low (x ∷ xs) a = (a.0, ascends-map h (h x).0 xs a.1)

module _ (g : Geometry) (image : List ℕ) (after : ℕ) where
  files_above : line_above Files g image after ≡ option_map (λ (f : File). (f.id, record_line f)) (file_above after (table_of g image))
  unfolding lines_of file_above
  files_above = above-map (λ (f : File). (f.id, record_line f)) after (table_of g image)

  damages_above : line_above Damaged g image after ≡ option_map (λ (d : ℕ × Damage). (d.0, damage_line d.0 d.1)) (damaged_above g image after)
  unfolding lines_of damaged_above
  damages_above = above-map (λ (d : ℕ × Damage). (d.0, damage_line d.0 d.1)) after (damaged_of g image)

  pub files_line : next_record g image after ≡ next_line Files g image after
  files_line = sym (ap (line_if (λ (l : ℕ × List ℕ). l.1)) files_above ∙ line_of (λ (f : File). (f.id, record_line f)) after (file_above after (table_of g image)))

  pub damages_line : next_damage g image after ≡ next_line Damaged g image after
  damages_line = sym (ap (line_if (λ (l : ℕ × List ℕ). l.1)) damages_above ∙ line_of (λ (d : ℕ × Damage). (d.0, damage_line d.0 d.1)) after (damaged_above g image after))

  files_id : option_map (λ (f : File). f.id) (file_above after (table_of g image)) ≡ option_map (λ (l : ℕ × List ℕ). l.0) (line_above Files g image after)
  files_id = sym (ap (option_map (λ (l : ℕ × List ℕ). l.0)) files_above ∙ id_of (λ (f : File). (f.id, record_line f)) after (file_above after (table_of g image)))

  pub damages_id : option_map (λ (d : ℕ × Damage). d.0) (damaged_above g image after) ≡ option_map (λ (l : ℕ × List ℕ). l.0) (line_above Damaged g image after)
  damages_id = sym (ap (option_map (λ (l : ℕ × List ℕ). l.0)) damages_above ∙ id_of (λ (d : ℕ × Damage). (d.0, damage_line d.0 d.1)) after (damaged_above g image after))

  -- the id of a record that was found
  pub some_id : (page : ℕ) (stat : Stat) → NextRecord g image after (Some (page, stat)) → Some stat.id ≡ option_map (λ (f : File). f.id) (file_above after (table_of g image))
  some_id page stat found = ap (λ (s : Stat). Some s.id) found.record_is ∙ ap (option_map (λ (f : File). f.id)) (sym found.above)

  pub some_listed : (page : ℕ) (stat : Stat) → NextRecord g image after (Some (page, stat)) → Some stat.id ≡ option_map (λ (l : ℕ × List ℕ). l.0) (line_above Files g image after)
  some_listed page stat found = some_id page stat found ∙ files_id

  pub none_listed : file_above after (table_of g image) ≡ None → None ≡ option_map (λ (l : ℕ × List ℕ). l.0) (line_above Files g image after)
  none_listed none = ap (option_map (λ (f : File). f.id)) (sym none) ∙ files_id

module _ (g : Geometry) (image : List ℕ) where
  pub files_text : text_of Files g image ≡ record_lines (table_of g image)
  unfolding lines_of record_lines
  files_text = flat_map-map (λ (l : ℕ × List ℕ). l.1) (λ (f : File). (f.id, record_line f)) (table_of g image)

  pub damages_text : text_of Damaged g image ≡ damage_lines (damaged_of g image)
  unfolding lines_of damage_lines
  damages_text = flat_map-map (λ (l : ℕ × List ℕ). l.1) (λ (d : ℕ × Damage). (d.0, damage_line d.0 d.1)) (damaged_of g image)

  pub damages_many : length (lines_of Damaged g image) ≡ length (damaged_of g image)
  unfolding lines_of
  damages_many = length-map (damaged_of g image) (λ (d : ℕ × Damage). (d.0, damage_line d.0 d.1))

  -- the ids of a part rise
  pub lines-ascend : (part : Part) → Ascends (λ (l : ℕ × List ℕ). l.0) 0 (lines_of part g image)
  unfolding lines_of
  lines-ascend Files = ascends-map (λ (f : File). (f.id, record_line f)) 0 (table_of g image) (table-ascends g image)
  lines-ascend Damaged = ascends-map (λ (d : ℕ × Damage). (d.0, damage_line d.0 d.1)) 0 (damaged_of g image) (damaged-ascends g image)
