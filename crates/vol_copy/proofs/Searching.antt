-- The first record that has the working name, found by a walk in order of ids.
use Rattle.std.proofs.Common.{◌≡◌, ℕ, ◌+◌, List, [], ◌∷◌, ◌++◌, length, Bool, true, false, Some, None, sym, ◌∙◌, ap, subst, arith}
use Rattle.std.specs.Prelude.{find, position}
use Rattle.std.specs.Option.{option_map}
use Rattle.geometry.specs.declared.geometry.Geometry.{Geometry}
use Rattle.table_model.specs.declared.reply.Stat.{Stat}
use Rattle.table_model.specs.Table.{File, same_text, file_above}
use Rattle.table_model.specs.Files.{stat_of}
use Rattle.table_model.proofs.Ascending.{Ascends}
use Rattle.image_model.specs.Tables.{table_of}
use Rattle.image_laws.proofs.Ascending.{table-ascends}
use Rattle.copy_model.specs.Copying.{working}
use Rattle.copy_model.specs.Walks.{up_to, behind}
use Rattle.copy_model.proofs.Walking.{split_at, next_is, none_next, none_passed, long-more, place_here, place_none, find_more}
use Rattle.vol_copy.proofs.Found.{found_some, found_none}

-- a record has the working name
abbrev pub is_working : File → Bool
is_working f = same_text f.name working

-- none of the records up to an id does, and so many they are
abbrev pub HasNone : (after at : ℕ) → List File → Type 0
HasNone after at source = (find is_working (up_to after source) ≡ None) × (at ≡ length (up_to after source))

module _ (gf : Geometry) (a : List ℕ) (source : List File) (tells : table_of gf a ≡ source) where
  ascends : Ascends (λ (f : File). f.id) 0 source
  ascends = subst (λ (files : List File). Ascends (λ (f : File). f.id) 0 files) tells (table-ascends gf a)

  pub search_begins : HasNone 0 0 source
  search_begins =
      let none : up_to 0 source ≡ [] = (none_passed source ascends).1 in
      (ap (find is_working) none, ap (λ (l : List File). length l) (sym none))

  pub search_ends : (after at : ℕ) → HasNone after at source → None ≡ option_map stat_of (file_above after source) → None ≡ position is_working source
  search_ends after at none told =
      let all : up_to after source ≡ source = (none_next after source (found_none (file_above after source) told)).1 in
      sym (place_none is_working source (ap (find is_working) (sym all) ∙ none.0))

  module _ (after at : ℕ) (none : HasNone after at source) (stat : Stat) (told : Some stat ≡ option_map stat_of (file_above after source)) where
    pub search_on : same_text stat.name working ≡ false → HasNone stat.id (at + 1) source
    search_on other =
        let w = found_some (file_above after source) stat told in
        let more : up_to stat.id source ≡ up_to after source ++ w.0 ∷ [] = ap (λ (s : Stat). up_to s.id source) w.2 ∙ (next_is after 0 source w.0 ascends w.1).1 in
        let fails : is_working w.0 ≡ false = ap (λ (s : Stat). same_text s.name working) (sym w.2) ∙ other in
        let long : length (up_to stat.id source) ≡ length (up_to after source) + 1 = ap (λ (l : List File). length l) more ∙ long-more (up_to after source) w.0 in
        (ap (find is_working) more ∙ find_more is_working (up_to after source) w.0 none.0 fails, omega (arith, long, none.1))

    pub search_found : same_text stat.name working ≡ true → Some at ≡ position is_working source
    search_found here =
        let w = found_some (file_above after source) stat told in
        let passes : is_working w.0 ≡ true = ap (λ (s : Stat). same_text s.name working) (sym w.2) ∙ here in
        let parts : source ≡ up_to after source ++ w.0 ∷ behind w.0.id source = split_at after 0 source ascends ∙ ap (λ (l : List File). up_to after source ++ l) (next_is after 0 source w.0 ascends w.1).0 in
        ap (λ (n : ℕ). Some n) none.1 ∙ sym (place_here is_working (up_to after source) (behind w.0.id source) w.0 none.0 passes) ∙ ap (position is_working) (sym parts)
