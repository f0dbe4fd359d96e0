-- The bytes of the first of some files that is there, name by name.
use Rattle.std.proofs.Common.{◌≡◌, ℕ, ◌+◌, ◌<◌, ◌≤◌, List, ◌∷◌, length, map, slice_index_or, drop, refl, sym, ◌∙◌, ap, ◌↔◌, IsTrue, true, false, Option, Some, None, Vec}
use Rattle.std.specs.declared.alloc.Global.{Global}
use Rattle.std.proofs.lemmas.List.{drop_more, drop_all}
use Rattle.table_model.specs.Table.{File, file_named}
use Rattle.promise_model.specs.Promises.{bytes_of}
use Rattle.plain_promise.specs.Seen.{text_seen}

module _ (names : List (Vec ℕ Global)) (files : List File) (i : ℕ) (name : Vec ℕ Global) (less : i < length names) (at : name ≡ slice_index_or names i name) where
  names_from : map text_seen (drop i names) ≡ name.items ∷ map text_seen (drop (i + 1) names)
  names_from = rw (drop_more names i name less) (ap (λ (n : Vec ℕ Global). n.items ∷ map text_seen (drop (i + 1) names)) (sym at))

  -- this one is there
  pub bytes_here : (f : File) → file_named name.items files ≡ Some f → bytes_of (map text_seen (drop i names)) files ≡ Some f.bytes
  unfolding bytes_of
  bytes_here f there = rw names_from (rw there refl)

  -- this one isn't
  pub bytes_on : file_named name.items files ≡ None → bytes_of (map text_seen (drop i names)) files ≡ bytes_of (map text_seen (drop (i + 1) names)) files
  unfolding bytes_of
  bytes_on none = rw names_from (rw none refl)

-- none is left
pub bytes_end : (names : List (Vec ℕ Global)) (files : List File) (i : ℕ) → length names ≤ i → bytes_of (map text_seen (drop i names)) files ≡ None
unfolding bytes_of
bytes_end names files i past = rw (drop_all i names past) refl

-- one of them is there
pub there_some : (o : Option (List ℕ)) (bytes : List ℕ) → o ≡ Some bytes → IsTrue true ↔ (o ≡ None → ⊥)
there_some o bytes is = (λ _ none. let no : Some bytes ≡ None = sym is ∙ none in cc, λ _. refl)

pub there_none : (o : Option (List ℕ)) → o ≡ None → IsTrue false ↔ (o ≡ None → ⊥)
there_none o is = (λ never none. let no : false ≡ true = never in cc, λ never. absurd (never is))

-- some bytes are the same as others
pub some_same : (a b : List ℕ) → (Some a ≡ Some b) ↔ (a ≡ b)
some_same a b = (λ same. cc, λ same. ap Some same)
