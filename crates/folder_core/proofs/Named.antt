-- After a put its file is there.
use Rattle.std.proofs.Common.{◌≡◌, ◌≢◌, ℕ, ◌+◌, ◌<◌, ◌⊎◌, ⊎_elim, Bool, List, [], ◌∷◌, ◌++◌, length, set, refl, sym, ◌∙◌, ap, subst, arith, length-append}
use Rattle.std.proofs.lemmas.List.{length-set, get_or-set_same, get_or-set_other, get_or_append_left, get_or_push}
use Rattle.folder_core.specs.Files.{Entry, IsFirst, Named, NoneNamed}
use Rattle.folder_core.specs.Puts.{EntryAt, EntryLast}

-- an entry of that name, set in the place of the first of it, is the first of it
set_first : (name : List ℕ) (i : ℕ) (old new : List Entry) (entry : Entry) → IsFirst name i old → entry.name ≡ name → new ≡ set old i entry → Named name new
set_first name i old new entry is_first named new_is = subst (Named name) (sym new_is) (
  i,
  record {
    inside = subst (λ (n : ℕ). i < n) (sym (length-set old i entry)) is_first.inside;
    here = ap (λ (e : Entry). e.name) (get_or-set_same old i entry (record { name = []; size = 0 }) is_first.inside) ∙ named;
    before = λ k below. subst (λ (e : Entry). e.name ≢ name) (sym (get_or-set_other old i k entry (record { name = []; size = 0 }) (λ is. absurd (omega (arith, is, below))))) (is_first.before k below);
  },
)

-- a new entry of that name, where there was none, is the first of it
push_first : (name : List ℕ) (old new : List Entry) (entry : Entry) → NoneNamed name old → entry.name ≡ name → new ≡ old ++ entry ∷ [] → Named name new
push_first name old new entry none named new_is = subst (Named name) (sym new_is) (
  length old,
  record {
    inside = omega (arith, length-append old (entry ∷ []));
    here = ap (λ (e : Entry). e.name) (get_or_push old entry (record { name = []; size = 0 }) (length old) refl) ∙ named;
    before = λ k below. subst (λ (e : Entry). e.name ≢ name) (sym (get_or_append_left old (entry ∷ []) (record { name = []; size = 0 }) k below)) (none k below);
  },
)

-- after a put there is an entry of its name
pub named_in : (first : Bool) (name : List ℕ) (count : ℕ) (old new : List Entry) → ((i : ℕ) × EntryAt first name count i old new) ⊎ EntryLast name count old new → Named name new
named_in first name count old new puts = ⊎_elim
    (λ here. set_first name here.0 old new _ here.1.is_first refl here.1.new_is)
    (λ last. push_first name old new _ last.none refl last.new_is)
    puts
