-- Descriptors after one of them, or each, is changed.
use Rattle.std.proofs.Common.{◌≡◌, ℕ, zero, suc, ◌-◌, List, [], ◌∷◌, map, get_or, set, true, false, Option, Some, None, ◌==◌, ◌⊎◌, inl, inr, ⊎_elim, sym, ◌∙◌, ap}
use Rattle.std.proofs.Math.ListN.{get_or-map}
use Rattle.std.proofs.lemmas.Bool.{cases_Bool}
use Rattle.std.proofs.lemmas.Option.{none-some}
use Rattle.table_model.specs.Table.{Open}
use Rattle.table_model.specs.Descriptors.{open_at, put_at}

-- the descriptor of a number, where each is changed in one way that leaves closed ones closed
pub open-map : (f : Option Open → Option Open) (all : List (Option Open)) (fd : ℕ) → f None ≡ None → open_at (map f all) fd ≡ f (open_at all fd)
unfolding open_at
open-map f all fd closed = ⊎_elim
    (λ (yes : (fd == 0) ≡ true). rw yes (sym closed))
    (λ (no : (fd == 0) ≡ false). rw no (ap (λ (o : Option Open). get_or (map f all) (fd - 1) o) (sym closed) ∙ get_or-map f all (fd - 1) None))
    (cases_Bool (fd == 0))

get_or-set : (all : List (Option Open)) (i j : ℕ) (new : Option Open) (d : Open) → get_or (set all i new) j None ≡ Some d → (new ≡ Some d) ⊎ (get_or all j None ≡ Some d)
get_or-set [] i j new d h = inr h
get_or-set (x ∷ all) zero zero new d h = inl h
get_or-set (x ∷ all) zero (suc j) new d h = inr h
get_or-set (x ∷ all) (suc i) zero new d h = inr h
get_or-set (x ∷ all) (suc i) (suc j) new d h = get_or-set all i j new d h

-- an open one, where one number has another descriptor, is that one or was there
pub open-put : (all : List (Option Open)) (fd j : ℕ) (new : Option Open) (d : Open) → open_at (put_at all fd new) j ≡ Some d → (new ≡ Some d) ⊎ (open_at all j ≡ Some d)
unfolding open_at put_at
open-put all fd j new d h = ⊎_elim
    (λ (yes : (j == 0) ≡ true). absurd (none-some d (rw yes at h)))
    (λ (no : (j == 0) ≡ false). rw no (get_or-set all (fd - 1) (j - 1) new d (rw no at h)))
    (cases_Bool (j == 0))
