-- What a list contains by one number of each item.
use Rattle.std.proofs.Common.{◌≡◌, ℕ, ◌<◌, List, length, map, get_or, slice_index_or, ◌+◌, sym, ◌∙◌, ap, subst, arith, ⊎_elim}
use Rattle.std.proofs.lemmas.Bool.{cases_eq}
use Rattle.std.proofs.lemmas.List.{get_or-map, get_or_default, length-map}
use Rattle.std.specs.List.{Contains}

-- the number of an item that is there
pub contains_at : {X : Type 0} (f : X → ℕ) (xs : List X) (i : ℕ) (x : X) → i < length xs → x ≡ slice_index_or xs i x → Contains (map f xs) (f x)
contains_at f xs i x h at = (i, omega (arith, h, length-map xs f), get_or-map f xs i x (f x) h ∙ ap f (sym at))

-- an item has a number that is there
pub contained : {X : Type 0} (f : X → ℕ) (xs : List X) (id : ℕ) (d : X) → Contains (map f xs) id → (k : ℕ) × (k < length xs) × (f (get_or xs k d) ≡ id)
contained f xs id d w =
    let low : w.0 < length xs = omega (arith, w.1, length-map xs f) in
    (w.0, low, sym (get_or-map f xs w.0 d id low) ∙ w.2)

-- one item more has a number that is there
pub contains_more : {X : Type 0} (f : X → ℕ) (xs : List X) (numbers : List ℕ) (i : ℕ) (e : X) → i < length xs → ((k : ℕ) (d : X) → k < i → Contains numbers (f (get_or xs k d))) → Contains numbers (f (get_or xs i e)) → (k : ℕ) (d : X) → k < i + 1 → Contains numbers (f (get_or xs k d))
contains_more f xs numbers i e low were here k d less = ⊎_elim
    (λ (same : k ≡ i). subst (λ (j : ℕ). Contains numbers (f (get_or xs j d))) (sym same) (subst (λ x. Contains numbers (f x)) (get_or_default xs i e d low) here))
    (λ (differ : k ≡ i → ⊥). were k d (omega (arith, differ)))
    (cases_eq k i)
