-- Tables that are the same, and tables among others.
use Rattle.std.proofs.Common.{◌≡◌, ◌↔◌, ◌⊎◌, ℕ, ◌+◌, ◌<◌, ◌≤◌, List, [], ◌∷◌, ◌++◌, map, length, get_or, slice_index_or, drop, sym, ◌∙◌, ap, inl, inr, ⊎_elim}
use Rattle.std.proofs.lemmas.List.{drop_more, drop_all, get_or-map}
use Rattle.table_model.specs.Table.{File}
use Rattle.table_model.specs.Window.{Moment, from_settled, IsAmong}

-- what is read of two lists at one index is the same, where all is
pub same_at : {X Y : Type 0} (f : X → Y) (xs ys : List X) (i : ℕ) (x y : X) → i < length xs → i < length ys → x ≡ slice_index_or xs i x → y ≡ slice_index_or ys i y → map f xs ≡ map f ys → f x ≡ f y
same_at f xs ys i x y hx hy isx isy all =
    let here : get_or (map f xs) i (f x) ≡ f x = get_or-map f xs i x (f x) hx ∙ ap f (sym isx) in
    let there : get_or (map f ys) i (f x) ≡ f y = get_or-map f ys i y (f x) hy ∙ ap f (sym isy) in
    sym here ∙ ap (λ l. get_or l i (f x)) all ∙ there

-- one of two lists of tables
among_append : (t : List File) (us vs : List (List File)) → IsAmong t (us ++ vs) ↔ (IsAmong t us ⊎ IsAmong t vs)
unfolding IsAmong
among_append t [] vs = (λ h. inr h, λ h. ⊎_elim (λ none. absurd none) (λ there. there) h)
among_append t (u ∷ us) vs = let rest = among_append t us vs in (
  λ h. ⊎_elim (λ here. inl (inl here)) (λ later. ⊎_elim (λ (x : IsAmong t us). inl (inr x)) (λ (y : IsAmong t vs). inr y) (rest.0 later)) h,
  λ h. ⊎_elim (λ front. ⊎_elim (λ here. inl here) (λ there. inr (rest.1 (inl there))) front) (λ back. inr (rest.1 (inr back))) h,
)

-- the settled table, one that waits, or a further one
pub among_from : (m : Moment) (t : List File) (more : List (List File)) → IsAmong t (from_settled m more) ↔ ((t ≡ m.settled) ⊎ (IsAmong t m.waiting ⊎ IsAmong t more))
unfolding IsAmong
among_from m t more = (
  λ h. ⊎_elim (λ here. inl here) (λ there. inr ((among_append t m.waiting more).0 there)) h,
  λ h. ⊎_elim (λ here. inl here) (λ there. inr ((among_append t m.waiting more).1 there)) h,
)

-- the next one is it
pub among_here : {X : Type 0} (v : X → List File) (t : List File) (xs : List X) (i : ℕ) (x : X) → i < length xs → x ≡ slice_index_or xs i x → t ≡ v x → IsAmong t (map v (drop i xs))
unfolding IsAmong
among_here v t xs i x h at is = rw (drop_more xs i x h) (inl (is ∙ ap v at))

-- the next one isn't it
pub among_on : {X : Type 0} (v : X → List File) (t : List File) (xs : List X) (i : ℕ) (x : X) → i < length xs → x ≡ slice_index_or xs i x → (t ≡ v x → ⊥) → IsAmong t (map v (drop i xs)) ↔ IsAmong t (map v (drop (i + 1) xs))
unfolding IsAmong
among_on v t xs i x h at not = rw (drop_more xs i x h) (λ all. ⊎_elim (λ here. absurd (not (here ∙ ap v (sym at)))) (λ there. there) all, λ there. inr there)

-- none is left
pub among_end : {X : Type 0} (v : X → List File) (t : List File) (xs : List X) (i : ℕ) → length xs ≤ i → IsAmong t (map v (drop i xs)) → ⊥
unfolding IsAmong
among_end v t xs i h all = rw (drop_all i xs h) at all
