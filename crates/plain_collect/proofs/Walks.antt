-- A list from an index on.
use Rattle.std.proofs.Common.{◌≡◌, ◌↔◌, ℕ, ◌+◌, ◌<◌, ◌≤◌, List, ◌∷◌, [], length, slice_index, slice_index_or, drop, map, refl, sym, ◌∙◌, ap, arith, zero, suc, drop-cons, add-one}

pub walk_step : (xs : List ℕ) (i : ℕ) → i < length xs → drop i xs ≡ slice_index xs i ∷ drop (i + 1) xs
walk_step xs i h = rw (add-one, drop-cons xs i 0) refl

pub walk_end : {X : Type 0} (xs : List X) (i : ℕ) → length xs ≤ i → drop i xs ≡ []
walk_end [] zero h = refl
walk_end [] (suc i) h = refl
walk_end (x ∷ xs) zero h = absurd (omega (arith, h))
walk_end (x ∷ xs) (suc i) h = walk_end xs i (omega (arith, h))

-- the same for a list of any items, where one was read
walk_at : {X : Type 0} (xs : List X) (i : ℕ) (x : X) → i < length xs → x ≡ slice_index_or xs i x → drop i xs ≡ x ∷ drop (i + 1) xs
walk_at xs i x h is = rw (add-one) (drop-cons xs i x h ∙ ap (λ y. y ∷ drop (suc i) xs) (sym is))

first_same : {Y : Type 0} (x y : Y) (xs ys : List Y) → x ∷ xs ≡ y ∷ ys → x ≡ y
first_same x y xs ys e = cc

rest_same : {Y : Type 0} (x y : Y) (xs ys : List Y) → x ∷ xs ≡ y ∷ ys → xs ≡ ys
rest_same x y xs ys e = cc

-- Of two lists of which the items at `i` are the same, the rests from `i` on are the same where those behind it are.
pub same_step : {X Y : Type 0} (f : X → Y) (xs ys : List X) (i : ℕ) (x y : X) → i < length xs → i < length ys → x ≡ slice_index_or xs i x → y ≡ slice_index_or ys i y →
    f x ≡ f y → (map f (drop (i + 1) xs) ≡ map f (drop (i + 1) ys)) ↔ (map f (drop i xs) ≡ map f (drop i ys))
same_step f xs ys i x y hx hy isx isy e =
    let dx = walk_at xs i x hx isx in
    let dy = walk_at ys i y hy isy in (
      λ (h : map f (drop (i + 1) xs) ≡ map f (drop (i + 1) ys)). rw (dx, dy, e, h) refl,
      λ (h : map f (drop i xs) ≡ map f (drop i ys)). rest_same (f x) (f y) _ _ (rw (dx, dy) at h),
    )

-- items at `i` that are read from lists that are the same are the same
pub same_at : {X Y : Type 0} (f : X → Y) (xs ys : List X) (i : ℕ) (x y : X) → i < length xs → i < length ys → x ≡ slice_index_or xs i x → y ≡ slice_index_or ys i y →
    map f (drop i xs) ≡ map f (drop i ys) → f x ≡ f y
same_at f xs ys i x y hx hy isx isy h = first_same (f x) (f y) _ _ (rw (walk_at xs i x hx isx, walk_at ys i y hy isy) at h)
