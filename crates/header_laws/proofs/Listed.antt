-- What is found in a list that has at most one file for each id, in order of ids.
use Rattle.std.proofs.Common.{◌≡◌, ℕ, zero, suc, ◌+◌, ◌<◌, ◌≤◌, List, [], ◌∷◌, Bool, true, false, ◌==◌, Option, Some, None, ap, refl, sym, ◌∙◌, arith, ⊎_elim, inl, inr, ◌⊎◌}
use Rattle.std.specs.Prelude.{find, is_some}
use Rattle.std.specs.List.{range_with_len, filter_map, list_any, cons_option, All, AllByRecursion}
use Rattle.std.proofs.lemmas.List.Elements.{All-from_recursion}
use Rattle.std.proofs.lemmas.Bool.{cases_eq, cases_Bool, eqb-true, eqb-false}
use Rattle.std.proofs.lemmas.Option.{none-some, same_Some}

-- some element passes exactly where one is found
pub any-found : {Y : Type 0} (t : Y → Bool) (xs : List Y) → list_any t xs ≡ is_some (find t xs)
any-found t [] = refl
any-found t (x ∷ xs) =
    ⊎_elim
    (λ (yes : t x ≡ true). rw yes refl)
    (λ (no : t x ≡ false). rw no (any-found t xs))
    (cases_Bool (t x))

-- the element of number j is the first that passes
pub record IsFirst {Y : Type 0} (c : ℕ → Option Y) (t : Y → Bool) (a n : ℕ) (y : Y) : Type 0 where
  pub j : ℕ
  pub low : a ≤ j
  pub high : j < a + n
  pub is : c j ≡ Some y
  pub passes : t y ≡ true
  pub before : (i : ℕ) → a ≤ i → i < j → (x : Y) → c i ≡ Some x → t x ≡ false

find-skip : {Y : Type 0} (t : Y → Bool) (o : Option Y) (xs : List Y) → ((x : Y) → o ≡ Some x → t x ≡ false) → find t (cons_option o xs) ≡ find t xs
find-skip t None xs fails = refl
find-skip t (Some x) xs fails = rw (fails x refl) refl

find-here : {Y : Type 0} (t : Y → Bool) (o : Option Y) (xs : List Y) (y : Y) → o ≡ Some y → t y ≡ true → find t (cons_option o xs) ≡ Some y
find-here t None xs y is passes = absurd (none-some y is)
find-here t (Some x) xs y is passes = let e : x ≡ y = same_Some x y is in rw e (rw passes refl)

-- an element passes, or none at that number does
passes_or : {Y : Type 0} (t : Y → Bool) (o : Option Y) → ((y : Y) × (o ≡ Some y) × (t y ≡ true)) ⊎ ((x : Y) → o ≡ Some x → t x ≡ false)
passes_or t None = inr (λ x e. absurd (none-some x e))
passes_or {Y} t (Some y) =
    ⊎_elim
    (λ (yes : t y ≡ true). inl (y, refl, yes))
    (λ (no : t y ≡ false). inr (λ x e. let same : y ≡ x = same_Some y x e in rw same at no))
    (cases_Bool (t y))

-- what is found is the first that passes, and where nothing is found none passes
pub found-first : {Y : Type 0} (c : ℕ → Option Y) (t : Y → Bool) (a n : ℕ) (y : Y) → find t (filter_map c (range_with_len a n)) ≡ Some y → IsFirst c t a n y
found-first c t a zero y e = absurd (none-some y e)
found-first {Y} c t a (suc n) y e =
    ⊎_elim
    (λ (here : (x : Y) × (c a ≡ Some x) × (t x ≡ true)).
    let same : here.0 ≡ y = same_Some here.0 y (sym (find-here t (c a) (filter_map c (range_with_len (a + 1) n)) here.0 here.1 here.2) ∙ e) in
    record { j = a; low = omega arith; high = omega arith; is = here.1 ∙ ap (λ (z : Y). Some z) same; passes = rw same at here.2; before = λ i low less. absurd (omega arith) })
    (λ (no : (x : Y) → c a ≡ Some x → t x ≡ false).
    let w = found-first c t (a + 1) n y (sym (find-skip t (c a) (filter_map c (range_with_len (a + 1) n)) no) ∙ e) in
    record {
      j = w.j;
      low = omega (arith, w.low);
      high = omega (arith, w.high);
      is = w.is;
      passes = w.passes;
      before = λ i low less x is. ⊎_elim
          (λ (at : a ≡ i). no x (ap c at ∙ is))
          (λ (later : a ≡ i → ⊥). w.before i (omega (arith, later)) less x is)
          (cases_eq a i);
    })
    (passes_or t (c a))

pub found-none : {Y : Type 0} (c : ℕ → Option Y) (t : Y → Bool) (a n : ℕ) → find t (filter_map c (range_with_len a n)) ≡ None →
    (j : ℕ) → a ≤ j → j < a + n → (x : Y) → c j ≡ Some x → t x ≡ false
found-none c t a zero e j low high x is = absurd (omega arith)
found-none {Y} c t a (suc n) e j low high x is =
    ⊎_elim
    (λ (here : (y : Y) × (c a ≡ Some y) × (t y ≡ true)).
    absurd (none-some here.0 (sym e ∙ find-here t (c a) (filter_map c (range_with_len (a + 1) n)) here.0 here.1 here.2)))
    (λ (no : (y : Y) → c a ≡ Some y → t y ≡ false). ⊎_elim
    (λ (at : a ≡ j). no x (ap c at ∙ is))
    (λ (later : a ≡ j → ⊥).
    found-none c t (a + 1) n (sym (find-skip t (c a) (filter_map c (range_with_len (a + 1) n)) no) ∙ e) j (omega (arith, later)) (omega arith) x is)
    (cases_eq a j))
    (passes_or t (c a))

-- each element goes by its number
module _ {Y : Type 0} (key : Y → ℕ) (c : ℕ → Option Y) (keyed : (j : ℕ) (y : Y) → c j ≡ Some y → key y ≡ j) (a n : ℕ) where
  -- the one of a number
  pub found-at : (k : ℕ) → ((y : Y) → c k ≡ Some y → (a ≤ k) × (k < a + n)) → find (λ y. key y == k) (filter_map c (range_with_len a n)) ≡ c k
  found-at k within =
      let P : Option Y → Type 0 = λ o. find (λ (y : Y). key y == k) (filter_map c (range_with_len a n)) ≡ o → o ≡ c k in
      let go : (o : Option Y) → P o = λ o. elim o as P [
        | None ↦ λ e.
            let here : (v : Option Y) → c k ≡ v → None ≡ v = λ v. elim v as (λ (v : Option Y). c k ≡ v → None ≡ v) [
              | None ↦ λ k. refl
              | Some y ↦ λ is.
                  let w = within y is in
                  let fails : (key y == k) ≡ false = found-none c (λ (y : Y). key y == k) a n e k w.0 w.1 y is in
                  absurd (eqb-false (key y) k fails (keyed k y is))
            ] in here (c k) refl
        | Some y ↦ λ e.
            let w = found-first c (λ (y : Y). key y == k) a n y e in
            let at : w.j ≡ k = sym (keyed w.j y w.is) ∙ eqb-true (key y) k w.passes in
            sym w.is ∙ ap c at
      ] in go (find (λ (y : Y). key y == k) (filter_map c (range_with_len a n))) refl

-- what holds of the element of each number holds of each element
all-cons_option : {Y : Type 0} (P : Y → Type 0) (o : Option Y) (xs : List Y) → ((y : Y) → o ≡ Some y → P y) → AllByRecursion P xs → AllByRecursion P (cons_option o xs)
all-cons_option P None xs here all = all
all-cons_option P (Some y) xs here all = (here y refl, all)

all-listed : {Y : Type 0} (P : Y → Type 0) (c : ℕ → Option Y) (a n : ℕ) → ((j : ℕ) (y : Y) → c j ≡ Some y → P y) → AllByRecursion P (filter_map c (range_with_len a n))
all-listed P c a zero each = tt
all-listed P c a (suc n) each = all-cons_option P (c a) (filter_map c (range_with_len (a + 1) n)) (each a) (all-listed P c (a + 1) n each)

pub each-listed : {Y : Type 0} (P : Y → Type 0) (c : ℕ → Option Y) (a n : ℕ) → ((j : ℕ) (y : Y) → c j ≡ Some y → P y) → All P (filter_map c (range_with_len a n))
each-listed P c a n each = All-from_recursion P (filter_map c (range_with_len a n)) (all-listed P c a n each)
