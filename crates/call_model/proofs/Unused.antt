-- The id of a new file is one that no file has: for any list of files.
use Rattle.std.proofs.Common.{◌≡◌, ℕ, zero, suc, ◌+◌, ◌<◌, ◌≤◌, List, [], ◌∷◌, length, Bool, true, false, not, ◌==◌, ◌||◌, Option, Some, None, refl, sym, arith, ⊎_elim}
use Rattle.std.specs.Prelude.{find, filter, unwrap_or}
use Rattle.std.specs.List.{range_with_len, list_any}
use Rattle.std.proofs.lemmas.Bool.{cases_Bool, eqb-true, ne_eqb, not-true, or_parts}
use Rattle.std.proofs.lemmas.Option.{none-some, same_Some}
use Rattle.table_model.specs.Table.{File, has_id, file_of, least_id}

-- how many numbers of a range from `a` on pass
abbrev passing : (ℕ → Bool) → ℕ → ℕ → ℕ
passing t a n = length (filter t (range_with_len a n))

either-count : (s t : ℕ → Bool) (a n : ℕ) → passing (λ i. s i || t i) a n ≤ passing s a n + passing t a n
either-count s t a zero = omega arith
either-count s t a (suc n) =
    let rest = either-count s t (a + 1) n in
    ⊎_elim
    (λ (x : s a ≡ true). ⊎_elim (λ (y : t a ≡ true). rw (x, y) (omega (arith, rest))) (λ (y : t a ≡ false). rw (x, y) (omega (arith, rest))) (cases_Bool (t a)))
    (λ (x : s a ≡ false). ⊎_elim (λ (y : t a ≡ true). rw (x, y) (omega (arith, rest))) (λ (y : t a ≡ false). rw (x, y) rest) (cases_Bool (t a)))
    (cases_Bool (s a))

-- a number is at most once in a range
not_above : (k a n : ℕ) → k < a → passing (λ i. k == i) a n ≡ 0
not_above k a zero below = refl
not_above k a (suc n) below = rw (ne_eqb k a (λ e. omega (arith, e, below))) (not_above k (a + 1) n (omega arith))

once : (k a n : ℕ) → passing (λ i. k == i) a n ≤ 1
once k a zero = omega arith
once k a (suc n) = ⊎_elim
    (λ (here : (k == a) ≡ true). let is = eqb-true k a here in let rest = not_above k (a + 1) n (omega (arith, is)) in rw here (omega (arith, rest)))
    (λ (away : (k == a) ≡ false). rw away (once k (a + 1) n))
    (cases_Bool (k == a))

used-count : (files : List File) (a n : ℕ) → passing (λ i. has_id i files) a n ≤ length files
unfolding has_id
used-count [] a zero = omega arith
used-count [] a (suc n) = used-count [] (a + 1) n
used-count (f ∷ files) a n =
    let both = either-count (λ (i : ℕ). f.id == i) (λ (i : ℕ). list_any (λ (x : File). x.id == i) files) a n in
    let rest = used-count files a n in
    omega (arith, both, once f.id a n, rest)

all_pass : (t : ℕ → Bool) (a n : ℕ) → find (λ i. not (t i)) (range_with_len a n) ≡ None → passing t a n ≡ n
all_pass t a zero e = refl
all_pass t a (suc n) e = ⊎_elim
    (λ (some : t a ≡ true). let rest = all_pass t (a + 1) n (rw some at e) in rw some (omega (arith, rest)))
    (λ (none : t a ≡ false). absurd (none-some a (sym (rw none at e))))
    (cases_Bool (t a))

-- the first that passes does
pub found-passes : {X : Type 0} (t : X → Bool) (xs : List X) (x : X) → find t xs ≡ Some x → t x ≡ true
found-passes t [] x e = absurd (none-some x e)
found-passes t (y ∷ xs) x e = ⊎_elim
    (λ (yes : t y ≡ true). let is = same_Some y x (rw yes at e) in rw (← is) yes)
    (λ (no : t y ≡ false). found-passes t xs x (rw no at e))
    (cases_Bool (t y))

least-by : (files : List File) (o : Option ℕ) → find (λ i. not (has_id i files)) (range_with_len 1 (length files + 1)) ≡ o → has_id (unwrap_or o 0) files ≡ false
least-by files None e = let all = all_pass (λ (i : ℕ). has_id i files) 1 (length files + 1) e in absurd (omega (arith, all, used-count files 1 (length files + 1)))
least-by files (Some k) e = not-true (has_id k files) (found-passes (λ (i : ℕ). not (has_id i files)) (range_with_len 1 (length files + 1)) k e)

-- no file has the least unused id
pub least-unused : (files : List File) → has_id (least_id files) files ≡ false
unfolding least_id
least-unused files = least-by files (find (λ i. not (has_id i files)) (range_with_len 1 (length files + 1))) refl

-- there is no file of an id that none has
pub file_of-unused : (id : ℕ) (files : List File) → has_id id files ≡ false → file_of id files ≡ None
unfolding file_of has_id
file_of-unused id [] unused = refl
file_of-unused id (f ∷ files) unused = let w = or_parts (f.id == id) (list_any (λ (x : File). x.id == id) files) unused in rw w.0 (file_of-unused id files w.1)
