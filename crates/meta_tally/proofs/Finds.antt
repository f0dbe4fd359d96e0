-- The first number of a range that passes a test, and whether one does.
use Rattle.std.proofs.Common.{◌≡◌, ℕ, zero, suc, ◌+◌, ◌-◌, ◌<◌, ◌≤◌, ◌&&◌, ◌||◌, not, Bool, true, false, Option, Some, None, ◌*◌, ap, refl, sym, ◌∙◌, arith, ⊎_elim}
use Rattle.std.specs.Prelude.{find}
use Rattle.std.specs.List.{range_with_len, list_any}
use Rattle.std.proofs.Math.Nat.{mul-le-mul_right}
use Rattle.std.proofs.lemmas.Option.{none-some}
use Rattle.plain_image.proofs.Ranges.{range_step, range_end}
use Rattle.std.proofs.lemmas.Bool.{cases_eq, cases_Bool, cases_lt, eq-eqb, ne_eqb, or_cases, or_left, or_right, eqb-true, false≢true}
use Rattle.image_model.specs.Tidy.{is_number}
use Rattle.image_laws.proofs.Tables.{find_passes}
use Rattle.image_laws.proofs.Damaged.{any_from, any_at, same_truth}

-- a number that is told
pub number_is : (o : Option ℕ) (p : ℕ) → is_number o p ≡ true → o ≡ Some p
number_is None p e = absurd (false≢true e)
number_is (Some q) p e = ap (λ (x : ℕ). Some x) (eqb-true q p e)

-- the first that passes is not one that fails
pub find_not : (t : ℕ → Bool) (a n p : ℕ) → t p ≡ false → is_number (find t (range_with_len a n)) p ≡ false
find_not t a n p fails = same_truth _ false
    (λ yes. let w = find_passes t a n p (number_is _ p yes) in sym fails ∙ w.0)
    (λ no. absurd (false≢true no))

-- a number is the first that passes where it does, and none before it
pub find_is : (t : ℕ → Bool) (a n p : ℕ) → a ≤ p → p < a + n → is_number (find t (range_with_len a n)) p ≡ (t p && not (list_any t (range_with_len a (p - a))))
find_is t a zero p low high = absurd (omega arith)
find_is t a (suc n) p low high = ⊎_elim
    (λ (here : a ≡ p).
    let none : p - a ≡ 0 = omega arith in
    ⊎_elim
    (λ (yes : t a ≡ true). let also : t p ≡ true = rw here at yes in rw (yes, none, also) (eq-eqb a p here))
    (λ (no : t a ≡ false). let also : t p ≡ false = rw here at no in rw (no, also) (find_not t (a + 1) n p also))
    (cases_Bool (t a)))
    (λ (there : a ≡ p → ⊥).
    let more : p - a ≡ suc (p - (a + 1)) = omega (arith, there) in
    ⊎_elim
    (λ (yes : t a ≡ true). rw (more, yes) (ne_eqb a p there ∙ sym (and_never (t p))))
    (λ (no : t a ≡ false). rw (more, no) (find_is t (a + 1) n p (omega (arith, there)) (omega arith)))
    (cases_Bool (t a)))
    (cases_eq a p)
  where
    and_never : (b : Bool) → (b && false) ≡ false
    and_never true = refl
    and_never false = refl

-- one number more
pub any_more : (t : ℕ → Bool) (a n : ℕ) → list_any t (range_with_len a (n + 1)) ≡ (list_any t (range_with_len a n) || t (a + n))
any_more t a n = same_truth _ _
    (λ some.
    let w = any_at t a (n + 1) some in
    ⊎_elim
    (λ (below : w.0 < a + n). or_left _ _ (any_from t a n w.0 w.1 below w.3))
    (λ (last : a + n ≤ w.0). let same : w.0 ≡ a + n = omega (arith, w.2, last) in or_right _ _ (rw same at w.3))
    (cases_lt w.0 (a + n)))
    (λ some. ⊎_elim
    (λ (old : list_any t (range_with_len a n) ≡ true). let w = any_at t a n old in any_from t a (n + 1) w.0 w.1 (omega (arith, w.2)) w.3)
    (λ (new : t (a + n) ≡ true). any_from t a (n + 1) (a + n) (omega arith) (omega arith) new)
    (or_cases _ _ some))

-- ---- searches from a loop's counter on

pub find_here : (t : ℕ → Bool) (p e : ℕ) (total : Option ℕ) → p < e → find t (range_with_len p (e - p)) ≡ total → t p ≡ true → Some p ≡ total
find_here t p e total low all fits = let found : find t (range_with_len p (e - p)) ≡ Some p = rw (range_step p e low, fits) refl in sym found ∙ all

pub find_later : (t : ℕ → Bool) (p e : ℕ) (total : Option ℕ) → p < e → find t (range_with_len p (e - p)) ≡ total → t p ≡ false → find t (range_with_len (p + 1) (e - (p + 1))) ≡ total
find_later t p e total low all fits = let found : find t (range_with_len p (e - p)) ≡ find t (range_with_len (p + 1) (e - (p + 1))) = rw (range_step p e low, fits) refl in sym found ∙ all

pub find_past : (t : ℕ → Bool) (p e : ℕ) (total : Option ℕ) → e ≤ p → find t (range_with_len p (e - p)) ≡ total → None ≡ total
find_past t p e total high all = let found : find t (range_with_len p (e - p)) ≡ None = rw (range_end p e high) refl in sym found ∙ all

pub any_here : (t : ℕ → Bool) (p e : ℕ) (total : Bool) → p < e → list_any t (range_with_len p (e - p)) ≡ total → t p ≡ true → true ≡ total
any_here t p e total low all fits = let found : list_any t (range_with_len p (e - p)) ≡ true = rw (range_step p e low, fits) refl in sym found ∙ all

pub any_later : (t : ℕ → Bool) (p e : ℕ) (total : Bool) → p < e → list_any t (range_with_len p (e - p)) ≡ total → t p ≡ false → list_any t (range_with_len (p + 1) (e - (p + 1))) ≡ total
any_later t p e total low all fits = let found : list_any t (range_with_len p (e - p)) ≡ list_any t (range_with_len (p + 1) (e - (p + 1))) = rw (range_step p e low, fits) refl in sym found ∙ all

pub any_past : (t : ℕ → Bool) (p e : ℕ) (total : Bool) → e ≤ p → list_any t (range_with_len p (e - p)) ≡ total → false ≡ total
any_past t p e total high all = let found : list_any t (range_with_len p (e - p)) ≡ false = rw (range_end p e high) refl in sym found ∙ all

-- ---- a range in two parts

pub find_front : (t : ℕ → Bool) (a n m q : ℕ) → find t (range_with_len a n) ≡ Some q → find t (range_with_len a (n + m)) ≡ Some q
find_front t a zero m q e = absurd (none-some q e)
find_front t a (suc n) m q e =
    let more : suc n + m ≡ suc (n + m) = omega arith in
    ⊎_elim
    (λ (yes : t a ≡ true). rw more (rw yes (rw yes at e)))
    (λ (no : t a ≡ false). rw more (rw no (find_front t (a + 1) n m q (rw no at e))))
    (cases_Bool (t a))

pub find_behind : (t : ℕ → Bool) (a b n m : ℕ) → b ≡ a + n → find t (range_with_len a n) ≡ None → find t (range_with_len a (n + m)) ≡ find t (range_with_len b m)
find_behind t a b zero m at e = let same : b ≡ a = omega (arith, at) in let less : zero + m ≡ m = omega arith in rw (same, less) refl
find_behind t a b (suc n) m at e =
    let more : suc n + m ≡ suc (n + m) = omega arith in
    ⊎_elim
    (λ (yes : t a ≡ true). absurd (none-some a (sym (rw yes at e))))
    (λ (no : t a ≡ false). rw more (rw no (find_behind t (a + 1) b n m (omega (arith, at)) (rw no at e))))
    (cases_Bool (t a))

-- what is left behind a block of x numbers
pub left_behind : (b n x : ℕ) → b < n → n * x - b * x ≡ x + (n * x - (b + 1) * x)
left_behind b n x low =
    let within : b + 1 ≤ n = omega (arith, low) in
    let most : (b + 1) * x ≤ n * x = mul-le-mul_right x within in
    let next : (b + 1) * x ≡ b * x + x = omega arith in
    omega (arith, most, next)

pub block_found : (t : ℕ → Bool) (b n x q : ℕ) (total : Option ℕ) → b < n → find t (range_with_len (b * x) (n * x - b * x)) ≡ total → find t (range_with_len (b * x) x) ≡ Some q → Some q ≡ total
block_found t b n x q total low all e =
    let found = find_front t (b * x) x (n * x - (b + 1) * x) q e in
    sym found ∙ ap (λ (k : ℕ). find t (range_with_len (b * x) k)) (sym (left_behind b n x low)) ∙ all

pub block_passed : (t : ℕ → Bool) (b n x : ℕ) (total : Option ℕ) → b < n → find t (range_with_len (b * x) (n * x - b * x)) ≡ total → find t (range_with_len (b * x) x) ≡ None →
    find t (range_with_len ((b + 1) * x) (n * x - (b + 1) * x)) ≡ total
block_passed t b n x total low all e =
    let next : (b + 1) * x ≡ b * x + x = omega arith in
    let found = find_behind t (b * x) ((b + 1) * x) x (n * x - (b + 1) * x) next e in
    sym found ∙ ap (λ (k : ℕ). find t (range_with_len (b * x) k)) (sym (left_behind b n x low)) ∙ all

pub blocks_passed : (t : ℕ → Bool) (b n x : ℕ) (total : Option ℕ) → n ≤ b → find t (range_with_len (b * x) (n * x - b * x)) ≡ total → None ≡ total
blocks_passed t b n x total high all = find_past t (b * x) (n * x) total (mul-le-mul_right x high) all
