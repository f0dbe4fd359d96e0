-- How many numbers of a range pass.
use Rattle.std.proofs.Common.{◌≡◌, ◌≢◌, ℕ, zero, suc, ◌+◌, ◌*◌, ◌<◌, ◌≤◌, List, [], ◌∷◌, length, Bool, true, false, not, cond, ◌==◌, ◌&&◌, Option, Some, None, ap, refl, sym, ◌∙◌, arith, ⊎_elim}
use Rattle.std.proofs.Math.Path.{fun_ext}
use Rattle.std.specs.Prelude.{filter}
use Rattle.std.specs.List.{range_with_len, sum_by, filter_map, cons_option, flat_map}
use Rattle.std.proofs.lemmas.List.Sums.{sum_by-cons, length-filter}
use Rattle.std.proofs.Common.{length-append}
use Rattle.std.proofs.lemmas.Bool.{cases_Bool, eq-eqb, ne_eqb, false_from_ne_true, and_parts}
use Rattle.image_laws.proofs.DeadEntries.{filter-one}

pub filter-none_in : (test : ℕ → Bool) (a n : ℕ) → ((q : ℕ) → a ≤ q → q < a + n → test q ≡ false) → length (filter test (range_with_len a n)) ≡ 0
filter-none_in test a zero none = refl
filter-none_in test a (suc n) none = rw (none a (omega arith) (omega arith)) (filter-none_in test (a + 1) n (λ q low high. none q (omega arith) (omega arith)))

and_not-other : (x : Bool) (q c : ℕ) → q ≢ c → (x && not (q == c)) ≡ x
and_not-other true q c h = rw (ne_eqb q c h) refl
and_not-other false q c h = refl

and_not-same : (x : Bool) (c : ℕ) → (x && not (c == c)) ≡ false
and_not-same true c = rw (eq-eqb c c refl) refl
and_not-same false c = refl

and_not-parts : (x : Bool) (q c : ℕ) → (x && not (q == c)) ≡ true → (x ≡ true) × (q ≢ c)
and_not-parts x q c h = let w : (x ≡ true) × (not (q == c) ≡ true) = and_parts x (not (q == c)) h in (w.0, λ e. let no : (q == c) ≡ true = eq-eqb q c e in let f : false ≡ true = rw no at w.1 in absurd (cc))

-- as many numbers pass as there are things that stand there, each at a place of its own
pub count_match : (n : ℕ) (at : ℕ → ℕ) (test : ℕ → Bool) (N : ℕ) → ((j : ℕ) → j < n → (at j < N) × (test (at j) ≡ true)) → ((i j : ℕ) → i < n → j < n → at i ≡ at j → i ≡ j) →
    ((p : ℕ) → p < N → test p ≡ true → (j : ℕ) × (j < n) × (at j ≡ p)) → length (filter test (range_with_len 0 N)) ≡ n
count_match zero at test N into apart onto =
    filter-none_in test 0 N (λ p low high. false_from_ne_true _ (λ yes. let w = onto p (omega arith) yes in absurd (omega (arith, w.1))))
count_match (suc n) at test N into apart onto =
    let here : (at n < N) × (test (at n) ≡ true) = into n (omega arith) in
    let rest : length (filter (λ (q : ℕ). test q && not (q == at n)) (range_with_len 0 N)) ≡ n =
    count_match n at (λ (q : ℕ). test q && not (q == at n)) N
    (λ j low. let w : (at j < N) × (test (at j) ≡ true) = into j (omega arith) in
    let other : at j ≢ at n = λ e. let same : j ≡ n = apart j n (omega arith) (omega arith) e in omega (arith, same) in
    (w.0, and_not-other (test (at j)) (at j) (at n) other ∙ w.1))
    (λ i j low low' e. apart i j (omega arith) (omega arith) e)
    (λ p low yes. let w = and_not-parts (test p) p (at n) yes in
    let v = onto p low w.0 in
    let other : v.0 ≢ n = λ e. w.1 (sym v.2 ∙ ap at e) in (v.0, omega (arith, v.1, other), v.2)) in
    let one = filter-one test (λ (q : ℕ). test q && not (q == at n)) (at n) 0 N (omega arith) (omega (arith, here.0)) here.1 (and_not-same (test (at n)) (at n))
    (λ q there. and_not-other (test q) q (at n) there) in
    omega (arith, one, rest)

-- exactly one passes
pub count_one : (test : ℕ → Bool) (k a n : ℕ) → a ≤ k → k < a + n → test k ≡ true → ((j : ℕ) → j ≢ k → test j ≡ false) → length (filter test (range_with_len a n)) ≡ 1
count_one test k a n low high here there =
    let none : length (filter (λ (j : ℕ). false) (range_with_len a n)) ≡ 0 = filter-none_in (λ (j : ℕ). false) a n (λ q l h. refl) in
    let one = filter-one test (λ (j : ℕ). false) k a n low high here refl (λ q o. sym (there q o)) in omega (arith, one, none)

-- ---- sums

cons-count : (t : ℕ → Bool) (x : ℕ) (xs : List ℕ) → length (filter t (x ∷ xs)) ≡ cond (t x) 1 0 + length (filter t xs)
cons-count t x xs = ⊎_elim (λ (y : t x ≡ true). rw y (omega arith)) (λ (n : t x ≡ false). rw n (omega arith)) (cases_Bool (t x))

sum-split : (t : ℕ → Bool) (f : ℕ → ℕ) (xs : List ℕ) → sum_by (λ id. cond (t id) 1 0 + f id) xs ≡ length (filter t xs) + sum_by f xs
sum-split t f [] = refl
sum-split t f (x ∷ xs) =
    let a = sum_by-cons (λ (id : ℕ). cond (t id) 1 0 + f id) x xs in
    let b = sum_by-cons f x xs in
    let c = cons-count t x xs in
    omega (arith, a, b, c, sum-split t f xs)

sum-zero : (xs : List ℕ) → sum_by (λ (id : ℕ). 0) xs ≡ 0
sum-zero [] = refl
sum-zero (x ∷ xs) = let a = sum_by-cons (λ (id : ℕ). 0) x xs in omega (arith, a, sum-zero xs)

sum-swap : (t : ℕ → ℕ → Bool) (ps ids : List ℕ) → sum_by (λ (p : ℕ). length (filter (λ id. t id p) ids)) ps ≡ sum_by (λ (id : ℕ). length (filter (t id) ps)) ids
sum-swap t [] ids = sym (sum-zero ids)
sum-swap t (p ∷ ps) ids =
    let a = sum_by-cons (λ (p : ℕ). length (filter (λ id. t id p) ids)) p ps in
    let b : sum_by (λ (id : ℕ). length (filter (t id) (p ∷ ps))) ids ≡ sum_by (λ (id : ℕ). cond (t id p) 1 0 + length (filter (t id) ps)) ids =
    ap (λ (f : ℕ → ℕ). sum_by f ids) (fun_ext (λ (id : ℕ). cons-count (t id) p ps)) in
    let c = sum-split (λ (id : ℕ). t id p) (λ (id : ℕ). length (filter (t id) ps)) ids in
    a ∙ ap (λ (k : ℕ). length (filter (λ id. t id p) ids) + k) (sum-swap t ps ids) ∙ sym (b ∙ c)

pub sum-range : (f h : ℕ → ℕ) (a n : ℕ) → ((q : ℕ) → a ≤ q → q < a + n → f q ≡ h q) → sum_by f (range_with_len a n) ≡ sum_by h (range_with_len a n)
sum-range f h a zero same = refl
sum-range f h a (suc n) same =
    let x = sum_by-cons f a (range_with_len (a + 1) n) in
    let y = sum_by-cons h a (range_with_len (a + 1) n) in
    let here = same a (omega arith) (omega arith) in
    let rest = sum-range f h (a + 1) n (λ q low high. same q (omega arith) (omega arith)) in
    x ∙ (rw (here, rest) refl) ∙ sym y

-- a count, by what each number belongs to
pub count_by_key : (s : ℕ → Bool) (t : ℕ → ℕ → Bool) (N a n : ℕ) → ((p : ℕ) → p < N → length (filter (λ id. t id p) (range_with_len a n)) ≡ cond (s p) 1 0) →
    length (filter s (range_with_len 0 N)) ≡ sum_by (λ (id : ℕ). length (filter (t id) (range_with_len 0 N))) (range_with_len a n)
count_by_key s t N a n each =
    length-filter s (range_with_len 0 N)
    ∙ sum-range (λ (p : ℕ). cond (s p) 1 0) (λ (p : ℕ). length (filter (λ id. t id p) (range_with_len a n))) 0 N (λ q low high. sym (each q (omega arith)))
    ∙ sum-swap t (range_with_len 0 N) (range_with_len a n)

abbrev pub weight : {Y : Type 0} → (Y → ℕ) → Option Y → ℕ
weight h None = 0
weight h (Some f) = h f

sum-cons_option : {Y : Type 0} (h : Y → ℕ) (o : Option Y) (xs : List Y) → sum_by h (cons_option o xs) ≡ weight h o + sum_by h xs
sum-cons_option h None xs = omega arith
sum-cons_option h (Some y) xs = sum_by-cons h y xs

pub sum-records : {Y : Type 0} (h : Y → ℕ) (c : ℕ → Option Y) (a n : ℕ) → sum_by h (filter_map c (range_with_len a n)) ≡ sum_by (λ (id : ℕ). weight h (c id)) (range_with_len a n)
sum-records h c a zero = refl
sum-records h c a (suc n) =
    sum-cons_option h (c a) (filter_map c (range_with_len (a + 1) n))
    ∙ ap (λ (k : ℕ). weight h (c a) + k) (sum-records h c (a + 1) n)
    ∙ sym (sum_by-cons (λ (id : ℕ). weight h (c id)) a (range_with_len (a + 1) n))

-- pieces of one length
pub length-pieces : (f : ℕ → List ℕ) (w a n : ℕ) → ((j : ℕ) → a ≤ j → j < a + n → length (f j) ≡ w) → length (flat_map f (range_with_len a n)) ≡ n * w
length-pieces f w a zero each = omega arith
length-pieces f w a (suc n) each =
    let rest = length-pieces f w (a + 1) n (λ j low high. each j (omega arith) (omega arith)) in
    let here = each a (omega arith) (omega arith) in
    length-append (f a) (flat_map f (range_with_len (a + 1) n)) ∙ (rw (here, rest) (omega arith))
