-- Free blocks.
use Rattle.std.proofs.Common.{◌≡◌, ◌≢◌, ℕ, zero, suc, ◌+◌, ◌*◌, ◌<◌, ◌≤◌, List, length, Bool, true, false, cond, ◌&&◌, ap, refl, sym, ◌∙◌, arith, ⊎_elim}
use Rattle.std.specs.Prelude.{filter}
use Rattle.std.specs.List.{range_with_len, list_all}
use Rattle.std.proofs.lemmas.Bool.{cases_eq, cases_Bool, and_parts}
use Rattle.geometry.specs.declared.geometry.Geometry.{Geometry}
use Rattle.image_model.specs.Within.{sizes}
use Rattle.geometry.specs.Numbers.{per_block, lookups, entries}
use Rattle.image_model.specs.Within.{Sizes, entry_in, entry_of_block}
use Rattle.image_model.specs.Places.{block_of}
use Rattle.image_model.specs.Tidy.{is_free_entry, is_free_block, free_blocks}
use Rattle.image_laws.specs.TidySteps.{Agree, FreeBlocksFall, UsedIsNotFree}

pub all-range : (test now : ℕ → Bool) (a n : ℕ) → ((q : ℕ) → a ≤ q → q < a + n → now q ≡ test q) → list_all now (range_with_len a n) ≡ list_all test (range_with_len a n)
all-range test now a zero same = refl
all-range test now a (suc n) same = rw (same a (omega arith) (omega arith)) (ap (λ (b : Bool). test a && b) (all-range test now (a + 1) n (λ q low high. same q (omega arith) (omega arith))))

pub all-at : (test : ℕ → Bool) (a n : ℕ) → list_all test (range_with_len a n) ≡ true → (q : ℕ) → a ≤ q → q < a + n → test q ≡ true
all-at test a zero h q low high = absurd (omega arith)
all-at test a (suc n) h q low high =
    let w = and_parts (test a) _ h in
    ⊎_elim
    (λ (here : a ≡ q). rw here at w.0)
    (λ (there : a ≡ q → ⊥). all-at test (a + 1) n w.1 q (omega (arith, there)) (omega arith))
    (cases_eq a q)

-- how many pass
pub filter-same : (test now : ℕ → Bool) (a n : ℕ) → ((q : ℕ) → a ≤ q → q < a + n → now q ≡ test q) → length (filter now (range_with_len a n)) ≡ length (filter test (range_with_len a n))
filter-same test now a zero same = refl
filter-same test now a (suc n) same =
    let rest = filter-same test now (a + 1) n (λ q low high. same q (omega arith) (omega arith)) in
    rw (same a (omega arith) (omega arith))
    (⊎_elim (λ (yes : test a ≡ true). rw yes (ap (λ (k : ℕ). suc k) rest)) (λ (no : test a ≡ false). rw no rest) (cases_Bool (test a)))

pub filter-but : (test now : ℕ → Bool) (c a n : ℕ) → ((q : ℕ) → a ≤ q → q < a + n → q ≢ c → now q ≡ test q) →
    length (filter test (range_with_len a n)) ≤ length (filter now (range_with_len a n)) + cond (test c) 1 0
filter-but test now c a zero same = omega arith
filter-but test now c a (suc n) same =
    ⊎_elim
    (λ (here : a ≡ c).
    let rest : length (filter now (range_with_len (a + 1) n)) ≡ length (filter test (range_with_len (a + 1) n)) =
    filter-same test now (a + 1) n (λ q low high. same q (omega arith) (omega arith) (λ e. omega (arith, e, here))) in
    let t : test c ≡ test a = ap test (sym here) in
    rw t
    (⊎_elim
    (λ (yes : test a ≡ true). rw yes (⊎_elim (λ (y : now a ≡ true). rw y (omega arith)) (λ (n : now a ≡ false). rw n (omega arith)) (cases_Bool (now a))))
    (λ (no : test a ≡ false). rw no (⊎_elim (λ (y : now a ≡ true). rw y (omega arith)) (λ (n : now a ≡ false). rw n (omega arith)) (cases_Bool (now a))))
    (cases_Bool (test a))))
    (λ (there : a ≡ c → ⊥).
    let rest = filter-but test now c (a + 1) n (λ q low high other. same q (omega arith) (omega arith) other) in
    rw (same a (omega arith) (omega arith) there)
    (⊎_elim (λ (yes : test a ≡ true). rw yes (omega (arith, rest))) (λ (no : test a ≡ false). rw no (omega (arith, rest))) (cases_Bool (test a))))
    (cases_eq a c)

free_block-same : (g : Geometry) (a b : List ℕ) (p : ℕ) → Sizes g → Agree g a b p → (c : ℕ) → c < g.blocks → c ≢ block_of g p → is_free_block g b c ≡ is_free_block g a c
unfolding is_free_block
free_block-same g a b p geo agree c low there =
    let all = all-range (λ (q : ℕ). is_free_entry g a q) (λ (q : ℕ). is_free_entry g b q) (c * per_block g + lookups g) (entries g)
    (λ q from to. let w = entry_in g c q low from to in
    let other : q ≢ p = λ e. there (sym w.0 ∙ ap (λ (k : ℕ). block_of g k) e) in
    rw (agree.entry q w.1 other, agree.page q w.1 other) refl) in
    rw (agree.magic c, all) refl

pub free_blocks-fall : (g : Geometry) → FreeBlocksFall g
unfolding free_blocks
free_blocks-fall g a b p agree =
    let fall : length (filter (λ (c : ℕ). is_free_block g a c) (range_with_len 0 g.blocks)) ≤ length (filter (λ (c : ℕ). is_free_block g b c) (range_with_len 0 g.blocks)) + cond (is_free_block g a (block_of g p)) 1 0 =
    filter-but (λ (c : ℕ). is_free_block g a c) (λ (c : ℕ). is_free_block g b c) (block_of g p) 0 g.blocks
    (λ c low high there. free_block-same g a b p (sizes g) agree c (omega arith) there) in
    let one : cond (is_free_block g a (block_of g p)) 1 0 ≤ 1 = ⊎_elim (λ (y : is_free_block g a (block_of g p) ≡ true). rw y (omega arith)) (λ (n : is_free_block g a (block_of g p) ≡ false). rw n (omega arith)) (cases_Bool (is_free_block g a (block_of g p))) in
    (omega (arith, fall, one), λ (used : is_free_block g a (block_of g p) ≡ false). let tight = rw used at fall in omega (arith, tight))

pub used-is_not_free : (g : Geometry) → UsedIsNotFree g
unfolding is_free_block
used-is_not_free g a p page used =
    ⊎_elim
    (λ (yes : is_free_block g a (block_of g p) ≡ true).
    let w = and_parts _ _ yes in
    let v = entry_of_block g p page in
    let free : is_free_entry g a p ≡ true = all-at (λ (q : ℕ). is_free_entry g a q) (block_of g p * per_block g + lookups g) (entries g) w.1 p v.0 v.1 in
    let bad : true ≡ false = sym free ∙ used in absurd (cc))
    (λ (no : is_free_block g a (block_of g p) ≡ false). no)
    (cases_Bool (is_free_block g a (block_of g p)))
