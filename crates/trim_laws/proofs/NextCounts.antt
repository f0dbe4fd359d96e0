-- The next erase count once a block got the one before it.
use Rattle.std.proofs.Common.{◌≡◌, ◌≢◌, ℕ, zero, suc, ◌+◌, ◌-◌, ◌%◌, ◌<◌, ◌≤◌, ⊎_elim, List, Bool, true, false, nat_lt, arith, max, map, refl, ap, ◌∙◌}
use Rattle.std.proofs.Common.{if◌then◌else◌}
use Rattle.std.specs.Prelude.{filter}
use Rattle.std.specs.List.{range_with_len, fold}
use Rattle.std.proofs.lemmas.Bool.{cases_Bool, cases_eq, ltb-true}
use Rattle.geometry.specs.declared.geometry.Geometry.{Geometry}
use Rattle.geometry.specs.Numbers.{slots}
use Rattle.image_model.specs.Places.{has_magic, erase_count, next_count, slot_of}
use Rattle.trim_laws.specs.Wear.{SameWear}

-- ---- the greatest value of the numbers of a range that pass a test

module _ (test : ℕ → Bool) (value : ℕ → ℕ) where
  -- that value, with one more
  abbrev greatest : (most a n : ℕ) → ℕ
  greatest most a n = fold max most (map value (filter test (range_with_len a n)))

  rises : (most a n : ℕ) → most ≤ greatest most a n
  rises most a zero = omega arith
  rises most a (suc n) = ⊎_elim
      (λ (yes : test a ≡ true). rw yes (let rest = rises (max most (value a)) (a + 1) n in omega (arith, rest)))
      (λ (no : test a ≡ false). rw no (rises most (a + 1) n))
      (cases_Bool (test a))

  reaches : (k most a n : ℕ) → a ≤ k → k < a + n → test k ≡ true → value k ≤ greatest most a n
  reaches k most a zero low high passes = absurd (omega arith)
  reaches k most a (suc n) low high passes = ⊎_elim
      (λ (here : a ≡ k). let yes : test a ≡ true = rw here passes in
      rw yes (let rest = rises (max most (value a)) (a + 1) n in let same : value a ≡ value k = rw here refl in omega (arith, rest, same)))
      (λ (there : a ≡ k → ⊥). ⊎_elim
      (λ (yes : test a ≡ true). rw yes (reaches k (max most (value a)) (a + 1) n (omega (arith, there)) (omega arith) passes))
      (λ (no : test a ≡ false). rw no (reaches k most (a + 1) n (omega (arith, there)) (omega arith) passes))
      (cases_Bool (test a)))
      (cases_eq a k)

  stays_below : (top most a n : ℕ) → most ≤ top → ((q : ℕ) → a ≤ q → q < a + n → value q ≤ top) → greatest most a n ≤ top
  stays_below top most a zero low each = omega (arith, low)
  stays_below top most a (suc n) low each = ⊎_elim
      (λ (yes : test a ≡ true). rw yes (stays_below top (max most (value a)) (a + 1) n (let h = each a (omega arith) (omega arith) in omega (arith, low, h))
      (λ q from to. each q (omega arith) (omega arith))))
      (λ (no : test a ≡ false). rw no (stays_below top most (a + 1) n low (λ q from to. each q (omega arith) (omega arith))))
      (cases_Bool (test a))

-- the same numbers pass two tests, and these have the same values
same_greatest : (test test' : ℕ → Bool) (value value' : ℕ → ℕ) (most a n : ℕ) → ((q : ℕ) → a ≤ q → q < a + n → test' q ≡ test q) →
    ((q : ℕ) → a ≤ q → q < a + n → test q ≡ true → value' q ≡ value q) → greatest test' value' most a n ≡ greatest test value most a n
same_greatest test test' value value' most a zero passes same = refl
same_greatest test test' value value' most a (suc n) passes same = ⊎_elim
    (λ (yes : test a ≡ true).
    let yes' : test' a ≡ true = passes a (omega arith) (omega arith) ∙ yes in
    let e : value' a ≡ value a = same a (omega arith) (omega arith) yes in
    rw (yes, yes', e) (same_greatest test test' value value' (max most (value a)) (a + 1) n (λ q from to. passes q (omega arith) (omega arith))
    (λ q from to. same q (omega arith) (omega arith))))
    (λ (no : test a ≡ false).
    let no' : test' a ≡ false = passes a (omega arith) (omega arith) ∙ no in
    rw (no, no') (same_greatest test test' value value' most (a + 1) n (λ q from to. passes q (omega arith) (omega arith))
    (λ q from to. same q (omega arith) (omega arith))))
    (cases_Bool (test a))

-- ---- erase counts

-- each is below 0x8000
count_small : (g : Geometry) (image : List ℕ) (block : ℕ) → erase_count g image block < 0x8000
unfolding erase_count
count_small g image block = by (slot_of g image block (slots g - 1)) (nat_lt (slot_of g image block (slots g - 1)) 0x8000) refl
  where
    by : (n : ℕ) (b : Bool) → nat_lt n 0x8000 ≡ b → (if b then n else 0) < 0x8000
    by n true e = ltb-true n 0x8000 e
    by n false e = omega arith

rest_of : (most n : ℕ) → most ≤ 0x8000 → n ≡ most % 0x8000 → 1 ≤ n → most ≡ n
rest_of most n low is some = omega arith

-- The next erase count goes by the blocks that have their magic, and their erase counts.
pub next_same : (g : Geometry) (was now : List ℕ) → SameWear g was now → next_count g now ≡ next_count g was
unfolding next_count
next_same g was now same =
    ap (λ (n : ℕ). n % 0x8000)
    (same_greatest (λ b. has_magic g was b) (λ b. has_magic g now b) (λ b. erase_count g was b + 1) (λ b. erase_count g now b + 1) 0 0 g.blocks
    (λ q from to. same.magic q (omega (arith, to)))
    (λ q from to yes. ap (λ (n : ℕ). n + 1) (same.count q (omega (arith, to)) yes)))

-- Where one block got the next erase count and all others keep theirs, the next one rises by one, unless counts wrap.
pub next_rises : (g : Geometry) (was now : List ℕ) (block : ℕ) → ((b : ℕ) → b < g.blocks → has_magic g was b ≡ true) →
    ((b : ℕ) → b < g.blocks → has_magic g now b ≡ true) → block < g.blocks →
    erase_count g now block ≡ next_count g was → ((b : ℕ) → b < g.blocks → b ≢ block → erase_count g now b ≡ erase_count g was b) →
    1 ≤ next_count g was → next_count g was + 1 < 0x8000 → next_count g now ≡ next_count g was + 1
unfolding next_count
next_rises g was now block before after low count others some few =
    let old = greatest (λ b. has_magic g was b) (λ b. erase_count g was b + 1) 0 0 g.blocks in
    let new = greatest (λ b. has_magic g now b) (λ b. erase_count g now b + 1) 0 0 g.blocks in
    let small : old ≤ 0x8000 = stays_below (λ b. has_magic g was b) (λ b. erase_count g was b + 1) 0x8000 0 0 g.blocks (omega arith)
    (λ q from to. let h = count_small g was q in omega (arith, h)) in
    let is : old ≡ next_count g was = rest_of old (next_count g was) small refl some in
    let up : erase_count g now block + 1 ≤ new =
    reaches (λ b. has_magic g now b) (λ b. erase_count g now b + 1) block 0 0 g.blocks (omega arith) (omega (arith, low)) (after block low) in
    let most : new ≤ next_count g was + 1 =
    stays_below (λ b. has_magic g now b) (λ b. erase_count g now b + 1) (next_count g was + 1) 0 0 g.blocks (omega arith)
    (λ q from to. ⊎_elim
    (λ (here : q ≡ block). let same : erase_count g now q ≡ erase_count g now block = rw here refl in omega (arith, same, count))
    (λ (there : q ≡ block → ⊥).
    let same = others q (omega (arith, to)) there in
    let below =
    reaches (λ b. has_magic g was b) (λ b. erase_count g was b + 1) q 0 0 g.blocks (omega arith) (omega (arith, to)) (before q (omega (arith, to))) in
    omega (arith, same, below, is))
    (cases_eq q block)) in
    let exact : new ≡ next_count g was + 1 = omega (arith, up, most, count) in
    rw exact (small_rest (next_count g was + 1) few)
  where
    small_rest : (n : ℕ) → n < 0x8000 → n % 0x8000 ≡ n
    small_rest n low = omega arith
