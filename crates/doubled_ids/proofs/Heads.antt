-- Header pages of ids, counted page by page.
use Rattle.std.proofs.Common.{◌≡◌, ◌≢◌, ℕ, zero, suc, ◌+◌, ◌%◌, ◌<◌, ◌≤◌, Bool, true, false, cond, List, length, Option, Some, None, ap, refl, sym, ◌∙◌, arith, ⊎_elim}
use Rattle.std.specs.Prelude.{filter, nat_lt}
use Rattle.std.specs.List.{range_with_len}
use Rattle.std.proofs.lemmas.Bool.{cases_Bool, cases_eq, eq-eqb, ne_eqb, lt-ltb}
use Rattle.geometry.specs.declared.geometry.Geometry.{Geometry}
use Rattle.image_model.specs.Headers.{obj_id}
use Rattle.image_model.specs.Live.{Live, live_at, own}
use Rattle.image_model.specs.Files.{is_index}
use Rattle.image_model.specs.Tidy.{is_number}
use Rattle.image_laws.proofs.Frames.{live_parts}
use Rattle.image_laws.proofs.Finish.{is_finished-zero}
use Rattle.image_laws.proofs.DeadEntries.{filter-one}
use Rattle.image_laws.proofs.FreeBlocks.{filter-same}
use Rattle.doubled_ids.specs.Doubled.{heads_to, doubled_to}

-- one number more
filter_more : (t : ℕ → Bool) (a n : ℕ) → length (filter t (range_with_len a (n + 1))) ≡ length (filter t (range_with_len a n)) + cond (t (a + n)) 1 0
filter_more t a zero =
    let at : a + 0 ≡ a = omega arith in
    rw at (⊎_elim (λ (yes : t a ≡ true). rw yes refl) (λ (no : t a ≡ false). rw no refl) (cases_Bool (t a)))
filter_more t a (suc n) =
    let rest = filter_more t (a + 1) n in
    let at : a + suc n ≡ a + 1 + n = omega arith in
    let one : suc n + 1 ≡ suc (n + 1) = omega arith in
    rw (at, one) (⊎_elim (λ (yes : t a ≡ true). rw yes (omega (arith, rest))) (λ (no : t a ≡ false). rw no rest) (cases_Bool (t a)))

-- a page is a live header page of this id alone
abbrev pub Heads : Live → ℕ → Option ℕ → Type 0
Heads live p o = (id : ℕ) → is_index (own live id p) 0 ≡ is_number o id

module _ (live : Live) (p : ℕ) where
  heads_more : (id : ℕ) → heads_to live (p + 1) id ≡ heads_to live p id + cond (is_index (own live id p) 0) 1 0
  unfolding heads_to
  heads_more id =
      let at : 0 + p ≡ p = omega arith in
      rw at at (filter_more (λ (q : ℕ). is_index (own live id q) 0) 0 p)

  -- of no id
  pub heads_none : (id : ℕ) → Heads live p None → heads_to live (p + 1) id ≡ heads_to live p id
  heads_none id is = let more = rw (is id) at (heads_more id) in omega (arith, more)

  -- of this one
  pub heads_here : (k : ℕ) → Heads live p (Some k) → heads_to live (p + 1) k ≡ heads_to live p k + 1
  heads_here k is = rw (is k, eq-eqb k k refl) at (heads_more k)

  -- of another one
  pub heads_there : (k id : ℕ) → k ≢ id → Heads live p (Some k) → heads_to live (p + 1) id ≡ heads_to live p id
  heads_there k id differ is = let more = rw (is id, ne_eqb k id differ) at (heads_more id) in omega (arith, more)

  abbrev Test : ℕ → ℕ → Bool
  Test q id = nat_lt 1 (heads_to live q id)

  -- as many ids are doubled where the test of each is as it was
  pub doubled_same : (n : ℕ) → ((id : ℕ) → Test (p + 1) id ≡ Test p id) → length (doubled_to live (p + 1) n) ≡ length (doubled_to live p n)
  unfolding doubled_to
  doubled_same n same = filter-same (Test p) (Test (p + 1)) 1 n (λ id low high. same id)

  -- a page of no id
  pub doubled_none : (n : ℕ) → Heads live p None → length (doubled_to live (p + 1) n) ≡ length (doubled_to live p n)
  doubled_none n is = doubled_same n (λ id. ap (λ (k : ℕ). nat_lt 1 k) (heads_none id is))

  module _ (k n : ℕ) (is : Heads live p (Some k)) where
    other_test : (id : ℕ) → k ≢ id → Test (p + 1) id ≡ Test p id
    other_test id differ = ap (λ (k : ℕ). nat_lt 1 k) (heads_there k id differ is)

    -- the second page of an id
    pub doubled_second : 1 ≤ k → k < 1 + n → heads_to live p k ≡ 1 → length (doubled_to live (p + 1) n) ≡ length (doubled_to live p n) + 1
    unfolding doubled_to
    doubled_second low high one =
        let here = heads_here k is in
        let two : heads_to live (p + 1) k ≡ 2 = omega (arith, here, one) in
        let more = filter-one (Test (p + 1)) (Test p) k 1 n low high (rw two refl) (rw one refl) (λ id differ. sym (other_test id (λ e. differ (sym e)))) in
        omega (arith, more)

    -- the first one, or the third or a later one
    pub doubled_first : heads_to live p k ≢ 1 → length (doubled_to live (p + 1) n) ≡ length (doubled_to live p n)
    doubled_first other = doubled_same n (λ id. ⊎_elim
        (λ (same : k ≡ id). rw (← same) (by_heads (heads_to live p k) (heads_to live (p + 1) k) (heads_here k is) other))
        (λ (differ : k ≡ id → ⊥). other_test id differ)
        (cases_eq k id))
      where
        by_heads : (h more : ℕ) → more ≡ h + 1 → h ≢ 1 → nat_lt 1 more ≡ nat_lt 1 h
        by_heads zero more e other = rw e refl
        by_heads (suc zero) more e other = absurd (other refl)
        by_heads (suc (suc h)) more e other = lt-ltb 1 more (omega (arith, e)) ∙ sym (lt-ltb 1 (suc (suc h)) (omega arith))

-- a live page has an id that isn't 0
pub some_id : (g : Geometry) (image : List ℕ) (p : ℕ) (page : List ℕ) → live_at g image p ≡ Some page → 1 ≤ obj_id page % 0x8000
some_id g image p page live =
    let some : obj_id page % 0x8000 ≢ 0 = λ e. let no = is_finished-zero page e in let yes = (live_parts g image p page live).finished in cc in
    omega (arith, some)
