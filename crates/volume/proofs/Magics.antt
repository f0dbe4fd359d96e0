-- Of an image that mounts, at most one block lacks its magic.
use Rattle.std.proofs.Common.{◌≡◌, ℕ, zero, suc, ◌+◌, ◌<◌, ◌≤◌, List, length, Bool, true, false, sym, ◌∙◌, ap, arith, ⊎_elim}
use Rattle.std.specs.Prelude.{filter, not}
use Rattle.std.specs.List.{range_with_len}
use Rattle.std.proofs.lemmas.Bool.{cases_Bool, cases_lt}
use Rattle.geometry.specs.declared.geometry.Geometry.{Geometry}
use Rattle.image_model.specs.Places.{has_magic}
use Rattle.image_model.specs.Kinds.{spoiled_blocks}
use Rattle.image_model.specs.Sound.{HasMagics}

-- a number of a range that passes is counted
one_at_least : (test : ℕ → Bool) (a n q : ℕ) → a ≤ q → q < a + n → test q ≡ true → 1 ≤ length (filter test (range_with_len a n))
one_at_least test a zero q low high passes = absurd (omega arith)
one_at_least test a (suc n) q low high passes =
    ⊎_elim
    (λ (here : test a ≡ true). rw here (omega arith))
    (λ (no : test a ≡ false).
    let there : a ≡ q → ⊥ = λ e. let bad : true ≡ false = sym passes ∙ ap test (sym e) ∙ no in absurd (cc) in
    rw no (one_at_least test (a + 1) n q (omega (arith, there)) (omega arith) passes))
    (cases_Bool (test a))

-- where the first passes and no more than one does, it is the one that passes
is_first : (test : ℕ → Bool) (a n q : ℕ) → length (filter test (range_with_len (a + 1) n)) ≤ 0 → a ≤ q → q < a + suc n → test q ≡ true → q ≡ a
is_first test a n q none low high passes =
    ⊎_elim
    (λ (more : a < q). let one : 1 ≤ length (filter test (range_with_len (a + 1) n)) = one_at_least test (a + 1) n q (omega arith) (omega arith) passes in absurd (omega arith))
    (λ (same : q ≤ a). omega arith)
    (cases_lt a q)

-- where no more than one passes, two that pass are one
pub same_one : (test : ℕ → Bool) (a n b c : ℕ) → length (filter test (range_with_len a n)) ≤ 1 → a ≤ b → b < a + n → test b ≡ true → a ≤ c → c < a + n → test c ≡ true → b ≡ c
same_one test a zero b c few low high here low' high' here' = absurd (omega arith)
same_one test a (suc n) b c few low high here low' high' here' =
    ⊎_elim
    (λ (first : test a ≡ true).
    let one : suc (length (filter test (range_with_len (a + 1) n))) ≤ 1 = rw first at few in
    let rest : length (filter test (range_with_len (a + 1) n)) ≤ 0 = omega (arith, one) in
    is_first test a n b rest low high here ∙ sym (is_first test a n c rest low' high' here'))
    (λ (no : test a ≡ false).
    let not_b : a ≡ b → ⊥ = λ e. let bad : true ≡ false = sym here ∙ ap test (sym e) ∙ no in absurd (cc) in
    let not_c : a ≡ c → ⊥ = λ e. let bad : true ≡ false = sym here' ∙ ap test (sym e) ∙ no in absurd (cc) in
    same_one test (a + 1) n b c (rw no at few) (omega (arith, not_b)) (omega arith) here (omega (arith, not_c)) (omega arith) here')
    (cases_Bool (test a))

pub few_spoiled : (g : Geometry) (image : List ℕ) → spoiled_blocks g image ≤ 1 → HasMagics g image
unfolding spoiled_blocks
few_spoiled g image few = record {
  one = λ b c under over none also. same_one (λ (block : ℕ). not (has_magic g image block)) 0 g.blocks b c few (omega arith) (omega arith) (ap not none) (omega arith) (omega arith) (ap not also);
}
