-- What a cut leaves of an image that mounting and the check take, they take.
use Rattle.std.proofs.Common.{◌≡◌, ℕ, zero, suc, ◌+◌, ◌<◌, ◌≤◌, List, length, Bool, true, false, refl, sym, ◌∙◌, ap, subst, arith, ⊎_elim}
use Rattle.std.specs.Prelude.{filter, not}
use Rattle.std.specs.List.{range_with_len}
use Rattle.std.proofs.lemmas.Bool.{cases_Bool, cases_lt, false_from_ne_true}
use Rattle.geometry.specs.declared.geometry.Geometry.{Geometry}
use Rattle.image_model.specs.Places.{has_magic}
use Rattle.image_model.specs.Live.{live_at}
use Rattle.image_model.specs.Kinds.{is_mixed, spoiled_blocks, mixed_blocks}
use Rattle.image_model.specs.Sound.{HasMagics, IsMixed}
use Rattle.image_model.specs.Within.{block_number, page_number}
use Rattle.image_laws.proofs.Frames.{live_parts}
use Rattle.image_laws.proofs.Matching.{filter-none_in}
use Rattle.image_laws.proofs.MixedBlocks.{mixed-tested}
use Rattle.image_laws.proofs.Unshared.{fits-tested}
use Rattle.call_model.specs.Taken.{CutsKeepMagics, CutsMixNone, CutsFit}

-- ---- how many numbers of a range pass a test

-- one that passes is counted
one_at_least : (test : ℕ → Bool) (a n q : ℕ) → a ≤ q → q < a + n → test q ≡ true → 1 ≤ length (filter test (range_with_len a n))
one_at_least test a zero q low high passes = absurd (omega arith)
one_at_least test a (suc n) q low high passes = ⊎_elim
    (λ (here : test a ≡ true). rw here (omega arith))
    (λ (no : test a ≡ false).
    let there : a ≡ q → ⊥ = λ e. let bad : true ≡ false = sym passes ∙ ap test (sym e) ∙ no in absurd (cc) in
    rw no (one_at_least test (a + 1) n q (omega (arith, there)) (omega arith) passes))
    (cases_Bool (test a))

-- where none does, a number of the range fails
none_passes : (test : ℕ → Bool) (a n q : ℕ) → length (filter test (range_with_len a n)) ≡ 0 → a ≤ q → q < a + n → test q ≡ false
none_passes test a n q none low high = false_from_ne_true _ (λ passes. let one = one_at_least test a n q low high passes in absurd (omega (arith, one, none)))

-- where the first does and no more than one, it is the one
is_first : (test : ℕ → Bool) (a n q : ℕ) → length (filter test (range_with_len (a + 1) n)) ≤ 0 → a ≤ q → q < a + suc n → test q ≡ true → q ≡ a
is_first test a n q none low high passes = ⊎_elim
    (λ (more : a < q). let one : 1 ≤ length (filter test (range_with_len (a + 1) n)) = one_at_least test (a + 1) n q (omega arith) (omega arith) passes in absurd (omega arith))
    (λ (same : q ≤ a). omega arith)
    (cases_lt a q)

-- where no more than one does, two that pass are one
same_one : (test : ℕ → Bool) (a n b c : ℕ) → length (filter test (range_with_len a n)) ≤ 1 → a ≤ b → b < a + n → test b ≡ true → a ≤ c → c < a + n → test c ≡ true → b ≡ c
same_one test a zero b c few low high here low' high' here' = absurd (omega arith)
same_one test a (suc n) b c few low high here low' high' here' = ⊎_elim
    (λ (first : test a ≡ true).
    let one : suc (length (filter test (range_with_len (a + 1) n))) ≤ 1 = rw first at few in
    let rest : length (filter test (range_with_len (a + 1) n)) ≤ 0 = omega (arith, one) in
    is_first test a n b rest low high here ∙ sym (is_first test a n c rest low' high' here'))
    (λ (no : test a ≡ false).
    let not_b : a ≡ b → ⊥ = λ e. let bad : true ≡ false = sym here ∙ ap test (sym e) ∙ no in absurd (cc) in
    let not_c : a ≡ c → ⊥ = λ e. let bad : true ≡ false = sym here' ∙ ap test (sym e) ∙ no in absurd (cc) in
    same_one test (a + 1) n b c (rw no at few) (omega (arith, not_b)) (omega arith) here (omega (arith, not_c)) (omega arith) here')
    (cases_Bool (test a))

-- where any two that pass are one, none passes behind the first that does
none_behind : (test : ℕ → Bool) (a b n : ℕ) → ((c : ℕ) → b ≤ c → c < b + n → test c ≡ true → a ≡ c) → a < b → length (filter test (range_with_len b n)) ≡ 0
none_behind test a b n one less = filter-none_in test b n (λ c low high. false_from_ne_true _ (λ passes. let same : a ≡ c = one c low high passes in absurd (omega (arith, same, less, low))))

-- so no more than one does
one_at_most : (test : ℕ → Bool) (a n : ℕ) → ((b c : ℕ) → a ≤ b → b < a + n → a ≤ c → c < a + n → test b ≡ true → test c ≡ true → b ≡ c) → length (filter test (range_with_len a n)) ≤ 1
one_at_most test a zero one = omega arith
one_at_most test a (suc n) one = ⊎_elim
    (λ (yes : test a ≡ true).
    let none : length (filter test (range_with_len (a + 1) n)) ≡ 0 = none_behind test a (a + 1) n (λ c low high passes. one a c (omega arith) (omega arith) (omega (arith, low)) (omega (arith, high)) yes passes) (omega arith) in
    rw yes (omega (arith, none)))
    (λ (no : test a ≡ false). rw no (one_at_most test (a + 1) n (λ b c low high low' high' here there. one b c (omega (arith, low)) (omega (arith, high)) (omega (arith, low')) (omega (arith, high')) here there)))
    (cases_Bool (test a))

-- ---- blocks without their magic

not_true : (b : Bool) → not b ≡ true → b ≡ false
not_true true is = let no : false ≡ true = is in absurd (cc)
not_true false is = refl

few_spoiled : (g : Geometry) (image : List ℕ) → spoiled_blocks g image ≤ 1 → HasMagics g image
unfolding spoiled_blocks
few_spoiled g image few = record {
  one = λ b c under over none also. same_one (λ (block : ℕ). not (has_magic g image block)) 0 g.blocks b c few (omega arith) (omega arith) (ap not none) (omega arith) (omega arith) (ap not also);
}

spoiled_few : (g : Geometry) (image : List ℕ) → HasMagics g image → spoiled_blocks g image ≤ 1
unfolding spoiled_blocks
spoiled_few g image magics =
    one_at_most (λ (block : ℕ). not (has_magic g image block)) 0 g.blocks (λ b c low high low' high' here there. magics.one b c (omega (arith, high)) (omega (arith, high')) (not_true (has_magic g image b) here) (not_true (has_magic g image c) there))

-- ---- mixed blocks

none_mixed : (g : Geometry) (image : List ℕ) → mixed_blocks g image ≡ 0 → (block : ℕ) → IsMixed g (live_at g image) block → ⊥
unfolding mixed_blocks
none_mixed g image none block m =
    let low : block < g.blocks = subst (λ (b : ℕ). b < g.blocks) m.p_at (block_number g m.p (page_number g m.p (live_parts g image m.p m.x m.p_is).entry_page)) in
    let fails : is_mixed g image block ≡ false = none_passes (λ (b : ℕ). is_mixed g image b) 0 g.blocks block none (omega arith) (omega (arith, low)) in
    let passes : is_mixed g image block ≡ true = (mixed-tested g image block low).1 m in
    absurd (cc)

unmixed_by : (g : Geometry) (image : List ℕ) → ((block : ℕ) → IsMixed g (live_at g image) block → ⊥) → mixed_blocks g image ≡ 0
unfolding mixed_blocks
unmixed_by g image none =
    filter-none_in (λ (b : ℕ). is_mixed g image b) 0 g.blocks (λ block low high. false_from_ne_true _ (λ yes. none block ((mixed-tested g image block (omega arith)).0 yes)))

-- ---- what a cut leaves

pub cuts_keep_magics : (g : Geometry) → CutsKeepMagics g
cuts_keep_magics g was image few safe = spoiled_few g image (safe.sound (few_spoiled g was few)).magics

pub cuts_mix_none : (g : Geometry) → CutsMixNone g
cuts_mix_none g was image few none safe = unmixed_by g image (λ block m. none_mixed g was none block ((safe.sound (few_spoiled g was few)).mixed block m))

pub cuts_fit : (g : Geometry) → CutsFit g
cuts_fit g was image fits safe = (fits-tested g image).1 (safe.fits 0 fits)
