-- Images with the same wanted pages and the same places: what fits over in one fits over in the other.
use Rattle.std.proofs.Common.{◌≡◌, ℕ, zero, suc, ◌+◌, ◌*◌, ◌<◌, ◌≤◌, List, length, Bool, true, false, not, cond, ◌==◌, ◌&&◌, ap, refl, sym, ◌∙◌, arith, ⊎_elim}
use Rattle.std.specs.Prelude.{filter, sum_by}
use Rattle.std.specs.List.{range_with_len}
use Rattle.std.proofs.Math.Bool.{and-false}
use Rattle.std.proofs.lemmas.Bool.{cases_Bool, and_parts, false_from_ne_true, not-true}
use Rattle.std.proofs.lemmas.List.Sums.{length-filter, sum_by-cons}
use Rattle.geometry.specs.declared.geometry.Geometry.{Geometry}
use Rattle.geometry.specs.Numbers.{per_block, lookups, entries}
use Rattle.image_model.specs.Within.{entry_in}
use Rattle.image_model.specs.Places.{has_magic}
use Rattle.image_model.specs.Tidy.{is_wanted, is_free_entry, is_free_block, free_blocks}
use Rattle.image_model.specs.Kinds.{spoiled_blocks}
use Rattle.image_model.specs.Collect.{free_in, free_where}
use Rattle.image_model.specs.Sound.{HasMagics}
use Rattle.image_model.specs.Shared.{is_wanted_index, is_wanted_data, wanted_index_in, wanted_data_in, is_shared, shared_blocks, shared_index, open_entries, blocks_to_use, FitsWith, SameUses}
use Rattle.image_laws.specs.Sharing.{SameUsesFit}
use Rattle.image_laws.proofs.FreeBlocks.{all-range, filter-same}
use Rattle.image_laws.proofs.Matching.{filter-none_in, sum-range}

-- of numbers that pass at most one does
one-passes : (test : ℕ → Bool) (a n : ℕ) → ((b c : ℕ) → a ≤ b → b < a + n → a ≤ c → c < a + n → test b ≡ true → test c ≡ true → b ≡ c) → length (filter test (range_with_len a n)) ≤ 1
one-passes test a zero one = omega arith
one-passes test a (suc n) one = ⊎_elim
    (λ (yes : test a ≡ true).
    let none = filter-none_in test (a + 1) n (λ q low high. false_from_ne_true _ (λ passes. let e : a ≡ q = one a q (omega arith) (omega arith) (omega arith) (omega arith) yes passes in omega (arith, e, low))) in
    rw yes (omega (arith, none)))
    (λ (no : test a ≡ false). rw no (one-passes test (a + 1) n (λ b c x y z w p q. one b c (omega arith) (omega arith) (omega arith) (omega arith) p q)))
    (cases_Bool (test a))

pub spoiled-few : (g : Geometry) (image : List ℕ) → HasMagics g image → spoiled_blocks g image ≤ 1
unfolding spoiled_blocks
spoiled-few g image h = one-passes (λ (block : ℕ). not (has_magic g image block)) 0 g.blocks (λ b c x y z w p q. h.one b c (omega arith) (omega arith) (not-true _ p) (not-true _ q))

if-one : (n : ℕ) → n ≤ 1 → cond (n == 1) 1 0 ≡ n
if-one zero h = refl
if-one (suc zero) h = refl
if-one (suc (suc n)) h = absurd (omega (arith, h))

to-use : (g : Geometry) (image : List ℕ) → HasMagics g image → blocks_to_use g image ≡ free_blocks g image + spoiled_blocks g image
to-use g image h = ap (λ (n : ℕ). free_blocks g image + n) (if-one (spoiled_blocks g image) (spoiled-few g image h))

module _ (g : Geometry) (was now : List ℕ) (s : SameUses g was now) where
  index-same : (p : ℕ) → is_wanted_index g now p ≡ is_wanted_index g was p
  index-same p = ⊎_elim
      (λ (yes : is_wanted g was p ≡ true). rw (s.wanted p, s.kind p yes) refl)
      (λ (no : is_wanted g was p ≡ false). rw (s.wanted p, no) (and-false _ ∙ sym (and-false _)))
      (cases_Bool (is_wanted g was p))

  data-same : (p : ℕ) → is_wanted_data g now p ≡ is_wanted_data g was p
  data-same p = ⊎_elim
      (λ (yes : is_wanted g was p ≡ true). rw (s.wanted p, s.kind p yes) refl)
      (λ (no : is_wanted g was p ≡ false). rw (s.wanted p, no) (and-false _ ∙ sym (and-false _)))
      (cases_Bool (is_wanted g was p))

  index-in : (block : ℕ) → wanted_index_in g now block ≡ wanted_index_in g was block
  unfolding wanted_index_in
  index-in block = filter-same (λ p. is_wanted_index g was p) (λ p. is_wanted_index g now p) (block * per_block g + lookups g) (entries g) (λ q low high. index-same q)

  data-in : (block : ℕ) → wanted_data_in g now block ≡ wanted_data_in g was block
  unfolding wanted_data_in
  data-in block = filter-same (λ p. is_wanted_data g was p) (λ p. is_wanted_data g now p) (block * per_block g + lookups g) (entries g) (λ q low high. data-same q)

  shared-same : (block : ℕ) → is_shared g now block ≡ is_shared g was block
  unfolding is_shared
  shared-same block = rw (index-in block, data-in block) refl

  pub shared-blocks : shared_blocks g now ≡ shared_blocks g was
  unfolding shared_blocks
  shared-blocks = filter-same (λ b. is_shared g was b) (λ b. is_shared g now b) 0 g.blocks (λ q low high. shared-same q)

  pub shared-index : shared_index g now ≡ shared_index g was
  unfolding shared_index
  shared-index = sum-range (λ b. cond (is_shared g now b) (wanted_index_in g now b) 0) (λ b. cond (is_shared g was b) (wanted_index_in g was b) 0) 0 g.blocks (λ q low high. rw (shared-same q, index-in q) refl)

  -- ---- a block that had its magic
  module _ (block : ℕ) (low : block < g.blocks) (magic : has_magic g was block ≡ true) where
    entry-same : (q : ℕ) → block * per_block g + lookups g ≤ q → q < block * per_block g + lookups g + entries g → is_free_entry g now q ≡ is_free_entry g was q
    entry-same q from to = let w = entry_in g block q low from to in s.free q w.1 (ap (has_magic g was) w.0 ∙ magic)

    free-in : free_in g now block ≡ free_in g was block
    unfolding free_in
    free-in = filter-same (λ p. is_free_entry g was p) (λ p. is_free_entry g now p) (block * per_block g + lookups g) (entries g) entry-same

    pub free-same : is_free_block g now block ≡ is_free_block g was block
    unfolding is_free_block
    free-same = rw (s.magic block magic, magic) (all-range (λ p. is_free_entry g was p) (λ p. is_free_entry g now p) (block * per_block g + lookups g) (entries g) entry-same)

  -- ---- any block
  abbrev opens : List ℕ → ℕ → Bool
  opens image block = has_magic g image block && not (is_free_block g image block) && (wanted_data_in g image block == 0)

  open-term : (block : ℕ) → block < g.blocks → cond (opens now block) (free_in g now block) 0 ≡ cond (opens was block) (free_in g was block) 0
  open-term block low = ⊎_elim
      (λ (yes : has_magic g was block ≡ true). rw (yes, s.magic block yes, free-same block low yes, free-in block low yes, data-in block) refl)
      (λ (no : has_magic g was block ≡ false). ⊎_elim
      (λ (still : has_magic g now block ≡ false). rw (no, still) refl)
      (λ (free : is_free_block g now block ≡ true). rw (no, free) (closed (has_magic g now block) (wanted_data_in g now block == 0) (free_in g now block)))
      (s.fresh block low no))
      (cases_Bool (has_magic g was block))
    where
      closed : (b c : Bool) (n : ℕ) → cond (b && false && c) n 0 ≡ 0
      closed true c n = refl
      closed false c n = refl

  pub open-same : open_entries g now ≡ open_entries g was
  unfolding open_entries free_where
  open-same = sum-range (λ b. cond (opens now b) (free_in g now b) 0) (λ b. cond (opens was b) (free_in g was b) 0) 0 g.blocks (λ q low high. open-term q (omega (arith, high)))

  use-term : (block : ℕ) → block < g.blocks → cond (is_free_block g now block) 1 0 + cond (not (has_magic g now block)) 1 0 ≡ cond (is_free_block g was block) 1 0 + cond (not (has_magic g was block)) 1 0
  unfolding is_free_block
  use-term block low = ⊎_elim
      (λ (yes : has_magic g was block ≡ true). let f = free-same block low yes in rw (f, yes, s.magic block yes) refl)
      (λ (no : has_magic g was block ≡ false). ⊎_elim
      (λ (still : has_magic g now block ≡ false). rw (no, still) refl)
      (λ (free : is_free_block g now block ≡ true).
      let has : has_magic g now block ≡ true = (and_parts (has_magic g now block) _ free).0 in
      rw (free, no, has) refl)
      (s.fresh block low no))
      (cases_Bool (has_magic g was block))

  sums-same : (f h k l : ℕ → ℕ) (a n : ℕ) → ((q : ℕ) → a ≤ q → q < a + n → f q + h q ≡ k q + l q) → sum_by f (range_with_len a n) + sum_by h (range_with_len a n) ≡ sum_by k (range_with_len a n) + sum_by l (range_with_len a n)
  sums-same f h k l a zero each = refl
  sums-same f h k l a (suc n) each =
      let rest = sums-same f h k l (a + 1) n (λ q low high. each q (omega arith) (omega arith)) in
      omega (arith, rest, each a (omega arith) (omega arith), sum_by-cons f a (range_with_len (a + 1) n), sum_by-cons h a (range_with_len (a + 1) n), sum_by-cons k a (range_with_len (a + 1) n), sum_by-cons l a (range_with_len (a + 1) n))

  pub use-same : HasMagics g was → HasMagics g now → blocks_to_use g now ≡ blocks_to_use g was
  unfolding free_blocks spoiled_blocks
  use-same before after =
      let each = sums-same (λ b. cond (is_free_block g now b) 1 0) (λ b. cond (not (has_magic g now b)) 1 0) (λ b. cond (is_free_block g was b) 1 0) (λ b. cond (not (has_magic g was b)) 1 0) 0 g.blocks (λ q low high. use-term q (omega (arith, high))) in
      let u = to-use g now after in
      let v = to-use g was before in
      omega (
        arith,
        u,
        v,
        each,
        length-filter (λ b. is_free_block g now b) (range_with_len 0 g.blocks),
        length-filter (λ b. not (has_magic g now b)) (range_with_len 0 g.blocks),
        length-filter (λ b. is_free_block g was b) (range_with_len 0 g.blocks),
        length-filter (λ b. not (has_magic g was b)) (range_with_len 0 g.blocks),
      )

  -- so what fits over in one fits over in the other
  pub fits-same : HasMagics g was → HasMagics g now → (spare : ℕ) → FitsWith g was spare → FitsWith g now spare
  fits-same before after spare fits = rw (shared-blocks, shared-index, open-same, use-same before after) fits

pub same-uses-fit : (g : Geometry) → SameUsesFit g
same-uses-fit g was now s before after = (shared-blocks g was now s, fits-same g was now s before after)
