-- By its counts a block of a tidy image is worth cleaning, fits, and pages are had, as the tests of the image say.
use Rattle.std.proofs.Common.{◌≡◌, ℕ, ◌+◌, ◌-◌, ◌<◌, ◌≤◌, List, Bool, true, false, not, cond, nat_lt, nat_le, ◌==◌, ◌&&◌, refl, sym, ◌∙◌, arith, ⊎_elim, inl, inr}
use Rattle.std.proofs.lemmas.Bool.{cases_lt, lt-ltb, le-leb, ltb-true, leb-true, eq-eqb, ne_eqb, or_cases, or_left, or_right}
use Rattle.geometry.specs.declared.geometry.Geometry.{Geometry}
use Rattle.geometry.specs.Numbers.{ceil, entries}
use Rattle.image_model.specs.Tidy.{IsTidy, is_free_block}
use Rattle.image_model.specs.Kinds.{is_index_block, is_data_block}
use Rattle.image_model.specs.Collect.{index_in, data_in, deleted_in, free_in, free_where, free_outside, takes_index, takes_data, holds_index, is_worth, is_fitting, are_had}
use Rattle.room_laws.specs.Counts.{for_index, for_data}
use Rattle.room_laws.specs.Volume.{free_of, free_beside, Worth, Fits}
use Rattle.room_laws.specs.Counting.{block_counts, counts_of, WorthIsTested, FitsIsTested, HadIsTested}
use Rattle.room_laws.proofs.Ranges.{sum_but}
use Rattle.room_laws.proofs.Totals.{ceil-le}
use Rattle.room_laws.proofs.Blocks.{Told, told_free, told_index, told_data, told, index_is}
use Rattle.room_laws.proofs.Tallies.{entries_pos, tidy_counts_tell}

-- the free entries outside a block
pub outside : (g : Geometry) (image : List ℕ) (block : ℕ) (test : ℕ → Bool) → block < g.blocks → free_outside g image block test + cond (test block) (free_in g image block) 0 ≡ free_where g image test
unfolding free_where
outside g image block test low =
    sum_but (λ b. cond (not (b == block) && test b) (free_in g image b) 0) (λ b. cond (test b) (free_in g image b) 0) block 0 g.blocks (omega arith) (omega arith)
    (rw (eq-eqb block block refl) refl)
    (λ q from to other. rw (ne_eqb q block other) refl)

-- no pages need no block
none_needed : (e n free : ℕ) → 0 < e → n ≡ 0 → ceil (n - free) e ≡ 0
none_needed e n free pos none = let le : ceil (n - free) e ≤ 0 = ceil-le (n - free) e 0 pos (omega arith) in omega (arith, le)

-- a block in use whose live pages find free entries outside it, as it is worth cleaning without a deleted entry
abbrev by_pages : Geometry → List ℕ → ℕ → Bool
by_pages g image block =
    not (is_free_block g image block)
    && cond (is_data_block g image block) (nat_le (data_in g image block) (free_outside g image block (takes_data g image))) (nat_le (index_in g image block) (free_outside g image block (holds_index g image)))

module _ (g : Geometry) (image : List ℕ) (block : ℕ) (t : IsTidy g image) (low : block < g.blocks) where
  -- the free entries for index pages outside a block that is for them
  index_left : is_free_block g image block ≡ false → is_data_block g image block ≡ false → free_outside g image block (takes_index g image) + free_in g image block ≡ free_of for_index (counts_of g image)
  unfolding takes_index
  index_left f d = let o = outside g image block (takes_index g image) low in let o' = rw (t.magic block low, f, d) at o in omega (arith, o', (tidy_counts_tell g image t).index_free)

  -- and for data pages
  data_left : is_data_block g image block ≡ true → is_index_block g image block ≡ false → free_outside g image block (takes_data g image) + free_in g image block ≡ free_of for_data (counts_of g image)
  unfolding takes_data
  data_left d j = let o = outside g image block (takes_data g image) low in let o' = rw (d, j) at o in omega (arith, o', (tidy_counts_tell g image t).data_free)

  -- a data block has none for index pages
  index_all : is_data_block g image block ≡ true → free_outside g image block (takes_index g image) ≡ free_of for_index (counts_of g image)
  unfolding takes_index
  index_all d = either (is_free_block g image block) refl
    where
      either : (b : Bool) → is_free_block g image block ≡ b → free_outside g image block (takes_index g image) ≡ free_of for_index (counts_of g image)
      either true f = let o = outside g image block (takes_index g image) low in let o' = rw (t.magic block low, f) at o in omega (arith, o', (tidy_counts_tell g image t).index_free)
      either false f = let o = outside g image block (takes_index g image) low in let o' = rw (t.magic block low, f, d) at o in omega (arith, o', (tidy_counts_tell g image t).index_free)

  -- those beside index pages, outside a block with an index page and no data page
  beside_left : is_data_block g image block ≡ false → 0 < index_in g image block → free_outside g image block (holds_index g image) + free_in g image block ≡ free_beside (counts_of g image)
  unfolding holds_index
  beside_left d some =
      let i : is_index_block g image block ≡ true = sym (index_is g image t block low) ∙ lt-ltb 0 (index_in g image block) some in
      let o = outside g image block (holds_index g image) low in
      let o' = rw (i, d) at o in omega (arith, o', (tidy_counts_tell g image t).beside)

  worth_to : Told g image block → is_worth g image block ≡ true → Worth (counts_of g image) (block_counts g image block)
  unfolding is_worth block_counts
  worth_to (told_free f d j k i p x) h = absurd (let bad : false ≡ true = rw (x, f) at h in cc)
  worth_to (told_index f d k p) h = rw k (⊎_elim
      (λ (some : nat_lt 0 (deleted_in g image block) ≡ true). inl (ltb-true 0 _ some))
      (λ (few : by_pages g image block ≡ true).
      let le = leb-true (index_in g image block) _ (rw (f, d) at few) in
      inr (⊎_elim
      (λ (some : 0 < index_in g image block). omega (arith, le, beside_left d some))
      (λ (none : index_in g image block ≤ 0). omega arith)
      (cases_lt 0 (index_in g image block))))
      (or_cases _ _ h))
  worth_to (told_data f d j k i) h = rw k (⊎_elim
      (λ (some : nat_lt 0 (deleted_in g image block) ≡ true). inl (ltb-true 0 _ some))
      (λ (few : by_pages g image block ≡ true).
      let le = leb-true (data_in g image block) _ (rw (f, d) at few) in
      inr (omega (arith, le, data_left d j)))
      (or_cases _ _ h))

  worth_from : Told g image block → Worth (counts_of g image) (block_counts g image block) → is_worth g image block ≡ true
  unfolding is_worth block_counts
  worth_from (told_free f d j k i p x) w = absurd (rw k at w)
  worth_from (told_index f d k p) w = ⊎_elim
      (λ (some : 0 < deleted_in g image block). or_left _ _ (lt-ltb 0 _ some))
      (λ (few : index_in g image block ≤ free_beside (counts_of g image) - free_in g image block). let rest : by_pages g image block ≡ true = rw (f, d) (le-leb (index_in g image block) _ (⊎_elim
      (λ (some : 0 < index_in g image block). omega (arith, few, beside_left d some))
      (λ (none : index_in g image block ≤ 0). omega arith)
      (cases_lt 0 (index_in g image block)))) in or_right (nat_lt 0 (deleted_in g image block)) _ rest)
      (rw k at w)
  worth_from (told_data f d j k i) w = ⊎_elim
      (λ (some : 0 < deleted_in g image block). or_left _ _ (lt-ltb 0 _ some))
      (λ (few : data_in g image block ≤ free_of for_data (counts_of g image) - free_in g image block). let rest : by_pages g image block ≡ true = rw (f, d) (le-leb (data_in g image block) _ (omega (arith, few, data_left d j))) in or_right (nat_lt 0 (deleted_in g image block)) _ rest)
      (rw k at w)

  fits_to : Told g image block → is_fitting g image block ≡ true → Fits (entries g) (counts_of g image) (block_counts g image block)
  unfolding is_fitting block_counts
  fits_to (told_free f d j k i p x) h = rw k tt
  fits_to (told_index f d k p) h =
      let le = leb-true _ _ (rw d at h) in
      let left : free_of for_index (counts_of g image) - free_in g image block ≡ free_outside g image block (takes_index g image) = omega (arith, index_left f d) in
      rw k (rw left (omega (arith, le, (tidy_counts_tell g image t).unused_blocks)))
  fits_to (told_data f d j k i) h =
      let le = leb-true _ _ (rw d at h) in
      let left : free_of for_data (counts_of g image) - free_in g image block ≡ free_outside g image block (takes_data g image) = omega (arith, data_left d j) in
      rw k (rw (left, sym (index_all d)) (omega (arith, le, (tidy_counts_tell g image t).unused_blocks)))

  fits_from : Told g image block → Fits (entries g) (counts_of g image) (block_counts g image block) → is_fitting g image block ≡ true
  unfolding is_fitting block_counts
  fits_from (told_free f d j k i p x) w =
      let a = none_needed (entries g) (index_in g image block) (free_outside g image block (takes_index g image)) (entries_pos g) i in
      let b = none_needed (entries g) (data_in g image block) (free_outside g image block (takes_data g image)) (entries_pos g) p in
      rw d (le-leb _ _ (omega (arith, a, b)))
  fits_from (told_index f d k p) w =
      let left : free_of for_index (counts_of g image) - free_in g image block ≡ free_outside g image block (takes_index g image) = omega (arith, index_left f d) in
      let le = rw (k, left) at w in
      let b = none_needed (entries g) (data_in g image block) (free_outside g image block (takes_data g image)) (entries_pos g) p in
      rw d (le-leb _ _ (omega (arith, le, b, (tidy_counts_tell g image t).unused_blocks)))
  fits_from (told_data f d j k i) w =
      let left : free_of for_data (counts_of g image) - free_in g image block ≡ free_outside g image block (takes_data g image) = omega (arith, data_left d j) in
      let le = rw (k, left, sym (index_all d)) at w in
      rw d (le-leb _ _ (omega (arith, le, (tidy_counts_tell g image t).unused_blocks)))

pub worth_is_tested : (g : Geometry) → WorthIsTested g
worth_is_tested g image block t low = (worth_to g image block t low (told g image t block low), worth_from g image block t low (told g image t block low))

pub fits_is_tested : (g : Geometry) → FitsIsTested g
fits_is_tested g image block t low = (fits_to g image block t low (told g image t block low), fits_from g image block t low (told g image t block low))

pub had_is_tested : (g : Geometry) → HadIsTested g
unfolding are_had
had_is_tested g image i d t =
    let s = tidy_counts_tell g image t in
    (λ h. rw (s.index_free, s.data_free, s.unused_blocks) (leb-true _ _ h), λ h. le-leb _ _ (rw (s.index_free, s.data_free, s.unused_blocks) at h))
