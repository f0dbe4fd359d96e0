-- Whether a block is worth cleaning, whether it fits, and its score, by its counts and the room of all blocks.
use Rattle.std.proofs.Common.{◌≡◌, ℕ, zero, suc, ◌+◌, ◌-◌, ◌<◌, ◌≤◌, ⊎_elim, List, Bool, true, false, not, nat_lt, ◌==◌, ◌&&◌, refl, ◌∙◌, ap, arith, if◌then◌else◌}
use Rattle.std.specs.Prelude.{sum_by}
use Rattle.std.specs.List.{range_with_len}
use Rattle.std.proofs.lemmas.List.Sums.{sum_by-cons}
use Rattle.std.proofs.lemmas.Bool.{cases_eq, eq-eqb, ne_eqb}
use Rattle.geometry.specs.declared.geometry.Geometry.{Geometry}
use Rattle.geometry.specs.Numbers.{entries}
use Rattle.table_model.proofs.Sums.{sum_alike}
use Rattle.image_model.specs.Places.{next_count}
use Rattle.image_model.specs.Tidy.{IsTidy, is_free_block}
use Rattle.image_model.specs.Collect.{free_in, free_where, free_outside, takes_index, takes_data, holds_index, is_worth, is_fitting, score}
use Rattle.flash_view.specs.declared.counts.BlockCounts.{BlockCounts}
use Rattle.flash_view.specs.Counts.{AreCounts}
use Rattle.block_gc.specs.declared.totals.Room.{Room}
use Rattle.block_gc.specs.declared.choice.Bests.{Bests}
use Rattle.block_gc.specs.Totals.{score_by, room_by, worth_by, fits_by, AreTotals}
use Rattle.block_gc.specs.Best.{bests_by, bests_with}
use Rattle.block_gc.proofs.Rooms.{room_is, data_is}

-- ---- the free entries outside a block

sum_but : (f h : ℕ → ℕ) (k a n : ℕ) → a ≤ k → k < a + n → f k ≡ 0 → ((q : ℕ) → (q ≡ k → ⊥) → f q ≡ h q) → sum_by f (range_with_len a n) + h k ≡ sum_by h (range_with_len a n)
sum_but f h k a zero low high none same = absurd (omega arith)
sum_but f h k a (suc n) low high none same =
    let left = sum_by-cons f a (range_with_len (a + 1) n) in
    let right = sum_by-cons h a (range_with_len (a + 1) n) in
    ⊎_elim
    (λ (here : a ≡ k).
    let rest = sum_alike f h (a + 1) n (λ q more below. same q (λ e. omega (arith, e, here, more))) in
    let f_none : f a ≡ 0 = ap f here ∙ none in
    let h_same : h a ≡ h k = ap h here in
    omega (arith, rest, left, right, f_none, h_same))
    (λ (there : a ≡ k → ⊥).
    let rest = sum_but f h k (a + 1) n (omega (arith, there)) (omega arith) none same in
    let first = same a there in
    omega (arith, rest, left, right, first))
    (cases_eq a k)

pub outside : (g : Geometry) (image : List ℕ) (block : ℕ) (test : ℕ → Bool) → block < g.blocks → free_outside g image block test + (if test block then free_in g image block else 0) ≡ free_where g image test
unfolding free_where
outside g image block test below =
    sum_but
    (λ b. if not (b == block) && test b then free_in g image b else 0)
    (λ b. if test b then free_in g image b else 0)
    block
    0
    g.blocks
    (omega arith)
    (omega arith)
    (rw (eq-eqb block block refl) refl)
    (λ q other. rw (ne_eqb q block other) refl)

left_over : (all own rest share whole : ℕ) → all ≡ whole → own ≡ share → rest + share ≡ whole → all - own ≡ rest
left_over all own rest share whole a b e = omega arith

-- ---- a block among all

one_if : (b : Bool) → nat_lt 0 (if b then 1 else 0) ≡ b
one_if true = refl
one_if false = refl

pub score_is : (g : Geometry) (image : List ℕ) (block next : ℕ) (c : BlockCounts) → AreCounts g image block c → next ≡ next_count g image → score_by c next ≡ score g image block
unfolding score
score_is g image block next c counts is = rw (is, counts.deleted, counts.erases, counts.index, counts.pages) refl

module _ (g : Geometry) (image : List ℕ) (block : ℕ) (c : BlockCounts) (all : Room) (tidy : IsTidy g image) (below : block < g.blocks) (counts : AreCounts g image block c) (totals : AreTotals g image all) where
  index_left : all.index - (room_by c (entries g)).index ≡ free_outside g image block (takes_index g image)
  index_left = left_over all.index _ _ _ _ totals.index (room_is g image block c counts tidy below).index (outside g image block (takes_index g image) below)

  pages_left : all.pages - (room_by c (entries g)).pages ≡ free_outside g image block (takes_data g image)
  pages_left = left_over all.pages _ _ _ _ totals.pages (room_is g image block c counts tidy below).pages (outside g image block (takes_data g image) below)

  beside_left : all.beside - (room_by c (entries g)).beside ≡ free_outside g image block (holds_index g image)
  beside_left = left_over all.beside _ _ _ _ totals.beside (room_is g image block c counts tidy below).beside (outside g image block (holds_index g image) below)

  free_left : nat_lt 0 (room_by c (entries g)).blocks ≡ is_free_block g image block
  free_left = ap (λ (n : ℕ). nat_lt 0 n) (room_is g image block c counts tidy below).blocks ∙ one_if (is_free_block g image block)

  pub worth_is : worth_by c all (room_by c (entries g)) ≡ is_worth g image block
  unfolding is_worth
  worth_is = rw (free_left, pages_left, beside_left, (data_is g image block c counts).0, counts.pages, counts.index, counts.deleted) refl

  pub fits_is : fits_by g c all (room_by c (entries g)) ≡ is_fitting g image block
  unfolding is_fitting
  fits_is = rw (index_left, pages_left, (data_is g image block c counts).0, counts.pages, counts.index, totals.blocks) refl

  pub bests_are : (next : ℕ) (bests : Bests) → next ≡ next_count g image → bests_by g c all next bests block ≡ bests_with g image bests block
  bests_are next bests is = rw (worth_is, fits_is, score_is g image block next c counts is, (data_is g image block c counts).1) refl
