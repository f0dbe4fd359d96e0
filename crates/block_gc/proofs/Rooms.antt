-- The room of a block by its counts, and of all blocks, block after block.
use Rattle.std.proofs.Common.{◌≡◌, ℕ, zero, suc, ◌+◌, ◌-◌, ◌*◌, ◌<◌, ◌≤◌, ⊎_elim, List, [], ◌∷◌, Bool, true, false, not, nat_lt, ◌==◌, ◌&&◌, length, refl, ◌∙◌, arith, if◌then◌else◌}
use Rattle.std.specs.Prelude.{filter, sum_by}
use Rattle.std.specs.List.{range_with_len}
use Rattle.std.proofs.Math.Nat.{sub-zero}
use Rattle.std.proofs.lemmas.List.Sums.{sum_by-cons}
use Rattle.std.proofs.lemmas.Bool.{cases_Bool, lt-ltb, eq-eqb, ne_eqb}
use Rattle.geometry.specs.declared.geometry.Geometry.{Geometry}
use Rattle.geometry.specs.Numbers.{entries}
use Rattle.image_model.specs.Tidy.{IsTidy, is_free_block, free_blocks}
use Rattle.image_model.specs.Live.{live_at}
use Rattle.image_model.specs.Kinds.{is_index_page, is_data_block, is_index_block}
use Rattle.image_model.specs.Collect.{index_in, free_in, free_where, takes_index, takes_data, holds_index}
use Rattle.flash_view.specs.declared.counts.BlockCounts.{BlockCounts}
use Rattle.flash_view.specs.Counts.{AreCounts}
use Rattle.free_search.proofs.FreePages.{some_pass, data_none, index_none, data_some, free_counted, free_whole, used_less}
use Rattle.room_laws.proofs.Sorted.{tidy_tells_free}
use Rattle.block_gc.specs.declared.totals.Room.{Room}
use Rattle.block_gc.specs.Totals.{room_by, both, AtMost, IsRoom, AreTotals}

-- ---- what a block is, by its counts

above : (n : ℕ) (b : Bool) → (b ≡ false → n ≡ 0) → (b ≡ true → 0 < n) → (nat_lt 0 n ≡ b) × ((n == 0) ≡ not b)
above zero true none some = absurd (let h : 0 < 0 = some refl in omega (arith, h))
above zero false none some = (refl, refl)
above (suc n) true none some = (lt-ltb 0 (suc n) (omega arith), ne_eqb (suc n) 0 (λ e. omega (arith, e)))
above (suc n) false none some = absurd (let h : suc n ≡ 0 = none refl in omega (arith, h))

equal_if : (n m : ℕ) (b : Bool) → (b ≡ true → n ≡ m) → (b ≡ false → n < m) → (n == m) ≡ b
equal_if n m true same less = eq-eqb n m (same refl)
equal_if n m false same less = ne_eqb n m (λ e. let h : n < m = less refl in omega (arith, h, e))

index_some : (g : Geometry) (image : List ℕ) (block : ℕ) → is_index_block g image block ≡ true → 0 < index_in g image block
unfolding index_in is_index_block
index_some g image block some = some_pass (λ p. is_index_page (live_at g image p)) _ some

module _ (g : Geometry) (image : List ℕ) (block : ℕ) (c : BlockCounts) (counts : AreCounts g image block c) where
  pub data_is : (nat_lt 0 c.data_live ≡ is_data_block g image block) × ((c.data_live == 0) ≡ not (is_data_block g image block))
  data_is = above c.data_live (is_data_block g image block) (λ e. counts.pages ∙ data_none g image block e) (λ e. let h = data_some g image block e in omega (arith, h, counts.pages))

  index_is : (nat_lt 0 c.index_live ≡ is_index_block g image block) × ((c.index_live == 0) ≡ not (is_index_block g image block))
  index_is = above c.index_live (is_index_block g image block) (λ e. counts.index ∙ index_none g image block e) (λ e. let h = index_some g image block e in omega (arith, h, counts.index))

  module _ (tidy : IsTidy g image) (below : block < g.blocks) where
    free_is : c.free ≡ free_in g image block
    free_is = counts.free ∙ free_counted g image block (tidy_tells_free g image tidy) below

    pub block_is : (c.free == entries g) ≡ is_free_block g image block
    block_is = equal_if c.free (entries g) (is_free_block g image block) (λ e. free_is ∙ free_whole g image block e) (λ e. let h = used_less g image block (tidy.magic block below) e in omega (arith, h, free_is))

    index_for : ((c.data_live == 0) && not (c.free == entries g)) ≡ takes_index g image block
    unfolding takes_index
    index_for = rw (data_is.1, block_is, tidy.magic block below) (turned (is_data_block g image block) (is_free_block g image block))
      where
        turned : (a b : Bool) → (not a && not b) ≡ (not b && not a)
        turned true true = refl
        turned true false = refl
        turned false true = refl
        turned false false = refl

    pages_for : (nat_lt 0 c.data_live && (c.index_live == 0)) ≡ takes_data g image block
    unfolding takes_data
    pages_for = rw (data_is.0, index_is.1) refl

    beside_for : (nat_lt 0 c.index_live && (c.data_live == 0)) ≡ holds_index g image block
    unfolding holds_index
    beside_for = rw (index_is.0, data_is.1) refl

    pub room_is : IsRoom g image block (room_by c (entries g))
    room_is = record {
      index = rw (index_for, free_is) refl;
      pages = rw (pages_for, free_is) refl;
      beside = rw (beside_for, free_is) refl;
      blocks = rw block_is refl;
    }

-- ---- block after block

range_next : (p e : ℕ) → p < e → range_with_len p (e - p) ≡ p ∷ range_with_len (p + 1) (e - (p + 1))
range_next p e h = let n : e - p ≡ suc (e - (p + 1)) = omega arith in rw n refl

range_last : (p e : ℕ) → e ≤ p → range_with_len p (e - p) ≡ []
range_last p e h = let n : e - p ≡ 0 = omega arith in rw n refl

pub sum_more : (f : ℕ → ℕ) (p e total own all : ℕ) → p < e → total + sum_by f (range_with_len p (e - p)) ≡ all → own ≡ f p → total + own + sum_by f (range_with_len (p + 1) (e - (p + 1))) ≡ all
sum_more f p e total own all h was is = let step = rw (range_next p e h) at was in let first = sum_by-cons f p (range_with_len (p + 1) (e - (p + 1))) in omega (arith, step, first, is)

pub sum_end : (f : ℕ → ℕ) (p e total all : ℕ) → e ≤ p → total + sum_by f (range_with_len p (e - p)) ≡ all → total ≡ all
sum_end f p e total all h was = let step = rw (range_last p e h) at was in omega (arith, step)

pub count_more : (t : ℕ → Bool) (p e total own all : ℕ) → p < e → total + length (filter t (range_with_len p (e - p))) ≡ all → own ≡ (if t p then 1 else 0) → total + own + length (filter t (range_with_len (p + 1) (e - (p + 1)))) ≡ all
count_more t p e total own all h was is =
    ⊎_elim
    (λ (yes : t p ≡ true). let step = rw (range_next p e h, yes) at was in let one : own ≡ 1 = rw yes at is in omega (arith, step, one))
    (λ (no : t p ≡ false). let step = rw (range_next p e h, no) at was in let none : own ≡ 0 = rw no at is in omega (arith, step, none))
    (cases_Bool (t p))

pub count_end : (t : ℕ → Bool) (p e total all : ℕ) → e ≤ p → total + length (filter t (range_with_len p (e - p))) ≡ all → total ≡ all
count_end t p e total all h was = let step = rw (range_last p e h) at was in omega (arith, step)

-- the room of the blocks so far, and of those to come, is that of all
pub record Summing (g : Geometry) (image : List ℕ) (p e : ℕ) (r : Room) : Type 0 where
  pub index : r.index + sum_by (λ b. if takes_index g image b then free_in g image b else 0) (range_with_len p (e - p)) ≡ free_where g image (takes_index g image)
  pub pages : r.pages + sum_by (λ b. if takes_data g image b then free_in g image b else 0) (range_with_len p (e - p)) ≡ free_where g image (takes_data g image)
  pub beside : r.beside + sum_by (λ b. if holds_index g image b then free_in g image b else 0) (range_with_len p (e - p)) ≡ free_where g image (holds_index g image)
  pub blocks : r.blocks + length (filter (λ b. is_free_block g image b) (range_with_len p (e - p))) ≡ free_blocks g image

pub summing_start : (g : Geometry) (image : List ℕ) (e : ℕ) (r : Room) → e ≡ g.blocks → r.index ≡ 0 → r.pages ≡ 0 → r.beside ≡ 0 → r.blocks ≡ 0 → Summing g image 0 e r
unfolding free_where free_blocks
summing_start g image e r at i d b n = record {
  index = rw (i, at, sub-zero g.blocks) (omega arith);
  pages = rw (d, at, sub-zero g.blocks) (omega arith);
  beside = rw (b, at, sub-zero g.blocks) (omega arith);
  blocks = rw (n, at, sub-zero g.blocks) (omega arith);
}

pub summing_more : (g : Geometry) (image : List ℕ) (p e : ℕ) (r own : Room) → p < e → Summing g image p e r → IsRoom g image p own → Summing g image (p + 1) e (both r own)
summing_more g image p e r own h was is = record {
  index = sum_more (λ b. if takes_index g image b then free_in g image b else 0) p e _ _ _ h was.index is.index;
  pages = sum_more (λ b. if takes_data g image b then free_in g image b else 0) p e _ _ _ h was.pages is.pages;
  beside = sum_more (λ b. if holds_index g image b then free_in g image b else 0) p e _ _ _ h was.beside is.beside;
  blocks = count_more (λ b. is_free_block g image b) p e _ _ _ h was.blocks is.blocks;
}

pub summing_end : (g : Geometry) (image : List ℕ) (p e : ℕ) (r : Room) → e ≤ p → Summing g image p e r → AreTotals g image r
summing_end g image p e r h was = record {
  index = sum_end (λ b. if takes_index g image b then free_in g image b else 0) p e _ _ h was.index;
  pages = sum_end (λ b. if takes_data g image b then free_in g image b else 0) p e _ _ h was.pages;
  beside = sum_end (λ b. if holds_index g image b then free_in g image b else 0) p e _ _ h was.beside;
  blocks = count_end (λ b. is_free_block g image b) p e _ _ h was.blocks;
}

pub most_more : (p : ℕ) (r own : Room) → AtMost (65535 * p) r → AtMost 65535 own → AtMost (65535 * (p + 1)) (both r own)
most_more p r own was is = record {
  index = omega (arith, was.index, is.index);
  pages = omega (arith, was.pages, is.pages);
  beside = omega (arith, was.beside, is.beside);
  blocks = omega (arith, was.blocks, is.blocks);
}

-- with at most 65,534 blocks behind, another fits 32 bits
pub most_below : (p : ℕ) (r : Room) → p < 65535 → AtMost (65535 * p) r → AtMost 4294836225 r
most_below p r h was = record {
  index = omega (arith, was.index);
  pages = omega (arith, was.pages);
  beside = omega (arith, was.beside);
  blocks = omega (arith, was.blocks);
}
