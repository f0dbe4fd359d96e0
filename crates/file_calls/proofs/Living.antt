-- The live pages of a tidy image, block after block.
use Rattle.std.proofs.Common.{◌≡◌, ℕ, ◌+◌, ◌-◌, ◌<◌, ◌≤◌, ◌==◌, Bool, true, false, List, length, refl, sym, ◌∙◌, arith, if◌then◌else◌}
use Rattle.std.specs.Prelude.{sum_by, filter}
use Rattle.std.specs.List.{range_with_len}
use Rattle.std.proofs.Math.Nat.{sub-zero}
use Rattle.std.proofs.lemmas.List.FromFn.{length-range_with_len}
use Rattle.geometry.specs.declared.geometry.Geometry.{Geometry}
use Rattle.geometry.specs.Numbers.{page_count, entries}
use Rattle.geometry.proofs.Bounds.{few_pages}
use Rattle.image_model.specs.Live.{live_at}
use Rattle.image_model.specs.Kinds.{is_index_page, is_data_page, live_index, live_data}
use Rattle.image_model.specs.Collect.{index_in, data_in}
use Rattle.image_model.specs.Tidy.{IsTidy, is_free_block, free_blocks}
use Rattle.room_laws.specs.Volume.{index_total, pages_total}
use Rattle.room_laws.specs.Counting.{block_counts, counts_of}
use Rattle.room_laws.proofs.Tallies.{total_map, tidy_counts_tell}
use Rattle.flash_view.specs.declared.counts.BlockCounts.{BlockCounts}
use Rattle.flash_view.specs.Counts.{AreCounts}
use Rattle.free_search.proofs.FreePages.{few_pass}
use Rattle.free_search.specs.Summed.{AreSumsOf}
use Rattle.flash_view.specs.declared.sums.Sums.{Sums}
use Rattle.block_gc.proofs.Rooms.{sum_more, sum_end, count_more, count_end, block_is}
use Rattle.file_calls.specs.declared.live_pages.LivePages.{LivePages}
use Rattle.file_calls.specs.Pages.{AreSums}

-- those so far and those to come, of each kind
pub record Living (g : Geometry) (image : List ℕ) (p e : ℕ) (n : LivePages) : Type 0 where
  pub index : n.index_pages + sum_by (λ b. index_in g image b) (range_with_len p (e - p)) ≡ live_index g image
  pub pages : n.data_pages + sum_by (λ b. data_in g image b) (range_with_len p (e - p)) ≡ live_data g image
  pub free : n.free_blocks + length (filter (λ b. is_free_block g image b) (range_with_len p (e - p))) ≡ free_blocks g image

-- a block counts as one at most
pub at_most_one : (b : Bool) → (if b then 1 else 0) ≤ 1
at_most_one true = omega arith
at_most_one false = omega arith

-- all are in blocks
index_sum : (g : Geometry) (image : List ℕ) → IsTidy g image → sum_by (λ b. index_in g image b) (range_with_len 0 g.blocks) ≡ live_index g image
unfolding index_total counts_of block_counts
index_sum g image t = sym (total_map (λ c. c.index) (block_counts g image) (range_with_len 0 g.blocks)) ∙ (tidy_counts_tell g image t).index

pages_sum : (g : Geometry) (image : List ℕ) → IsTidy g image → sum_by (λ b. data_in g image b) (range_with_len 0 g.blocks) ≡ live_data g image
unfolding pages_total counts_of block_counts
pages_sum g image t = sym (total_map (λ c. c.pages) (block_counts g image) (range_with_len 0 g.blocks)) ∙ (tidy_counts_tell g image t).pages

-- they are few
few_index : (g : Geometry) (image : List ℕ) → live_index g image ≤ 65535
unfolding live_index
few_index g image = let few = few_pass (λ p. is_index_page (live_at g image p)) (range_with_len 0 (page_count g)) in let size = length-range_with_len 0 (page_count g) in omega (arith, few, size, few_pages g)

few_data : (g : Geometry) (image : List ℕ) → live_data g image ≤ 65535
unfolding live_data
few_data g image = let few = few_pass (λ p. is_data_page (live_at g image p)) (range_with_len 0 (page_count g)) in let size = length-range_with_len 0 (page_count g) in omega (arith, few, size, few_pages g)

pub living_start : (g : Geometry) (image : List ℕ) (e : ℕ) (n : LivePages) → IsTidy g image → e ≡ g.blocks → n.index_pages ≡ 0 → n.data_pages ≡ 0 → n.free_blocks ≡ 0 → Living g image 0 e n
unfolding free_blocks
living_start g image e n t at i d none =
    let index : sum_by (λ b. index_in g image b) (range_with_len 0 (e - 0)) ≡ live_index g image = rw (at, sub-zero g.blocks) (index_sum g image t) in
    let pages : sum_by (λ b. data_in g image b) (range_with_len 0 (e - 0)) ≡ live_data g image = rw (at, sub-zero g.blocks) (pages_sum g image t) in
    record { index = omega (arith, i, index); pages = omega (arith, d, pages); free = rw (none, at, sub-zero g.blocks) (omega arith) }

-- one block more
pub living_more : (g : Geometry) (image : List ℕ) (p e : ℕ) (n m : LivePages) (c : BlockCounts) → IsTidy g image → e ≡ g.blocks → p < e → Living g image p e n → AreCounts g image p c → (n.index_pages + c.index_live ≤ 65535 → m.index_pages ≡ n.index_pages + c.index_live) →
    (n.data_pages + c.data_live ≤ 65535 → m.data_pages ≡ n.data_pages + c.data_live) → m.free_blocks ≡ n.free_blocks + (if c.free == entries g then 1 else 0) → Living g image (p + 1) e m
living_more g image p e n m c tidy at less was counts index pages free =
    let i = sum_more (λ b. index_in g image b) p e n.index_pages c.index_live (live_index g image) less was.index counts.index in
    let d = sum_more (λ b. data_in g image b) p e n.data_pages c.data_live (live_data g image) less was.pages counts.pages in
    let to_index : m.index_pages ≡ n.index_pages + c.index_live = index (omega (arith, i, few_index g image)) in
    let to_pages : m.data_pages ≡ n.data_pages + c.data_live = pages (omega (arith, d, few_data g image)) in
    let own : (if c.free == entries g then 1 else 0) ≡ (if is_free_block g image p then 1 else 0) = rw (block_is g image p c counts tidy (omega (arith, less, at))) refl in
    record {
      index = omega (arith, i, to_index);
      pages = omega (arith, d, to_pages);
      free = rw free (count_more (λ b. is_free_block g image b) p e n.free_blocks _ (free_blocks g image) less was.free own);
    }

pub living_end : (g : Geometry) (image : List ℕ) (p e : ℕ) (n : LivePages) → e ≤ p → Living g image p e n → AreSums g image n
living_end g image p e n all was = record {
  index = sum_end (λ b. index_in g image b) p e n.index_pages (live_index g image) all was.index;
  pages = sum_end (λ b. data_in g image b) p e n.data_pages (live_data g image) all was.pages;
  free = count_end (λ b. is_free_block g image b) p e n.free_blocks (free_blocks g image) all was.free;
}

-- they are those that are kept
pub living_kept : (g : Geometry) (image : List ℕ) (s : Sums) (n : LivePages) → IsTidy g image → AreSumsOf g image s → n.index_pages ≡ s.index_live → n.data_pages ≡ s.data_live → n.free_blocks ≡ s.blocks → AreSums g image n
living_kept g image s n tidy kept index pages free = record {
  index = index ∙ kept.index_live ∙ index_sum g image tidy;
  pages = pages ∙ kept.data_live ∙ pages_sum g image tidy;
  free = free ∙ kept.blocks;
}
