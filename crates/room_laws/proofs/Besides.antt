-- What the counts of all blocks but one add up to.
use Rattle.std.proofs.Common.{◌≡◌, ℕ, suc, ◌+◌, ◌<◌, List, ◌∷◌, length, Bool, not, cond, ◌==◌, ◌&&◌, slice_index_or, refl, sym, ◌∙◌, subst, arith}
use Rattle.std.specs.Prelude.{All, Contains}
use Rattle.std.proofs.lemmas.Bool.{eq-eqb, ne_eqb}
use Rattle.std.proofs.lemmas.List.FromFn.{length-map-range_with_len, get_or-map-range_with_len}
use Rattle.geometry.specs.declared.geometry.Geometry.{Geometry}
use Rattle.geometry.specs.Numbers.{entries}
use Rattle.image_model.specs.Tidy.{IsTidy, is_free_block, free_blocks}
use Rattle.image_model.specs.Kinds.{live_index, live_data, is_data_block}
use Rattle.image_model.specs.Collect.{index_in, data_in, deleted_in}
use Rattle.room_laws.specs.Counts.{Counts, IsBlock, unused, for_index, for_data, if_kind}
use Rattle.room_laws.specs.Volume.{total, IsVolume, blocks_of, deleted_of, index_total, pages_total}
use Rattle.room_laws.specs.Counting.{block_counts, counts_of, deleted_where}
use Rattle.room_laws.specs.Order.{without, Rearranged}
use Rattle.room_laws.proofs.Ranges.{sum_but}
use Rattle.room_laws.proofs.Orders.{to_front, same-at}
use Rattle.room_laws.proofs.Blocks.{Told, told}
use Rattle.room_laws.proofs.Tallies.{tidy_counts_tell, tidy_is_volume, is_unused, index_lost, data_lost, index_counted, pages_counted}

-- the counts of all blocks but one
abbrev pub others_of : Geometry → List ℕ → ℕ → List Counts
others_of g image block = without block (counts_of g image)

all_front : (P : Counts → Type 0) (a b : List Counts) → Rearranged a b → All P b → All P a
all_front P a b r all k d low =
    let is : Contains a (slice_index_or a k d) = (k, low, same-at a k (slice_index_or a k d) d low) in
    let w = r.blocks (slice_index_or a k d) is in
    subst P w.2 (all w.0 (slice_index_or a k d) w.1)

pub front : (g : Geometry) (image : List ℕ) (block : ℕ) → block < g.blocks → Rearranged (block_counts g image block ∷ others_of g image block) (counts_of g image)
unfolding counts_of
front g image block low =
    let size = length-map-range_with_len (block_counts g image) 0 g.blocks in
    to_front (counts_of g image) block (block_counts g image block) (omega (arith, size, low)) (get_or-map-range_with_len (block_counts g image) 0 g.blocks block block (block_counts g image block) low (omega arith))

pub front_volume : (g : Geometry) (image : List ℕ) (block : ℕ) → block < g.blocks → IsTidy g image → IsVolume (entries g) (block_counts g image block ∷ others_of g image block)
front_volume g image block low t =
    let v = tidy_is_volume g image t in
    record { entries = v.entries; blocks = all_front (IsBlock (entries g)) (block_counts g image block ∷ others_of g image block) (counts_of g image) (front g image block low) v.blocks }

-- the deleted entries beside a block
deleted_outside_of : (g : Geometry) (image : List ℕ) (block : ℕ) (test : ℕ → Bool) → block < g.blocks → deleted_where g image (λ other. not (other == block) && test other) + cond (test block) (deleted_in g image block) 0 ≡ deleted_where g image test
unfolding deleted_where
deleted_outside_of g image block test low =
    sum_but (λ b. cond (not (b == block) && test b) (deleted_in g image b) 0) (λ b. cond (test b) (deleted_in g image b) 0) block 0 g.blocks (omega arith) (omega arith)
    (rw (eq-eqb block block refl) refl)
    (λ q from to other. rw (ne_eqb q block other) refl)

-- the deleted entries of the data blocks beside a block, and those of all others beside it
abbrev data_deleted_beside : Geometry → List ℕ → ℕ → ℕ
data_deleted_beside g image block = deleted_where g image (λ other. not (other == block) && is_data_block g image other)

abbrev index_deleted_beside : Geometry → List ℕ → ℕ → ℕ
index_deleted_beside g image block = deleted_where g image (λ other. not (other == block) && not (is_data_block g image other))

-- they add up to what the image holds beside the block
pub record OthersTell (g : Geometry) (image : List ℕ) (block : ℕ) : Type 0 where
  pub long : suc (length (others_of g image block)) ≡ g.blocks
  pub index : index_in g image block + index_total (others_of g image block) ≡ live_index g image
  pub pages : data_in g image block + pages_total (others_of g image block) ≡ live_data g image
  pub unused_blocks : cond (is_free_block g image block) 1 0 + blocks_of unused (others_of g image block) ≡ free_blocks g image
  pub index_deleted : deleted_of for_index (others_of g image block) ≡ index_deleted_beside g image block
  pub data_deleted : deleted_of for_data (others_of g image block) ≡ data_deleted_beside g image block

module _ (g : Geometry) (image : List ℕ) (block : ℕ) (t : IsTidy g image) (low : block < g.blocks) where
  sum_parts : (f : Counts → ℕ) → total f (counts_of g image) ≡ f (block_counts g image block) + total f (others_of g image block)
  sum_parts f = (front g image block low).totals f

  sort : Told g image block
  sort = told g image t block low

  index_part : index_in g image block + index_total (others_of g image block) ≡ live_index g image
  unfolding index_total
  index_part = let all = sum_parts (λ c. c.index) in let whole = (tidy_counts_tell g image t).index in omega (arith, all, whole, index_counted g image block)

  pages_part : data_in g image block + pages_total (others_of g image block) ≡ live_data g image
  unfolding pages_total
  pages_part = let all = sum_parts (λ c. c.pages) in let whole = (tidy_counts_tell g image t).pages in omega (arith, all, whole, pages_counted g image block)

  unused_part : cond (is_free_block g image block) 1 0 + blocks_of unused (others_of g image block) ≡ free_blocks g image
  unfolding blocks_of
  unused_part = let all = sum_parts (λ c. if_kind unused c 1) in let whole = (tidy_counts_tell g image t).unused_blocks in omega (arith, all, whole, is_unused g image block sort)

  index_deleted_part : deleted_of for_index (others_of g image block) ≡ index_deleted_beside g image block
  unfolding deleted_of
  index_deleted_part =
      let all = sum_parts (λ c. if_kind for_index c c.deleted) in
      let whole = (tidy_counts_tell g image t).index_deleted in
      omega (arith, all, whole, index_lost g image block sort, deleted_outside_of g image block (λ b. not (is_data_block g image b)) low)

  data_deleted_part : deleted_of for_data (others_of g image block) ≡ data_deleted_beside g image block
  unfolding deleted_of
  data_deleted_part =
      let all = sum_parts (λ c. if_kind for_data c c.deleted) in
      let whole = (tidy_counts_tell g image t).data_deleted in
      omega (arith, all, whole, data_lost g image block sort, deleted_outside_of g image block (λ b. is_data_block g image b) low)

  pub others_tell : OthersTell g image block
  others_tell = record {
    long = sym (front g image block low).long ∙ (tidy_counts_tell g image t).blocks;
    index = index_part;
    pages = pages_part;
    unused_blocks = unused_part;
    index_deleted = index_deleted_part;
    data_deleted = data_deleted_part;
  }
