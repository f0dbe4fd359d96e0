-- What the counts of a tidy image add up to.
use Rattle.std.proofs.Common.{◌≡◌, ℕ, zero, suc, ◌+◌, ◌*◌, ◌<◌, ◌≤◌, List, [], ◌∷◌, length, Bool, true, false, not, cond, nat_lt, ◌==◌, ◌&&◌, Option, Some, refl, sym, ◌∙◌, arith}
use Rattle.std.specs.Prelude.{filter, map, sum_by}
use Rattle.std.specs.List.{range_with_len}
use Rattle.std.proofs.Math.Nat.{mul-le-mul_right}
use Rattle.std.proofs.lemmas.Bool.{and_parts, eqb-true, eq-eqb, lt-ltb, false_from_ne_true}
use Rattle.std.proofs.lemmas.List.Sums.{sum_by-cons, length-filter}
use Rattle.std.proofs.lemmas.List.FromFn.{length-map-range_with_len, get_or-map-range_with_len}
use Rattle.geometry.specs.declared.geometry.Geometry.{Geometry}
use Rattle.geometry.specs.Numbers.{page_count, per_block, lookups, entries}
use Rattle.image_model.specs.Places.{block_of, has_magic}
use Rattle.image_model.specs.Live.{live_at}
use Rattle.image_model.specs.Tidy.{IsTidy, is_free_block, free_blocks}
use Rattle.image_model.specs.Kinds.{is_index_page, is_data_page, live_index, live_data, is_index_block, is_data_block, data_blocks, is_other_block, other_blocks}
use Rattle.image_model.specs.Collect.{index_in, data_in, deleted_in, free_in, free_where, takes_index, takes_data, holds_index}
use Rattle.image_model.specs.Within.{sizes, block_number, entry_in, entry_of_block}
use Rattle.image_laws.proofs.Frames.{live_parts}
use Rattle.image_laws.proofs.Matching.{sum-range}
use Rattle.image_laws.proofs.Serving.{some_of, some_of_data}
use Rattle.room_laws.specs.Counts.{Counts, unused, for_index, for_data, if_kind, if_any}
use Rattle.room_laws.specs.Volume.{total, blocks_of, free_of, deleted_of, index_total, pages_total, free_beside}
use Rattle.room_laws.specs.Counting.{block_counts, counts_of, deleted_where, TidyIsVolume, TidyCountsTell}
use Rattle.room_laws.proofs.Ranges.{count_within, count_by_block}
use Rattle.room_laws.proofs.Blocks.{Told, told_free, told_index, told_data, told, counts_are, index_is}

pub total_map : (f : Counts → ℕ) (h : ℕ → Counts) (xs : List ℕ) → total f (map h xs) ≡ sum_by (λ b. f (h b)) xs
total_map f h [] = refl
total_map f h (x ∷ xs) = let a = sum_by-cons (λ b. f (h b)) x xs in let rest = total_map f h xs in omega (arith, a, rest)

-- a number of each block's counts is a number of the block
sum_as : (f : Counts → ℕ) (g : Geometry) (image : List ℕ) (h : ℕ → ℕ) → ((b : ℕ) → b < g.blocks → f (block_counts g image b) ≡ h b) → total f (counts_of g image) ≡ sum_by h (range_with_len 0 g.blocks)
unfolding counts_of
sum_as f g image h same =
    total_map f (block_counts g image) (range_with_len 0 g.blocks)
    ∙ sum-range (λ (b : ℕ). f (block_counts g image b)) h 0 g.blocks (λ q low high. same q (omega arith))

pub entries_pos : (g : Geometry) → 0 < entries g
unfolding entries
entries_pos g = let fits : lookups g < per_block g = (sizes g).lookups_fit in omega arith

and_same : (x y : Bool) → y ≡ true → (x && y) ≡ x
and_same true y h = h
and_same false y h = refl

pub free_counted : (g : Geometry) (image : List ℕ) (b : ℕ) → (block_counts g image b).free ≡ free_in g image b
unfolding block_counts
free_counted g image b = refl

pub index_counted : (g : Geometry) (image : List ℕ) (b : ℕ) → (block_counts g image b).index ≡ index_in g image b
unfolding block_counts
index_counted g image b = refl

pub pages_counted : (g : Geometry) (image : List ℕ) (b : ℕ) → (block_counts g image b).pages ≡ data_in g image b
unfolding block_counts
pages_counted g image b = refl

pub deleted_counted : (g : Geometry) (image : List ℕ) (b : ℕ) → (block_counts g image b).deleted ≡ deleted_in g image b
unfolding block_counts
deleted_counted g image b = refl

if_any_is : (n m : ℕ) → if_any n m ≡ cond (nat_lt 0 n) m 0
if_any_is zero m = refl
if_any_is (suc n) m = rw (lt-ltb 0 (suc n) (omega arith)) refl

none_either : (b : Bool) (n : ℕ) → n ≡ 0 → cond b n n ≡ 0
none_either true n h = h
none_either false n h = h

and_true : (b : Bool) (n : ℕ) → cond b n 0 ≡ cond (b && true) n 0
and_true true n = refl
and_true false n = refl

module _ (g : Geometry) (image : List ℕ) where
  -- the live pages of a kind, by the block that each lies in
  module _ (k : Option (List ℕ) → Bool) (some : (o : Option (List ℕ)) → k o ≡ true → (x : List ℕ) × (o ≡ Some x)) where
    block_end : (b : ℕ) → b < g.blocks → b * per_block g + lookups g + entries g ≤ page_count g
    unfolding entries page_count
    block_end b low = let m : (b + 1) * per_block g ≤ g.blocks * per_block g = mul-le-mul_right (per_block g) (omega arith) in let fits : lookups g < per_block g = (sizes g).lookups_fit in omega (arith, m, fits)

    -- a page that passes lies among the entry pages of its block
    lies_in : (b q : ℕ) → (k (live_at g image q) && (block_of g q == b)) ≡ true → (b * per_block g + lookups g ≤ q) × (q < b * per_block g + lookups g + entries g)
    lies_in b q passes =
        let v : (k (live_at g image q) ≡ true) × ((block_of g q == b) ≡ true) = and_parts _ _ passes in
        let x = some (live_at g image q) v.0 in
        let at : block_of g q ≡ b = eqb-true _ b v.1 in
        rw at at (entry_of_block g q (live_parts g image q x.0 x.1).entry_page)

    in_block : (b : ℕ) → b < g.blocks → length (filter (λ p. k (live_at g image p) && (block_of g p == b)) (range_with_len 0 (page_count g))) ≡ length (filter (λ p. k (live_at g image p)) (range_with_len (b * per_block g + lookups g) (entries g)))
    in_block b low =
        count_within (λ p. k (live_at g image p)) (λ p. k (live_at g image p) && (block_of g p == b)) (b * per_block g + lookups g) (entries g) (page_count g) (block_end b low)
        (λ q less. false_from_ne_true _ (λ yes. let w = lies_in b q yes in absurd (omega (arith, w.0, less))))
        (λ q more within. false_from_ne_true _ (λ yes. let w = lies_in b q yes in absurd (omega (arith, w.1, more))))
        (λ q from to. and_same (k (live_at g image q)) (block_of g q == b) (eq-eqb _ b (entry_in g b q low from to).0))

    by_blocks : length (filter (λ p. k (live_at g image p)) (range_with_len 0 (page_count g))) ≡ sum_by (λ b. length (filter (λ p. k (live_at g image p)) (range_with_len (b * per_block g + lookups g) (entries g)))) (range_with_len 0 g.blocks)
    by_blocks =
        count_by_block (λ (p : ℕ). k (live_at g image p)) (λ (p : ℕ). block_of g p) (page_count g) g.blocks (λ p low passes. block_number g p low)
        ∙ sum-range _ _ 0 g.blocks (λ b low high. in_block b (omega arith))

  index_adds : index_total (counts_of g image) ≡ live_index g image
  unfolding index_total live_index index_in block_counts
  index_adds = sum_as (λ c. c.index) g image (λ b. index_in g image b) (λ b low. refl) ∙ sym (by_blocks is_index_page some_of)

  pages_add : pages_total (counts_of g image) ≡ live_data g image
  unfolding pages_total live_data data_in block_counts
  pages_add = sum_as (λ c. c.pages) g image (λ b. data_in g image b) (λ b low. refl) ∙ sym (by_blocks is_data_page some_of_data)

  pub blocks_are : length (counts_of g image) ≡ g.blocks
  unfolding counts_of
  blocks_are = length-map-range_with_len (block_counts g image) 0 g.blocks

  -- by its sort, what a block of a tidy image adds
  module _ (b : ℕ) where
    pub is_unused : Told g image b → if_kind unused (block_counts g image b) 1 ≡ cond (is_free_block g image b) 1 0
    is_unused (told_free f d j k i p x) = rw (f, k) refl
    is_unused (told_index f d k p) = rw (f, k) refl
    is_unused (told_data f d j k i) = rw (f, k) refl

    pub is_index : Told g image b → if_kind for_index (block_counts g image b) 1 ≡ cond (is_other_block g image b) 1 0
    is_index (told_free f d j k i p x) = rw (f, k) refl
    is_index (told_index f d k p) = rw (f, d, k) refl
    is_index (told_data f d j k i) = rw (f, d, k) refl

    pub is_data : Told g image b → if_kind for_data (block_counts g image b) 1 ≡ cond (is_data_block g image b) 1 0
    is_data (told_free f d j k i p x) = rw (d, k) refl
    is_data (told_index f d k p) = rw (d, k) refl
    is_data (told_data f d j k i) = rw (d, k) refl

    pub index_room : has_magic g image b ≡ true → Told g image b → if_kind for_index (block_counts g image b) (block_counts g image b).free ≡ cond (takes_index g image b) (free_in g image b) 0
    unfolding takes_index
    index_room m (told_free f d j k i p x) = rw (m, f, k) refl
    index_room m (told_index f d k p) = rw (m, f, d, k) (free_counted g image b)
    index_room m (told_data f d j k i) = rw (m, f, d, k) refl

    pub data_room : Told g image b → if_kind for_data (block_counts g image b) (block_counts g image b).free ≡ cond (takes_data g image b) (free_in g image b) 0
    unfolding takes_data
    data_room (told_free f d j k i p x) = rw (d, k) refl
    data_room (told_index f d k p) = rw (d, k) refl
    data_room (told_data f d j k i) = rw (d, j, k) (free_counted g image b)

    beside_room : nat_lt 0 (index_in g image b) ≡ is_index_block g image b → Told g image b → if_any (block_counts g image b).index (if_kind for_index (block_counts g image b) (block_counts g image b).free) ≡ cond (holds_index g image b) (free_in g image b) 0
    unfolding holds_index
    beside_room n (told_free f d j k i p x) = rw (d, j, k, if_any_is) (none_either (nat_lt 0 (block_counts g image b).index) 0 refl)
    beside_room n (told_index f d k p) = rw (d, k, if_any_is, index_counted g image b, n, free_counted g image b) (and_true (is_index_block g image b) (free_in g image b))
    beside_room n (told_data f d j k i) = rw (d, j, k, if_any_is) (none_either (nat_lt 0 (block_counts g image b).index) 0 refl)

    pub index_lost : Told g image b → if_kind for_index (block_counts g image b) (block_counts g image b).deleted ≡ cond (not (is_data_block g image b)) (deleted_in g image b) 0
    index_lost (told_free f d j k i p x) = rw (d, k, x) refl
    index_lost (told_index f d k p) = rw (d, k) (deleted_counted g image b)
    index_lost (told_data f d j k i) = rw (d, k) refl

    pub data_lost : Told g image b → if_kind for_data (block_counts g image b) (block_counts g image b).deleted ≡ cond (is_data_block g image b) (deleted_in g image b) 0
    data_lost (told_free f d j k i p x) = rw (d, k) refl
    data_lost (told_index f d k p) = rw (d, k) refl
    data_lost (told_data f d j k i) = rw (d, k) (deleted_counted g image b)

  module _ (t : IsTidy g image) where
    at : (b : ℕ) → b < g.blocks → Told g image b
    at b low = told g image t b low

    unused_add : blocks_of unused (counts_of g image) ≡ free_blocks g image
    unfolding blocks_of free_blocks
    unused_add = sum_as (λ c. if_kind unused c 1) g image (λ b. cond (is_free_block g image b) 1 0) (λ b low. is_unused b (at b low)) ∙ sym (length-filter (λ b. is_free_block g image b) (range_with_len 0 g.blocks))

    others_add : blocks_of for_index (counts_of g image) ≡ other_blocks g image
    unfolding blocks_of other_blocks
    others_add = sum_as (λ c. if_kind for_index c 1) g image (λ b. cond (is_other_block g image b) 1 0) (λ b low. is_index b (at b low)) ∙ sym (length-filter (λ b. is_other_block g image b) (range_with_len 0 g.blocks))

    data_add : blocks_of for_data (counts_of g image) ≡ data_blocks g image
    unfolding blocks_of data_blocks
    data_add = sum_as (λ c. if_kind for_data c 1) g image (λ b. cond (is_data_block g image b) 1 0) (λ b low. is_data b (at b low)) ∙ sym (length-filter (λ b. is_data_block g image b) (range_with_len 0 g.blocks))

    index_free_adds : free_of for_index (counts_of g image) ≡ free_where g image (takes_index g image)
    unfolding free_of free_where
    index_free_adds = sum_as (λ c. if_kind for_index c c.free) g image (λ b. cond (takes_index g image b) (free_in g image b) 0) (λ b low. index_room b (t.magic b low) (at b low))

    data_free_adds : free_of for_data (counts_of g image) ≡ free_where g image (takes_data g image)
    unfolding free_of free_where
    data_free_adds = sum_as (λ c. if_kind for_data c c.free) g image (λ b. cond (takes_data g image b) (free_in g image b) 0) (λ b low. data_room b (at b low))

    beside_adds : free_beside (counts_of g image) ≡ free_where g image (holds_index g image)
    unfolding free_beside free_where
    beside_adds = sum_as (λ c. if_any c.index (if_kind for_index c c.free)) g image (λ b. cond (holds_index g image b) (free_in g image b) 0) (λ b low. beside_room b (index_is g image t b low) (at b low))

    index_deleted_adds : deleted_of for_index (counts_of g image) ≡ deleted_where g image (λ b. not (is_data_block g image b))
    unfolding deleted_of deleted_where
    index_deleted_adds = sum_as (λ c. if_kind for_index c c.deleted) g image (λ b. cond (not (is_data_block g image b)) (deleted_in g image b) 0) (λ b low. index_lost b (at b low))

    data_deleted_adds : deleted_of for_data (counts_of g image) ≡ deleted_where g image (λ b. is_data_block g image b)
    unfolding deleted_of deleted_where
    data_deleted_adds = sum_as (λ c. if_kind for_data c c.deleted) g image (λ b. cond (is_data_block g image b) (deleted_in g image b) 0) (λ b low. data_lost b (at b low))

pub tidy_counts_tell : (g : Geometry) → TidyCountsTell g
tidy_counts_tell g image t = record {
  blocks = blocks_are g image;
  index = index_adds g image;
  pages = pages_add g image;
  unused_blocks = unused_add g image t;
  index_blocks = others_add g image t;
  data_blocks_are = data_add g image t;
  index_free = index_free_adds g image t;
  data_free = data_free_adds g image t;
  beside = beside_adds g image t;
  index_deleted = index_deleted_adds g image t;
  data_deleted = data_deleted_adds g image t;
}

pub tidy_is_volume : (g : Geometry) → TidyIsVolume g
unfolding counts_of
tidy_is_volume g image t = record {
  entries = entries_pos g;
  blocks = λ k d low.
      let size = length-map-range_with_len (block_counts g image) 0 g.blocks in
      let within : k < g.blocks = omega (arith, size, low) in
      rw (get_or-map-range_with_len (block_counts g image) 0 g.blocks k k d within (omega arith)) (counts_are g image t k within);
}
