-- The index pages of shared blocks, and the places for them, by the counts of a neat image.
use Rattle.std.proofs.Common.{◌≡◌, ℕ, ◌+◌, ◌-◌, ◌*◌, ◌<◌, ◌≤◌, List, true, false, not, cond, ◌==◌, ◌&&◌, Option, Some, None, refl, sym, ◌∙◌, arith, ⊎_elim, inl, inr}
use Rattle.std.specs.List.{range_with_len}
use Rattle.std.proofs.Math.Bool.{and-true}
use Rattle.std.proofs.lemmas.Bool.{cases_Bool, cases_eq, cases_lt, eq-eqb, ne_eqb, le-ltb, lt-ltb}
use Rattle.std.proofs.lemmas.List.Sums.{length-filter}
use Rattle.geometry.specs.declared.geometry.Geometry.{Geometry}
use Rattle.geometry.specs.Numbers.{per_block, lookups, entries}
use Rattle.image_model.specs.Places.{has_magic}
use Rattle.image_model.specs.Live.{live_at}
use Rattle.image_model.specs.Tidy.{IsNeat, is_free_block, free_blocks, TellsFree}
use Rattle.image_model.specs.Kinds.{is_index_page, is_data_page, is_data_block}
use Rattle.image_model.specs.Collect.{index_in, data_in, free_in, free_where, takes_index}
use Rattle.image_model.specs.Shared.{is_wanted_index, is_wanted_data, wanted_index_in, wanted_data_in, is_shared, shared_blocks, shared_index, open_entries, blocks_to_use}
use Rattle.image_laws.proofs.FreeBlocks.{filter-same}
use Rattle.image_laws.proofs.Matching.{sum-range}
use Rattle.image_laws.proofs.Unshared.{shut, use-free, neat_wanted, sums-none, unshared-index, index-unshared}
use Rattle.room_laws.specs.Counts.{Counts, unused, for_index, for_data, kind_of, if_kind, if_any}
use Rattle.room_laws.specs.Volume.{blocks_of, free_of}
use Rattle.room_laws.specs.Sorts.{sort_at, counts_by, all_by}
use Rattle.room_laws.specs.Parting.{shared_total, PartsAreCounted, NeatPartsAreCounted}
use Rattle.room_laws.proofs.Moves.{kind-index, kind-data, kind-unused}
use Rattle.room_laws.proofs.Partings.{any-none, any-some}
use Rattle.room_laws.proofs.Sorted.{neat_tells_free, sorts_are_whole}
use Rattle.room_laws.proofs.Taken.{index_is, pages_are, free_is, holds_data, free_by, not_free_by}
use Rattle.room_laws.proofs.Tallies.{total_map}

itself : (i : ℕ) → cond (not (i == 0) && true) i 0 ≡ i
itself i = ⊎_elim
    (λ (none : i ≡ 0). rw none refl)
    (λ (some : i ≡ 0 → ⊥). rw (ne_eqb i 0 some) refl)
    (cases_eq i 0)

-- index pages that stand beside data pages
shared_number : (i d : ℕ) → cond (not (i == 0) && not (d == 0)) i 0 ≡ if_any d i
shared_number i d = ⊎_elim
    (λ (none : d ≡ 0). rw (eq-eqb d 0 none, any-none d i none) (shut (not (i == 0)) i))
    (λ (some : d ≡ 0 → ⊥). rw (ne_eqb d 0 some, any-some d i (omega (arith, some))) (itself i))
    (cases_eq d 0)

-- what a block is: free, in use without a data page, or with one
pub data Looks (g : Geometry) (image : List ℕ) (block : ℕ) : Type 0 where
  looks_free : is_free_block g image block ≡ true → kind_of (counts_by g (sort_at g image) block) ≡ unused → (counts_by g (sort_at g image) block).pages ≡ 0 → Looks g image block
  looks_index : is_free_block g image block ≡ false → kind_of (counts_by g (sort_at g image) block) ≡ for_index → (counts_by g (sort_at g image) block).pages ≡ 0 → Looks g image block
  looks_data : is_free_block g image block ≡ false → kind_of (counts_by g (sort_at g image) block) ≡ for_data → 0 < (counts_by g (sort_at g image) block).pages → Looks g image block

module _ (g : Geometry) (image : List ℕ) (n : IsNeat g image) where
  pub tells : TellsFree g image
  tells = neat_tells_free g image n

  index_wanted : (q : ℕ) (o : Option (List ℕ)) → live_at g image q ≡ o → is_wanted_index g image q ≡ is_index_page (live_at g image q)
  index_wanted q None e = rw e refl
  index_wanted q (Some x) e = rw (neat_wanted g image n q x e) (and-true _)

  data_wanted : (q : ℕ) (o : Option (List ℕ)) → live_at g image q ≡ o → is_wanted_data g image q ≡ is_data_page (live_at g image q)
  data_wanted q None e = rw e refl
  data_wanted q (Some x) e = rw (neat_wanted g image n q x e) (and-true _)

  -- ---- a block

  module _ (block : ℕ) (low : block < g.blocks) where
    abbrev c : Counts
    c = counts_by g (sort_at g image) block

    index_same : wanted_index_in g image block ≡ index_in g image block
    unfolding wanted_index_in index_in
    index_same = filter-same (λ p. is_index_page (live_at g image p)) (λ p. is_wanted_index g image p) (block * per_block g + lookups g) (entries g) (λ q from to. index_wanted q (live_at g image q) refl)

    data_same : wanted_data_in g image block ≡ data_in g image block
    unfolding wanted_data_in data_in
    data_same = filter-same (λ p. is_data_page (live_at g image p)) (λ p. is_wanted_data g image p) (block * per_block g + lookups g) (entries g) (λ q from to. data_wanted q (live_at g image q) refl)

    index_counts : wanted_index_in g image block ≡ c.index
    index_counts = index_same ∙ index_is g image tells block low

    data_counts : wanted_data_in g image block ≡ c.pages
    data_counts = data_same ∙ pages_are g image tells block low

    whole : c.index + c.pages + c.deleted + c.free ≡ entries g
    whole = sorts_are_whole g (sort_at g image) block

    shared_term : cond (is_shared g image block) (wanted_index_in g image block) 0 ≡ if_any c.pages c.index
    unfolding is_shared
    shared_term = rw (index_counts, data_counts) (shared_number c.index c.pages)

    pub looks : Looks g image block
    looks = ⊎_elim
        (λ (free : is_free_block g image block ≡ true).
        let all = free_by g image tells block low free in
        let i : c.index ≡ 0 = omega (arith, whole, all) in
        let d : c.pages ≡ 0 = omega (arith, whole, all) in
        let x : c.deleted ≡ 0 = omega (arith, whole, all) in
        looks_free free (kind-unused c i d x) d)
        (λ (used : is_free_block g image block ≡ false).
        let few = not_free_by g image tells block low used in
        ⊎_elim
        (λ (some : 0 < c.pages). looks_data used (kind-data c some) some)
        (λ (none : c.pages ≤ 0). looks_index used (kind-index c (omega (arith, none)) (omega (arith, whole, few, none))) (omega (arith, none)))
        (cases_lt 0 c.pages))
        (cases_Bool (is_free_block g image block))

    unused_term : Looks g image block → if_kind unused c 1 ≡ cond (is_free_block g image block) 1 0
    unused_term (looks_free f k d) = rw (f, k) refl
    unused_term (looks_index f k d) = rw (f, k) refl
    unused_term (looks_data f k d) = rw (f, k) refl

    open_term : Looks g image block → if_kind for_index c c.free ≡ cond (has_magic g image block && not (is_free_block g image block) && (wanted_data_in g image block == 0)) (free_in g image block) 0
    open_term (looks_free f k d) = rw (n.magic block low, f, k) refl
    open_term (looks_index f k d) = rw (n.magic block low, f, k, eq-eqb (wanted_data_in g image block) 0 (data_counts ∙ d)) (sym (free_is g image tells block low))
    open_term (looks_data f k d) =
        rw (n.magic block low, f, k, ne_eqb (wanted_data_in g image block) 0 (λ e. let same = data_counts in omega (arith, e, same, d))) refl

    -- it takes index pages where it is in use without a data page
    takes_term : Looks g image block → takes_index g image block ≡ false → if_kind for_index c c.free ≡ 0
    unfolding takes_index
    takes_term (looks_free f k d) none = rw k refl
    takes_term (looks_index f k d) none =
        let plain : is_data_block g image block ≡ false = holds_data g image tells block low ∙ le-ltb 0 c.pages (omega (arith, d)) in
        let bad = rw (n.magic block low, f, plain) at none in absurd (cc)
    takes_term (looks_data f k d) none = rw k refl

    full_term : Looks g image block → free_in g image block ≡ 0 → if_kind for_index c c.free ≡ 0
    full_term (looks_free f k d) full = rw k refl
    full_term (looks_index f k d) full = rw k (sym (free_is g image tells block low) ∙ full)
    full_term (looks_data f k d) full = rw k refl

    -- a block with a data page is one by its counts
    pub data_kind : is_data_block g image block ≡ true → Looks g image block → kind_of c ≡ for_data
    data_kind data_block (looks_free f k d) = let plain : is_data_block g image block ≡ false = holds_data g image tells block low ∙ le-ltb 0 c.pages (omega (arith, d)) in absurd (cc)
    data_kind data_block (looks_index f k d) = let plain : is_data_block g image block ≡ false = holds_data g image tells block low ∙ le-ltb 0 c.pages (omega (arith, d)) in absurd (cc)
    data_kind data_block (looks_data f k d) = k

    -- one that takes index pages too, and a free one
    pub index_kind : takes_index g image block ≡ true → Looks g image block → kind_of c ≡ for_index
    unfolding takes_index
    index_kind takes (looks_free f k d) = let bad = rw (n.magic block low, f) at takes in absurd (cc)
    index_kind takes (looks_index f k d) = k
    index_kind takes (looks_data f k d) =
        let held : is_data_block g image block ≡ true = holds_data g image tells block low ∙ lt-ltb 0 c.pages d in
        let bad = rw (n.magic block low, f, held) at takes in absurd (cc)

    pub free_kind : is_free_block g image block ≡ true → Looks g image block → kind_of c ≡ unused
    free_kind free (looks_free f k d) = k
    free_kind free (looks_index f k d) = let bad : true ≡ false = sym free ∙ f in absurd (cc)
    free_kind free (looks_data f k d) = let bad : true ≡ false = sym free ∙ f in absurd (cc)

  -- ---- all blocks

  shared_adds : shared_index g image ≡ shared_total (all_by g (sort_at g image))
  unfolding shared_index shared_total all_by
  shared_adds =
      sum-range (λ b. cond (is_shared g image b) (wanted_index_in g image b) 0) (λ b. if_any (counts_by g (sort_at g image) b).pages (counts_by g (sort_at g image) b).index) 0 g.blocks (λ b from to. shared_term b (omega (arith, to)))
      ∙ sym (total_map (λ c. if_any c.pages c.index) (counts_by g (sort_at g image)) (range_with_len 0 g.blocks))

  open_adds : open_entries g image ≡ free_of for_index (all_by g (sort_at g image))
  unfolding open_entries free_where free_of all_by
  open_adds =
      sum-range (λ b. cond (has_magic g image b && not (is_free_block g image b) && (wanted_data_in g image b == 0)) (free_in g image b) 0) (λ b. if_kind for_index (counts_by g (sort_at g image) b) (counts_by g (sort_at g image) b).free) 0 g.blocks
      (λ b from to. sym (open_term b (omega (arith, to)) (looks b (omega (arith, to)))))
      ∙ sym (total_map (λ c. if_kind for_index c c.free) (counts_by g (sort_at g image)) (range_with_len 0 g.blocks))

  free_adds : free_blocks g image ≡ blocks_of unused (all_by g (sort_at g image))
  unfolding free_blocks blocks_of all_by
  free_adds =
      length-filter (λ b. is_free_block g image b) (range_with_len 0 g.blocks)
      ∙ sum-range (λ b. cond (is_free_block g image b) 1 0) (λ b. if_kind unused (counts_by g (sort_at g image) b) 1) 0 g.blocks (λ b from to. sym (unused_term b (omega (arith, to)) (looks b (omega (arith, to)))))
      ∙ sym (total_map (λ c. if_kind unused c 1) (counts_by g (sort_at g image)) (range_with_len 0 g.blocks))

  use_adds : blocks_to_use g image ≡ blocks_of unused (all_by g (sort_at g image))
  use_adds = use-free g image n.magic ∙ free_adds

  -- where each block that takes index pages is full they have no free entry
  pub full_adds : ((block : ℕ) → block < g.blocks → takes_index g image block ≡ true → free_in g image block ≡ 0) → free_of for_index (all_by g (sort_at g image)) ≡ 0
  unfolding free_of all_by
  full_adds full =
      total_map (λ c. if_kind for_index c c.free) (counts_by g (sort_at g image)) (range_with_len 0 g.blocks)
      ∙ sums-none (λ b. if_kind for_index (counts_by g (sort_at g image) b) (counts_by g (sort_at g image) b).free) 0 g.blocks (λ b from to. ⊎_elim
      (λ (takes : takes_index g image b ≡ true). full_term b (omega (arith, to)) (looks b (omega (arith, to))) (full b (omega (arith, to)) takes))
      (λ (none : takes_index g image b ≡ false). takes_term b (omega (arith, to)) (looks b (omega (arith, to))) none)
      (cases_Bool (takes_index g image b)))

  pub parts_are_counted : PartsAreCounted g image
  parts_are_counted = record {
    shared = shared_adds;
    places = open_adds;
    unused_blocks = use_adds;
    free = free_adds;
    fits = λ spare. (
      λ fits. ⊎_elim
          (λ (none : shared_blocks g image ≡ 0). inl (sym shared_adds ∙ unshared-index g image none))
          (λ (room : shared_index g image + spare ≤ open_entries g image + (blocks_to_use g image - 2) * entries g). inr (rw (shared_adds, open_adds, use_adds) at room))
          fits,
      λ fits. ⊎_elim
          (λ (none : shared_total (all_by g (sort_at g image)) ≡ 0). inl (index-unshared g image (shared_adds ∙ none)))
          (λ (room : shared_total (all_by g (sort_at g image)) + spare ≤ free_of for_index (all_by g (sort_at g image)) + (blocks_of unused (all_by g (sort_at g image)) - 2) * entries g). inr (rw (shared_adds, open_adds, use_adds) room))
          fits,
    );
  }

pub neat_parts_are_counted : (g : Geometry) → NeatPartsAreCounted g
neat_parts_are_counted g image n = parts_are_counted g image n
