-- Tests of blocks by what their entries count as.
use Rattle.std.proofs.Common.{◌≡◌, ◌≢◌, ℕ, zero, suc, ◌+◌, ◌*◌, ◌<◌, ◌≤◌, ◌⊎◌, List, [], ◌∷◌, length, Bool, true, false, nat_lt, refl, sym, ◌∙◌, ap, arith, ⊎_elim, inl, inr, slice_index_or}
use Rattle.std.specs.Prelude.{All, Contains, filter}
use Rattle.std.specs.List.{range_with_len}
use Rattle.std.proofs.lemmas.Bool.{cases_Bool, cases_lt, and_parts, lt-ltb, le-ltb, ltb-true}
use Rattle.std.proofs.lemmas.List.FromFn.{length-range_with_len, length-map-range_with_len, get_or-map-range_with_len}
use Rattle.geometry.specs.declared.geometry.Geometry.{Geometry}
use Rattle.geometry.specs.Numbers.{per_block, lookups, entries}
use Rattle.image_model.specs.Places.{block_of, is_entry_page}
use Rattle.image_model.specs.Live.{live_at}
use Rattle.image_model.specs.Tidy.{is_free_entry, is_free_block, free_blocks, TellsFree}
use Rattle.image_model.specs.Kinds.{is_index_page, is_data_page, is_index_block, is_data_block}
use Rattle.image_model.specs.Collect.{index_in, data_in, free_in, takes_index, takes_data}
use Rattle.image_model.specs.Within.{page_number, block_number}
use Rattle.room_laws.specs.Counts.{Counts, IsBlock, Kind, unused, for_index, for_data, kind_of, if_kind}
use Rattle.room_laws.specs.Volume.{total, blocks_of, free_of}
use Rattle.room_laws.specs.Order.{without}
use Rattle.room_laws.specs.Places.{HadWith}
use Rattle.room_laws.specs.Sorts.{sort_at, counts_by, all_by, others_by, IsPlaceBy}
use Rattle.room_laws.specs.Taking.{takes_as, of_kind, IsFullBeside, KindsAreTested, PlacesAreBy, HasFreeBeside, PlacesAreFound}
use Rattle.room_laws.proofs.Totals.{Seen, is_unused, is_index, is_data, seen, term, if_same-some}
use Rattle.room_laws.proofs.Ranges.{any_counted, all_counted, not_all_counted}
use Rattle.room_laws.proofs.Tallies.{index_counted, pages_counted, free_counted, entries_pos}
use Rattle.room_laws.proofs.HavePlaces.{had_finds_index, had_finds_data}
use Rattle.room_laws.proofs.Sorted.{counts_by_sorts}
use Rattle.room_laws.proofs.Resolved.{free_sort}
use Rattle.room_laws.proofs.Spoiling.{stands_block}
use Rattle.image_laws.proofs.Damaged.{any_from}

module _ (g : Geometry) (image : List ℕ) (t : TellsFree g image) (block : ℕ) (low : block < g.blocks) where
  abbrev c : Counts
  c = counts_by g (sort_at g image) block

  pub index_is : index_in g image block ≡ c.index
  index_is = sym (index_counted g image block) ∙ ap (λ (d : Counts). d.index) (counts_by_sorts g image block t low)

  pub pages_are : data_in g image block ≡ c.pages
  pages_are = sym (pages_counted g image block) ∙ ap (λ (d : Counts). d.pages) (counts_by_sorts g image block t low)

  pub free_is : free_in g image block ≡ c.free
  free_is = sym (free_counted g image block) ∙ ap (λ (d : Counts). d.free) (counts_by_sorts g image block t low)

  pub holds_data : is_data_block g image block ≡ nat_lt 0 c.pages
  unfolding data_in is_data_block
  holds_data = sym (any_counted (λ p. is_data_page (live_at g image p)) (range_with_len (block * per_block g + lookups g) (entries g))) ∙ ap (nat_lt 0) pages_are

  holds_index : is_index_block g image block ≡ nat_lt 0 c.index
  unfolding index_in is_index_block
  holds_index = sym (any_counted (λ p. is_index_page (live_at g image p)) (range_with_len (block * per_block g + lookups g) (entries g))) ∙ ap (nat_lt 0) index_is

  -- a block is free where all its entries are
  pub free_by : is_free_block g image block ≡ true → c.free ≡ entries g
  unfolding is_free_block free_in
  free_by free =
      let all = all_counted (λ p. is_free_entry g image p) (range_with_len (block * per_block g + lookups g) (entries g)) (and_parts _ _ free).1 in
      sym free_is ∙ all ∙ length-range_with_len (block * per_block g + lookups g) (entries g)

  pub not_free_by : is_free_block g image block ≡ false → c.free < entries g
  unfolding is_free_block free_in
  not_free_by none =
      let rest = rw (t.magic block low) at none in
      let few = not_all_counted (λ p. is_free_entry g image p) (range_with_len (block * per_block g + lookups g) (entries g)) rest in
      omega (arith, few, length-range_with_len (block * per_block g + lookups g) (entries g), free_is)

  -- where it is not mixed
  module _ (is : IsBlock (entries g) (counts_by g (sort_at g image) block)) where
    -- the tests, by the kind of the block
    record Tests (free index pages : Bool) : Type 0 where
      is_free : is_free_block g image block ≡ free
      takes_i : takes_index g image block ≡ index
      takes_d : takes_data g image block ≡ pages

    tests_free : Seen (entries g) c → kind_of c ≡ unused → Tests true false false
    unfolding takes_index takes_data
    tests_free (is_unused k i p x) kind =
        let free : is_free_block g image block ≡ true = ⊎_elim (λ (yes : is_free_block g image block ≡ true). yes) (λ (no : is_free_block g image block ≡ false). absurd (omega (arith, not_free_by no, is.whole, i, p, x))) (cases_Bool (is_free_block g image block)) in
        let none : is_data_block g image block ≡ false = holds_data ∙ le-ltb 0 c.pages (omega (arith, p)) in
        record { is_free = free; takes_i = rw (t.magic block low, free) refl; takes_d = rw none refl }
    tests_free (is_index k p x w) kind = let bad : for_index ≡ unused = sym k ∙ kind in absurd (cc)
    tests_free (is_data k i x w) kind = let bad : for_data ≡ unused = sym k ∙ kind in absurd (cc)

    used_by : 0 < c.index + c.pages + c.deleted → is_free_block g image block ≡ false
    used_by some = ⊎_elim (λ (yes : is_free_block g image block ≡ true). absurd (omega (arith, free_by yes, is.whole, some))) (λ (no : is_free_block g image block ≡ false). no) (cases_Bool (is_free_block g image block))

    tests_index : Seen (entries g) c → kind_of c ≡ for_index → Tests false true false
    unfolding takes_index takes_data
    tests_index (is_unused k i p x) kind = let bad : unused ≡ for_index = sym k ∙ kind in absurd (cc)
    tests_index (is_index k p x w) kind =
        let used = used_by (omega (arith, x)) in
        let none : is_data_block g image block ≡ false = holds_data ∙ le-ltb 0 c.pages (omega (arith, p)) in
        record { is_free = used; takes_i = rw (t.magic block low, used, none) refl; takes_d = rw none refl }
    tests_index (is_data k i x w) kind = let bad : for_data ≡ for_index = sym k ∙ kind in absurd (cc)

    tests_data : Seen (entries g) c → kind_of c ≡ for_data → Tests false false true
    unfolding takes_index takes_data
    tests_data (is_unused k i p x) kind = let bad : unused ≡ for_data = sym k ∙ kind in absurd (cc)
    tests_data (is_index k p x w) kind = let bad : for_index ≡ for_data = sym k ∙ kind in absurd (cc)
    tests_data (is_data k i x w) kind =
        let used = used_by (omega (arith, x)) in
        let some : is_data_block g image block ≡ true = holds_data ∙ lt-ltb 0 c.pages x in
        let none : is_index_block g image block ≡ false = holds_index ∙ le-ltb 0 c.index (omega (arith, i)) in
        record { is_free = used; takes_i = rw (t.magic block low, used, some) refl; takes_d = rw (some, none) refl }

    kind_or : (kind_of c ≡ unused) ⊎ ((kind_of c ≡ for_index) ⊎ (kind_of c ≡ for_data))
    kind_or = by (kind_of c) refl
      where
        by : (k : Kind) → kind_of c ≡ k → (kind_of c ≡ unused) ⊎ ((kind_of c ≡ for_index) ⊎ (kind_of c ≡ for_data))
        by unused e = inl e
        by for_index e = inr (inl e)
        by for_data e = inr (inr e)

    look : Seen (entries g) c
    look = seen (entries g) c is

    tested_unused : (takes_as g image unused block ≡ true → kind_of c ≡ unused) × (kind_of c ≡ unused → takes_as g image unused block ≡ true)
    tested_unused = (
      λ takes. ⊎_elim (λ (k : kind_of c ≡ unused). k) (λ other. absurd (⊎_elim
          (λ (k : kind_of c ≡ for_index). let w = tests_index look k in let bad : false ≡ true = sym w.is_free ∙ takes in cc)
          (λ (k : kind_of c ≡ for_data). let w = tests_data look k in let bad : false ≡ true = sym w.is_free ∙ takes in cc)
          other)) kind_or,
      λ k. (tests_free look k).is_free,
    )

    tested_index : (takes_as g image for_index block ≡ true → kind_of c ≡ for_index) × (kind_of c ≡ for_index → takes_as g image for_index block ≡ true)
    tested_index = (
      λ takes. ⊎_elim (λ (k : kind_of c ≡ unused). let w = tests_free look k in let bad : false ≡ true = sym w.takes_i ∙ takes in absurd (cc)) (λ other. ⊎_elim
          (λ (k : kind_of c ≡ for_index). k)
          (λ (k : kind_of c ≡ for_data). let w = tests_data look k in let bad : false ≡ true = sym w.takes_i ∙ takes in absurd (cc))
          other) kind_or,
      λ k. (tests_index look k).takes_i,
    )

    tested_data : (takes_as g image for_data block ≡ true → kind_of c ≡ for_data) × (kind_of c ≡ for_data → takes_as g image for_data block ≡ true)
    tested_data = (
      λ takes. ⊎_elim (λ (k : kind_of c ≡ unused). let w = tests_free look k in let bad : false ≡ true = sym w.takes_d ∙ takes in absurd (cc)) (λ other. ⊎_elim
          (λ (k : kind_of c ≡ for_index). let w = tests_index look k in let bad : false ≡ true = sym w.takes_d ∙ takes in absurd (cc))
          (λ (k : kind_of c ≡ for_data). k)
          other) kind_or,
      λ k. (tests_data look k).takes_d,
    )

    pub kind_tested : (k : Kind) → (takes_as g image k block ≡ true → kind_of c ≡ k) × (kind_of c ≡ k → takes_as g image k block ≡ true)
    kind_tested unused = tested_unused
    kind_tested for_index = tested_index
    kind_tested for_data = tested_data

pub kinds_are_tested : (g : Geometry) → KindsAreTested g
kinds_are_tested g image block k t low is = kind_tested g image t block low is k

-- ---- places outside a block

-- what stands among the others stands somewhere else
record StandsAt (v : List Counts) (i : ℕ) (c : Counts) : Type 0 where
  j : ℕ
  low : j < length v
  out : j ≢ i
  at : slice_index_or v j c ≡ c

later_at : (x : Counts) (v : List Counts) (i : ℕ) (c : Counts) → StandsAt v i c → StandsAt (x ∷ v) (suc i) c
later_at x v i c w = record { j = suc w.j; low = omega (arith, w.low); out = λ e. w.out (omega (arith, e)); at = w.at }

without_from : (v : List Counts) (i : ℕ) (c : Counts) → Contains (without i v) c → StandsAt v i c
without_from [] i c (k, low, at) = absurd (omega (arith, low))
without_from (x ∷ v) zero c (k, low, at) = record { j = suc k; low = omega arith; out = λ e. omega (arith, e); at = at }
without_from (x ∷ v) (suc i) c (zero, low, at) = record { j = 0; low = omega arith; out = λ e. omega (arith, e); at = at }
without_from (x ∷ v) (suc i) c (suc k, low, at) = later_at x v i c (without_from v i c (k, omega arith, at))

module _ (g : Geometry) (image : List ℕ) (block : ℕ) (t : TellsFree g image) (low : block < g.blocks) (blocks : All (IsBlock (entries g)) (others_by g (sort_at g image) block)) where
  -- it is the block of a number
  record IsBeside (c : Counts) : Type 0 where
    other : ℕ
    within : other < g.blocks
    apart : other ≢ block
    same : counts_by g (sort_at g image) other ≡ c

  beside_at : (c : Counts) → Contains (others_by g (sort_at g image) block) c → IsBeside c
  unfolding all_by
  beside_at c has =
      let w = without_from (all_by g (sort_at g image)) block c has in
      let size = length-map-range_with_len (counts_by g (sort_at g image)) 0 g.blocks in
      let within : w.j < g.blocks = omega (arith, w.low, size) in
      record { other = w.j; within = within; apart = w.out; same = sym (get_or-map-range_with_len (counts_by g (sort_at g image)) 0 g.blocks w.j w.j c within (omega arith)) ∙ w.at }

  block_beside : (other : ℕ) → other < g.blocks → other ≢ block → IsBlock (entries g) (counts_by g (sort_at g image) other)
  block_beside other there out = stands_block g block low (sort_at g image) other there out blocks

  none_free : (k : Kind) → IsFullBeside g image block k → free_of k (others_by g (sort_at g image) block) ≡ 0
  unfolding free_of
  none_free k full = ⊎_elim
      (λ (some : 0 < total (λ c. if_kind k c c.free) (others_by g (sort_at g image) block)).
      let r = term (λ c. if_kind k c c.free) (others_by g (sort_at g image) block) some in
      let v = if_same-some k (kind_of r.0) r.0.free r.2 in
      let b = beside_at r.0 r.1 in
      let is = block_beside b.other b.within b.apart in
      let kind : kind_of (counts_by g (sort_at g image) b.other) ≡ k = ap kind_of b.same ∙ v.0 in
      let empty = full b.other b.within b.apart ((kind_tested g image t b.other b.within is k).1 kind) in
      let free : free_in g image b.other ≡ r.0.free = free_is g image t b.other b.within ∙ ap (λ (c : Counts). c.free) b.same in
      absurd (omega (arith, v.1, empty, free)))
      (λ (none : total (λ c. if_kind k c c.free) (others_by g (sort_at g image) block) ≤ 0). omega (arith, none))
      (cases_lt 0 (total (λ c. if_kind k c c.free) (others_by g (sort_at g image) block)))

  place_by : (k : Kind) (to : ℕ) → is_entry_page g to ≡ true → block_of g to ≢ block → is_free_entry g image to ≡ true → (is_free_block g image (block_of g to) ≡ false → takes_as g image k (block_of g to) ≡ true) →
      (is_free_block g image (block_of g to) ≡ true → IsFullBeside g image block k) → IsPlaceBy g (sort_at g image) block k to
  place_by k to page out free takes full =
      let there = block_number g to (page_number g to page) in
      let is = block_beside (block_of g to) there out in
      record {
        entry = page;
        apart = out;
        free = free_sort g image to free;
        rule = ⊎_elim
            (λ (yes : is_free_block g image (block_of g to) ≡ true). inr ((kind_tested g image t (block_of g to) there is unused).0 yes, none_free k (full yes)))
            (λ (no : is_free_block g image (block_of g to) ≡ false). inl ((kind_tested g image t (block_of g to) there is k).0 (takes no)))
            (cases_Bool (is_free_block g image (block_of g to)));
      }

  free_beside : 0 < blocks_of unused (others_by g (sort_at g image) block) → HasFreeBeside g image block
  unfolding blocks_of free_blocks
  free_beside some =
      let r = term (λ c. if_kind unused c 1) (others_by g (sort_at g image) block) some in
      let v = if_same-some unused (kind_of r.0) 1 r.2 in
      let b = beside_at r.0 r.1 in
      let is = block_beside b.other b.within b.apart in
      let free : is_free_block g image b.other ≡ true = (kind_tested g image t b.other b.within is unused).1 (ap kind_of b.same ∙ v.0) in
      let any = any_from (λ c. is_free_block g image c) 0 g.blocks b.other (omega arith) (omega (arith, b.within)) free in
      let counted = any_counted (λ c. is_free_block g image c) (range_with_len 0 g.blocks) ∙ any in
      record { other = b.other; within = b.within; apart = b.apart; free = free; some = ltb-true 0 (length (filter (λ c. is_free_block g image c) (range_with_len 0 g.blocks))) counted }

  found_by : (k : Kind) (index pages : ℕ) → HadWith (entries g) (others_by g (sort_at g image) block) 0 index pages → 0 < of_kind k index pages → IsFullBeside g image block k → HasFreeBeside g image block
  found_by unused index pages had some full = absurd (omega (arith, some))
  found_by for_index index pages had some full = free_beside (had_finds_index (entries g) (others_by g (sort_at g image) block) 0 index pages (entries_pos g) had some (none_free for_index full))
  found_by for_data index pages had some full = free_beside (had_finds_data (entries g) (others_by g (sort_at g image) block) 0 index pages (entries_pos g) had some (none_free for_data full))

pub places_are_by : (g : Geometry) → PlacesAreBy g
places_are_by g image block k to t low blocks page out free takes full = place_by g image block t low blocks k to page out free takes full

pub places_are_found : (g : Geometry) → PlacesAreFound g
places_are_found g image block k index pages t low blocks had some full = found_by g image block t low blocks k index pages had some full
