-- An index page moved out of a block that holds data pages, by the counts of the images.
use Rattle.std.proofs.Common.{◌≡◌, ◌≢◌, ℕ, ◌+◌, ◌<◌, ◌≤◌, ◌⊎◌, List, length, true, false, Some, None, ap, refl, sym, ◌∙◌, subst, arith, ⊎_elim, inl, inr, slice_index_or, slice_set}
use Rattle.std.proofs.lemmas.Bool.{cases_Bool}
use Rattle.std.proofs.lemmas.List.FromFn.{length-map-range_with_len, get_or-map-range_with_len}
use Rattle.geometry.specs.declared.geometry.Geometry.{Geometry}
use Rattle.geometry.specs.Numbers.{entries}
use Rattle.image_model.specs.Places.{block_of, is_entry_page}
use Rattle.image_model.specs.Headers.{names_index}
use Rattle.image_model.specs.Live.{live_at}
use Rattle.image_model.specs.Tidy.{IsNeat, is_free_block, TellsFree}
use Rattle.image_model.specs.Kinds.{is_data_block}
use Rattle.image_model.specs.Collect.{free_in, takes_index}
use Rattle.image_model.specs.Within.{page_number, block_number}
use Rattle.image_laws.specs.LiveSteps.{PutDone, KillDone}
use Rattle.image_laws.proofs.Frames.{live_parts}
use Rattle.room_laws.specs.Counts.{Counts, unused, for_index, for_data, kind_of}
use Rattle.room_laws.specs.Volume.{blocks_of, free_of}
use Rattle.room_laws.specs.Steps.{placed, killed}
use Rattle.room_laws.specs.Sorts.{Sort, Index, Deleted, Free, sort_of_page, sort_at, counts_by, all_by, with_sort}
use Rattle.room_laws.specs.Parting.{shared_total, index_places, CanPart, TakesOne, PartsOne, FitsBy, IsPartPlace, PartedOne, MovePartsOne, PartPlaceIsFound}
use Rattle.room_laws.proofs.Carried.{put_sorts, kill_sorts}
use Rattle.room_laws.proofs.NeatCounts.{looks, data_kind, index_kind, free_kind, full_adds, parts_are_counted}
use Rattle.room_laws.proofs.Partings.{part_finds, part_puts, part_kills}
use Rattle.room_laws.proofs.Resolved.{live_sort, free_sort, free_dead}
use Rattle.room_laws.proofs.Sorted.{neat_tells_free, with-there, all-set, same_sorts, sorts_change, sorts_are_counted, sorts_are_whole, other_sorts_stay}

-- one less is shared, and one place is taken
fits_on : (s p s1 p1 s2 p2 spare : ℕ) → p1 + 1 ≡ p → s1 ≡ s → p2 ≡ p1 → s2 + 1 ≡ s1 → (s ≡ 0) ⊎ (s + spare ≤ p) → (s2 ≡ 0) ⊎ (s2 + spare ≤ p2)
fits_on s p s1 p1 s2 p2 spare a b c d fits = ⊎_elim
    (λ (none : s ≡ 0). absurd (omega (arith, none, b, d)))
    (λ (room : s + spare ≤ p). inr (omega (arith, room, a, b, c, d)))
    fits

-- each block stands at its place
stands : (g : Geometry) (sorts : ℕ → Sort) (block : ℕ) → block < g.blocks → (block < length (all_by g sorts)) × (slice_index_or (all_by g sorts) block (counts_by g sorts block) ≡ counts_by g sorts block)
unfolding all_by
stands g sorts block low =
    let size = length-map-range_with_len (counts_by g sorts) 0 g.blocks in
    (omega (arith, size, low), get_or-map-range_with_len (counts_by g sorts) 0 g.blocks block block (counts_by g sorts block) low (omega arith))

module _ (g : Geometry) (image : List ℕ) (n : IsNeat g image) (page : ℕ) (old : List ℕ) (live : live_at g image page ≡ Some old) (index : names_index old ≡ true) (held : is_data_block g image (block_of g page) ≡ true) where
  page_entry : is_entry_page g page ≡ true
  page_entry = (live_parts g image page old live).entry_page

  page_low : block_of g page < g.blocks
  page_low = block_number g page (page_number g page page_entry)

  page_sort : sort_at g image page ≡ Index
  page_sort = live_sort g image page old live ∙ rw index refl

  page_kind : kind_of (counts_by g (sort_at g image) (block_of g page)) ≡ for_data
  page_kind = data_kind g image n (block_of g page) page_low held (looks g image n (block_of g page) page_low)

  some_shared : 0 < shared_total (all_by g (sort_at g image))
  some_shared =
      let at = stands g (sort_at g image) (block_of g page) page_low in
      let less = part_kills (entries g) (all_by g (sort_at g image)) (block_of g page) (counts_by g (sort_at g image) (block_of g page)) at.0 at.1 page_kind ((sorts_are_counted g (sort_at g image) page page_entry).index page_sort) in
      omega (arith, less.shared)

  found : FitsBy (entries g) (all_by g (sort_at g image)) 0 → ((block : ℕ) → block < g.blocks → takes_index g image block ≡ true → free_in g image block ≡ 0) → 2 < blocks_of unused (all_by g (sort_at g image))
  found fits full = ⊎_elim
      (λ (none : shared_total (all_by g (sort_at g image)) ≡ 0). let some = some_shared in absurd (omega (arith, none, some)))
      (λ (room : shared_total (all_by g (sort_at g image)) + 0 ≤ index_places (entries g) (all_by g (sort_at g image))). ⊎_elim
      (λ (free : 0 < free_of for_index (all_by g (sort_at g image))). let none = full_adds g image n full in absurd (omega (arith, free, none)))
      (λ (three : 2 < blocks_of unused (all_by g (sort_at g image))). three)
      (part_finds (entries g) (all_by g (sort_at g image)) some_shared (omega (arith, room))))
      fits

pub part_place_is_found : (g : Geometry) → PartPlaceIsFound g
part_place_is_found g image page old n fits live index held full =
    let counted = parts_are_counted g image n in
    let three = found g image n page old live index held ((counted.fits 0).0 fits) full in
    omega (arith, three, counted.free)

module _ (g : Geometry) (was middle now : List ℕ) (page to : ℕ) (old copy : List ℕ) (n : IsNeat g was) (n' : IsNeat g now) (place : IsPartPlace g was to) (live : live_at g was page ≡ Some old) (index : names_index old ≡ true)
    (held : is_data_block g was (block_of g page) ≡ true) (named : names_index copy ≡ true) (put : PutDone g to copy was middle) (kill : KillDone g page middle now) where
  abbrev first : ℕ → Sort
  first = sort_at g was

  abbrev second : ℕ → Sort
  second = with_sort to Index (sort_at g was)

  abbrev third : ℕ → Sort
  third = with_sort page Deleted (with_sort to Index (sort_at g was))

  to_low : block_of g to < g.blocks
  to_low = block_number g to (page_number g to place.entry)

  entry : is_entry_page g page ≡ true
  entry = page_entry g was n page old live index held

  low : block_of g page < g.blocks
  low = page_low g was n page old live index held

  -- ---- what entries count as afterwards

  put_is : (q : ℕ) → is_entry_page g q ≡ true → sort_at g middle q ≡ second q
  put_is q page_q =
      let kind : sort_of_page (Some copy) ≡ Index = rw named refl in
      (put_sorts g was middle to copy (neat_tells_free g was n) put).1 q page_q ∙ ap (λ (x : Sort). with_sort to x (sort_at g was) q) kind

  sorts_are : (q : ℕ) → is_entry_page g q ≡ true → sort_at g now q ≡ third q
  sorts_are q page_q =
      let middle_tells : TellsFree g middle = (put_sorts g was middle to copy (neat_tells_free g was n) put).0 in
      (kill_sorts g middle now page middle_tells kill).1 q page_q ∙ ap (λ (x : Sort). with_sort page Deleted (λ (r : ℕ). x) q) (put_is q page_q)

  free : first to ≡ Free
  free = free_sort g was to place.free

  apart_page : page ≢ to
  apart_page e = let dead = free_dead g was to place.free in let bad : None ≡ Some old = sym dead ∙ ap (live_at g was) (sym e) ∙ live in absurd (cc)

  index_there : second page ≡ Index
  index_there = with-there (sort_at g was) to page Index apart_page ∙ page_sort g was n page old live index held

  -- ---- the block of the copy

  to_kind : (kind_of (counts_by g first (block_of g to)) ≡ for_index) ⊎ ((kind_of (counts_by g first (block_of g to)) ≡ unused) × (free_of for_index (all_by g first) ≡ 0))
  to_kind = ⊎_elim
      (λ (yes : is_free_block g was (block_of g to) ≡ true). inr (free_kind g was n (block_of g to) to_low yes (looks g was n (block_of g to) to_low), full_adds g was n (place.last yes)))
      (λ (no : is_free_block g was (block_of g to) ≡ false). inl (index_kind g was n (block_of g to) to_low (place.opened no) (looks g was n (block_of g to) to_low)))
      (cases_Bool (is_free_block g was (block_of g to)))

  keeps : kind_of (counts_by g first (block_of g to)) ≡ unused → 2 < blocks_of unused (all_by g first)
  keeps kind = ⊎_elim
      (λ (yes : is_free_block g was (block_of g to) ≡ true). let three = place.keeps yes in let same = (parts_are_counted g was n).free in omega (arith, three, same))
      (λ (no : is_free_block g was (block_of g to) ≡ false).
      let other = index_kind g was n (block_of g to) to_low (place.opened no) (looks g was n (block_of g to) to_low) in
      let bad : for_index ≡ unused = sym other ∙ kind in absurd (cc))
      (cases_Bool (is_free_block g was (block_of g to)))

  can_part : CanPart (entries g) (all_by g first) (block_of g to) (counts_by g first (block_of g to))
  can_part =
      let at = stands g first (block_of g to) to_low in
      record {
        whole = sorts_are_whole g first (block_of g to);
        put = record { within = at.0; at = at.1; place = (sorts_are_counted g first to place.entry).free free; rule = to_kind };
        keeps = keeps;
      }

  -- it isn't the block of the page
  apart : block_of g to ≢ block_of g page
  apart e =
      let kind : kind_of (counts_by g first (block_of g to)) ≡ for_data = subst (λ (b : ℕ). kind_of (counts_by g first b) ≡ for_data) (sym e) (page_kind g was n page old live index held) in
      ⊎_elim
      (λ (a : kind_of (counts_by g first (block_of g to)) ≡ for_index). let bad : for_index ≡ for_data = sym a ∙ kind in absurd (cc))
      (λ (b : (kind_of (counts_by g first (block_of g to)) ≡ unused) × (free_of for_index (all_by g first) ≡ 0)). let bad : unused ≡ for_data = sym b.0 ∙ kind in absurd (cc))
      to_kind

  -- ---- what the two change

  second_is : all_by g second ≡ slice_set (all_by g first) (block_of g to) (placed for_index (counts_by g first (block_of g to)))
  second_is = all-set g first Index to place.entry ∙ ap (slice_set (all_by g first) (block_of g to)) ((sorts_change g first to place.entry).put_index free)

  third_is : all_by g (sort_at g now) ≡ slice_set (all_by g second) (block_of g page) (killed (counts_by g second (block_of g page)))
  third_is = same_sorts g third (sort_at g now) sorts_are ∙ all-set g second Deleted page entry ∙ ap (slice_set (all_by g second) (block_of g page)) ((sorts_change g second page entry).kill_index index_there)

  takes : TakesOne (entries g) (all_by g first) (all_by g second)
  takes = subst (λ (w : List Counts). TakesOne (entries g) (all_by g first) w) (sym second_is) (part_puts (entries g) (all_by g first) (block_of g to) (counts_by g first (block_of g to)) can_part).0

  second_kind : kind_of (counts_by g second (block_of g page)) ≡ for_data
  second_kind = ap kind_of (other_sorts_stay g first Index to (block_of g page) place.entry low apart) ∙ page_kind g was n page old live index held

  parts : PartsOne (entries g) (all_by g second) (all_by g (sort_at g now))
  parts =
      let at = stands g second (block_of g page) low in
      subst (λ (w : List Counts). PartsOne (entries g) (all_by g second) w) (sym third_is)
      (part_kills (entries g) (all_by g second) (block_of g page) (counts_by g second (block_of g page)) at.0 at.1 second_kind ((sorts_are_counted g second page entry).index index_there))

  pub move_parts : PartedOne g was now
  move_parts = record {
    fits = λ spare fits. ((parts_are_counted g now n').fits spare).1 (fits_on (shared_total (all_by g first)) (index_places (entries g) (all_by g first)) (shared_total (all_by g second)) (index_places (entries g) (all_by g second))
        (shared_total (all_by g (sort_at g now))) (index_places (entries g) (all_by g (sort_at g now))) spare takes.places takes.shared parts.places parts.shared (((parts_are_counted g was n).fits spare).0 fits));
    reserve = λ two.
        let before = (parts_are_counted g was n).free in
        let after = (parts_are_counted g now n').free in
        let two' = takes.reserve (omega (arith, two, before)) in
        let same = parts.free in
        omega (arith, two', same, after);
  }

pub move_parts_one : (g : Geometry) → MovePartsOne g
move_parts_one g was middle now page to old copy n n' place live index held named put kill = move_parts g was middle now page to old copy n n' place live index held named put kill
