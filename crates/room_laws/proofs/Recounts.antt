-- Counts of blocks after a program of a page, and once a block is made fresh.
use Rattle.std.proofs.Common.{◌≡◌, ◌≢◌, ℕ, ◌+◌, ◌-◌, ◌*◌, ◌<◌, ◌≤◌, List, length, Bool, true, false, ◌==◌, refl, sym, ◌∙◌, ap, arith, ⊎_elim}
use Rattle.std.specs.Prelude.{filter}
use Rattle.std.specs.List.{range_with_len, list_all}
use Rattle.std.proofs.lemmas.Bool.{cases_Bool, cases_eq, and_parts, eq-eqb, ne_eqb}
use Rattle.std.proofs.lemmas.List.FromFn.{length-range_with_len}
use Rattle.geometry.specs.declared.geometry.Geometry.{Geometry}
use Rattle.geometry.specs.Numbers.{per_block, lookups, entries, slots}
use Rattle.nor_core.specs.Flash.{SameOutside}
use Rattle.image_model.specs.Places.{erase_count, entry_of, block_of, is_entry_page, has_magic}
use Rattle.image_model.specs.Live.{live_at}
use Rattle.image_model.specs.Tidy.{is_free_entry, is_free_block, TellsFree}
use Rattle.image_model.specs.Kinds.{is_index_page, is_data_page}
use Rattle.image_model.specs.Collect.{index_in, data_in, deleted_in, is_deleted_entry}
use Rattle.image_model.specs.Within.{sizes, entry_in, entry_of_block, page_number, block_number}
use Rattle.image_laws.specs.TidySteps.{Agree}
use Rattle.image_laws.proofs.FreeBlocks.{filter-same}
use Rattle.image_laws.proofs.Matching.{filter-none_in}
use Rattle.image_laws.proofs.Frames.{live_at-kept}
use Rattle.image_laws.proofs.Erase.{slot-other}
use Rattle.image_laws.proofs.Unshared.{counted-all}
use Rattle.room_laws.specs.Sorts.{Sort, Index, Data, Deleted, Free, sort_at, same_sort, counts_by}
use Rattle.room_laws.specs.Counts.{Counts}
use Rattle.room_laws.specs.Recounting.{ones_in, CountsAreSorts, RecountedHere, RecountedBeside, FreshHere}
use Rattle.room_laws.proofs.Ranges.{all_counted, not_all_counted, list_all_same}
use Rattle.room_laws.proofs.Sorted.{tested, tells_alike, same-block, count-swap}
use Rattle.room_laws.proofs.Carried.{agree_sort, agree_tells}
use Rattle.room_laws.proofs.Outside.{others_stay}
use Rattle.room_laws.proofs.Resolved.{free_dead}
use Rattle.room_laws.proofs.FreshMends.{in_free, magic_stays}

-- ---- counts by sorts

-- The counts of a block are those by what its entries count as, in any image.
pub counts_are_sorts : (g : Geometry) (image : List ℕ) (block : ℕ) → block < g.blocks → CountsAreSorts g image block
unfolding counts_by index_in data_in deleted_in
counts_are_sorts g image block low = record {
  index = filter-same (λ p. same_sort (sort_at g image p) Index) (λ p. is_index_page (live_at g image p)) (block * per_block g + lookups g) (entries g) (λ q from to. sym (tested g image q).index);
  pages = filter-same (λ p. same_sort (sort_at g image p) Data) (λ p. is_data_page (live_at g image p)) (block * per_block g + lookups g) (entries g) (λ q from to. sym (tested g image q).pages);
  deleted = filter-same (λ p. same_sort (sort_at g image p) Deleted) (λ p. is_deleted_entry g image p) (block * per_block g + lookups g) (entries g) (λ q from to. sym (tested g image q).deleted);
  free = filter-same (λ p. same_sort (sort_at g image p) Free) (λ p. entry_of g image p == 0xFFFF) (block * per_block g + lookups g) (entries g) (λ q from to. sym (tested g image q).free);
}

-- a block with the same counts by sorts
same_counted : (g : Geometry) (was now : List ℕ) (block : ℕ) → block < g.blocks → counts_by g (sort_at g now) block ≡ counts_by g (sort_at g was) block → RecountedBeside g was now block
same_counted g was now block low same =
    let old = counts_are_sorts g was block low in
    let new = counts_are_sorts g now block low in
    record {
      index = new.index ∙ ap (λ (c : Counts). c.index) same ∙ sym old.index;
      pages = new.pages ∙ ap (λ (c : Counts). c.pages) same ∙ sym old.pages;
      deleted = new.deleted ∙ ap (λ (c : Counts). c.deleted) same ∙ sym old.deleted;
      free = new.free ∙ ap (λ (c : Counts). c.free) same ∙ sym old.free;
    }

-- ---- one changed page

-- Other entries count as they did.
pub other_sorts : (g : Geometry) (was now : List ℕ) (p : ℕ) → Agree g was now p → (q : ℕ) → is_entry_page g q ≡ true → q ≢ p → sort_at g now q ≡ sort_at g was q
other_sorts g was now p agree q page other =
    agree_sort g was now p q agree page other (live_at-kept g was now q (λ entry. (agree.magic (block_of g q), agree.entry q page other, agree.page q page other)))

-- The block of the page counts what the page now is in the place of what it was.
pub recounted_here : (g : Geometry) (was now : List ℕ) (p : ℕ) → Agree g was now p → is_entry_page g p ≡ true → RecountedHere g was now p
unfolding counts_by
recounted_here g was now p agree page =
    let low = block_number g p (page_number g p page) in
    let old = counts_are_sorts g was (block_of g p) low in
    let new = counts_are_sorts g now (block_of g p) low in
    let w = entry_of_block g p page in
    let swap = λ (z : Sort). count-swap (λ q. same_sort (sort_at g was q) z) (λ q. same_sort (sort_at g now q) z) p (block_of g p * per_block g + lookups g) (entries g) w.0 w.1
    (λ q from to there. ap (λ (s : Sort). same_sort s z) (other_sorts g was now p agree q (entry_in g (block_of g p) q low from to).1 there)) in
    record {
      index = omega (arith, new.index, old.index, swap Index);
      pages = omega (arith, new.pages, old.pages, swap Data);
      deleted = omega (arith, new.deleted, old.deleted, swap Deleted);
      free = omega (arith, new.free, old.free, swap Free);
    }

-- All other blocks have the counts that they had.
pub recounted_beside : (g : Geometry) (was now : List ℕ) (p : ℕ) → Agree g was now p → (block : ℕ) → block < g.blocks → block ≢ block_of g p → RecountedBeside g was now block
recounted_beside g was now p agree block low out =
    same_counted g was now block low
    (same-block g (sort_at g was) (sort_at g now) block low (λ q page at. other_sorts g was now p agree q page (λ e. out (sym at ∙ ap (λ (k : ℕ). block_of g k) e))))

-- Lookup pages still tell free entries, unless the entry of the page is 0xFFFF.
pub tells_free_still : (g : Geometry) (was now : List ℕ) (p : ℕ) → TellsFree g was → Agree g was now p → is_entry_page g p ≡ true → entry_of g now p ≢ 0xFFFF → TellsFree g now
tells_free_still g was now p t agree page used = agree_tells g was now p t agree used

-- ---- a fresh block

-- A free block counts no page and no deleted entry, and all its entries are 0xFFFF.
pub fresh_here : (g : Geometry) (now : List ℕ) (block : ℕ) → block < g.blocks → is_free_block g now block ≡ true → FreshHere g now block
unfolding index_in data_in deleted_in
fresh_here g now block low free =
    let at = λ (q : ℕ) (from : block * per_block g + lookups g ≤ q) (to : q < block * per_block g + lookups g + entries g).
    let w = entry_in g block q low from to in in_free g now block q free w.1 w.0 in
    let ones = λ (q : ℕ) (from : block * per_block g + lookups g ≤ q) (to : q < block * per_block g + lookups g + entries g).
    (and_parts (entry_of g now q == 0xFFFF) _ (at q from to)).0 in
    let dead = λ (q : ℕ) (from : block * per_block g + lookups g ≤ q) (to : q < block * per_block g + lookups g + entries g). free_dead g now q (at q from to) in
    record {
      index = filter-none_in (λ p. is_index_page (live_at g now p)) (block * per_block g + lookups g) (entries g) (λ q from to. rw (dead q from to) refl);
      pages = filter-none_in (λ p. is_data_page (live_at g now p)) (block * per_block g + lookups g) (entries g) (λ q from to. rw (dead q from to) refl);
      deleted = filter-none_in (λ p. is_deleted_entry g now p) (block * per_block g + lookups g) (entries g) (λ q from to. rw (ones q from to) refl);
      free = counted-all (λ p. entry_of g now p == 0xFFFF) (block * per_block g + lookups g) (entries g) ones;
    }

-- an entry of another block counts as it did
sort_stays : (g : Geometry) (was now : List ℕ) (block q : ℕ) → SameOutside (block * g.block) g.block was now → is_entry_page g q ≡ true → block_of g q ≢ block → sort_at g now q ≡ sort_at g was q
unfolding sort_at
sort_stays g was now block q same page there = let stays = others_stay g was now block q same page there in rw (stays.entry, stays.live) refl

-- All other blocks have the counts that they had.
pub fresh_beside : (g : Geometry) (was now : List ℕ) (block : ℕ) → SameOutside (block * g.block) g.block was now → (c : ℕ) → c < g.blocks → c ≢ block → RecountedBeside g was now c
fresh_beside g was now block same c low out =
    same_counted g was now c low
    (same-block g (sort_at g was) (sort_at g now) c low (λ q page at. sort_stays g was now block q same page (λ e. out (sym at ∙ e))))

-- They have the erase counts that they had.
pub fresh_erases : (g : Geometry) (was now : List ℕ) (block : ℕ) → SameOutside (block * g.block) g.block was now → (c : ℕ) → c ≢ block → erase_count g now c ≡ erase_count g was c
unfolding erase_count
fresh_erases g was now block same c out =
    let room : entries g + 2 ≤ slots g = (sizes g).slots_fit in
    let small : slots g - 1 < slots g = omega (arith, room) in
    rw (slot-other g (sizes g) was now block same c (slots g - 1) out small) refl

-- Lookup pages still tell free entries.
pub tells_free_fresh : (g : Geometry) (was now : List ℕ) (block : ℕ) → TellsFree g was → SameOutside (block * g.block) g.block was now → is_free_block g now block ≡ true → TellsFree g now
unfolding is_free_block
tells_free_fresh g was now block t same free = record {
  magic = λ c low. ⊎_elim
      (λ (here : c ≡ block). ap (has_magic g now) here ∙ (and_parts (has_magic g now block) _ free).0)
      (λ (there : c ≡ block → ⊥). magic_stays g was now block c same there ∙ t.magic c low)
      (cases_eq c block);
  free = λ p page ones. ⊎_elim
      (λ (here : block_of g p ≡ block). in_free g now block p free page here)
      (λ (there : block_of g p ≡ block → ⊥).
      let stays = others_stay g was now block p same page there in
      let as_free : is_free_entry g now p ≡ is_free_entry g was p = rw (stays.entry, stays.bytes) refl in
      as_free ∙ t.free p page (sym stays.entry ∙ ones))
      (cases_eq (block_of g p) block);
}

-- ---- free blocks by their counts

-- all numbers of a list pass a test where as many do as there are
all_by_count : (t : ℕ → Bool) (xs : List ℕ) (n : ℕ) → length xs ≡ n → list_all t xs ≡ (length (filter t xs) == n)
all_by_count t xs n size = ⊎_elim
    (λ (all : list_all t xs ≡ true). all ∙ sym (eq-eqb (length (filter t xs)) n (all_counted t xs all ∙ size)))
    (λ (none : list_all t xs ≡ false). none ∙ sym (ne_eqb (length (filter t xs)) n (λ e. let few = not_all_counted t xs none in omega (arith, few, e, size))))
    (cases_Bool (list_all t xs))

-- A block is free where as many of its entries are 0xFFFF as it has.
pub free_by_count : (g : Geometry) (image : List ℕ) (block : ℕ) → block < g.blocks → TellsFree g image → is_free_block g image block ≡ (ones_in g image block == entries g)
unfolding is_free_block
free_by_count g image block low t =
    let same = list_all_same (λ p. entry_of g image p == 0xFFFF) (λ p. is_free_entry g image p) (block * per_block g + lookups g) (entries g)
    (λ q from to. sym (tells_alike g image q t (entry_in g block q low from to).1)) in
    let all = all_by_count (λ p. entry_of g image p == 0xFFFF) (range_with_len (block * per_block g + lookups g) (entries g)) (entries g) (length-range_with_len (block * per_block g + lookups g) (entries g)) in
    rw (t.magic block low) (same ∙ all)
