-- The counts of a block's entries, entry after entry.
use Rattle.std.proofs.Common.{◌≡◌, ◌≢◌, ℕ, ◌+◌, ◌-◌, ◌*◌, ◌<◌, ◌≤◌, List, Bool, true, false, not, ◌==◌, length, refl, sym, ◌∙◌, arith, ap, subst, ⊎_elim, if◌then◌else◌}
use Rattle.std.specs.Prelude.{filter, Option, Some, None}
use Rattle.std.specs.List.{range_with_len}
use Rattle.std.proofs.lemmas.Bool.{cases_lt, cases_Bool, eqb-true}
use Rattle.nor_core.specs.Flash.{word_at}
use Rattle.geometry.specs.declared.geometry.Geometry.{Geometry}
use Rattle.geometry.specs.Numbers.{per_block, lookups, entries}
use Rattle.page_layout.specs.declared.header.PageHeader.{PageHeader}
use Rattle.page_layout.specs.Layout.{header_at, names_index as names_index_head}
use Rattle.image_model.specs.Headers.{names_index}
use Rattle.image_model.specs.Places.{page_of, entry_of, erase_count, slot_of, block_of, has_magic, is_entry_page}
use Rattle.image_model.specs.Within.{entry_of_block}
use Rattle.image_model.specs.Live.{live_at, is_live}
use Rattle.image_model.specs.Kinds.{is_index_page, is_data_page}
use Rattle.image_model.specs.Collect.{index_in, data_in, deleted_in, is_deleted_entry}
use Rattle.flash_view.specs.declared.counts.BlockCounts.{BlockCounts}
use Rattle.flash_view.specs.declared.counts.Sort.{Sort}
use Rattle.flash_view.specs.declared.counts.Sort.TheVariants.{Index, Data, Deleted, Free}
use Rattle.flash_view.specs.Counts.{sort_of_page, sort_at, one_more, total_of, AreCounts}
use Rattle.flash_view.specs.Places.{IsEntryPage}
use Rattle.flash_view.proofs.Heads.{entry_page_told, and_false}
use Rattle.flash_view.proofs.Parts.{finished_is}
use Rattle.flash_view.proofs.SlotHeld.{word_small}
use Rattle.flash_view.proofs.Sorts.{free_is_dead, deleted_sort, used_sort}
use Rattle.flash_view.proofs.Walking.{entry_is}
use Rattle.free_search.specs.Counted.{sort_by_header, HasSlots, Counting, AreWords, IsCountedTo}
use Rattle.free_search.proofs.Scans.{count_start, count_yes, count_no, count_end}

-- which of the four tests an entry that isn't free passes, by what it counts as
abbrev pub is_index_sort : Sort → Bool
is_index_sort Index = true
is_index_sort _ = false

abbrev pub is_data_sort : Sort → Bool
is_data_sort Data = true
is_data_sort _ = false

abbrev pub is_deleted_sort : Sort → Bool
is_deleted_sort Deleted = true
is_deleted_sort _ = false

abbrev pub is_free_sort : Sort → Bool
is_free_sort Free = true
is_free_sort _ = false

pub record Passes (g : Geometry) (image : List ℕ) (p : ℕ) (s : Sort) : Type 0 where
  pub index : is_index_page (live_at g image p) ≡ is_index_sort s
  pub pages : is_data_page (live_at g image p) ≡ is_data_sort s
  pub deleted : is_deleted_entry g image p ≡ is_deleted_sort s
  pub free : (entry_of g image p == 0xFFFF) ≡ is_free_sort s

page_passes : (index : Bool) → (index ≡ is_index_sort (if index then Index else Data)) × (not index ≡ is_data_sort (if index then Index else Data)) × (false ≡ is_deleted_sort (if index then Index else Data))
    × (false ≡ is_free_sort (if index then Index else Data))
page_passes true = (refl, refl, refl, refl)
page_passes false = (refl, refl, refl, refl)

pub used_passes : (g : Geometry) (image : List ℕ) (p : ℕ) (o : Option (List ℕ)) → live_at g image p ≡ o → (entry_of g image p == 0xFFFF) ≡ false → Passes g image p (sort_of_page o)
used_passes g image p None dead used = record { index = rw dead refl; pages = rw dead refl; deleted = rw (dead, used) refl; free = used }
used_passes g image p (Some page) live used =
    let all = page_passes (names_index page) in
    record { index = rw live all.0; pages = rw live all.1; deleted = rw (live, used) all.2; free = used ∙ all.3 }

-- what an entry counts as tells which of the four tests it passes
free_passes : (g : Geometry) (image : List ℕ) (p : ℕ) → entry_of g image p ≡ 0xFFFF → Passes g image p Free
free_passes g image p ones =
    let dead = free_is_dead g image p ones in
    record { index = rw dead refl; pages = rw dead refl; deleted = rw (dead, ones) refl; free = rw ones refl }

sort_passes : (g : Geometry) (image : List ℕ) (p : ℕ) (s : Sort) → s ≡ sort_at g image p → Passes g image p s
unfolding sort_at
sort_passes g image p s is = ⊎_elim
    (λ (free : (entry_of g image p == 0xFFFF) ≡ true). let e : s ≡ Free = rw (is, free) refl in subst (Passes g image p) (sym e) (free_passes g image p (eqb-true (entry_of g image p) 0xFFFF free)))
    (λ (used : (entry_of g image p == 0xFFFF) ≡ false). let e : s ≡ sort_of_page (live_at g image p) = rw (is, used) refl in subst (Passes g image p) (sym e) (used_passes g image p (live_at g image p) refl used))
    (cases_Bool (entry_of g image p == 0xFFFF))

-- ---- what an entry counts as, by its number and its page's header

pub deleted_told : (g : Geometry) (image : List ℕ) (p entry : ℕ) → entry ≢ 0xFFFF → entry ≡ 0 → entry ≡ entry_of g image p → Deleted ≡ sort_at g image p
deleted_told g image p entry used none is = used_sort g image p entry Deleted used is (deleted_sort g image p entry none is)

no_magic : (g : Geometry) (image : List ℕ) (p : ℕ) → has_magic g image (block_of g p) ≡ false → live_at g image p ≡ None
unfolding live_at is_live
no_magic g image p none = rw (none, and_false (is_entry_page g p)) refl

pub lacking_told : (g : Geometry) (image : List ℕ) (p entry : ℕ) (has : Bool) → entry ≢ 0xFFFF → has ≡ false → has ≡ has_magic g image (block_of g p) → entry ≡ entry_of g image p → Deleted ≡ sort_at g image p
lacking_told g image p entry has used not_so told is =
    let dead = no_magic g image p (sym told ∙ not_so) in
    used_sort g image p entry Deleted used is (rw dead refl)

by_if : (b : Bool) (page : List ℕ) → (if b then (if names_index_head (header_at page) then Index else Data) else Deleted) ≡ sort_of_page (if b then Some page else None)
by_if true page = refl
by_if false page = refl

named_told : (g : Geometry) (image : List ℕ) (p entry : ℕ) (head : PageHeader) → IsEntryPage g p → has_magic g image (block_of g p) ≡ true → entry ≡ entry_of g image p → head ≡ header_at (page_of g image p) → sort_by_header entry head ≡ sort_of_page (live_at g image p)
unfolding live_at is_live
named_told g image p entry head place magic named is = rw (entry_page_told g p place, magic, named, is, finished_is (page_of g image p)) (by_if _ (page_of g image p))

pub header_told : (g : Geometry) (image : List ℕ) (p entry : ℕ) (has : Bool) (head : PageHeader) (sort : Sort) → IsEntryPage g p → entry ≢ 0xFFFF → has ≡ true → has ≡ has_magic g image (block_of g p) → entry ≡ entry_of g image p → head ≡ header_at (page_of g image p) → sort ≡ sort_by_header entry head → sort ≡ sort_at g image p
header_told g image p entry has head sort place used so told is head_is by = used_sort g image p entry sort used is (by ∙ named_told g image p entry head place (sym told ∙ so) is head_is)

pub counting_start : (g : Geometry) (image : List ℕ) (block : ℕ) (c : BlockCounts) → c.index_live ≡ 0 → c.data_live ≡ 0 → c.deleted ≡ 0 → c.free ≡ 0 → c.erases ≡ erase_count g image block →
    Counting g image (block * per_block g + lookups g) (entries g) 0 block c
unfolding index_in data_in deleted_in
counting_start g image block c a b d e erases = record {
  index = rw a (count_start (λ p. is_index_page (live_at g image p)) (block * per_block g + lookups g) (entries g));
  pages = rw b (count_start (λ p. is_data_page (live_at g image p)) (block * per_block g + lookups g) (entries g));
  deleted = rw d (count_start (λ p. is_deleted_entry g image p) (block * per_block g + lookups g) (entries g));
  free = rw e (count_start (λ p. entry_of g image p == 0xFFFF) (block * per_block g + lookups g) (entries g));
  erases = erases;
}

pub counting_more : (g : Geometry) (image : List ℕ) (first n i block p : ℕ) (c : BlockCounts) (s : Sort) → i < n → Counting g image first n i block c → first + i ≡ p → Passes g image p s →
    Counting g image first n (i + 1) block (one_more c s)
counting_more g image first n i block p c Index less was at_p w = record {
  index = count_yes _ first n i _ _ p less was.index at_p w.index;
  pages = count_no _ first n i _ _ p less was.pages at_p w.pages;
  deleted = count_no _ first n i _ _ p less was.deleted at_p w.deleted;
  free = count_no _ first n i _ _ p less was.free at_p w.free;
  erases = was.erases;
}
counting_more g image first n i block p c Data less was at_p w = record {
  index = count_no _ first n i _ _ p less was.index at_p w.index;
  pages = count_yes _ first n i _ _ p less was.pages at_p w.pages;
  deleted = count_no _ first n i _ _ p less was.deleted at_p w.deleted;
  free = count_no _ first n i _ _ p less was.free at_p w.free;
  erases = was.erases;
}
counting_more g image first n i block p c Deleted less was at_p w = record {
  index = count_no _ first n i _ _ p less was.index at_p w.index;
  pages = count_no _ first n i _ _ p less was.pages at_p w.pages;
  deleted = count_yes _ first n i _ _ p less was.deleted at_p w.deleted;
  free = count_no _ first n i _ _ p less was.free at_p w.free;
  erases = was.erases;
}
counting_more g image first n i block p c Free less was at_p w = record {
  index = count_no _ first n i _ _ p less was.index at_p w.index;
  pages = count_no _ first n i _ _ p less was.pages at_p w.pages;
  deleted = count_no _ first n i _ _ p less was.deleted at_p w.deleted;
  free = count_yes _ first n i _ _ p less was.free at_p w.free;
  erases = was.erases;
}

words_told : (g : Geometry) (image : List ℕ) (block : ℕ) → AreWords g image block (entries g) → (p : ℕ) → is_entry_page g p ≡ true → block_of g p ≡ block → entry_of g image p < 0x10000
words_told g image block words p page here =
    let w = entry_of_block g p page in
    let i = p - (block_of g p * per_block g + lookups g) in
    let at : block_of g p * per_block g + lookups g + i ≡ p = omega (arith, w.0) in
    let few : i < entries g = omega (arith, w.0, w.1) in
    let number : slot_of g image block i ≡ entry_of g image p = ap (λ (b : ℕ). slot_of g image b i) (sym here) ∙ sym (entry_is g image (block_of g p) i few) ∙ ap (entry_of g image) at in
    subst (λ (n : ℕ). n < 0x10000) number (words i few)

pub counting_end : (g : Geometry) (image : List ℕ) (block first n i : ℕ) (c : BlockCounts) → first ≡ block * per_block g + lookups g → n ≡ entries g → n ≤ i → AreWords g image block (entries g) → Counting g image first n i block c → AreCounts g image block c
counting_end g image block first n i c at_first at_n most words was = record {
  index = count_end _ first n i _ _ most was.index;
  pages = count_end _ first n i _ _ most was.pages;
  deleted = count_end _ first n i _ _ most was.deleted;
  free = count_end _ first n i _ _ most was.free ∙ rw (at_first, at_n) refl;
  erases = was.erases;
  words = words_told g image block words;
}

-- one entry more was counted
pub total_more : (c : BlockCounts) (s : Sort) → total_of (one_more c s) ≡ total_of c + 1
total_more c Index = omega arith
total_more c Data = omega arith
total_more c Deleted = omega arith
total_more c Free = omega arith

-- ---- entry after entry

pub counted_start : (g : Geometry) (image : List ℕ) (block : ℕ) (c : BlockCounts) → c.index_live ≡ 0 → c.data_live ≡ 0 → c.deleted ≡ 0 → c.free ≡ 0 → c.erases ≡ erase_count g image block → IsCountedTo g image block 0 c
counted_start g image block c a b d e erases = record { counts = counting_start g image block c a b d e erases; words = λ i none. absurd (omega (arith, none)) }

pub counted_on : (g : Geometry) (image : List ℕ) (block at p : ℕ) (c : BlockCounts) (s : Sort) → at < entries g → p ≡ block * per_block g + lookups g + at → s ≡ sort_at g image p → slot_of g image block at < 0x10000 → IsCountedTo g image block at c → IsCountedTo g image block (at + 1) (one_more c s)
counted_on g image block at p c s below place sort word was = record {
  counts = counting_more g image (block * per_block g + lookups g) (entries g) at block p c s below was.counts (sym place) (sort_passes g image p s sort);
  words = λ k few. ⊎_elim
      (λ (early : k < at). was.words k early)
      (λ (late : at ≤ k). let same : at ≡ k = omega (arith, few, late) in subst (λ (j : ℕ). slot_of g image block j < 0x10000) same word)
      (cases_lt k at);
}

pub counted_all : (g : Geometry) (image : List ℕ) (block at : ℕ) (c : BlockCounts) → entries g ≤ at → at ≤ entries g → IsCountedTo g image block at c → AreCounts g image block c
counted_all g image block at c full most was =
    counting_end g image block (block * per_block g + lookups g) (entries g) at c refl refl full (λ i few. was.words i (omega (arith, few, full))) was.counts

-- of slots that were read, entry `start + i` is the one of its page
pub slot_told : (g : Geometry) (image bytes : List ℕ) (block start count i p entry : ℕ) → HasSlots g image bytes block start count → start + count ≤ entries g → i < count → p ≡ block * per_block g + lookups g + (start + i) → entry ≡ word_at bytes (2 * i) → entry ≡ entry_of g image p
slot_told g image bytes block start count i p entry has few below place is = is ∙ has.slots i below ∙ sym (entry_is g image block (start + i) (omega (arith, few, below))) ∙ sym (ap (entry_of g image) place)

pub slot_word : (g : Geometry) (image bytes : List ℕ) (block start count i : ℕ) → HasSlots g image bytes block start count → i < count → slot_of g image block (start + i) < 0x10000
slot_word g image bytes block start count i has below = subst (λ (n : ℕ). n < 0x10000) (has.slots i below) (word_small bytes (2 * i) has.small)
