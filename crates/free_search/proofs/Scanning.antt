-- Header pages that were looked at: page by page, and block by block.
use Rattle.std.proofs.Common.{◌≡◌, ◌≢◌, ℕ, ◌+◌, ◌-◌, ◌*◌, ◌/◌, ◌%◌, ◌<◌, ◌≤◌, ◌==◌, ◌&&◌, ◌||◌, ⊎_elim, nat_lt, not, Bool, true, false, List, refl, sym, subst, ◌∙◌, ap, arith}
use Rattle.std.specs.Prelude.{Option, None, is_some, find, slice_index, slice_range}
use Rattle.std.specs.List.{range_with_len}
use Rattle.std.proofs.Math.Nat.{div-lt_iff_lt-mul, mod-lt}
use Rattle.std.proofs.lemmas.Bool.{cases_Bool, lt-ltb}
use Rattle.std.proofs.lemmas.Nat.{mod-mul-add, div-add-mod'}
use Rattle.geometry.proofs.Bounds.{magic_fits}
use Rattle.geometry.specs.declared.geometry.Geometry.{Geometry}
use Rattle.geometry.specs.Numbers.{usable, per_block, lookups, entries, page_count}
use Rattle.nor_core.specs.Flash.{word_at}
use Rattle.nor_core.specs.declared.state.NorState.{Ghosts as NorOf}
use Rattle.page_layout.specs.declared.header.PageHeader.{PageHeader}
use Rattle.page_layout.specs.Ids.{bit_of}
use Rattle.page_layout.specs.Layout.{header_at, is_between, is_finished}
use Rattle.image_model.specs.Headers.{obj_id, name_of}
use Rattle.image_model.specs.Places.{page_of, slot_of, entry_of, block_of, has_magic, is_entry_page}
use Rattle.image_model.specs.Live.{live_at, is_live}
use Rattle.flash_view.specs.declared.counts.BlockCounts.{BlockCounts}
use Rattle.flash_view.specs.Places.{IsEntryPage}
use Rattle.flash_view.specs.Table.{row_of, HasTable}
use Rattle.flash_view.specs.Found.{headed, named_at, first_named, is_name}
use Rattle.flash_view.specs.Walk.{IsNextLive, ArePassed}
use Rattle.flash_view.proofs.Heads.{live_by, dead_by, and_false}
use Rattle.flash_view.proofs.InPage.{even_page}
use Rattle.flash_view.proofs.Names.{unnamed_by}
use Rattle.flash_view.proofs.Parts.{part_byte}
use Rattle.flash_view.proofs.Passed.{differ, passed_head, found_named, all_to, all_and, first_some, first_none}
use Rattle.flash_view.proofs.RowPassed.{table_passed}
use Rattle.flash_view.proofs.Rows.{table_magic}
use Rattle.flash_view.proofs.SlotHeld.{some_pages, word_small, slot_held}
use Rattle.flash_view.proofs.Walking.{seen_live, unseen_live, entry_is, found_block}
use Rattle.free_search.specs.Counted.{HasSlots}
use Rattle.free_search.specs.Ids.{head_id, Notes, unused_id}
use Rattle.free_search.specs.Naming.{Scanned, IsIndexEntry, AreSlots, LacksIndex, first_entry}
use Rattle.free_search.proofs.Bits.{noted_over, noted_on, noted_all}

module _ (g : Geometry) (image : List ℕ) where
  -- ---- pages that are no header pages

  dead_head : (q : ℕ) → is_live g image q ≡ false → headed (live_at g image q) ≡ None
  unfolding live_at
  dead_head q dead = rw dead refl

  lookup_dead : (q : ℕ) → q % per_block g < lookups g → is_live g image q ≡ false
  unfolding is_live is_entry_page
  lookup_dead q few = rw (lt-ltb (q % per_block g) (lookups g) few, and_false (nat_lt q (page_count g))) refl

  no_magic : (q : ℕ) → has_magic g image (block_of g q) ≡ false → is_live g image q ≡ false
  unfolding is_live
  no_magic q none = rw (none, and_false (is_entry_page g q)) refl

  -- the entry isn't the id of the page
  other_id : (q entry : ℕ) (head : PageHeader) → entry ≡ entry_of g image q → head ≡ header_at (page_of g image q) → entry ≢ head.id → is_live g image q ≡ false
  unfolding is_live
  other_id q entry head number is other =
      let id : head.id ≡ obj_id (page_of g image q) = ap (λ (h : PageHeader). h.id) is in
      let apart : (entry_of g image q == obj_id (page_of g image q)) ≡ false = differ _ _ (λ e. other (number ∙ e ∙ sym id)) in
      rw (apart, and_false (is_entry_page g q && has_magic g image (block_of g q))) refl

  -- ---- on over such pages

  pub scan_over : (bits name : List ℕ) (at p : ℕ) → at ≤ p → ((q : ℕ) → at ≤ q → q < p → headed (live_at g image q) ≡ None) → Scanned g image bits name at → Scanned g image bits name p
  scan_over bits name at p low none was = record {
    noted = noted_over g image bits at p low none was.noted;
    unnamed = all_to (λ q. named_at (live_at g image q) name ≡ None) at p was.unnamed (λ q after before. unnamed_by (live_at g image q) name (sym (none q after before)));
  }

  scan_dead : (bits name : List ℕ) (p : ℕ) → is_live g image p ≡ false → Scanned g image bits name p → Scanned g image bits name (p + 1)
  scan_dead bits name p dead was = scan_over bits name p (p + 1) (omega arith) (λ q after before. let same : p ≡ q = omega (arith, after, before) in subst (λ (k : ℕ). headed (live_at g image k) ≡ None) same (dead_head p dead)) was

  pub scan_other : (bits name : List ℕ) (p entry : ℕ) (head : PageHeader) → IsIndexEntry g image p entry → head ≡ header_at (page_of g image p) → entry ≢ head.id → Scanned g image bits name p → Scanned g image bits name (p + 1)
  scan_other bits name p entry head index is other = scan_dead bits name p (other_id p entry head index.number is other)

  pub scan_open : (bits name : List ℕ) (p : ℕ) (head : PageHeader) → head ≡ header_at (page_of g image p) → is_finished head ≡ false → Scanned g image bits name p → Scanned g image bits name (p + 1)
  scan_open bits name p head is open' = scan_dead bits name p (unseen_live g image p (dead_by g image p head is open'))

  -- ---- a live page

  pub next_here : (p entry : ℕ) (head : PageHeader) → IsEntryPage g p → IsIndexEntry g image p entry → head ≡ header_at (page_of g image p) → entry ≡ head.id → is_finished head ≡ true → IsNextLive g image p 0x8000 0xFFFE p head
  next_here p entry head place index is same whole =
      let seen = seen_live g image p head (live_by g image p entry head place index.magic index.number is same whole) in
      record {
        live = seen.0;
        header = seen.1;
        between = subst (λ (n : ℕ). is_between 0x8000 0xFFFE n ≡ true) index.number index.between;
        passed = λ q after before. absurd (omega (arith, after, before));
      }

  pub scan_named : (bits name : List ℕ) (p : ℕ) (head : PageHeader) → p < page_count g → IsNextLive g image p 0x8000 0xFFFE p head → head.span ≡ 0 → is_name (name_of (page_of g image p)) name ≡ true → Scanned g image bits name p → is_some (first_named g image name) ≡ true
  unfolding first_named
  scan_named bits name p head below next first has was =
      ap (λ (o : Option ℕ). is_some o) (first_some (λ q. named_at (live_at g image q) name) (page_count g) p _ below (found_named g image p p head name next first has) was.unnamed)

  pub scan_noted : (old new name : List ℕ) (p : ℕ) (head : PageHeader) → IsNextLive g image p 0x8000 0xFFFE p head → named_at (live_at g image p) name ≡ None → Notes (usable g) (head_id head) old new → Scanned g image old name p → Scanned g image new name (p + 1)
  scan_noted old new name p head next none notes was = record {
    noted = noted_on g image old new p p head (omega arith) next was.noted notes;
    unnamed = all_and (λ q. named_at (live_at g image q) name ≡ None) p (p + 1) refl was.unnamed none;
  }

  -- ---- slots that were read

  pub scan_slots : (bits name bytes : List ℕ) (block start count from i : ℕ) → AreSlots g image bytes block start count → start + count ≤ entries g → from ≤ i → i ≤ count →
      ((j : ℕ) → from ≤ j → j < i → is_between 0x8000 0xFFFE (word_at bytes (2 * j)) ≡ false) → Scanned g image bits name (first_entry g block + start + from) → Scanned g image bits name (first_entry g block + start + i)
  scan_slots bits name bytes block start count from i are few low high none was = scan_over bits name _ _ (omega (arith, low)) over was
    where
      over : (q : ℕ) → first_entry g block + start + from ≤ q → q < first_entry g block + start + i → headed (live_at g image q) ≡ None
      over q after before =
          let j : ℕ = q - (first_entry g block + start) in
          let at : first_entry g block + (start + (q - (first_entry g block + start))) ≡ q = omega (arith, after) in
          let number : word_at bytes (2 * (q - (first_entry g block + start))) ≡ entry_of g image q =
          are.slots (q - (first_entry g block + start)) (omega (arith, after, before, high)) ∙ sym (entry_is g image block (start + (q - (first_entry g block + start))) (omega (arith, after, before, high, few))) ∙ ap (entry_of g image) at in
          passed_head g image q (record {
            word = λ is. subst (λ (n : ℕ). n < 0x10000) number (word_small bytes (2 * (q - (first_entry g block + start))) are.small);
            none = λ live. subst (λ (n : ℕ). is_between 0x8000 0xFFFE n ≡ false) number (none (q - (first_entry g block + start)) (omega (arith, after)) (omega (arith, after, before)));
          })

  pub index_entry : (bytes : List ℕ) (block start count i p entry : ℕ) → AreSlots g image bytes block start count → start + count ≤ entries g → i < count → p ≡ first_entry g block + (start + i) → entry ≡ word_at bytes (2 * i) → is_between 0x8000 0xFFFE entry ≡ true → IsIndexEntry g image p entry
  index_entry bytes block start count i p entry are few below at is between =
      let place : start + i < entries g = omega (arith, few, below) in
      record {
        number = is ∙ are.slots i below ∙ sym (entry_is g image block (start + i) place) ∙ sym (ap (entry_of g image) at);
        between = between;
        magic = subst (λ (b : ℕ). has_magic g image b ≡ true) (found_block g block (start + i) p place at) are.magic;
      }

  -- the slots in a part of a lookup page are those of a block
  pub has_slots : (bytes : List ℕ) (block k start count at n : ℕ) → ((j : ℕ) → slice_index bytes j < 256) → k * (g.page / 2) ≤ start → start + count ≤ k * (g.page / 2) + g.page / 2 → at ≡ 2 * (start - k * (g.page / 2)) → n ≡ 2 * count →
      bytes ≡ slice_range (page_of g image (block * per_block g + k)) at (at + n) → HasSlots g image bytes block start count
  has_slots bytes block k start count at n small low high at_is n_is is = record {
    small = small;
    slots = λ i below.
        let page = page_of g image (block * per_block g + k) in
        let place : at + 2 * i ≡ 2 * (start - k * (g.page / 2) + i) = omega (arith, at_is) in
        let next : at + (2 * i + 1) ≡ 2 * (start - k * (g.page / 2) + i) + 1 = omega (arith, at_is) in
        let first : slice_index (slice_range page at (at + n)) (2 * i) ≡ slice_index page (at + 2 * i) = part_byte at (at + n) (2 * i) page (omega (arith, below, n_is)) in
        let second : slice_index (slice_range page at (at + n)) (2 * i + 1) ≡ slice_index page (at + (2 * i + 1)) = part_byte at (at + n) (2 * i + 1) page (omega (arith, below, n_is)) in
        let word : word_at bytes (2 * i) ≡ word_at page (2 * (start - k * (g.page / 2) + i)) = rw (is, first, second, place, next) refl in
        let sum : k * (g.page / 2) + (start - k * (g.page / 2) + i) ≡ start + i = omega (arith, low) in
        word ∙ slot_held g image (g.page / 2) block k (start - k * (g.page / 2) + i) refl (omega (arith, low, high, below)) ∙ ap (slot_of g image block) sum;
  }

  pub are_slots : (bytes : List ℕ) (block k start count at n : ℕ) → has_magic g image block ≡ true → ((j : ℕ) → slice_index bytes j < 256) → k * (g.page / 2) ≤ start → start + count ≤ k * (g.page / 2) + g.page / 2 → at ≡ 2 * (start - k * (g.page / 2)) → n ≡ 2 * count →
      bytes ≡ slice_range (page_of g image (block * per_block g + k)) at (at + n) → AreSlots g image bytes block start count
  are_slots bytes block k start count at n magic small low high at_is n_is is =
      let has = has_slots bytes block k start count at n small low high at_is n_is is in
      record { magic = magic; small = has.small; slots = has.slots }

  -- which lookup page has an entry
  pub part_below : (at : ℕ) → at < entries g → at / (g.page / 2) < lookups g
  part_below at below =
      let page : g.page ≡ 2 * (g.page / 2) = omega (arith, even_page g) in
      let twice : lookups g * g.page ≡ lookups g * (2 * (g.page / 2)) = ap (λ (n : ℕ). lookups g * n) page in
      (div-lt_iff_lt-mul (omega (arith, g.valid.page_least))).1 (omega (arith, magic_fits g, below, twice))

  -- it ends behind it
  pub part_after : (s at : ℕ) → 0 < s → at < at / s * s + s
  part_after s at some = let whole : at / s * s + at % s ≡ at = div-add-mod' at s in omega (arith, whole, mod-lt at some)

  -- ---- blocks

  -- the lookup pages come first
  pub scan_lookups : (bits name : List ℕ) (block : ℕ) → Scanned g image bits name (block * per_block g) → Scanned g image bits name (first_entry g block)
  scan_lookups bits name block was = scan_over bits name _ _ (omega arith) over was
    where
      over : (q : ℕ) → block * per_block g ≤ q → q < first_entry g block → headed (live_at g image q) ≡ None
      over q after before =
          let few : q - block * per_block g < lookups g = omega (arith, after, before) in
          let at : block * per_block g + (q - block * per_block g) ≡ q = omega (arith, after) in
          let place : q % per_block g ≡ q - block * per_block g = sym (ap (λ (n : ℕ). n % per_block g) at) ∙ mod-mul-add block (per_block g) (q - block * per_block g) (omega (arith, few, some_pages g)) in
          dead_head q (lookup_dead q (omega (arith, place, few)))

  pub scan_lacking : (bits name : List ℕ) (block : ℕ) → LacksIndex g image block true → Scanned g image bits name (block * per_block g) → Scanned g image bits name ((block + 1) * per_block g)
  scan_lacking bits name block none was = scan_over bits name (first_entry g block) _ (omega (arith, some_pages g)) over (scan_lookups bits name block was)
    where
      over : (q : ℕ) → first_entry g block ≤ q → q < (block + 1) * per_block g → headed (live_at g image q) ≡ None
      over q after before =
          let at : first_entry g block + (q - first_entry g block) ≡ q = omega (arith, after) in
          subst (λ (k : ℕ). headed (live_at g image k) ≡ None) at (none (q - first_entry g block) (omega (arith, after, before, some_pages g)))

  pub scan_full : (bits name : List ℕ) (block at : ℕ) → entries g ≤ at → at ≤ entries g → Scanned g image bits name (first_entry g block + at) → Scanned g image bits name ((block + 1) * per_block g)
  scan_full bits name block at full most was = subst (Scanned g image bits name) (omega (arith, full, most, some_pages g)) was

  -- all blocks were looked at
  pub scan_end : (bits name : List ℕ) (block : ℕ) → block ≡ g.blocks → Scanned g image bits name (block * per_block g) → (first_named g image name ≡ None) × (find (λ id. not (bit_of bits id == 1)) (range_with_len 1 (usable g)) ≡ unused_id g image)
  unfolding first_named page_count
  scan_end bits name block is was =
      let end : block * per_block g ≡ page_count g = ap (λ (n : ℕ). n * per_block g) is in
      let all : Scanned g image bits name (page_count g) = subst (Scanned g image bits name) end was in
      (first_none (λ q. named_at (live_at g image q) name) (page_count g) all.unnamed, noted_all g image bits all.noted)

  pub lacks_by_magic : (block : ℕ) (magic : Bool) → magic ≡ has_magic g image block → LacksIndex g image block (not magic)
  lacks_by_magic block true is = sym is
  lacks_by_magic block false is = λ i few. dead_head (first_entry g block + i) (no_magic (first_entry g block + i) (subst (λ (b : ℕ). has_magic g image b ≡ false) (found_block g block i (first_entry g block + i) few refl) (sym is)))

or_true : (b : Bool) → (b || true) ≡ true
or_true true = refl
or_true false = refl

-- by its row a block has no index page
module _ {N : Type 0} {nor : NorOf N} where
  pub lacks_by_row : (g : Geometry) (device : N) (rows : List ℕ) (block : ℕ) (row : BlockCounts) → HasTable nor g device rows → nor.tells device → block < g.blocks → row ≡ row_of rows block → LacksIndex g (nor.bytes device) block (row.index_live == 0)
  lacks_by_row g device rows block row table tells inside is = ⊎_elim
      (λ (none : (row.index_live == 0) ≡ true).
      let passed : ArePassed g (nor.bytes device) block 0 0x8000 0xFFFE = table_passed g device rows block 0x8000 0xFFFE table tells inside (let same : ((row_of rows block).index_live == 0) ≡ true = subst (λ (r : BlockCounts). (r.index_live == 0) ≡ true) is none in rw (same, or_true ((row_of rows block).data_live == 0)) refl) in
      subst (LacksIndex g (nor.bytes device) block) (sym none) (λ i few. passed_head g (nor.bytes device) (first_entry g block + i) (passed i (omega arith) few)))
      (λ (some : (row.index_live == 0) ≡ false). subst (LacksIndex g (nor.bytes device) block) (sym some) (sym (table_magic g device rows block table tells inside)))
      (cases_Bool (row.index_live == 0))
