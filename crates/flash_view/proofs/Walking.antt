-- Entries and pages that were passed over, and those that were found.
use Rattle.std.proofs.Common.{ℕ, ◌≡◌, ◌+◌, ◌-◌, ◌*◌, ◌/◌, ◌%◌, ◌<◌, ◌≤◌, ⊎_elim, Bool, nat_lt, true, false, List, refl, sym, subst, ◌∙◌, ap, arith, if◌then◌else◌}
use Rattle.std.specs.Prelude.{Option, Some, None, slice_index, min}
use Rattle.std.specs.Option.{option_map}
use Rattle.std.proofs.lemmas.Bool.{lt-ltb}
use Rattle.std.proofs.Math.Nat.{mul-le-mul_right}
use Rattle.std.proofs.lemmas.Nat.{mod-mul-add, div-mul-add, div-add-mod'}
use Rattle.geometry.specs.declared.geometry.Geometry.{Geometry}
use Rattle.page_layout.specs.declared.header.PageHeader.{PageHeader}
use Rattle.page_layout.specs.Layout.{header_at, is_between}
use Rattle.page_cache.proofs.Places.{lt_or_le}
use Rattle.nor_core.specs.Flash.{word_at}
use Rattle.geometry.specs.Numbers.{per_block, lookups, entries, page_count}
use Rattle.image_model.specs.Places.{page_of, slot_of, entry_of, is_entry_page, block_of}
use Rattle.image_model.specs.Live.{live_at, is_live}
use Rattle.flash_view.specs.Walk.{IsPassedSlot, IsNextSlot, FirstSlot, NextSlot, IsPassed, ArePassed, NextPlace, IsNextLive}
use Rattle.flash_view.proofs.Heads.{and_false}
use Rattle.flash_view.proofs.SlotHeld.{slot_held, word_small, some_pages}

-- a lookup page has no entry, and isn't live
no_entry : (g : Geometry) (q : ℕ) → q % per_block g < lookups g → is_entry_page g q ≡ false
unfolding is_entry_page
no_entry g q few = rw (lt-ltb (q % per_block g) (lookups g) few) (and_false (nat_lt q (page_count g)))

unlive : (g : Geometry) (image : List ℕ) (q : ℕ) → is_entry_page g q ≡ false → is_live g image q ≡ false
unfolding is_live
unlive g image q e = rw e refl

-- what is had by the header of a page
seen_if : (page : List ℕ) (live : Bool) (head : PageHeader) → Some head ≡ option_map header_at (if live then Some page else None) → (live ≡ true) × (head ≡ header_at page)
seen_if page true head e = (refl, cc)
seen_if page false head e = absurd (cc)

pub seen_live : (g : Geometry) (image : List ℕ) (p : ℕ) (head : PageHeader) → Some head ≡ option_map header_at (live_at g image p) → (is_live g image p ≡ true) × (head ≡ header_at (page_of g image p))
unfolding live_at
seen_live g image p head e = seen_if (page_of g image p) (is_live g image p) head e

unseen_if : (page : List ℕ) (live : Bool) → None ≡ option_map header_at (if live then Some page else None) → live ≡ false
unseen_if page true e = absurd (cc)
unseen_if page false e = refl

pub unseen_live : (g : Geometry) (image : List ℕ) (p : ℕ) → None ≡ option_map header_at (live_at g image p) → is_live g image p ≡ false
unfolding live_at
unseen_live g image p e = unseen_if (page_of g image p) (is_live g image p) e

-- the entry of an entry page, by its place
pub entry_is : (g : Geometry) (image : List ℕ) (block i : ℕ) → i < entries g → entry_of g image (block * per_block g + lookups g + i) ≡ slot_of g image block i
unfolding entry_of
entry_is g image block i below =
    let few : lookups g + i < per_block g = omega (arith, some_pages g, below) in
    let sum : block * per_block g + lookups g + i ≡ block * per_block g + (lookups g + i) = omega arith in
    let at : (block * per_block g + lookups g + i) / per_block g ≡ block = ap (λ (n : ℕ). n / per_block g) sum ∙ div-mul-add block (per_block g) (lookups g + i) few in
    let place : (block * per_block g + lookups g + i) % per_block g ≡ lookups g + i = ap (λ (n : ℕ). n % per_block g) sum ∙ mod-mul-add block (per_block g) (lookups g + i) few in
    let slot : lookups g + i - lookups g ≡ i = omega arith in
    rw (at, place, slot) refl

-- what ends behind another lookup page begins behind it
pub page_after : (s t j k : ℕ) → s ≡ t → (j + 1) * s < (k + 1) * t → j < k
page_after s t j k same before =
    ⊎_elim
    (λ (early : j < k). early)
    (λ (late : k ≤ j).
    let next : k + 1 ≤ j + 1 = omega (arith, late) in
    absurd (omega (arith, before, ap (λ (n : ℕ). (k + 1) * n) same, mul-le-mul_right s next)))
    (lt_or_le j k)

module _ (g : Geometry) (image : List ℕ) (low high : ℕ) where
  -- after a lookup page without one the search goes on with the next page
  pub slots_on : (s k block from at most : ℕ) → s ≡ g.page / 2 → ((i : ℕ) → from ≤ i → i < at → i < most → IsPassedSlot g image block low high i) → FirstSlot g image block at (min most ((k + 1) * (g.page / 2))) low high None →
      (i : ℕ) → from ≤ i → i < (k + 1) * s → i < most → IsPassedSlot g image block low high i
  slots_on s k block from at most half was none i after before few =
      let same : (k + 1) * s ≡ (k + 1) * (g.page / 2) = ap (λ (n : ℕ). (k + 1) * n) half in
      ⊎_elim (λ (early : i < at). was i after early few) (λ (late : at ≤ i). none i late (omega (arith, few, before, same))) (lt_or_le i at)

  -- the slots of a lookup page that were passed over are entries of the block that were
  pub passed_in : (s block k from to : ℕ) (bytes : List ℕ) → s ≡ g.page / 2 → bytes ≡ page_of g image (block * per_block g + k) → ((i : ℕ) → slice_index bytes i < 256) → to ≤ s →
      ((i : ℕ) → from ≤ i → i < to → is_between low high (word_at bytes (2 * i)) ≡ false) → (i : ℕ) → k * s + from ≤ i → i < k * s + to → IsPassedSlot g image block low high i
  passed_in s block k from to bytes half is small few none i after before =
      let at : k * s + (i - k * s) ≡ i = omega arith in
      let number : word_at bytes (2 * (i - k * s)) ≡ slot_of g image block i = ap (λ (b : List ℕ). word_at b (2 * (i - k * s))) is ∙ slot_held g image s block k (i - k * s) half (omega (arith, before, few)) ∙ ap (slot_of g image block) at in
      record {
        word = subst (λ (n : ℕ). n < 0x10000) number (word_small bytes (2 * (i - k * s)) small);
        none = subst (λ (n : ℕ). is_between low high n ≡ false) number (none (i - k * s) (omega arith) (omega (arith, before)));
      }

  -- a search of one lookup page finds the first entry, or none
  pub found_in : (s block k at end i n : ℕ) (bytes : List ℕ) → s ≡ g.page / 2 → bytes ≡ page_of g image (block * per_block g + k) → ((j : ℕ) → slice_index bytes j < 256) → end ≤ k * s + s → k * s ≤ at →
      (at - k * s ≤ i) × (i < end - k * s) × (n ≡ word_at bytes (2 * i)) × (is_between low high n ≡ true) → ((j : ℕ) → at - k * s ≤ j → j < i → is_between low high (word_at bytes (2 * j)) ≡ false) → IsNextSlot g image block at low high (k * s + i) n
  found_in s block k at end i n bytes half is small few begin here none = record {
    word = subst (λ (x : ℕ). x < 0x10000) (sym here.2) (word_small bytes (2 * i) small);
    number = here.2 ∙ ap (λ (b : List ℕ). word_at b (2 * i)) is ∙ slot_held g image s block k i half (omega (arith, here.1, few));
    between = here.3;
    passed = λ j after before. passed_in s block k (at - k * s) i bytes half is small (omega (arith, here.1, few)) none j (omega (arith, after, begin)) before;
  }

  pub none_in : (s block k at end most : ℕ) (bytes : List ℕ) → s ≡ g.page / 2 → bytes ≡ page_of g image (block * per_block g + k) → ((j : ℕ) → slice_index bytes j < 256) → end ≡ min most (k * s + s) → k * s ≤ at →
      ((j : ℕ) → at - k * s ≤ j → j < end - k * s → is_between low high (word_at bytes (2 * j)) ≡ false) → FirstSlot g image block at (min most ((k + 1) * (g.page / 2))) low high None
  none_in s block k at end most bytes half is small end_is begin none j after before =
      let same : (k + 1) * s ≡ (k + 1) * (g.page / 2) = ap (λ (n : ℕ). (k + 1) * n) half in
      passed_in s block k (at - k * s) (end - k * s) bytes half is small (omega (arith, end_is)) none j (omega (arith, after, begin)) (omega (arith, before, same, end_is))

  -- a page that isn't one of entries is passed over, and so is one that isn't live
  passed_lookup : (q : ℕ) → q % per_block g < lookups g → IsPassed g image low high q
  passed_lookup q few = let no' = no_entry g q few in record {
    word = λ is. absurd (cc);
    none = λ live. let bad = unlive g image q no' in absurd (cc);
  }

  passed_dead : (q : ℕ) → is_live g image q ≡ false → entry_of g image q < 0x10000 → IsPassed g image low high q
  passed_dead q dead small = record { word = λ is. small; none = λ live. absurd (cc) }

  -- an entry that was passed over is that of a page that was
  passed_slot : (block i : ℕ) → i < entries g → IsPassedSlot g image block low high i → IsPassed g image low high (block * per_block g + lookups g + i)
  passed_slot block i below passed =
      let number = entry_is g image block i below in
      record {
        word = λ is. subst (λ (n : ℕ). n < 0x10000) (sym number) passed.word;
        none = λ live. subst (λ (n : ℕ). is_between low high n ≡ false) (sym number) passed.none;
      }

  -- all pages from `from` on and before another one were passed over
  abbrev pub Walked : ℕ → ℕ → Type 0
  Walked from at = (q : ℕ) → from ≤ q → q < at → IsPassed g image low high q

  pub walk_from : (from block slot : ℕ) → block ≡ from / per_block g → slot ≡ from % per_block g - lookups g → from ≤ block * per_block g + lookups g + slot
  walk_from from block slot block_is slot_is =
      let whole : from / per_block g * per_block g + from % per_block g ≡ from = div-add-mod' from (per_block g) in
      let same : block * per_block g ≡ from / per_block g * per_block g = ap (λ (n : ℕ). n * per_block g) block_is in
      omega (arith, whole, same, slot_is)

  -- a walk begins at an entry of the page's block, or at its first one
  pub walk_start : (from block slot : ℕ) → block ≡ from / per_block g → slot ≡ from % per_block g - lookups g → Walked from (block * per_block g + lookups g + slot)
  walk_start from block slot block_is slot_is q after before =
      let some : 0 < per_block g = omega (arith, some_pages g) in
      let whole : from / per_block g * per_block g + from % per_block g ≡ from = div-add-mod' from (per_block g) in
      let same : block * per_block g ≡ from / per_block g * per_block g = ap (λ (n : ℕ). n * per_block g) block_is in
      let few : q - block * per_block g < lookups g = omega (arith, whole, same, before, after, slot_is, some_pages g) in
      let at : block * per_block g + (q - block * per_block g) ≡ q = omega (arith, whole, same, after) in
      let place : q % per_block g ≡ q - block * per_block g = sym (ap (λ (n : ℕ). n % per_block g) at) ∙ mod-mul-add block (per_block g) (q - block * per_block g) (omega (arith, few, some_pages g)) in
      passed_lookup q (omega (arith, place, few))

  walk_slots : (from block slot i : ℕ) → i ≤ entries g → Walked from (block * per_block g + lookups g + slot) → ((k : ℕ) → slot ≤ k → k < i → IsPassedSlot g image block low high k) → Walked from (block * per_block g + lookups g + i)
  walk_slots from block slot i few was slots q after before = ⊎_elim
      (λ (early : q < block * per_block g + lookups g + slot). was q after early)
      (λ (late : block * per_block g + lookups g + slot ≤ q).
      let at : block * per_block g + lookups g + (q - (block * per_block g + lookups g)) ≡ q = omega (arith, late) in
      subst (IsPassed g image low high) at (passed_slot block (q - (block * per_block g + lookups g)) (omega (arith, before, few)) (slots (q - (block * per_block g + lookups g)) (omega (arith, late)) (omega (arith, late, before)))))
      (lt_or_le q (block * per_block g + lookups g + slot))

  -- the next entry of a block is the next one that may be of a live page
  pub slot_place : (block from : ℕ) (found : Option (ℕ × ℕ)) → NextSlot g image block from low high found → NextPlace g image block from low high found
  slot_place block from None none = λ i after before. passed_slot block i before (none i after before)
  slot_place block from (Some (i, n)) is = is

  -- a block's entries were all passed over, and the lookup pages of the next one are
  pub walk_block : (from block slot : ℕ) → Walked from (block * per_block g + lookups g + slot) → ArePassed g image block slot low high → Walked from ((block + 1) * per_block g + lookups g)
  walk_block from block slot was none q after before = ⊎_elim
      (λ (early : q < block * per_block g + lookups g + slot). was q after early)
      (λ (late : block * per_block g + lookups g + slot ≤ q). ⊎_elim
      (λ (here : q < block * per_block g + lookups g + entries g).
      let at : block * per_block g + lookups g + (q - (block * per_block g + lookups g)) ≡ q = omega (arith, late) in
      subst (IsPassed g image low high) at (none (q - (block * per_block g + lookups g)) (omega (arith, late)) (omega (arith, here, late))))
      (λ (beyond : block * per_block g + lookups g + entries g ≤ q).
      let few : q - (block + 1) * per_block g < lookups g = omega (arith, before, beyond, some_pages g) in
      let at : (block + 1) * per_block g + (q - (block + 1) * per_block g) ≡ q = omega (arith, beyond, some_pages g) in
      let place : q % per_block g ≡ q - (block + 1) * per_block g = sym (ap (λ (n : ℕ). n % per_block g) at) ∙ mod-mul-add (block + 1) (per_block g) (q - (block + 1) * per_block g) (omega (arith, few, some_pages g)) in
      passed_lookup q (omega (arith, place, few)))
      (lt_or_le q (block * per_block g + lookups g + entries g)))
      (lt_or_le q (block * per_block g + lookups g + slot))

  -- the page of the entry that was found isn't live
  pub walk_dead : (from block slot i n p : ℕ) → i < entries g → p ≡ block * per_block g + lookups g + i → Walked from (block * per_block g + lookups g + slot) → IsNextSlot g image block slot low high i n → is_live g image p ≡ false →
      Walked from (block * per_block g + lookups g + (i + 1))
  walk_dead from block slot i n p few at was found dead q after before = ⊎_elim
      (λ (early : q < block * per_block g + lookups g + i). walk_slots from block slot i (omega arith) was found.passed q after early)
      (λ (late : block * per_block g + lookups g + i ≤ q).
      let same : p ≡ q = omega (arith, at, late, before) in
      let number : entry_of g image p ≡ n = ap (entry_of g image) at ∙ entry_is g image block i few ∙ sym found.number in
      subst (IsPassed g image low high) same (passed_dead p dead (omega (arith, number, found.word))))
      (lt_or_le q (block * per_block g + lookups g + i))

  -- it is live
  pub walk_live : (from block slot i n p : ℕ) (head : PageHeader) → i < entries g → p ≡ block * per_block g + lookups g + i → Walked from (block * per_block g + lookups g + slot) → IsNextSlot g image block slot low high i n → Some head ≡ option_map header_at (live_at g image p) →
      IsNextLive g image from low high p head
  walk_live from block slot i n p head few at was found is =
      let number : entry_of g image p ≡ n = ap (entry_of g image) at ∙ entry_is g image block i few ∙ sym found.number in
      let seen = seen_live g image p head is in
      record {
        live = seen.0;
        header = seen.1;
        between = subst (λ (x : ℕ). is_between low high x ≡ true) (sym number) found.between;
        passed = λ q after before. walk_slots from block slot i (omega arith) was found.passed q after (omega (arith, at, before));
      }

-- the block of the page of an entry
pub found_block : (g : Geometry) (block i p : ℕ) → i < entries g → p ≡ block * per_block g + lookups g + i → block ≡ block_of g p
found_block g block i p few at =
    let sum : block * per_block g + (lookups g + i) ≡ p = omega (arith, at) in
    sym (ap (λ (n : ℕ). n / per_block g) (sym sum) ∙ div-mul-add block (per_block g) (lookups g + i) (omega (arith, few, some_pages g)))
