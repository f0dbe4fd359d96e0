-- What the looks at the tail of a file tell.
use Rattle.std.proofs.Common.{◌≡◌, ℕ, ◌+◌, ◌-◌, ◌/◌, ◌%◌, ◌<◌, ◌≤◌, List, length, drop, get_or, slice_index, Bool, true, false, ◌==◌, Some, None, ap, refl, sym, ◌∙◌, arith, subst, ⊎_elim, length-drop}
use Rattle.std.specs.Prelude.{option_and_then, Result, Ok, Err, IfOk}
use Rattle.std.specs.Bool.{OnTrue, OnFalse}
use Rattle.nor_core.specs.declared.device.Failed.{Failed}
use Rattle.std.proofs.lemmas.Bool.{cases_eq, eq-eqb, ne_eqb, le-ltb}
use Rattle.std.proofs.lemmas.List.{get_or-drop}
use Rattle.std.proofs.lemmas.List.Folds.{list_all_at}
use Rattle.std.proofs.lemmas.Option.{same_Some, option_and_then_some}
use Rattle.geometry.specs.declared.geometry.Geometry.{Geometry}
use Rattle.geometry.specs.Numbers.{body, head_slots}
use Rattle.table_model.specs.Table.{File}
use Rattle.table_model.specs.Room.{data_pages}
use Rattle.image_model.specs.Within.{page_length}
use Rattle.image_model.specs.Headers.{span_of, size_of}
use Rattle.image_model.specs.Live.{live_at, own}
use Rattle.image_model.specs.Files.{index_page, further, index_span, slot_at}
use Rattle.image_model.specs.Places.{page_of, is_entry_page, IsImage}
use Rattle.image_model.specs.Tidy.{is_erased}
use Rattle.image_laws.proofs.Finish.{own-parts}
use Rattle.image_laws.proofs.Frames.{live_parts}
use Rattle.renew_laws.specs.Tails.{HasCleanBytes, IsTailReady}
use Rattle.renew_laws.proofs.PrimePlaces.{tail-together}
use Rattle.renew_laws.proofs.Spans.{page_named}
use Rattle.renew_laws.proofs.TailSteps.{ready_from}
use Rattle.flash_view.specs.DataPages.{data_number, data_number_of}
use Rattle.page_renew.proofs.SlotNames.{slots_rise}
use Rattle.file_write.specs.Readyings.{HasOnes, HasOther, IsStale}
use Rattle.file_write.specs.Relinkings.{IsFileAt}
use Rattle.file_write.proofs.LastPage.{named_by, number_there}

-- a byte of an erased list
ones_at : (l : List ℕ) (k : ℕ) → is_erased l ≡ true → k < length l → get_or l k 0 ≡ 0xFF
ones_at l k all low =
    ⊎_elim
    (λ (yes : get_or l k 0 ≡ 0xFF). yes)
    (λ (no : get_or l k 0 ≡ 0xFF → ⊥). let bad : true ≡ false = sym all ∙ list_all_at (λ (b : ℕ). b == 0xFF) l k 0 low (ne_eqb (get_or l k 0) 0xFF no) in absurd (cc))
    (cases_eq (get_or l k 0) 0xFF)

-- the data page of a span is live
number_live : (g : Geometry) (image : List ℕ) (id t q : ℕ) → data_number_of g image id t ≡ Some q → (x : List ℕ) × (own (live_at g image) id q ≡ Some x)
unfolding data_number_of
number_live g image id t q e =
    option_and_then_some (λ head. data_number g (own (live_at g image) id) head t) (option_and_then (own (live_at g image) id) (index_page g (own (live_at g image) id) 0)) q e
    (λ head at number. let n = named_by g (own (live_at g image) id) head t q number in (n.z, n.is))

-- a byte of a page that is erased from a place on
rest_at : (g : Geometry) (image : List ℕ) (p from k : ℕ) → length (page_of g image p) ≡ g.page → is_erased (drop from (page_of g image p)) ≡ true → from ≤ k → k < g.page → slice_index (page_of g image p) k ≡ 0xFF
rest_at g image p from k len ones low high =
    let rest = length-drop from (page_of g image p) in
    let place : from + (k - from) ≡ k = omega (arith, low) in
    let byte : slice_index (page_of g image p) (from + (k - from)) ≡ 0xFF = sym (get_or-drop from (page_of g image p) (k - from) 0) ∙ ones_at (drop from (page_of g image p)) (k - from) ones (omega (arith, rest, len, low, high)) in
    subst (λ (n : ℕ). slice_index (page_of g image p) n ≡ 0xFF) place byte

-- ---- the bytes past the size

-- where they were read
pub rest_read : (g : Geometry) (image : List ℕ) (id size p from : ℕ) → IsImage g image → Some p ≡ data_number_of g image id (size / body g) → from ≡ 5 + size % body g → is_erased (drop from (page_of g image p)) ≡ true → HasOnes g image id size
rest_read g image id size p from is there from_is ones q more number k low high =
    let same : p ≡ q = same_Some p q (there ∙ number) in
    let x = number_live g image id (size / body g) p (sym there) in
    let live = (own-parts (live_at g image) id p x.0 x.1).0 in
    let len : length (page_of g image p) ≡ g.page = page_length g image p is (live_parts g image p x.0 live).entry_page in
    subst (λ (n : ℕ). slice_index (page_of g image n) k ≡ 0xFF) same (rest_at g image p from k len ones (omega (arith, low, from_is)) high)

-- as a call tells it
pub ones_told : (g : Geometry) (image : List ℕ) (id size p span from : ℕ) (r : Result Bool Failed) → IsImage g image → Some p ≡ data_number_of g image id span → span ≡ size / body g → from ≡ 5 + size % body g →
    IfOk r (λ ones. ones ≡ is_erased (drop from (page_of g image p))) → IfOk r (λ clean. OnTrue clean (HasOnes g image id size))
ones_told g image id size p span from (Err e) is there span_is from_is told = tt
ones_told g image id size p span from (Ok false) is there span_is from_is told = tt
ones_told g image id size p span from (Ok true) is there span_is from_is told = rest_read g image id size p from is (there ∙ ap (data_number_of g image id) span_is) from_is (sym told)

-- they are those of the last data page
pub ones_clean : (g : Geometry) (image : List ℕ) (id size h : ℕ) (head : List ℕ) → index_page g (own (live_at g image) id) 0 ≡ Some h → own (live_at g image) id h ≡ Some head → size ≡ size_of head → HasOnes g image id size → HasCleanBytes g (own (live_at g image) id) head
unfolding data_number_of
ones_clean g image id size h head at header told ones z more there k low high =
    let n = number_there g (own (live_at g image) id) head (size_of head / body g) z there in
    let named = named_by g (own (live_at g image) id) head (size_of head / body g) n.0 n.1 in
    let number : data_number_of g image id (size_of head / body g) ≡ Some n.0 = rw at (rw header n.1) in
    let live = (own-parts (live_at g image) id n.0 named.z named.is).0 in
    let same : named.z ≡ z = same_Some named.z z (sym (page_named g (own (live_at g image) id) head (size_of head / body g) n.0 named.z named.entry named.is named.kind named.span) ∙ there) in
    let byte : slice_index (page_of g image n.0) k ≡ 0xFF = subst (λ (m : ℕ). HasOnes g image id m) told ones n.0 more number k low high in
    ap (λ (l : List ℕ). slice_index l k) (sym ((live_parts g image n.0 named.z live).bytes ∙ same)) ∙ byte

-- an id without a header page has no data page
none_named : (g : Geometry) (image : List ℕ) (id t q : ℕ) → index_page g (own (live_at g image) id) 0 ≡ None → data_number_of g image id t ≡ Some q → ⊥
unfolding data_number_of
none_named g image id t q none number = let no : None ≡ Some q = rw none at number in absurd (cc)

pub ones_none : (g : Geometry) (image : List ℕ) (id size : ℕ) → index_page g (own (live_at g image) id) 0 ≡ None → (clean : Bool) → OnTrue clean (HasOnes g image id size)
ones_none g image id size none true = λ q more number k low high. absurd (none_named g image id (size / body g) q none number)
ones_none g image id size none false = tt

pub other_none : (g : Geometry) (image : List ℕ) (id size : ℕ) → index_page g (own (live_at g image) id) 0 ≡ None → (clean : Bool) → OnFalse clean (HasOther g image id size)
other_none g image id size none true = tt
other_none g image id size none false = λ q number inside few. absurd (none_named g image id (size / body g) q none number)

-- ---- the entry behind the last

module _ (g : Geometry) (image : List ℕ) (id size span w : ℕ) (at : span ≡ index_span g (data_pages g size)) (found : Some w ≡ index_page g (own (live_at g image) id) span) where
  behind : head_slots g ≤ data_pages g size → span ≡ further g (data_pages g size)
  behind high = rw (le-ltb (data_pages g size) (head_slots g) high) at at

  first : head_slots g ≤ data_pages g size → index_page g (own (live_at g image) id) (further g (data_pages g size)) ≡ Some w
  first high = ap (index_page g (own (live_at g image) id)) (sym (behind high)) ∙ sym found

  page_at : (page : List ℕ) → head_slots g ≤ data_pages g size →
      option_and_then (own (live_at g image) id) (index_page g (own (live_at g image) id) (further g (data_pages g size))) ≡ Some page → live_at g image w ≡ Some page
  page_at page high there = (own-parts (live_at g image) id w page (ap (option_and_then (own (live_at g image) id)) (sym (first high)) ∙ there)).0

  -- its bytes from there on are 0xFF
  pub free_behind : (from : ℕ) → IsImage g image → from ≡ slot_at g (data_pages g size) → is_erased (drop from (page_of g image w)) ≡ true → IsStale g image id size None
  free_behind from is from_is ones page k high there low below =
      let parts = live_parts g image w page (page_at page high there) in
      let len : length (page_of g image w) ≡ g.page = page_length g image w is parts.entry_page in
      ap (λ (l : List ℕ). slice_index l k) (sym parts.bytes) ∙ rest_at g image w from k len ones (omega (arith, low, from_is)) below

  -- an index page is an entry page
  pub not_inside : is_entry_page g w ≡ false → IsStale g image id size None
  not_inside out page k high there low below = let yes = (live_parts g image w page (page_at page high there)).entry_page in let bad : true ≡ false = sym yes ∙ out in absurd (cc)

-- ---- the tail

pub tail_ready : (g : Geometry) (image : List ℕ) (id size : ℕ) (f : File) → IsFileAt g image id size f → HasOnes g image id size → IsStale g image id size None → IsTailReady g image id
tail_ready g image id size f at ones free =
    let pages = own (live_at g image) id in
    let n = data_pages g (size_of at.head) in
    ready_from g image id at.h at.head at.prime.at at.prime.header (record {
      bytes = ones_clean g image id size at.h at.head at.prime.at at.prime.header at.told ones;
      entries = λ r t k page is kind span high past low below.
          let together = tail-together g image image id at.h r t at.head f (λ q. false) at.prime refl high past (rw is (rw kind (eq-eqb (span_of page) (further g t) span))) in
          let place : option_and_then pages (index_page g pages (further g n)) ≡ Some page = ap (λ (s : ℕ). option_and_then pages (index_page g pages s)) together.4 ∙ ap (option_and_then pages) together.0 ∙ is in
          let step = slots_rise g n t together.3 past together.4 in
          subst (λ (m : ℕ). IsStale g image id m None) at.told free page k together.3 place (omega (arith, step, low)) below;
    })
