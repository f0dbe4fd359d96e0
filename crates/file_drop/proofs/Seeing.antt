-- What the reads of a remove and of a truncation tell.
use Rattle.std.proofs.Common.{◌≡◌, ℕ, ◌+◌, ◌*◌, ◌%◌, ◌<◌, ◌≤◌, List, slice_index, true, false, ◌==◌, ◌&&◌, Option, Some, None, ap, refl, sym, ◌∙◌, arith, ⊎_elim, ◌≢◌}
use Rattle.std.specs.Prelude.{is_some, min}
use Rattle.std.specs.Option.{option_map}
use Rattle.std.proofs.lemmas.Bool.{cases_eq, ne_eqb, eq-eqb, le-leb}
use Rattle.std.proofs.lemmas.Option.{same_Some}
use Rattle.geometry.specs.declared.geometry.Geometry.{Geometry}
use Rattle.page_layout.specs.declared.header.PageHeader.{PageHeader}
use Rattle.page_layout.specs.Layout.{header_at, bits_of, is_between}
use Rattle.image_model.specs.Within.{sizes}
use Rattle.image_model.specs.Places.{page_of, is_entry_page}
use Rattle.image_model.specs.Headers.{obj_id}
use Rattle.image_model.specs.Live.{live_at, own}
use Rattle.image_model.specs.Files.{is_index, index_page}
use Rattle.image_laws.proofs.Append.{own-some, own-other}
use Rattle.image_laws.proofs.Frames.{live_parts}
use Rattle.image_laws.proofs.Judge.{index_passes}
use Rattle.image_laws.proofs.Placing.{page_byte}
use Rattle.flash_view.specs.Found.{has_header}
use Rattle.flash_view.specs.Walk.{IsPassed}
use Rattle.flash_view.proofs.Passed.{passed_page}
use Rattle.header_laws.proofs.HeadPages.{has-ids}
use Rattle.page_renew.specs.EditLaws.{past_of}
use Rattle.file_drop.specs.declared.pages.Kept.{Kept}
use Rattle.file_drop.specs.Drops.{none_kept, is_left, is_past_header}
use Rattle.file_drop.specs.Removals.{CanRemove}
use Rattle.file_drop.proofs.Killing.{own_none, all_left}

-- a lookup page is no live page
none_live : (g : Geometry) (image : List ℕ) (p : ℕ) → is_entry_page g p ≡ false → live_at g image p ≡ None
none_live g image p lookup = go (live_at g image p) refl
  where
    go : (o : Option (List ℕ)) → live_at g image p ≡ o → live_at g image p ≡ None
    go None e = e
    go (Some x) e = let yes : is_entry_page g p ≡ true = (live_parts g image p x e).entry_page in let bad : true ≡ false = sym yes ∙ lookup in absurd (cc)

pub lookup_not_left : (g : Geometry) (image : List ℕ) (id : ℕ) (kept : Kept) (p : ℕ) → is_entry_page g p ≡ false → false ≡ is_left g image id kept p
lookup_not_left g image id kept p lookup = rw (own_none (live_at g image) id p (none_live g image p lookup)) refl

no_page : (o : Option (List ℕ)) → None ≡ option_map header_at o → o ≡ None
no_page None e = refl
no_page (Some x) e = absurd (cc)

pub dead_not_left : (g : Geometry) (image : List ℕ) (id : ℕ) (kept : Kept) (p : ℕ) → None ≡ option_map header_at (live_at g image p) → false ≡ is_left g image id kept p
dead_not_left g image id kept p e = rw (own_none (live_at g image) id p (no_page (live_at g image p) e)) refl

the_page : (o : Option (List ℕ)) (head : PageHeader) → Some head ≡ option_map header_at o → (x : List ℕ) × ((o ≡ Some x) × (head ≡ header_at x))
the_page None head e = absurd (cc)
the_page (Some x) head e = (x, (refl, same_Some head (header_at x) e))

-- a number of two bytes that isn't between the entry of an object's data pages and that of its index pages is neither
not_mine : (n id high : ℕ) → n < 0x10000 → high ≡ min (id + 0x8000) 65535 → is_between id high n ≡ false → n % 0x8000 ≢ id
not_mine n id high small top none mine =
    let low : id ≤ n = omega (arith, mine) in
    let inside : n ≤ high = omega (arith, mine, small, top) in
    let yes : is_between id high n ≡ true = rw (le-leb id n low, le-leb n high inside) refl in
    let bad : true ≡ false = sym yes ∙ none in
    absurd (cc)

-- a page that was passed over between these isn't to go
pub passed_not_left : (g : Geometry) (image : List ℕ) (id high : ℕ) (kept : Kept) (p : ℕ) → high ≡ min (id + 0x8000) 65535 → IsPassed g image id high p → is_left g image id kept p ≡ false
passed_not_left g image id high kept p top passed = ap (past_of kept.index_pages kept.data_pages) (go (live_at g image p) refl)
  where
    go : (o : Option (List ℕ)) → live_at g image p ≡ o → own (live_at g image) id p ≡ None
    go None e = own_none (live_at g image) id p e
    go (Some x) e =
        let w = passed_page g image id high p x passed e in
        own-other (live_at g image) id p x e (not_mine (obj_id x) id high w.word top w.none)

-- whether it is to go, by its header
pub left_by_header : (g : Geometry) (image : List ℕ) (id : ℕ) (kept : Kept) (p : ℕ) (head : PageHeader) → Some head ≡ option_map header_at (live_at g image p) → ((head.id % 0x8000 == id) && is_past_header kept head) ≡ is_left g image id kept p
left_by_header g image id kept p head e =
    let w = the_page (live_at g image p) head e in
    let past : is_past_header kept head ≡ past_of kept.index_pages kept.data_pages (Some w.0) = ap (is_past_header kept) w.1.1 in
    let same : obj_id w.0 ≡ head.id = sym (ap (λ (h : PageHeader). h.id) w.1.1) in
    let number : obj_id w.0 % 0x8000 ≡ head.id % 0x8000 = ap (λ (m : ℕ). m % 0x8000) same in
    ⊎_elim
    (λ (here : head.id % 0x8000 ≡ id). rw (eq-eqb (head.id % 0x8000) id here) (past ∙ sym (ap (past_of kept.index_pages kept.data_pages) (own-some (live_at g image) id p w.0 w.1.0 (number ∙ here)))))
    (λ (there : head.id % 0x8000 ≡ id → ⊥). rw (ne_eqb (head.id % 0x8000) id there, own-other (live_at g image) id p w.0 w.1.0 (λ s. there (sym number ∙ s))) refl)
    (cases_eq (head.id % 0x8000) id)

-- its flags
pub byte_by_header : (g : Geometry) (image : List ℕ) (p : ℕ) (head : PageHeader) → Some head ≡ option_map header_at (live_at g image p) → bits_of head.flags < 256 → slice_index image (p * g.page + 4) < 256
byte_by_header g image p head e small =
    let w = the_page (live_at g image p) head e in
    let parts = live_parts g image p w.0 w.1.0 in
    let size : 128 ≤ g.page = (sizes g).page in
    let there : slice_index (page_of g image p) 4 ≡ slice_index image (p * g.page + 4) = page_byte g image p 4 (omega arith) in
    let flag : slice_index w.0 4 ≡ bits_of head.flags = sym (ap (λ (h : PageHeader). bits_of h.flags) w.1.1) in
    let mine : slice_index (page_of g image p) 4 ≡ slice_index w.0 4 = ap (λ (x : List ℕ). slice_index x 4) parts.bytes in
    omega (arith, there, flag, mine, small)

-- the header page of an id is a page of the id
pub first_is_left : (g : Geometry) (image : List ℕ) (id p : ℕ) → index_page g (own (live_at g image) id) 0 ≡ Some p → is_left g image id none_kept p ≡ true
first_is_left g image id p at = all_left g image id p ∙ passes (own (live_at g image) id p) (index_passes g (own (live_at g image) id) 0 p at)
  where
    passes : (o : Option (List ℕ)) → is_index o 0 ≡ true → is_some o ≡ true
    passes None e = absurd (cc)
    passes (Some x) e = refl

-- a file of the table has a header page
pub has_first : (g : Geometry) (image : List ℕ) (id : ℕ) → CanRemove g image id → None ≡ index_page g (own (live_at g image) id) 0 → ⊥
unfolding has_header
has_first g image id can none =
    let has : has_header g image id ≡ true = has-ids g image can.tidy.undamaged id ∙ can.there in
    let lost : is_some (index_page g (own (live_at g image) id) 0) ≡ false = ap is_some (sym none) in
    let bad : true ≡ false = sym has ∙ lost in
    absurd (cc)
