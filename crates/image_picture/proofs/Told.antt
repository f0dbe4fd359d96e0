-- What a page is, by what was read of it.
use Rattle.std.proofs.Common.{◌≡◌, ◌≢◌, ℕ, Bool, true, false, not, ◌==◌, ◌&&◌, ◌||◌, ◌%◌, ◌-◌, if◌then◌else◌, List, refl, sym, ap, ◌∙◌, ⊎_elim}
use Rattle.std.proofs.lemmas.Bool.{cases_Bool, and_parts, eq-eqb, ne_eqb, eqb-true}
use Rattle.geometry.specs.declared.geometry.Geometry.{Geometry}
use Rattle.image_model.specs.Places.{is_entry_page, entry_of, page_of, block_of, has_magic, slot_of}
use Rattle.image_model.specs.Headers.{obj_id, span_of, names_index, is_flag_set, is_finished}
use Rattle.image_model.specs.Live.{is_live, live_at}
use Rattle.image_model.specs.Tidy.{is_erased}
use Rattle.page_layout.specs.declared.header.PageHeader.{PageHeader}
use Rattle.page_layout.specs.Layout.{header_at, is_finished as tells_finished}
use Rattle.image_picture.specs.declared.signs.Sign.TheVariants.{Lookup, Free, Deleted, Live, Neither}
use Rattle.image_picture.specs.Signs.{sign_at, sign_of_live}
use Rattle.image_picture.specs.declared.style.Style.{Style}
use Rattle.image_picture.specs.Pieces.{opening, label}
use Rattle.image_picture.specs.Picture.{label_at}
use Rattle.geometry.specs.Numbers.{slots}

-- a lookup page
pub sign_lookup : (g : Geometry) (image : List ℕ) (p : ℕ) → is_entry_page g p ≡ false → sign_at g image p ≡ Lookup
unfolding sign_at
sign_lookup g image p lookup = rw lookup refl

-- a deleted entry
pub sign_deleted : (g : Geometry) (image : List ℕ) (p : ℕ) → is_entry_page g p ≡ true → entry_of g image p ≡ 0 → sign_at g image p ≡ Deleted
unfolding sign_at
sign_deleted g image p page entry = rw (page, entry) refl

-- an entry of an object
pub sign_used : (g : Geometry) (image : List ℕ) (p : ℕ) → is_entry_page g p ≡ true → entry_of g image p ≢ 0 → entry_of g image p ≢ 0xFFFF → sign_at g image p ≡ sign_of_live (live_at g image p)
unfolding sign_at
sign_used g image p page some used = rw (page, ne_eqb (entry_of g image p) 0xFFFF used, ne_eqb (entry_of g image p) 0 some) refl

second_of : (a b c d e f : Bool) → (a && b && c && d && e && f) ≡ true → b ≡ true
second_of true true c d e f h = refl
second_of true false c d e f h = cc
second_of false b c d e f h = cc

denied : (b : Bool) → not b ≡ true → b ≡ true → ⊥
denied true h e = cc
denied false h e = cc

-- a page with a free entry is not live
free_dead : (g : Geometry) (image : List ℕ) (p : ℕ) → entry_of g image p ≡ 0xFFFF → is_live g image p ≡ false
unfolding is_live is_finished
free_dead g image p entry =
    ⊎_elim
    (λ (lives : is_live g image p ≡ true).
    let page : List ℕ = page_of g image p in
    let a = and_parts (is_entry_page g p && has_magic g image (block_of g p) && (entry_of g image p == obj_id page)) (is_finished page) lives in
    let b = and_parts (is_entry_page g p && has_magic g image (block_of g p)) (entry_of g image p == obj_id page) a.0 in
    let id : obj_id page ≡ 0xFFFF = sym (eqb-true (entry_of g image p) (obj_id page) b.1) ∙ entry in
    let other : not (obj_id page == 0xFFFF) ≡ true =
    second_of (not (obj_id page % 0x8000 == 0)) (not (obj_id page == 0xFFFF)) (not (is_flag_set page 0)) (not (is_flag_set page 1)) (is_flag_set page 7)
    (if names_index page then not (is_flag_set page 2) && (is_flag_set page 6 || not (span_of page == 0)) else is_flag_set page 2) a.1 in
    absurd (denied (obj_id page == 0xFFFF) other (eq-eqb (obj_id page) 0xFFFF id)))
    (λ (dead : is_live g image p ≡ false). dead)
    (cases_Bool (is_live g image p))

-- a free entry
pub sign_blank : (g : Geometry) (image : List ℕ) (p : ℕ) → is_entry_page g p ≡ true → entry_of g image p ≡ 0xFFFF → sign_at g image p ≡ (if is_erased (page_of g image p) then Free else Neither)
unfolding sign_at live_at
sign_blank g image p page entry =
    ⊎_elim
    (λ (blank : is_erased (page_of g image p) ≡ true). rw (page, entry, blank) refl)
    (λ (torn : is_erased (page_of g image p) ≡ false). rw (page, entry, torn, free_dead g image p entry) refl)
    (cases_Bool (is_erased (page_of g image p)))

-- the test of a live page is the model's
pub live_told : (g : Geometry) (image : List ℕ) (p : ℕ) (has : Bool) (entry : ℕ) (head : PageHeader) → is_entry_page g p ≡ true → entry ≡ entry_of g image p → has ≡ has_magic g image (block_of g p) → head ≡ header_at (page_of g image p) →
    is_live g image p ≡ (has && (entry == head.id) && tells_finished head)
unfolding is_live is_finished
live_told g image p has entry head page entry_is has_is head_is = rw (page, entry_is, has_is, head_is) refl

-- a live page, and one that is none of the kinds
pub sign_live : (g : Geometry) (image : List ℕ) (p : ℕ) (has : Bool) (entry : ℕ) (head : PageHeader) → is_entry_page g p ≡ true → entry ≡ entry_of g image p → has ≡ has_magic g image (block_of g p) → head ≡ header_at (page_of g image p) →
    (has && (entry == head.id) && tells_finished head) ≡ true → Live head ≡ sign_of_live (live_at g image p)
unfolding live_at
sign_live g image p has entry head page entry_is has_is head_is lives =
    rw (live_told g image p has entry head page entry_is has_is head_is ∙ lives) (ap (λ (h : PageHeader). Live h) head_is)

pub sign_dead : (g : Geometry) (image : List ℕ) (p : ℕ) (has : Bool) (entry : ℕ) (head : PageHeader) → is_entry_page g p ≡ true → entry ≡ entry_of g image p → has ≡ has_magic g image (block_of g p) → head ≡ header_at (page_of g image p) →
    (has && (entry == head.id) && tells_finished head) ≡ false → Neither ≡ sign_of_live (live_at g image p)
unfolding live_at
sign_dead g image p has entry head page entry_is has_is head_is dead =
    rw (live_told g image p has entry head page entry_is has_is head_is ∙ dead) refl

-- what stands before the pages of a block, by what was read of it: the count where the magic was read first
pub opening_told : (style : Style) (g : Geometry) (image now : List ℕ) (block raw : ℕ) (has : Bool) → now ≡ image → raw ≡ slot_of g now block (slots g - 1) → has ≡ has_magic g image block →
    opening style block (label block raw has) ≡ opening style block (label_at g image block)
opening_told style g image now block raw has same raw_is has_is =
    ap (λ (x : ℕ). opening style block (label block x has)) (raw_is ∙ ap (λ (l : List ℕ). slot_of g l block (slots g - 1)) same)
    ∙ ap (λ (b : Bool). opening style block (label block (slot_of g image block (slots g - 1)) b)) has_is
