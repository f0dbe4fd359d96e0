-- What the header of a live page tells of it.
use Rattle.std.proofs.Common.{◌≡◌, ℕ, ◌*◌, ◌%◌, ◌==◌, ◌&&◌, Bool, true, false, List, refl, sym, subst, ◌∙◌, if◌then◌else◌}
use Rattle.std.specs.Prelude.{Option, Some, None, is_some, option_and_then}
use Rattle.std.specs.Option.{option_map}
use Rattle.geometry.specs.declared.geometry.Geometry.{Geometry}
use Rattle.page_layout.specs.declared.header.PageHeader.{PageHeader}
use Rattle.std.proofs.lemmas.Bool.{eq-eqb, lt-ltb, le-ltb}
use Rattle.geometry.specs.Numbers.{page_count, per_block, lookups}
use Rattle.flash_view.specs.Places.{IsEntryPage}
use Rattle.page_layout.specs.Layout.{header_at, names_index, is_finished}
use Rattle.image_model.specs.Headers.{obj_id, is_finished as is_finished_page}
use Rattle.image_model.specs.Places.{page_of, entry_of, has_magic, block_of, is_entry_page}
use Rattle.image_model.specs.Live.{Live, live_at, is_live, own}
use Rattle.image_model.specs.Files.{is_index}
use Rattle.flash_view.proofs.Parts.{finished_is}

some_if : (page : List ℕ) (live : Bool) → is_some (option_map header_at (if live then Some page else None)) ≡ live
some_if page true = refl
some_if page false = refl

-- a page is live where its header is had
pub live_seen : (g : Geometry) (image : List ℕ) (p : ℕ) → is_some (option_map header_at (live_at g image p)) ≡ is_live g image p
unfolding live_at
live_seen g image p = some_if (page_of g image p) (is_live g image p)

own_page : (page : List ℕ) (mine : Bool) (span : ℕ) → is_index (if mine then Some page else None) span ≡ (mine && is_index (Some page) span)
own_page page true span = refl
own_page page false span = refl

-- by its header a live page is an index page of an object and a span
seen : (o : Option (List ℕ)) (id span : ℕ) (head : PageHeader) → Some head ≡ option_map header_at o →
    is_index (option_and_then (λ page. if obj_id page % 0x8000 == id then Some page else None) o) span ≡ ((head.id % 0x8000 == id) && (names_index head && (head.span == span)))
seen None id span head e = absurd (cc)
seen (Some page) id span head e =
    let is : head ≡ header_at page = cc in
    rw is (own_page page (obj_id page % 0x8000 == id) span)

pub index_seen : (live : Live) (p id span : ℕ) (head : PageHeader) → Some head ≡ option_map header_at (live p) →
    is_index (own live id p) span ≡ ((head.id % 0x8000 == id) && (names_index head && (head.span == span)))
unfolding own
index_seen live p id span head e = seen (live p) id span head e

-- an entry page by its number
pub entry_page_told : (g : Geometry) (p : ℕ) → IsEntryPage g p → is_entry_page g p ≡ true
unfolding is_entry_page page_count per_block lookups
entry_page_told g p place = rw (lt-ltb p (g.blocks * per_block g) place.below, le-ltb (p % per_block g) (lookups g) place.behind) refl

-- a page that its block, its entry and its header tell to be live
pub live_by : (g : Geometry) (image : List ℕ) (p entry : ℕ) (head : PageHeader) → IsEntryPage g p → has_magic g image (block_of g p) ≡ true →
    entry ≡ entry_of g image p → head ≡ header_at (page_of g image p) → entry ≡ head.id → is_finished head ≡ true → Some head ≡ option_map header_at (live_at g image p)
unfolding live_at is_live
live_by g image p entry head place magic is_entry is_head same whole =
    let page : is_entry_page g p ≡ true = entry_page_told g p place in
    let named : (entry_of g image p == obj_id (page_of g image p)) ≡ true = eq-eqb _ _ (cc) in
    let finished : is_finished_page (page_of g image p) ≡ true = sym (finished_is (page_of g image p)) ∙ subst (λ (h : PageHeader). is_finished h ≡ true) is_head whole in
    rw (page, magic, named, finished, is_head) refl

pub and_false : (b : Bool) → (b && false) ≡ false
and_false true = refl
and_false false = refl

-- a page whose header doesn't tell that it is live isn't
pub dead_by : (g : Geometry) (image : List ℕ) (p : ℕ) (head : PageHeader) → head ≡ header_at (page_of g image p) → is_finished head ≡ false → None ≡ option_map header_at (live_at g image p)
unfolding live_at is_live
dead_by g image p head is open' =
    let no' : is_finished_page (page_of g image p) ≡ false = sym (finished_is (page_of g image p)) ∙ subst (λ (h : PageHeader). is_finished h ≡ false) is open' in
    rw (no', and_false (is_entry_page g p && has_magic g image (block_of g p) && (entry_of g image p == obj_id (page_of g image p)))) refl
