-- What the lookup entry of a page tells before its header is read.
use Rattle.std.proofs.Common.{◌≡◌, ℕ, ◌%◌, ◌==◌, ◌&&◌, not, nat_lt, Bool, true, false, List, refl, ◌∙◌, if◌then◌else◌}
use Rattle.std.specs.Prelude.{Option, Some, None, option_and_then}
use Rattle.std.proofs.lemmas.Bool.{and_parts, eqb-true}
use Rattle.geometry.specs.declared.geometry.Geometry.{Geometry}
use Rattle.image_model.specs.Headers.{obj_id, span_of, names_index, is_finished}
use Rattle.image_model.specs.Places.{page_of, entry_of, has_magic, block_of, is_entry_page}
use Rattle.image_model.specs.Live.{live_at, is_live}
use Rattle.image_model.specs.Files.{is_index}
use Rattle.flash_view.specs.Found.{headed}
use Rattle.flash_view.specs.DataPages.{lookup_entry}

some_live : (page x : List ℕ) (live : Bool) → (if live then Some page else None) ≡ Some x → (live ≡ true) × (page ≡ x)
some_live page x true e = (refl, cc)
some_live page x false e = absurd (cc)

-- a live page is that page of the image, with its entry, and finished
pub record LivePage (g : Geometry) (image : List ℕ) (p : ℕ) (page : List ℕ) : Type 0 where
  pub live : is_live g image p ≡ true
  pub bytes : page_of g image p ≡ page
  pub place : is_entry_page g p ≡ true
  pub number : entry_of g image p ≡ obj_id page
  pub entry : lookup_entry g image p ≡ obj_id page
  pub finished : is_finished page ≡ true

pub live_page : (g : Geometry) (image : List ℕ) (p : ℕ) (page : List ℕ) → live_at g image p ≡ Some page → LivePage g image p page
unfolding live_at is_live lookup_entry
live_page g image p page e =
    let w = some_live (page_of g image p) page (is_live g image p) e in
    let parts = and_parts _ (is_finished (page_of g image p)) w.0 in
    let more = and_parts _ (entry_of g image p == obj_id (page_of g image p)) parts.0 in
    let magic = and_parts (is_entry_page g p) (has_magic g image (block_of g p)) more.0 in
    let same : entry_of g image p ≡ obj_id (page_of g image p) = eqb-true _ _ more.1 in
    record {
      live = w.0;
      bytes = w.1;
      place = magic.0;
      number = rw w.1 at same;
      entry = rw magic.0 (rw same (rw w.1 refl));
      finished = rw w.1 at parts.1;
    }

own_index : (page : List ℕ) (mine : Bool) (span : ℕ) → is_index (if mine then Some page else None) span ≡ (mine && is_index (Some page) span)
own_index page true span = refl
own_index page false span = refl

no_index : (mine index span : Bool) → (index && mine) ≡ false → (mine && (index && span)) ≡ false
no_index true true span e = absurd (cc)
no_index true false span e = refl
no_index false index span e = refl

pub other_index : (o : Option (List ℕ)) (entry id span : ℕ) → ((page : List ℕ) → o ≡ Some page → entry ≡ obj_id page) → (not (nat_lt entry 0x8000) && (entry % 0x8000 == id)) ≡ false →
    is_index (option_and_then (λ page. if obj_id page % 0x8000 == id then Some page else None) o) span ≡ false
other_index None entry id span known fails = refl
other_index (Some page) entry id span known fails =
    let same : entry ≡ obj_id page = known page refl in
    own_index page (obj_id page % 0x8000 == id) span
    ∙ no_index (obj_id page % 0x8000 == id) (names_index page) (span_of page == span) (rw same at fails)

-- a page that tells that it is live has an object's id
pub some_id : (page : List ℕ) → is_finished page ≡ true → (not (obj_id page % 0x8000 == 0) ≡ true) × (not (obj_id page == 0xFFFF) ≡ true)
unfolding is_finished
some_id page e =
    let a = and_parts _ _ e in let b = and_parts _ _ a.0 in let c = and_parts _ _ b.0 in let d = and_parts _ _ c.0 in
    and_parts (not (obj_id page % 0x8000 == 0)) (not (obj_id page == 0xFFFF)) d.0

no_head : (page : List ℕ) (span : Bool) (id : ℕ) (index free : Bool) → not free ≡ true → (index && not free) ≡ false → (if index && span then Some id else None) ≡ None
no_head page span id true true f e = absurd (cc)
no_head page span id true false f e = absurd (cc)
no_head page span id false free f e = refl

pub other_head : (o : Option (List ℕ)) (entry : ℕ) → ((page : List ℕ) → o ≡ Some page → (entry ≡ obj_id page) × (is_finished page ≡ true)) →
    (not (nat_lt entry 0x8000) && not (entry == 0xFFFF)) ≡ false → headed o ≡ None
other_head None entry known fails = refl
other_head (Some page) entry known fails =
    let w = known page refl in
    no_head page (span_of page == 0) (obj_id page % 0x8000) (names_index page) (obj_id page == 0xFFFF) (some_id page w.1).1 (rw w.0 at fails)

-- a page whose entry isn't that of an index page is fails header page
pub passed_head : (g : Geometry) (image : List ℕ) (p entry : ℕ) → entry ≡ lookup_entry g image p → (not (nat_lt entry 0x8000) && not (entry == 0xFFFF)) ≡ false →
    headed (live_at g image p) ≡ None
passed_head g image p entry is fails = other_head (live_at g image p) entry (λ page e. let w = live_page g image p page e in (is ∙ w.entry, w.finished)) fails
