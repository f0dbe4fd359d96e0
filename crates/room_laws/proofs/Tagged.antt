-- Pages by their tags.
use Rattle.std.proofs.Common.{◌≡◌, ℕ, ◌%◌, ◌<◌, List, true, false, Some, Bool, ap, refl, sym, ◌∙◌, subst, ⊎_elim, length}
use Rattle.std.proofs.lemmas.Bool.{cases_Bool}
use Rattle.std.proofs.lemmas.Option.{same_Some}
use Rattle.geometry.specs.declared.geometry.Geometry.{Geometry}
use Rattle.table_model.specs.Room.{data_pages, index_pages}
use Rattle.image_model.specs.Headers.{obj_id, span_of, names_index, size_of}
use Rattle.image_model.specs.Live.{live_at, own}
use Rattle.image_model.specs.Files.{index_page, entry_number, index_span}
use Rattle.image_laws.specs.Reindex.{slot_word}
use Rattle.image_laws.proofs.Finish.{own-parts}
use Rattle.image_laws.proofs.Reindexed.{entry-slot}
use Rattle.room_laws.specs.Tags.{SameTag, TagsAreOnce, TagsAreKept, TagsAreNamed}
use Rattle.room_laws.proofs.Homes.{serves_first, serves_data, own_of, HasPage, has_data, has_index, home_by, home_of, serves_own, home_whole, home_size, kept_file}

-- a live page is one of the id of another with its tag
own_as : (g : Geometry) (a : List ℕ) (q : ℕ) (x y : List ℕ) → live_at g a q ≡ Some y → obj_id y % 0x8000 ≡ obj_id x % 0x8000 → own (live_at g a) (obj_id x % 0x8000) q ≡ Some y
own_as g a q x y live same = subst (λ (id : ℕ). own (live_at g a) id q ≡ Some y) same (own_of (live_at g a) q y live)

pub tags_are_once : (g : Geometry) → TagsAreOnce g
tags_are_once g a p q x y is t at there tag =
    let home = home_of g a is t p x at in
    let id = obj_id x % 0x8000 in
    let mine = own_of (live_at g a) p x at in
    let other = own_as g a q x y there tag.id in
    ⊎_elim
    (λ (index : names_index x ≡ true).
    let first = (serves_first g (own (live_at g a) id) home.head x p mine index (serves_own g a is t id home p x mine)).1 in
    let second = (serves_first g (own (live_at g a) id) home.head y q other (tag.kind ∙ index) (serves_own g a is t id home q y other)).1 in
    same_Some p q (sym first ∙ ap (index_page g (own (live_at g a) id)) (sym tag.span) ∙ second))
    (λ (data_page : names_index x ≡ false).
    let first = (serves_data g (own (live_at g a) id) home.head x p mine data_page (serves_own g a is t id home p x mine)).1 in
    let second = (serves_data g (own (live_at g a) id) home.head y q other (tag.kind ∙ data_page) (serves_own g a is t id home q y other)).1 in
    same_Some p q (sym first ∙ ap (entry_number g (own (live_at g a) id) home.head) (sym tag.span) ∙ second))
    (cases_Bool (names_index x))

pub tags_are_named : (g : Geometry) → TagsAreNamed g
tags_are_named g a p w x y is t at kind there index same span =
    let home = home_of g a is t p x at in
    let id = obj_id x % 0x8000 in
    let mine = own_of (live_at g a) p x at in
    let other = own_as g a w x y there same in
    let entry = (serves_data g (own (live_at g a) id) home.head x p mine kind (serves_own g a is t id home p x mine)).1 in
    let first = (serves_first g (own (live_at g a) id) home.head y w other index (serves_own g a is t id home w y other)).1 in
    let first' : index_page g (own (live_at g a) id) (index_span g (span_of x)) ≡ Some w = ap (index_page g (own (live_at g a) id)) (sym span) ∙ first in
    let slot = entry-slot g (own (live_at g a) id) home.h home.head (span_of x) home.at home.header in
    let read : entry_number g (own (live_at g a) id) home.head (span_of x) ≡ Some (slot_word g y (span_of x)) = slot ∙ (rw first' (rw other refl)) in
    same_Some (slot_word g y (span_of x)) p (sym read ∙ entry)

-- a page of the id is live with the tag
tagged : (g : Geometry) (b : List ℕ) (x : List ℕ) (kind : Bool) → names_index x ≡ kind → HasPage (own (live_at g b) (obj_id x % 0x8000)) kind (span_of x) →
    (q : ℕ) × (y : List ℕ) × (live_at g b q ≡ Some y) × SameTag x y
tagged g b x kind is has =
    let w = own-parts (live_at g b) (obj_id x % 0x8000) has.q has.page has.is in
    (has.q, has.page, w.0, record { kind = has.kind ∙ sym is; id = w.1; span = has.at })

pub tags_are_kept : (g : Geometry) → TagsAreKept g
tags_are_kept g a b p x is is' t t' table at =
    let home = home_of g a is t p x at in
    let id = obj_id x % 0x8000 in
    let mine = own_of (live_at g a) p x at in
    let there = home_by g b id home.f (kept_file g a b id home.f table home.counts) in
    let size : size_of there.0.head ≡ size_of home.head = sym (home_size g b is' t' id there.0) ∙ ap (λ f. length f.bytes) there.1 ∙ home_size g a is t id home in
    let whole = home_whole g b is' t' id there.0 in
    ⊎_elim
    (λ (index : names_index x ≡ true).
    let low = (serves_first g (own (live_at g a) id) home.head x p mine index (serves_own g a is t id home p x mine)).0 in
    let low' : span_of x < index_pages g (size_of there.0.head) = subst (λ (n : ℕ). span_of x < index_pages g n) (sym size) low in
    tagged g b x true index (has_index g (own (live_at g b) id) there.0.h there.0.head there.0.at whole (span_of x) low'))
    (λ (data_page : names_index x ≡ false).
    let low = (serves_data g (own (live_at g a) id) home.head x p mine data_page (serves_own g a is t id home p x mine)).0 in
    let low' : span_of x < data_pages g (size_of there.0.head) = subst (λ (n : ℕ). span_of x < data_pages g n) (sym size) low in
    tagged g b x false data_page (has_data g (own (live_at g b) id) there.0.h there.0.head there.0.at whole (span_of x) low'))
    (cases_Bool (names_index x))
