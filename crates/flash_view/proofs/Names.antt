-- Ids and names of live header pages.
use Rattle.std.proofs.Common.{◌≡◌, ℕ, ◌+◌, ◌-◌, ◌%◌, ◌==◌, ◌<◌, ◌≤◌, ◌&&◌, Bool, true, false, List, length, length-drop, take, drop, refl, sym, ◌∙◌, ap, if◌then◌else◌, arith}
use Rattle.std.specs.Prelude.{Option, Some, None, option_and_then, position, slice_range}
use Rattle.std.specs.Cmp.Lexicographic.{bytes_decides}
use Rattle.std.proofs.lemmas.Bool.{false_from_ne_true}
use Rattle.std.proofs.lemmas.List.{length-take, take-take}
use Rattle.std.proofs.lemmas.List.Quantifiers.{position-Some}
use Rattle.table_model.specs.Table.{same_text}
use Rattle.std.specs.Option.{option_map}
use Rattle.geometry.specs.declared.geometry.Geometry.{Geometry}
use Rattle.page_layout.specs.declared.header.PageHeader.{PageHeader}
use Rattle.page_layout.specs.Layout.{header_at, names_index}
use Rattle.image_model.specs.Headers.{name_of}
use Rattle.image_model.specs.Places.{page_of}
use Rattle.image_model.specs.Live.{live_at, is_live}
use Rattle.flash_view.specs.Found.{headed, named_at, is_name}

-- the id that a live page's header tells
pub headed_by : (o : Option (List ℕ)) (head : PageHeader) → Some head ≡ option_map header_at o →
    headed o ≡ (if names_index head && (head.span == 0) then Some (head.id % 0x8000) else None)
headed_by None head e = absurd (cc)
headed_by (Some page) head e = let is : head ≡ header_at page = cc in rw is refl

pub unheaded_by : (o : Option (List ℕ)) → None ≡ option_map header_at o → headed o ≡ None
unheaded_by None e = refl
unheaded_by (Some page) e = absurd (cc)

headed_live : (page : List ℕ) (id : ℕ) (live : Bool) (name : List ℕ) → Some id ≡ headed (if live then Some page else None) →
    named_at (if live then Some page else None) name ≡ (if is_name (name_of page) name then Some id else None)
headed_live page id true name e = rw e refl
headed_live page id false name e = absurd (cc)

-- a live header page by its id and its name
pub named_by : (g : Geometry) (image : List ℕ) (p id : ℕ) (name : List ℕ) → Some id ≡ headed (live_at g image p) →
    named_at (live_at g image p) name ≡ (if is_name (name_of (page_of g image p)) name then Some id else None)
unfolding live_at
named_by g image p id name e = headed_live (page_of g image p) id (is_live g image p) name e

none_if : (o : Option ℕ) (holds : Bool) → None ≡ o → (if holds then o else None) ≡ None
none_if o true e = sym e
none_if o false e = refl

pub unnamed_by : (o : Option (List ℕ)) (name : List ℕ) → None ≡ headed o → named_at o name ≡ None
unnamed_by None name e = refl
unnamed_by (Some page) name e = none_if _ (is_name (name_of page) name) e

-- ---- names that are compared where they stand

-- a field holds a name at its start
record IsStart (field name : List ℕ) : Type 0 where
  few : length name ≤ 31
  start : take (length name) field ≡ name

picked : (field name : List ℕ) (n : ℕ) (none : Bool) → is_name (if none then None else Some (take n field)) name ≡ true → take n field ≡ name
picked field name n true e = absurd (cc)
picked field name n false e = (bytes_decides (take n field) name).0 e

start_of : (field name : List ℕ) (o : Option ℕ) → length field ≡ 32 → ((n : ℕ) → o ≡ Some n → n < 32) → is_name (option_and_then (λ n. if n == 0 then None else Some (take n field)) o) name ≡ true → IsStart field name
start_of field name None size few e = absurd (cc)
start_of field name (Some n) size few e =
    let same : take n field ≡ name = picked field name n (n == 0) e in
    let low : n < 32 = few n refl in
    let long : length name ≡ n = ap length (sym same) ∙ omega (arith, size, low, length-take n field) in
    record { few = omega (arith, long, low); start = ap (λ (k : ℕ). take k field) long ∙ same }

field_start : (page name : List ℕ) → 45 ≤ length page → is_name (name_of page) name ≡ true → IsStart (slice_range page 13 45) name
field_start page name long e =
    let size : length (slice_range page 13 45) ≡ 32 = omega (arith, length-take 32 (drop 13 page), length-drop 13 page) in
    start_of (slice_range page 13 45) name (position (λ b. b == 0) (slice_range page 13 45)) size (λ n is. omega (arith, (position-Some (λ b. b == 0) (slice_range page 13 45) n 0 is).0, size)) e

equal_texts : (xs ys : List ℕ) → xs ≡ ys → same_text xs ys ≡ true
equal_texts xs ys e = (bytes_decides xs ys).1 e

-- a page where other bytes stand doesn't hold that name
pub other_start : (page name : List ℕ) → 45 ≤ length page → length name ≤ 31 → same_text (slice_range page 13 (13 + length name)) name ≡ false → is_name (name_of page) name ≡ false
other_start page name long few differs = false_from_ne_true (is_name (name_of page) name) (λ e.
    let w = field_start page name long e in
    let n : 13 + length name - 13 ≡ length name = omega arith in
    let same : slice_range page 13 (13 + length name) ≡ name = rw n (sym (take-take (length name) 32 (drop 13 page) (omega (arith, few))) ∙ w.start) in
    let yes' = equal_texts _ _ same in absurd (cc))

-- nor does one hold a longer name
pub too_long : (page name : List ℕ) → 45 ≤ length page → 31 < length name → is_name (name_of page) name ≡ false
too_long page name long many = false_from_ne_true (is_name (name_of page) name) (λ e. let w = field_start page name long e in omega (arith, w.few, many))
