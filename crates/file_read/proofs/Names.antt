-- The data page that an index page names is that of the file.
use Rattle.std.proofs.Common.{◌≡◌, ℕ, ◌+◌, ◌-◌, ◌*◌, ◌/◌, ◌%◌, ◌<◌, ◌≤◌, ◌==◌, Bool, true, false, List, refl, sym, subst, ◌∙◌, ap, arith, ⊎_elim, if◌then◌else◌}
use Rattle.std.specs.Prelude.{Option, Some, None, is_some, not, ◌&&◌, option_and_then}
use Rattle.std.specs.Option.{option_map}
use Rattle.std.proofs.lemmas.Bool.{cases_Bool, cases_lt, lt-ltb, le-ltb}
use Rattle.std.proofs.lemmas.Option.{none-some, same_Some}
use Rattle.geometry.specs.declared.geometry.Geometry.{Geometry}
use Rattle.geometry.specs.Numbers.{head_slots, span_slots}
use Rattle.image_model.specs.Headers.{obj_id, names_index, span_of}
use Rattle.nor_core.specs.Flash.{word_at}
use Rattle.image_model.specs.Places.{page_of, is_entry_page, has_magic, block_of, entry_of}
use Rattle.image_model.specs.Live.{Live, live_at, is_live, own}
use Rattle.image_model.specs.Files.{index_page, is_index, further, entry_number, data_of, data_page, index_span, slot_at}
use Rattle.image_laws.proofs.Judge.{index_passes}
use Rattle.file_read.specs.Spans.{named_page}

mine_some : (page x : List ℕ) (mine : Bool) → (if mine then Some page else None) ≡ Some x → (mine ≡ true) × (page ≡ x)
mine_some page x true e = (refl, same_Some page x e)
mine_some page x false e = absurd (none-some x e)

own_some : (o : Option (List ℕ)) (id : ℕ) (x : List ℕ) → option_and_then (λ page. if obj_id page % 0x8000 == id then Some page else None) o ≡ Some x → o ≡ Some x
own_some None id x e = absurd (none-some x e)
own_some (Some page) id x e = ap (λ (y : List ℕ). Some y) (mine_some page x _ e).1

-- a live page of an id is the page of its number
pub own_page : (g : Geometry) (image : List ℕ) (id p : ℕ) (x : List ℕ) → own (live_at g image) id p ≡ Some x → page_of g image p ≡ x
unfolding own live_at
own_page g image id p x e = (mine_some (page_of g image p) x (is_live g image p) (own_some (live_at g image p) id x e)).1

index_some : (o : Option (List ℕ)) (span : ℕ) → is_index o span ≡ true → (x : List ℕ) × (o ≡ Some x)
index_some None span e = absurd (cc)
index_some (Some x) span e = (x, refl)

-- the data page of a span that its index page names
pub named_is : (g : Geometry) (image : List ℕ) (id span index page : ℕ) (head : List ℕ) → index_page g (own (live_at g image) id) 0 ≡ Some page → own (live_at g image) id page ≡ Some head →
    index_page g (own (live_at g image) id) (index_span g span) ≡ Some index → named_page g image id index span ≡ data_page g (own (live_at g image) id) head span
unfolding named_page data_page entry_number
named_is g image id span index page head first is e =
    ⊎_elim
    (λ (low : span < head_slots g).
    let at : index_page g (own (live_at g image) id) 0 ≡ Some index = rw (lt-ltb span (head_slots g) low) at e in
    let same : page ≡ index = same_Some page index (sym first ∙ at) in
    let bytes : page_of g image index ≡ head = ap (page_of g image) (sym same) ∙ own_page g image id page head is in
    rw (lt-ltb span (head_slots g) low, bytes) refl)
    (λ (high : head_slots g ≤ span).
    let at : index_page g (own (live_at g image) id) (further g span) ≡ Some index = rw (le-ltb span (head_slots g) high) at e in
    let w = index_some (own (live_at g image) id index) (further g span) (index_passes g (own (live_at g image) id) (further g span) index at) in
    let bytes : page_of g image index ≡ w.0 = own_page g image id index w.0 w.1 in
    rw (le-ltb span (head_slots g) high, at, w.1, bytes) refl)
    (cases_lt span (head_slots g))

data_some : (o : Option (List ℕ)) (span : ℕ) → true ≡ is_some (data_of o span) → (x : List ℕ) × (o ≡ Some x) × (data_of o span ≡ Some x)
data_some None span e = absurd (cc)
data_some (Some x) span e =
    ⊎_elim
    (λ (yes : (not (names_index x) && (span_of x == span)) ≡ true). (x, refl, rw yes refl))
    (λ (no : (not (names_index x) && (span_of x == span)) ≡ false). absurd (let bad : true ≡ false = rw no at e in cc))
    (cases_Bool (not (names_index x) && (span_of x == span)))

data_none : (o : Option (List ℕ)) → false ≡ is_some o → None ≡ o
data_none None e = refl
data_none (Some x) e = absurd (cc)

-- the page that an index page names is the data page, where it is a live one of the span
pub named_there : (g : Geometry) (image : List ℕ) (id index span q : ℕ) → q ≡ word_at (page_of g image index) (slot_at g span) → true ≡ is_some (data_of (own (live_at g image) id q) span) →
    Some (page_of g image q) ≡ named_page g image id index span
unfolding named_page
named_there g image id index span q at e =
    let w = data_some (own (live_at g image) id q) span e in
    ap (λ (y : List ℕ). Some y) (own_page g image id q w.0 w.1) ∙ sym w.2 ∙ ap (λ (r : ℕ). data_of (own (live_at g image) id r) span) at

-- else there is none
pub named_nowhere : (g : Geometry) (image : List ℕ) (id index span q : ℕ) → q ≡ word_at (page_of g image index) (slot_at g span) → false ≡ is_some (data_of (own (live_at g image) id q) span) →
    None ≡ named_page g image id index span
unfolding named_page
named_nowhere g image id index span q at e = data_none (data_of (own (live_at g image) id q) span) e ∙ ap (λ (r : ℕ). data_of (own (live_at g image) id r) span) at

has_index : (pages : Live) (entry : List ℕ → ℕ) (page_at : ℕ → Option (List ℕ)) (o : Option ℕ) (z : List ℕ) → option_and_then page_at (option_map entry (option_and_then pages o)) ≡ Some z → (q : ℕ) × (o ≡ Some q)
has_index pages entry page_at None z e = absurd (none-some z e)
has_index pages entry page_at (Some q) z e = (q, refl)

-- a span that has its data page has its index page
pub index_there : (g : Geometry) (pages : Live) (head : List ℕ) (span page : ℕ) (z : List ℕ) → index_page g pages 0 ≡ Some page → data_page g pages head span ≡ Some z → (q : ℕ) × (index_page g pages (index_span g span) ≡ Some q)
unfolding data_page entry_number
index_there g pages head span page z first e =
    ⊎_elim
    (λ (low : span < head_slots g). (page, rw (lt-ltb span (head_slots g) low) first))
    (λ (high : head_slots g ≤ span).
    let w = has_index pages _ _ (index_page g pages (further g span)) z (rw (le-ltb span (head_slots g) high) at e) in
    (w.0, rw (le-ltb span (head_slots g) high) w.1))
    (cases_lt span (head_slots g))
