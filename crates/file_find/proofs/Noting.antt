-- The survey page by page, and the header pages of noted ids.
use Rattle.std.proofs.Common.{◌≡◌, ℕ, ◌+◌, ◌-◌, ◌%◌, ◌==◌, ◌<◌, ◌≤◌, ⊎_elim, Bool, true, false, List, length, nat_lt, nat_le, refl, sym, ◌∙◌, ap, arith, slice_index, slice_set, Option, Some, None, if◌then◌else◌}
use Rattle.std.specs.Prelude.{is_some, option_and_then}
use Rattle.std.proofs.lemmas.Bool.{cases_lt, cases_eq, eq-eqb, ne_eqb, and_parts, leb-true, le-ltb}
use Rattle.std.proofs.lemmas.Option.{none-some}
use Rattle.std.proofs.lemmas.List.{get_or-set_same, get_or-set_other}
use Rattle.geometry.specs.declared.geometry.Geometry.{Geometry}
use Rattle.geometry.specs.Numbers.{page_count, per_block}
use Rattle.image_model.specs.Headers.{obj_id}
use Rattle.page_layout.specs.declared.header.PageHeader.{PageHeader}
use Rattle.page_layout.specs.Layout.{names_index}
use Rattle.image_model.specs.Places.{page_of, entry_of}
use Rattle.image_model.specs.Live.{live_at, is_live, own}
use Rattle.image_model.specs.Files.{index_page, is_index, judged}
use Rattle.image_model.specs.Tidy.{is_number}
use Rattle.flash_view.specs.Found.{headed, has_header}
use Rattle.flash_view.specs.Walk.{IsNextLive}
use Rattle.flash_view.proofs.Entries.{live_page}
use Rattle.flash_view.proofs.Least.{heads}
use Rattle.flash_view.proofs.Passed.{found_head}
use Rattle.file_find.specs.Ids.{is_noted, unnoted, Notes}
use Rattle.file_find.specs.Marks.{mark_of, head_mark, marked_id, head_between, cause_at, holder_below, table_id, IsMarked, HasBelow, MarkedBelow, Surveyed, NextHead}
use Rattle.file_find.proofs.Bits.{mark_beside}
use Rattle.file_find.proofs.Marking.{has_at, mark_none, other_mark, number_is, find_parts}
use Rattle.file_find.proofs.Heads.{header_parts, header_marked, marked_page}
use Rattle.file_find.proofs.Wholes.{head_within, nothing_found}
use Rattle.file_find.proofs.Holders.{judged_right, holder_all}

-- the pages of a volume by both names
in_volume : (g : Geometry) (p : ℕ) → p < page_count g → p < page_count g
unfolding page_count per_block
in_volume g p low = low

in_pages : (g : Geometry) (p : ℕ) → p < page_count g → p < page_count g
unfolding page_count per_block
in_pages g p low = low

-- ---- the first header page of an id

own_index : (page : List ℕ) (id : ℕ) (index : Bool) → (if index then Some (obj_id page % 0x8000) else None) ≡ Some id → (index ≡ true) × (obj_id page % 0x8000 ≡ id)
own_index page id true e = (refl, cc)
own_index page id false e = absurd (cc)

tells_index : (o : Option (List ℕ)) (id : ℕ) → headed o ≡ Some id → is_index (option_and_then (λ page. if obj_id page % 0x8000 == id then Some page else None) o) 0 ≡ true
tells_index None id e = absurd (cc)
tells_index (Some page) id e =
    let w = own_index page id (is_index (Some page) 0) e in
    rw (eq-eqb _ _ w.1) w.0

-- no page before it is one
first_least : (g : Geometry) (image : List ℕ) (id p q : ℕ) → index_page g (own (live_at g image) id) 0 ≡ Some p → headed (live_at g image q) ≡ Some id → p ≤ q
unfolding index_page own
first_least g image id p q is has =
    ⊎_elim
    (λ (less : q < p).
    let w = find_parts (λ (r : ℕ). is_index (own (live_at g image) id r) 0) 0 (page_count g) p is in
    let none : is_index (own (live_at g image) id q) 0 ≡ false = w.3 q (omega arith) less in
    let here : is_index (own (live_at g image) id q) 0 ≡ true = tells_index (live_at g image q) id has in
    absurd (let bad : true ≡ false = sym here ∙ none in cc))
    (λ (low : p ≤ q). low)
    (cases_lt q p)

some_first : (g : Geometry) (image : List ℕ) (id : ℕ) (o : Option ℕ) → index_page g (own (live_at g image) id) 0 ≡ o → is_some o ≡ true → (p : ℕ) × (index_page g (own (live_at g image) id) 0 ≡ Some p)
some_first g image id None is e = absurd (cc)
some_first g image id (Some p) is e = (p, is)

has_first : (g : Geometry) (image : List ℕ) (id q : ℕ) → q < page_count g → headed (live_at g image q) ≡ Some id → (p : ℕ) × (index_page g (own (live_at g image) id) 0 ≡ Some p)
unfolding has_header
has_first g image id q low has = some_first g image id (index_page g (own (live_at g image) id) 0) refl (heads g image q id (in_volume g q low) has)

module _ (g : Geometry) (image : List ℕ) (p id : ℕ) (low : p < page_count g) (is : headed (live_at g image p) ≡ Some id) where
  -- a header page behind another one of its id has no mark
  later_mark : HasBelow g image id p → 0 ≡ mark_of g image p
  unfolding mark_of
  later_mark before =
      let first = has_first g image id before.page (omega (arith, low, before.below)) before.is in
      let least = first_least g image id first.0 before.page first.1 before.is in
      rw is (rw (has_at g image id first.0 first.1) (sym (other_mark (cause_at g image id) (judged g (own (live_at g image) id) id (page_of g image first.0)) first.0 p (ne_eqb first.0 p (λ e. omega (arith, e, least, before.below))))))

  -- one before which there is none is the first
  first_page : (HasBelow g image id p → ⊥) → index_page g (own (live_at g image) id) 0 ≡ Some p
  first_page none =
      let first = has_first g image id p low is in
      let least = first_least g image id first.0 p first.1 is in
      ⊎_elim
      (λ (less : first.0 < p). absurd (none (record { page = first.0; below = less; is = (header_parts g image id first.0 first.1).0 })))
      (λ (most : p ≤ first.0). let same : first.0 ≡ p = omega (arith, least, most) in first.1 ∙ ap (λ (x : ℕ). Some x) same)
      (cases_lt first.0 p)

-- ---- one page more

pub surveyed_none : (g : Geometry) (image marks : List ℕ) → ((id : ℕ) → id < 0x8000 → is_noted marks (page_count g) id ≡ false) → Surveyed g image marks 0
surveyed_none g image marks none = record {
  marked = record { each = λ p low. absurd (omega (arith, low)) };
  noted = λ p id low. absurd (omega (arith, low));
  only = λ id low e. absurd (let bad : true ≡ false = sym e ∙ none id low in cc);
}

-- pages without a header page, which have no mark
pub surveyed_skip : (g : Geometry) (image marks : List ℕ) (at p : ℕ) → at ≤ p → p ≤ page_count g → ((q : ℕ) → at ≤ q → q < p → headed (live_at g image q) ≡ None) → ((q : ℕ) → at ≤ q → q < page_count g → slice_index marks q ≡ 0) →
    Surveyed g image marks at → Surveyed g image marks p
surveyed_skip g image marks at p more most none zeros was = record {
  marked = record {
    each = λ q less. ⊎_elim
        (λ (early : q < at). was.marked.each q early)
        (λ (late : at ≤ q). zeros q late (omega (arith, less, most)) ∙ mark_none g image q (sym (none q late less)))
        (cases_lt q at);
  };
  noted = λ q id less has. ⊎_elim
      (λ (early : q < at). was.noted q id early has)
      (λ (late : at ≤ q). absurd (none-some id (sym (none q late less) ∙ has)))
      (cases_lt q at);
  only = λ id low set. let w = was.only id low set in record { page = w.page; below = omega (arith, w.below, more); is = w.is };
}

live_here : (g : Geometry) (image : List ℕ) (p : ℕ) → is_live g image p ≡ true → live_at g image p ≡ Some (page_of g image p)
unfolding live_at
live_here g image p e = rw e refl

index_found : (g : Geometry) (image : List ℕ) (from p : ℕ) (head : PageHeader) → IsNextLive g image from 0x8000 0xFFFE p head → names_index head ≡ true
index_found g image from p head found =
    let w = live_page g image p (page_of g image p) (live_here g image p found.live) in
    let large = and_parts (nat_le 0x8000 (entry_of g image p)) (nat_le (entry_of g image p) 0xFFFE) found.between in
    let id : head.id ≡ entry_of g image p = ap (λ (h : PageHeader). h.id) found.header ∙ sym w.number in
    let none : nat_lt head.id 0x8000 ≡ false = le-ltb head.id 0x8000 (omega (arith, id, leb-true 0x8000 (entry_of g image p) large.0)) in
    rw none refl

-- the id of an index page that was found, by its header
pub found_told : (g : Geometry) (image : List ℕ) (from p : ℕ) (head : PageHeader) → IsNextLive g image from 0x8000 0xFFFE p head → (if head.span == 0 then Some (head.id % 0x8000) else None) ≡ headed (live_at g image p)
found_told g image from p head found = sym (found_head g image from p head found ∙ rw (index_found g image from p head found) refl)

unnoted_mark : (g : Geometry) (image old : List ℕ) (p id : ℕ) (noted : Bool) → is_noted old (page_count g) id ≡ noted → p < page_count g → headed (live_at g image p) ≡ Some id → Surveyed g image old p →
    head_mark g image (if noted then None else Some id) p ≡ mark_of g image p
unnoted_mark g image old p id true set low is was = later_mark g image p id low is (was.only id (let w = head_within g image p id is in omega (arith, w.1)) set)
unnoted_mark g image old p id false set low is was =
    judged_right g image id p (first_page g image p id low is (λ before. let bad : true ≡ false = sym (was.noted before.page id before.below before.is) ∙ set in absurd (cc)))

page_mark : (g : Geometry) (image old : List ℕ) (p : ℕ) (found : Option ℕ) → found ≡ headed (live_at g image p) → p < page_count g → Surveyed g image old p → head_mark g image (unnoted old (page_count g) found) p ≡ mark_of g image p
page_mark g image old p None is low was = mark_none g image p is
page_mark g image old p (Some id) is low was = unnoted_mark g image old p id (is_noted old (page_count g) id) refl low (sym is) was

-- the pages that are marked stay so while the id of another one is noted
pub marked_still : (g : Geometry) (image old mid : List ℕ) (p : ℕ) (found : Option ℕ) → p < page_count g → Surveyed g image old p → Notes (page_count g) found old mid → MarkedBelow g image mid p
marked_still g image old mid p found low was notes = record { each = λ q less. notes.pages q (omega (arith, less, low)) ∙ was.marked.each q less }

pub marked_all : (g : Geometry) (image marks : List ℕ) → IsMarked g image marks → MarkedBelow g image marks (page_count g)
marked_all g image marks was = record { each = was.each }

was_noted : (g : Geometry) (image old new : List ℕ) (p : ℕ) (found : Option ℕ) (id : ℕ) → headed (live_at g image p) ≡ found → Notes (page_count g) found old new → Surveyed g image old p → id < 0x8000 → is_noted new (page_count g) id ≡ true →
    HasBelow g image id (p + 1)
was_noted g image old new p None id is notes was low set =
    let w = was.only id low (sym (notes.others id low (λ e. absurd (cc))) ∙ set) in record { page = w.page; below = omega (arith, w.below); is = w.is }
was_noted g image old new p (Some h) id is notes was low set =
    ⊎_elim
    (λ (here : h ≡ id). record { page = p; below = omega arith; is = is ∙ ap (λ (n : ℕ). Some n) here })
    (λ (there : h ≡ id → ⊥). let w = was.only id low (sym (notes.others id low (λ e. there (cc))) ∙ set) in record { page = w.page; below = omega (arith, w.below); is = w.is })
    (cases_eq h id)

pub surveyed_more : (g : Geometry) (image old mid : List ℕ) (p mark : ℕ) (found first : Option ℕ) → p < page_count g → p < length mid → Surveyed g image old p → found ≡ headed (live_at g image p) →
    first ≡ unnoted old (page_count g) found → Notes (page_count g) found old mid → mark ≡ head_mark g image first p → Surveyed g image (slice_set mid p mark) (p + 1)
surveyed_more g image old mid p mark found first low room was is told notes marked =
    let right : mark ≡ mark_of g image p = marked ∙ ap (λ (o : Option ℕ). head_mark g image o p) told ∙ page_mark g image old p found is low was in
    record {
      marked = record {
        each = λ q less. ⊎_elim
            (λ (before : q < p). get_or-set_other mid p q mark 0 (λ e. omega (arith, e, before)) ∙ notes.pages q (omega (arith, before, low)) ∙ was.marked.each q before)
            (λ (most : p ≤ q). let at : q ≡ p = omega arith in rw at (get_or-set_same mid p mark 0 room ∙ right))
            (cases_lt q p);
      };
      noted = λ q id less has.
          let within = head_within g image q id has in
          mark_beside mid (page_count g) p mark id low ∙ ⊎_elim
          (λ (before : q < p). notes.more id (was.noted q id before has))
          (λ (most : p ≤ q). let at : q ≡ p = omega arith in notes.noted id (is ∙ ap (λ (r : ℕ). headed (live_at g image r)) (sym at) ∙ has))
          (cases_lt q p);
      only = λ id few set. was_noted g image old mid p found id (sym is) notes was few (sym (mark_beside mid (page_count g) p mark id low) ∙ set);
    }

pub surveyed_all : (g : Geometry) (image marks : List ℕ) (end : ℕ) → end ≡ page_count g → Surveyed g image marks end → IsMarked g image marks
surveyed_all g image marks end all was = record { each = λ p low. was.marked.each p (omega (arith, low, all)); noted = λ p id low. was.noted p id (omega (arith, low, all)) }

-- ---- the header page of an id, by right marks

pub head_marked : (g : Geometry) (image marks : List ℕ) (id p : ℕ) → IsMarked g image marks → index_page g (own (live_at g image) id) 0 ≡ Some p → slice_index marks p ≡ mark_of g image p
head_marked g image marks id p marked is = marked.each p (in_pages g p (header_parts g image id p is).1)

no_first : (g : Geometry) (image : List ℕ) (id : ℕ) (o : Option ℕ) → index_page g (own (live_at g image) id) 0 ≡ o → ((p : ℕ) → p < page_count g → headed (live_at g image p) ≡ Some id → index_page g (own (live_at g image) id) 0 ≡ Some p → ⊥) → None ≡ index_page g (own (live_at g image) id) 0
no_first g image id None is none = sym is
no_first g image id (Some p) is none = let w = header_parts g image id p is in absurd (none p (in_pages g p w.1) w.0 is)

pub not_noted : (g : Geometry) (image marks : List ℕ) (id : ℕ) → IsMarked g image marks → is_noted marks (page_count g) id ≡ false → None ≡ index_page g (own (live_at g image) id) 0
not_noted g image marks id marked clear = no_first g image id (index_page g (own (live_at g image) id) 0) refl (λ p low has is. let bad : true ≡ false = sym (marked.noted p id low has) ∙ clear in cc)

pub found_page : (g : Geometry) (image : List ℕ) (id from to p : ℕ) → Some p ≡ head_between g image id from to → Some p ≡ index_page g (own (live_at g image) id) 0
unfolding head_between
found_page g image id from to p is =
    let w = find_parts (λ (q : ℕ). is_number (marked_id g image q) id) from (to - from) p (sym is) in
    sym (marked_page g image p id (number_is (marked_id g image p) id w.0)).1

found_nothing : (g : Geometry) (image : List ℕ) (id from to p : ℕ) → None ≡ head_between g image id from to → index_page g (own (live_at g image) id) 0 ≡ Some p → from ≤ p → p < to → ⊥
unfolding head_between
found_nothing g image id from to p none is low high =
    let fails : is_number (marked_id g image p) id ≡ false = nothing_found (λ (q : ℕ). is_number (marked_id g image q) id) from (to - from) (sym none) p low (omega (arith, low, high)) in
    let has : marked_id g image p ≡ Some id = header_marked g image id p is in
    let passes : is_number (marked_id g image p) id ≡ true = rw has (eq-eqb id id refl) in
    let bad : true ≡ false = sym passes ∙ fails in cc

pub found_neither : (g : Geometry) (image : List ℕ) (id near : ℕ) (found : Option ℕ) → None ≡ head_between g image id near (page_count g) → found ≡ head_between g image id 0 near → found ≡ index_page g (own (live_at g image) id) 0
found_neither g image id near (Some p) behind is = found_page g image id 0 near p is
found_neither g image id near None behind is = no_first g image id (index_page g (own (live_at g image) id) 0) refl (λ p low has first. ⊎_elim
    (λ (before : p < near). found_nothing g image id 0 near p is first (omega arith) before)
    (λ (after : near ≤ p). found_nothing g image id near (page_count g) p behind first after low)
    (cases_lt p near))

-- ---- the next id that has one

-- no id above `after` and below `at` has a header page
pub record NoHeads (g : Geometry) (image : List ℕ) (after at : ℕ) : Type 0 where
  pub none : (j : ℕ) → after < j → j < at → index_page g (own (live_at g image) j) 0 ≡ None

pub no_heads_more : (g : Geometry) (image : List ℕ) (after at : ℕ) → NoHeads g image after at → None ≡ index_page g (own (live_at g image) at) 0 → NoHeads g image after (at + 1)
no_heads_more g image after at was none = record {
  none = λ j low high. ⊎_elim
      (λ (before : j < at). was.none j low before)
      (λ (most : at ≤ j). let here : j ≡ at = omega arith in rw here (sym none))
      (cases_lt j at);
}

headless_at : (g : Geometry) (image : List ℕ) (j : ℕ) → index_page g (own (live_at g image) j) 0 ≡ None → has_header g image j ≡ false
unfolding has_header
headless_at g image j none = rw none refl

pub next_here : (g : Geometry) (image : List ℕ) (after id p : ℕ) → after < id → NoHeads g image after id → Some p ≡ index_page g (own (live_at g image) id) 0 → NextHead g image after (Some (id, p))
unfolding has_header
next_here g image after id p above was is = (
  record {
    above = above;
    has = rw (sym is) refl;
    least = λ other more has. ⊎_elim
        (λ (before : other < id). absurd (let bad : true ≡ false = sym has ∙ headless_at g image other (was.none other more before) in cc))
        (λ (most : id ≤ other). most)
        (cases_lt other id);
  },
  sym is,
)

pub next_nowhere : (g : Geometry) (image : List ℕ) (after at : ℕ) → 0x8000 ≤ at → NoHeads g image after at → NextHead g image after None
next_nowhere g image after at all was = record {
  none = λ other more. headless_at g image other (⊎_elim
      (λ (before : other < at). was.none other more before)
      (λ (past : at ≤ other). sym (no_first g image other (index_page g (own (live_at g image) other) 0) refl (λ p low has is. let within = head_within g image p other has in omega (arith, within.1, past, all))))
      (cases_lt other at));
}

-- ---- the table's file of a name, among all pages

pub holder_volume : (g : Geometry) (image name : List ℕ) (end : ℕ) → end ≡ page_count g → holder_below g image name end ≡ table_id g image name
unfolding page_count per_block
holder_volume g image name end all = rw all (holder_all g image name)
