-- Bits of ids in a row of bytes.
use Rattle.std.proofs.Common.{◌≡◌, ℕ, ◌+◌, ◌<◌, ◌≤◌, ⊎_elim, List, ◌==◌, not, nat_le, length, take, drop, ◌-◌, refl, sym, ◌∙◌, ap, subst, arith, Option, Some, None}
use Rattle.std.specs.Prelude.{find}
use Rattle.std.specs.List.{range_with_len}
use Rattle.std.proofs.lemmas.Bool.{cases_lt, cases_eq, eqb-true, eq-eqb, le-ltb, leb-true, and_parts}
use Rattle.std.specs.Cmp.{both_ways}
use Rattle.image_laws.proofs.Judge.{find-range}
use Rattle.std.proofs.lemmas.List.{take_all, length-drop}
use Rattle.geometry.specs.declared.geometry.Geometry.{Geometry}
use Rattle.geometry.specs.Numbers.{usable, page_count}
use Rattle.page_layout.specs.declared.header.PageHeader.{PageHeader}
use Rattle.page_layout.specs.Ids.{bit_of}
use Rattle.image_model.specs.Headers.{obj_id}
use Rattle.image_model.specs.Places.{page_of, entry_of}
use Rattle.image_model.specs.Live.{live_at}
use Rattle.image_laws.proofs.Frames.{live_parts}
use Rattle.flash_view.specs.Walk.{IsNextLive, NextLive}
use Rattle.flash_view.proofs.Passed.{passed_head}
use Rattle.flash_view.specs.Found.{headed, has_header}
use Rattle.flash_view.proofs.Least.{heads, headed_of}
use Rattle.free_search.specs.Ids.{head_id, Notes, Noted, unused_id}

-- the bytes from a place on, as a slice to the end
pub tail_of : (s : ℕ) (w : List ℕ) → take (length w - s) (drop s w) ≡ drop s w
tail_of s w = take_all (length w - s) (drop s w) (let rest = length-drop s w in omega (arith, rest))

-- ---- the ids of the pages below a loop's counter

pub noted_none : (g : Geometry) (image bits : List ℕ) → ((id : ℕ) → id ≤ usable g → bit_of bits id ≡ 0) → Noted g image bits 0
noted_none g image bits none = record {
  some = λ id low set. absurd (let clear = none id low in omega (arith, clear, set));
  all = λ q id below. absurd (omega arith);
}

more_some : (g : Geometry) (image old new : List ℕ) (p : ℕ) (found : Option ℕ) → headed (live_at g image p) ≡ found → Noted g image old p → Notes (usable g) found old new →
    (id : ℕ) → id ≤ usable g → bit_of new id ≡ 1 → (q : ℕ) × (q < p + 1) × (headed (live_at g image q) ≡ Some id)
more_some g image old new p None at was notes id low set = let w = was.some id low (sym (notes.others id (λ e. absurd (cc))) ∙ set) in (w.0, omega (arith, w.1), w.2)
more_some g image old new p (Some h) at was notes id low set =
    ⊎_elim
    (λ (here : h ≡ id). (p, omega arith, at ∙ ap (λ (n : ℕ). Some n) here))
    (λ (there : h ≡ id → ⊥). let w = was.some id low (sym (notes.others id (λ e. there (cc))) ∙ set) in (w.0, omega (arith, w.1), w.2))
    (cases_eq h id)

-- what is noted stays so
stays_set : (g : Geometry) (old new : List ℕ) (found : Option ℕ) → Notes (usable g) found old new → (id : ℕ) → id ≤ usable g → bit_of old id ≡ 1 → bit_of new id ≡ 1
stays_set g old new None notes id low set = notes.others id (λ e. absurd (cc)) ∙ set
stays_set g old new (Some h) notes id low set =
    ⊎_elim
    (λ (here : h ≡ id). notes.noted id (ap (λ (n : ℕ). Some n) here) low)
    (λ (there : h ≡ id → ⊥). notes.others id (λ e. there (cc)) ∙ set)
    (cases_eq h id)

pub noted_more : (g : Geometry) (image old new : List ℕ) (p : ℕ) → Noted g image old p → Notes (usable g) (headed (live_at g image p)) old new → Noted g image new (p + 1)
noted_more g image old new p was notes = record {
  some = more_some g image old new p (headed (live_at g image p)) refl was notes;
  all = λ q id below is low. ⊎_elim
      (λ (before : q < p). stays_set g old new (headed (live_at g image p)) notes id low (was.all q id before is low))
      (λ (after : p ≤ q). let here : q ≡ p = omega arith in notes.noted id (sym (ap (λ (n : ℕ). headed (live_at g image n)) here) ∙ is) low)
      (cases_lt q p);
}

-- pages in a row without a header page
pub noted_over : (g : Geometry) (image bits : List ℕ) (at p : ℕ) → at ≤ p → ((q : ℕ) → at ≤ q → q < p → headed (live_at g image q) ≡ None) → Noted g image bits at → Noted g image bits p
noted_over g image bits at p low none was = record {
  some = λ id few set. let w = was.some id few set in (w.0, omega (arith, w.1, low), w.2);
  all = λ q id below is few. ⊎_elim
      (λ (early : q < at). was.all q id early is few)
      (λ (late : at ≤ q). absurd (let no : headed (live_at g image q) ≡ None = none q late below in cc))
      (cases_lt q at);
}

-- the next one is that of its header
found_head : (g : Geometry) (image : List ℕ) (from p : ℕ) (head : PageHeader) → IsNextLive g image from 0x8000 0xFFFE p head → headed (live_at g image p) ≡ head_id head
unfolding live_at
found_head g image from p head found =
    let live : live_at g image p ≡ Some (page_of g image p) = rw found.live refl in
    let parts = and_parts (nat_le 0x8000 (entry_of g image p)) _ found.between in
    let w = live_parts g image p (page_of g image p) live in
    let more : 0x8000 ≤ obj_id (page_of g image p) = omega (arith, w.entry, leb-true 0x8000 (entry_of g image p) parts.0) in
    rw (found.live, found.header, le-ltb (obj_id (page_of g image p)) 0x8000 more) refl

-- the pages up to the next one, whose id was noted
pub noted_on : (g : Geometry) (image old new : List ℕ) (at p : ℕ) (head : PageHeader) → at ≤ p → IsNextLive g image at 0x8000 0xFFFE p head → Noted g image old at → Notes (usable g) (head_id head) old new → Noted g image new (p + 1)
noted_on g image old new at p head low found was notes =
    noted_more g image old new p (noted_over g image old at p low (λ q after before. passed_head g image q (found.passed q after before)) was) (subst (λ (o : Option ℕ). Notes (usable g) o old new) (sym (found_head g image at p head found)) notes)

-- those to the volume's end
pub noted_last : (g : Geometry) (image bits : List ℕ) (at : ℕ) → at ≤ page_count g → NextLive g image at 0x8000 0xFFFE None → Noted g image bits at → Noted g image bits (page_count g)
noted_last g image bits at low none was = noted_over g image bits at (page_count g) low (λ q after before. passed_head g image q (none q after before)) was

-- an id whose bit is set has a header page, and one whose bit is clear has none
bit_tells : (g : Geometry) (image bits : List ℕ) (id : ℕ) → id ≤ usable g → Noted g image bits (page_count g) → (bit_of bits id == 1) ≡ has_header g image id
bit_tells g image bits id low was = both_ways (bit_of bits id == 1) (has_header g image id)
    (λ set. let w = was.some id low (eqb-true _ 1 set) in heads g image w.0 id w.1 w.2)
    (λ has. let w = headed_of g image id has in eq-eqb _ 1 (was.all w.page id w.below w.is low))

pub noted_all : (g : Geometry) (image bits : List ℕ) → Noted g image bits (page_count g) → find (λ id. not (bit_of bits id == 1)) (range_with_len 1 (usable g)) ≡ unused_id g image
unfolding unused_id
noted_all g image bits was = find-range (λ id. not (has_header g image id)) (λ id. not (bit_of bits id == 1)) 1 (usable g) (λ q low high. ap not (bit_tells g image bits q (omega arith) was))
