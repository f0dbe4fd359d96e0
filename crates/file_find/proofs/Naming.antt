-- Names that are noted.
use Rattle.std.proofs.Common.{◌≡◌, ◌+◌, ◌<◌, ◌≤◌, ◌==◌, ◌&&◌, ℕ, List, Bool, true, false, not, slice_set, refl, sym, ◌∙◌, ap, arith, ⊎_elim, if◌then◌else◌, Option, Some, None}
use Rattle.std.specs.Prelude.{is_some}
use Rattle.std.proofs.lemmas.Bool.{cases_lt, eqb-true, false≢true}
use Rattle.geometry.specs.declared.geometry.Geometry.{Geometry}
use Rattle.geometry.specs.Numbers.{page_count}
use Rattle.image_model.specs.Headers.{name_of}
use Rattle.image_model.specs.Places.{page_of}
use Rattle.image_model.specs.Live.{live_at}
use Rattle.flash_view.specs.Found.{headed, is_name}
use Rattle.flash_view.proofs.Passed.{first_none}
use Rattle.file_find.specs.Ids.{is_noted, name_number, Notes, NotesNames}
use Rattle.file_find.specs.Marks.{name_mark, mark_of, holder_at, holder_below, whole_mark, MarkedBelow, NamesBelow}
use Rattle.file_find.proofs.Bits.{mark_beside}
use Rattle.file_find.proofs.Wholes.{named_parts, texts}

-- ---- what is noted

-- a number behind those of ids is noted
pub names_from : (start number : ℕ) (old new : List ℕ) → 0x8000 ≤ number → Notes start (Some number) old new → NotesNames start old new
names_from start number old new high notes = record { pages = notes.pages; ids = λ k low. notes.others k low (λ e. let same : number ≡ k = cc in omega (arith, same, high, low)); more = notes.more }

-- an id, and then a name
pub notes_then : (start : ℕ) (found : Option ℕ) (old mid new : List ℕ) → Notes start found old mid → NotesNames start mid new → Notes start found old new
notes_then start found old mid new notes names = record {
  noted = λ id e. names.more id (notes.noted id e);
  others = λ k low other. names.ids k low ∙ notes.others k low other;
  more = λ k set. names.more k (notes.more k set);
  pages = λ p low. names.pages p low ∙ notes.pages p low;
}

pub names_none : (start : ℕ) (old : List ℕ) → NotesNames start old old
names_none start old = record { pages = λ p low. refl; ids = λ k low. refl; more = λ k set. set }

pub number_high : (name : List ℕ) → 0x8000 ≤ name_number name
unfolding name_number
number_high name = omega arith

-- ---- names of files below a page

no_headed : (b : Bool) (o : Option ℕ) → o ≡ None → is_some (if b then o else None) ≡ true → ⊥
no_headed true o none e = let bad : is_some o ≡ true = e in false≢true (sym (ap (λ (x : Option ℕ). is_some x) none) ∙ bad)
no_headed false o none e = false≢true e

module _ (g : Geometry) (image : List ℕ) where
  pub names_start : (marks : List ℕ) → NamesBelow g image marks 0
  names_start marks = record { each = λ p name low. absurd (omega (arith, low)) }

  -- pages without a header page
  pub names_skip : (marks : List ℕ) (at p : ℕ) → ((q : ℕ) → at ≤ q → q < p → headed (live_at g image q) ≡ None) → NamesBelow g image marks at → NamesBelow g image marks p
  unfolding holder_at
  names_skip marks at p none was = record {
    each = λ q name less held. ⊎_elim
        (λ (early : q < at). was.each q name early held)
        (λ (late : at ≤ q). absurd (no_headed ((mark_of g image q == name_mark name) && is_name (name_of (page_of g image q)) name) (headed (live_at g image q)) (none q late less) held))
        (cases_lt q at);
  }

  pub names_still : (old mid : List ℕ) (p : ℕ) (found : Option ℕ) → Notes (page_count g) found old mid → NamesBelow g image old p → NamesBelow g image mid p
  names_still old mid p found notes was = record { each = λ q name less held. notes.more _ (was.each q name less held) }

  pub marked_names : (mid new : List ℕ) (p : ℕ) → p < page_count g → NotesNames (page_count g) mid new → MarkedBelow g image mid p → MarkedBelow g image new p
  marked_names mid new p low names was = record { each = λ q less. names.pages q (omega (arith, less, low)) ∙ was.each q less }

  -- a name that isn't noted is that of no file below
  pub nobody : (marks name : List ℕ) (p : ℕ) → NamesBelow g image marks p → is_noted marks (page_count g) (name_number name) ≡ false → holder_below g image name p ≡ None
  unfolding holder_below
  nobody marks name p was clear =
      first_none (holder_at g image name) p (λ q low. nothing (holder_at g image name q) (λ held. false≢true (sym clear ∙ was.each q name low held)))
    where
      nothing : (o : Option ℕ) → (is_some o ≡ true → ⊥) → o ≡ None
      nothing None no' = refl
      nothing (Some i) no' = absurd (no' refl)

  -- so the mark of a whole file is that of its name
  pub new_name : (marks name : List ℕ) (p : ℕ) (o : Option (List ℕ)) → NamesBelow g image marks p → is_noted marks (page_count g) (name_number name) ≡ false → o ≡ Some name → name_mark name ≡ whole_mark g image p o
  new_name marks name p o was clear is = rw (is, nobody marks name p was clear) refl

  -- what a holder is
  holder_named : (name : List ℕ) (p : ℕ) → is_some (holder_at g image name p) ≡ true → (mark_of g image p ≡ name_mark name) × (is_name (name_of (page_of g image p)) name ≡ true)
  unfolding holder_at
  holder_named name p held =
      let w = some_of (holder_at g image name p) held in
      let v = named_parts (mark_of g image p == name_mark name) (is_name (name_of (page_of g image p)) name) (headed (live_at g image p)) w.0 w.1 in
      (eqb-true _ _ v.0, v.1)
    where
      some_of : (o : Option ℕ) → is_some o ≡ true → (i : ℕ) × (o ≡ Some i)
      some_of None e = absurd (cc)
      some_of (Some i) e = (i, refl)

  -- one page more
  pub names_more : (old mid new : List ℕ) (p mark : ℕ) (found : Option ℕ) → p < page_count g → Notes (page_count g) found old mid → NotesNames (page_count g) mid new → mark ≡ mark_of g image p →
      ((name : List ℕ) → 3 ≤ mark → name_of (page_of g image p) ≡ Some name → is_noted new (page_count g) (name_number name) ≡ true) → NamesBelow g image old p → NamesBelow g image (slice_set new p mark) (p + 1)
  names_more old mid new p mark found low notes names right named was = record {
    each = λ q name less held.
        mark_beside new (page_count g) p mark (name_number name) low ∙ ⊎_elim
        (λ (before : q < p). names.more _ (notes.more _ (was.each q name before held)))
        (λ (most : p ≤ q).
        let at : q ≡ p = omega (arith, most, less) in
        let w = holder_named name p (ap (λ (r : ℕ). is_some (holder_at g image name r)) (sym at) ∙ held) in
        let three : 3 ≤ mark = omega (arith, right, w.0) in
        named name three (same_name (name_of (page_of g image p)) name w.1))
        (cases_lt q p);
  }
    where
      same_name : (o : Option (List ℕ)) (name : List ℕ) → is_name o name ≡ true → o ≡ Some name
      same_name None name e = absurd (cc)
      same_name (Some found) name e = ap (λ (x : List ℕ). Some x) (texts found name e)

pub first_name : (b known : Bool) → known ≡ true → known ≡ not b → b ≡ false
first_name true known is e = absurd (false≢true (sym e ∙ is))
first_name false known is e = refl
