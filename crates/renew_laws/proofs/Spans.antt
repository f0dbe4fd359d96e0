-- The data page of a span.
use Rattle.std.proofs.Common.{◌≡◌, ℕ, ◌+◌, ◌*◌, ◌<◌, ◌≤◌, List, false, Some, Ok, ap, refl, ◌∙◌, arith, ⊎_elim}
use Rattle.std.specs.Prelude.{is_none}
use Rattle.std.proofs.lemmas.Bool.{cases_lt, lt-ltb, le-ltb, eq-eqb}
use Rattle.geometry.specs.declared.geometry.Geometry.{Geometry}
use Rattle.geometry.specs.Numbers.{head_slots}
use Rattle.table_model.specs.Table.{File}
use Rattle.table_model.specs.Room.{data_pages}
use Rattle.image_model.specs.Headers.{names_index, span_of, size_of}
use Rattle.nor_core.specs.Flash.{word_at}
use Rattle.image_model.specs.Live.{Live}
use Rattle.image_model.specs.Files.{index_page, further, entry_number, data_page, judged}
use Rattle.image_laws.specs.Reindex.{slot_word}
use Rattle.renew_laws.specs.Append.{SpanIsKept, SpanIsNamed}
use Rattle.image_laws.proofs.Append.{find-all, some_page}
use Rattle.image_laws.proofs.Wanted.{judged-whole}

-- a whole file has it for each span below its page count
pub span_there : (g : Geometry) (pages : Live) (id : ℕ) (head : List ℕ) (f : File) → judged g pages id head ≡ Ok f → (t : ℕ) → t < data_pages g (size_of head) → is_none (data_page g pages head t) ≡ false
span_there g pages id head f file t below = find-all (λ (span : ℕ). is_none (data_page g pages head span)) 0 (data_pages g (size_of head)) (judged-whole g pages id head f file) t (omega arith) (omega (arith, below))

pub span_page : (g : Geometry) (pages : Live) (id : ℕ) (head : List ℕ) (f : File) → judged g pages id head ≡ Ok f → (t : ℕ) → t < data_pages g (size_of head) → (x : List ℕ) × (data_page g pages head t ≡ Some x)
span_page g pages id head f file t below = some_page (data_page g pages head t) (span_there g pages id head f file t below)

-- with another header page that has the same entry for the span it is the same
pub entry_by_word : (g : Geometry) (pages : Live) (head head' : List ℕ) (t : ℕ) → (t < head_slots g → word_at head' (45 + g.meta + 2 * t) ≡ word_at head (45 + g.meta + 2 * t)) →
    entry_number g pages head' t ≡ entry_number g pages head t
unfolding entry_number
entry_by_word g pages head head' t word =
    ⊎_elim
    (λ (low : t < head_slots g). rw (lt-ltb t (head_slots g) low) (ap (λ (k : ℕ). Some k) (word low)))
    (λ (high : head_slots g ≤ t). rw (le-ltb t (head_slots g) high) refl)
    (cases_lt t (head_slots g))

pub page_by_word : (g : Geometry) → SpanIsKept g
unfolding data_page
page_by_word g pages head head' t word = rw (entry_by_word g pages head head' t word) refl

-- it is the live data page that the entry names: one of the header page, or one of a further index page
entry_in_head : (g : Geometry) (pages : Live) (head : List ℕ) (t : ℕ) → t < head_slots g → entry_number g pages head t ≡ Some (slot_word g head t)
unfolding entry_number
entry_in_head g pages head t low = rw (lt-ltb t (head_slots g) low) refl

entry_in_further : (g : Geometry) (pages : Live) (head : List ℕ) (t w : ℕ) (x : List ℕ) → head_slots g ≤ t → index_page g pages (further g t) ≡ Some w → pages w ≡ Some x → entry_number g pages head t ≡ Some (slot_word g x t)
unfolding entry_number
entry_in_further g pages head t w x high at is = rw (le-ltb t (head_slots g) high) (rw at (rw is refl))

pub page_named : (g : Geometry) (pages : Live) (head : List ℕ) (t q : ℕ) (y : List ℕ) → entry_number g pages head t ≡ Some q → pages q ≡ Some y → names_index y ≡ false → span_of y ≡ t → data_page g pages head t ≡ Some y
unfolding data_page
page_named g pages head t q y e is kind span = rw e (rw is (rw (kind, eq-eqb (span_of y) t span) refl))

pub span-is_named : (g : Geometry) → SpanIsNamed g
span-is_named g pages head t q y entry is kind span =
    let named : entry_number g pages head t ≡ Some q =
    ⊎_elim
    (λ (x : (t < head_slots g) × (slot_word g head t ≡ q)). entry_in_head g pages head t x.0 ∙ ap (λ (k : ℕ). Some k) x.1)
    (λ (x : (head_slots g ≤ t) × (w : ℕ) × (x : List ℕ) × (index_page g pages (further g t) ≡ Some w) × (pages w ≡ Some x) × (slot_word g x t ≡ q)).
    entry_in_further g pages head t x.1 x.2 x.0 x.3 x.4 ∙ ap (λ (k : ℕ). Some k) x.5)
    entry in
    (named, page_named g pages head t q y named is kind span)
