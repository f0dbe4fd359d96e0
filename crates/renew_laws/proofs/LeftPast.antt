-- The pages that a truncated header page leaves over.
use Rattle.std.proofs.Common.{◌≡◌, ℕ, ◌<◌, ◌≤◌, List, Bool, true, false, not, Some, refl, sym, ◌∙◌, arith, ⊎_elim}
use Rattle.std.specs.Prelude.{is_some}
use Rattle.std.proofs.lemmas.Bool.{lt-leb, cases_lt, le-leb, false_from_ne_true}
use Rattle.geometry.specs.declared.geometry.Geometry.{Geometry}
use Rattle.table_model.specs.Room.{data_pages, index_pages}
use Rattle.image_model.specs.Headers.{names_index, span_of, size_of}
use Rattle.image_model.specs.Live.{Live}
use Rattle.image_model.specs.Files.{index_page, entry_number, data_of}
use Rattle.image_model.specs.Tidy.{serves}
use Rattle.image_laws.specs.Spares.{leftover}
use Rattle.renew_laws.specs.Truncate.{LeftIsPast}
use Rattle.renew_laws.proofs.Serves.{served_as, serves_index, serves_data}
use Rattle.renew_laws.proofs.Spans.{entry_by_word}

-- left over where it doesn't serve
left_where : (g : Geometry) (pages : Live) (head : List ℕ) (r : ℕ) (x : List ℕ) (v : Bool) → pages r ≡ Some x → serves g pages head r ≡ v → leftover g pages head r ≡ not v
unfolding leftover
left_where g pages head r x v is e = rw (is, e) refl

pub left-is_past : (g : Geometry) → LeftIsPast g
left-is_past g pages head head' words r x is served =
    ⊎_elim
    (λ (w : (names_index x ≡ true) × (span_of x < index_pages g (size_of head)) × (index_page g pages (span_of x) ≡ Some r)).
    ⊎_elim
    (λ (low : span_of x < index_pages g (size_of head')).
    left_where g pages head' r x true is (serves_index g pages head' r (span_of x) low w.2) ∙ rw w.0 (sym (lt-leb (index_pages g (size_of head')) (span_of x) low)))
    (λ (high : index_pages g (size_of head') ≤ span_of x).
    let none : serves g pages head' r ≡ false = false_from_ne_true _ (λ yes. ⊎_elim
    (λ (v : (names_index x ≡ true) × (span_of x < index_pages g (size_of head')) × (index_page g pages (span_of x) ≡ Some r)). let low = v.1 in absurd (omega (arith, high, low)))
    (λ (v : (names_index x ≡ false) × (span_of x < data_pages g (size_of head')) × (entry_number g pages head' (span_of x) ≡ Some r) × (is_some (data_of (pages r) (span_of x)) ≡ true)). let bad : true ≡ false = sym w.0 ∙ v.0 in absurd (cc))
    (served_as g pages head' r x is yes)) in
    left_where g pages head' r x false is none ∙ rw w.0 (sym (le-leb (index_pages g (size_of head')) (span_of x) high)))
    (cases_lt (span_of x) (index_pages g (size_of head'))))
    (λ (w : (names_index x ≡ false) × (span_of x < data_pages g (size_of head)) × (entry_number g pages head (span_of x) ≡ Some r) × (is_some (data_of (pages r) (span_of x)) ≡ true)).
    ⊎_elim
    (λ (low : span_of x < data_pages g (size_of head')).
    left_where g pages head' r x true is (serves_data g pages head' r (span_of x) low (entry_by_word g pages head head' (span_of x) (words (span_of x) low) ∙ w.2) w.3)
    ∙ rw w.0 (sym (lt-leb (data_pages g (size_of head')) (span_of x) low)))
    (λ (high : data_pages g (size_of head') ≤ span_of x).
    let none : serves g pages head' r ≡ false = false_from_ne_true _ (λ yes. ⊎_elim
    (λ (v : (names_index x ≡ true) × (span_of x < index_pages g (size_of head')) × (index_page g pages (span_of x) ≡ Some r)). let bad : true ≡ false = sym v.0 ∙ w.0 in absurd (cc))
    (λ (v : (names_index x ≡ false) × (span_of x < data_pages g (size_of head')) × (entry_number g pages head' (span_of x) ≡ Some r) × (is_some (data_of (pages r) (span_of x)) ≡ true)). let low = v.1 in absurd (omega (arith, high, low)))
    (served_as g pages head' r x is yes)) in
    left_where g pages head' r x false is none ∙ rw w.0 (sym (le-leb (data_pages g (size_of head')) (span_of x) high)))
    (cases_lt (span_of x) (data_pages g (size_of head'))))
    (served_as g pages head r x is served)
