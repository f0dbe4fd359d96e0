-- How a page serves a file.
use Rattle.std.proofs.Common.{◌≡◌, ℕ, ◌<◌, ◌⊎◌, List, true, false, ◌&&◌, Option, Some, None, ap, refl, sym, ◌∙◌, arith, ⊎_elim, inl, inr}
use Rattle.std.specs.Prelude.{is_some}
use Rattle.std.specs.List.{range_with_len, list_any}
use Rattle.std.proofs.lemmas.Bool.{cases_Bool, cases_eq, ne_eqb, and_parts, and_from, or_cases, or_left, or_right, eq-eqb}
use Rattle.geometry.specs.declared.geometry.Geometry.{Geometry}
use Rattle.table_model.specs.Room.{data_pages, index_pages}
use Rattle.image_model.specs.Headers.{size_of, names_index, span_of}
use Rattle.image_model.specs.Live.{Live}
use Rattle.image_model.specs.Files.{is_index, index_page, entry_number, data_of}
use Rattle.image_model.specs.Tidy.{is_number, serves}
use Rattle.image_laws.proofs.Damaged.{any_at, any_from}
use Rattle.image_laws.proofs.Doubled.{index-span_is}
use Rattle.image_laws.proofs.Judge.{index_passes}
use Rattle.image_laws.proofs.Wants.{number-is}

pub index_there : (o : Option (List ℕ)) (j : ℕ) → is_index o j ≡ true → (x : List ℕ) × (o ≡ Some x)
index_there None j e = absurd (cc)
index_there (Some x) j e = (x, refl)

-- as its index page of a span, or as its data page of one
pub serves_parts : (g : Geometry) (pages : Live) (head : List ℕ) (r : ℕ) → serves g pages head r ≡ true →
    ((j : ℕ) × (j < index_pages g (size_of head)) × (index_page g pages j ≡ Some r)) ⊎ ((t : ℕ) × (t < data_pages g (size_of head)) × (entry_number g pages head t ≡ Some r) × (is_some (data_of (pages r) t) ≡ true))
unfolding serves
serves_parts g pages head r e =
    ⊎_elim
    (λ (yes : list_any (λ (j : ℕ). is_number (index_page g pages j) r) (range_with_len 0 (index_pages g (size_of head))) ≡ true).
    let w = any_at (λ (j : ℕ). is_number (index_page g pages j) r) 0 (index_pages g (size_of head)) yes in
    inl (w.0, omega (arith, w.2), number-is (index_page g pages w.0) r w.3))
    (λ (yes : list_any (λ (t : ℕ). is_number (entry_number g pages head t) r && is_some (data_of (pages r) t)) (range_with_len 0 (data_pages g (size_of head))) ≡ true).
    let w = any_at (λ (t : ℕ). is_number (entry_number g pages head t) r && is_some (data_of (pages r) t)) 0 (data_pages g (size_of head)) yes in
    let u : (is_number (entry_number g pages head w.0) r ≡ true) × (is_some (data_of (pages r) w.0) ≡ true) = and_parts _ _ w.3 in
    inr (w.0, omega (arith, w.2), number-is (entry_number g pages head w.0) r u.0, u.1))
    (or_cases _ _ e)

pub serves_index : (g : Geometry) (pages : Live) (head : List ℕ) (r j : ℕ) → j < index_pages g (size_of head) → index_page g pages j ≡ Some r → serves g pages head r ≡ true
unfolding serves
serves_index g pages head r j below e =
    or_left _ _ (any_from (λ (i : ℕ). is_number (index_page g pages i) r) 0 (index_pages g (size_of head)) j (omega arith) (omega arith) (ap (λ (o : Option ℕ). is_number o r) e ∙ eq-eqb r r refl))

pub serves_data : (g : Geometry) (pages : Live) (head : List ℕ) (r t : ℕ) → t < data_pages g (size_of head) → entry_number g pages head t ≡ Some r → is_some (data_of (pages r) t) ≡ true → serves g pages head r ≡ true
unfolding serves
serves_data g pages head r t below e some =
    or_right _ _ (any_from (λ (i : ℕ). is_number (entry_number g pages head i) r && is_some (data_of (pages r) i)) 0 (data_pages g (size_of head)) t (omega arith) (omega arith)
    (and_from _ _ (ap (λ (o : Option ℕ). is_number o r) e ∙ eq-eqb r r refl) some))

-- a data page of a span is what it says of itself
pub data_parts : (x : List ℕ) (t : ℕ) → is_some (data_of (Some x) t) ≡ true → (names_index x ≡ false) × (span_of x ≡ t)
data_parts x t e =
    ⊎_elim
    (λ (yes : names_index x ≡ true). let none : is_some (data_of (Some x) t) ≡ false = rw yes refl in let bad : true ≡ false = sym e ∙ none in absurd (cc))
    (λ (no : names_index x ≡ false). (
      no,
      ⊎_elim
          (λ (same : span_of x ≡ t). same)
          (λ (differ : span_of x ≡ t → ⊥). let none : is_some (data_of (Some x) t) ≡ false = rw (no, ne_eqb (span_of x) t differ) refl in let bad : true ≡ false = sym e ∙ none in absurd (cc))
          (cases_eq (span_of x) t),
    ))
    (cases_Bool (names_index x))

-- a page that serves a file serves it as what it is
pub served_as : (g : Geometry) (pages : Live) (head : List ℕ) (r : ℕ) (x : List ℕ) → pages r ≡ Some x → serves g pages head r ≡ true →
    ((names_index x ≡ true) × (span_of x < index_pages g (size_of head)) × (index_page g pages (span_of x) ≡ Some r))
    ⊎ ((names_index x ≡ false) × (span_of x < data_pages g (size_of head)) × (entry_number g pages head (span_of x) ≡ Some r) × (is_some (data_of (pages r) (span_of x)) ≡ true))
served_as g pages head r x is e =
    ⊎_elim
    (λ (w : (j : ℕ) × (j < index_pages g (size_of head)) × (index_page g pages j ≡ Some r)).
    let passes : is_index (Some x) w.0 ≡ true = rw is at (index_passes g pages w.0 r w.2) in
    let same : span_of x ≡ w.0 = index-span_is x w.0 passes in
    inl ((and_parts _ _ passes).0, omega (arith, w.1, same), ap (index_page g pages) same ∙ w.2))
    (λ (w : (t : ℕ) × (t < data_pages g (size_of head)) × (entry_number g pages head t ≡ Some r) × (is_some (data_of (pages r) t) ≡ true)).
    let some : is_some (data_of (Some x) w.0) ≡ true = ap (λ (o : Option (List ℕ)). is_some (data_of o w.0)) (sym is) ∙ w.3 in
    let v = data_parts x w.0 some in
    inr (v.0, omega (arith, w.1, v.1), ap (entry_number g pages head) v.1 ∙ w.2, ap (λ (t : ℕ). is_some (data_of (pages r) t)) v.1 ∙ w.3))
    (serves_parts g pages head r e)

-- an index page that serves is the index page of its span, and that is one of the file's
pub served_place : (g : Geometry) (pages : Live) (head : List ℕ) (r j : ℕ) → serves g pages head r ≡ true → is_index (pages r) j ≡ true → (index_page g pages j ≡ Some r) × (j < index_pages g (size_of head))
served_place g pages head r j e passes =
    let x = index_there (pages r) j passes in
    let named : is_index (Some x.0) j ≡ true = rw x.1 at passes in
    let span : span_of x.0 ≡ j = index-span_is x.0 j named in
    ⊎_elim
    (λ (w : (names_index x.0 ≡ true) × (span_of x.0 < index_pages g (size_of head)) × (index_page g pages (span_of x.0) ≡ Some r)). (ap (index_page g pages) (sym span) ∙ w.2, omega (arith, w.1, span)))
    (λ (w : (names_index x.0 ≡ false) × (span_of x.0 < data_pages g (size_of head)) × (entry_number g pages head (span_of x.0) ≡ Some r) × (is_some (data_of (pages r) (span_of x.0)) ≡ true)).
    let bad : true ≡ false = sym (and_parts _ _ named).0 ∙ w.0 in absurd (cc))
    (served_as g pages head r x.0 x.1 e)
