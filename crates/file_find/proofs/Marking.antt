-- The mark of a page, by its id's header page and the judging of its file.
use Rattle.std.proofs.Common.{◌≡◌, ℕ, zero, suc, ◌+◌, ◌<◌, ◌≤◌, ◌==◌, Bool, true, false, List, refl, sym, ap, ⊎_elim, arith}
use Rattle.std.specs.Prelude.{Option, Some, None, Result, find}
use Rattle.std.specs.List.{range_with_len}
use Rattle.std.proofs.lemmas.Bool.{cases_Bool, cases_eq, eqb-true, eq-eqb}
use Rattle.geometry.specs.declared.geometry.Geometry.{Geometry}
use Rattle.table_model.specs.Table.{File}
use Rattle.image_model.specs.declared.damage.Damage.{Damage}
use Rattle.image_model.specs.Places.{page_of}
use Rattle.image_model.specs.Live.{Live, live_at, own}
use Rattle.image_model.specs.Files.{index_page, judged, found}
use Rattle.image_model.specs.Tables.{has_of}
use Rattle.image_model.specs.Tidy.{is_number}
use Rattle.flash_view.specs.Found.{headed}
use Rattle.file_find.specs.Marks.{mark_by, mark_of, mark_for}
use Rattle.flash_view.proofs.Spans.{index_known}

-- ---- what an id has, by its header page

pub has_at : (g : Geometry) (image : List ℕ) (id p : ℕ) → index_page g (own (live_at g image) id) 0 ≡ Some p → has_of g (live_at g image) id ≡ Some (p, judged g (own (live_at g image) id) id (page_of g image p))
unfolding has_of found
has_at g image id p is = rw is (rw (index_known g image id 0 p is) refl)

pub has_none : (g : Geometry) (live : Live) (id : ℕ) → index_page g (own live id) 0 ≡ None → has_of g live id ≡ None
unfolding has_of found
has_none g live id none = rw none refl

pub number_is : (o : Option ℕ) (p : ℕ) → is_number o p ≡ true → o ≡ Some p
number_is None p e = absurd (cc)
number_is (Some q) p e = ap (λ (x : ℕ). Some x) (eqb-true q p e)

pub other_mark : (cause : Option Damage) (r : Result File Damage) (q p : ℕ) → (q == p) ≡ false → mark_by cause (Some (q, r)) p ≡ 0
other_mark cause r q p other = rw other refl

pub first_mark : (cause : Option Damage) (r : Result File Damage) (p : ℕ) → mark_by cause (Some (p, r)) p ≡ mark_for r cause
first_mark cause r p = rw (eq-eqb p p refl) refl

-- ---- the mark of a page

pub mark_none : (g : Geometry) (image : List ℕ) (p : ℕ) → None ≡ headed (live_at g image p) → 0 ≡ mark_of g image p
unfolding mark_of
mark_none g image p none = rw (sym none) refl

-- ---- the first number that passes: it passes, it lies in the range, and none before it passes

pub find_parts : (t : ℕ → Bool) (a n k : ℕ) → find t (range_with_len a n) ≡ Some k → (t k ≡ true) × (a ≤ k) × (k < a + n) × ((i : ℕ) → a ≤ i → i < k → t i ≡ false)
find_parts t a zero k e = absurd (cc)
find_parts t a (suc n) k e =
    ⊎_elim
    (λ (here : t a ≡ true). let same : Some a ≡ Some k = rw here at e in let at : a ≡ k = cc in (rw at at here, omega arith, omega arith, λ i low less. absurd (omega arith)))
    (λ (later : t a ≡ false).
    let w = find_parts t (a + 1) n k (rw later at e) in (
      w.0,
      omega (arith, w.1),
      omega (arith, w.2),
      λ i low less. ⊎_elim
          (λ (x : a ≡ i). rw x at later)
          (λ (x : a ≡ i → ⊥). w.3 i (omega (arith, x)) less)
          (cases_eq a i),
    ))
    (cases_Bool (t a))
