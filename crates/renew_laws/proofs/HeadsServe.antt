-- Header pages do not matter to what else serves.
use Rattle.std.proofs.Common.{◌≡◌, ◌≢◌, ℕ, ◌+◌, ◌-◌, List, Bool, false, ◌&&◌, Option, Some, None, ap, refl, sym, ◌∙◌, arith, ⊎_elim, subst}
use Rattle.std.proofs.Math.Path.{fun_ext}
use Rattle.std.specs.Prelude.{is_some}
use Rattle.std.specs.List.{range_with_len, list_any}
use Rattle.std.proofs.lemmas.Bool.{cases_eq, ne_eqb}
use Rattle.geometry.specs.declared.geometry.Geometry.{Geometry}
use Rattle.table_model.specs.Room.{index_pages, data_pages}
use Rattle.image_model.specs.Live.{Live}
use Rattle.image_model.specs.Files.{index_page, entry_number, data_of}
use Rattle.image_model.specs.Headers.{size_of}
use Rattle.image_model.specs.Tidy.{is_number, serves}
use Rattle.image_laws.proofs.Judge.{IsHeadAtMost, further-same, entry-same, data-same}

pub number-not : (o : Option ℕ) (r : ℕ) → o ≢ Some r → is_number o r ≡ false
number-not None r h = refl
number-not (Some q) r h = ne_eqb q r (λ e. h (ap (λ (x : ℕ). Some x) e))

module _ (g : Geometry) (p : ℕ) (pages now : Live) (others : (q : ℕ) → q ≢ p → now q ≡ pages q) (was : IsHeadAtMost (pages p)) (is : IsHeadAtMost (now p))
    (r : ℕ) (before : index_page g pages 0 ≢ Some r) (after : index_page g now 0 ≢ Some r) where
  number_same : (j : ℕ) → is_number (index_page g now j) r ≡ is_number (index_page g pages j) r
  number_same j =
      ⊎_elim
      (λ (zero : j ≡ 0). let x = number-not (index_page g now 0) r after in let y = number-not (index_page g pages 0) r before in rw zero (x ∙ sym y))
      (λ (other : j ≡ 0 → ⊥). let e : (j - 1) + 1 ≡ j = omega (arith, other) in
      subst (λ (k : ℕ). is_number (index_page g now k) r ≡ is_number (index_page g pages k) r) e (ap (λ (o : Option ℕ). is_number o r) (further-same g p pages now others was is (j - 1))))
      (cases_eq j 0)

  pub serves-heads : (head : List ℕ) → serves g now head r ≡ serves g pages head r
  unfolding serves
  serves-heads head =
      let a : list_any (λ (j : ℕ). is_number (index_page g now j) r) (range_with_len 0 (index_pages g (size_of head))) ≡ list_any (λ (j : ℕ). is_number (index_page g pages j) r) (range_with_len 0 (index_pages g (size_of head))) =
      ap (λ (t : ℕ → Bool). list_any t (range_with_len 0 (index_pages g (size_of head)))) (fun_ext number_same) in
      let b : list_any (λ (span : ℕ). is_number (entry_number g now head span) r && is_some (data_of (now r) span)) (range_with_len 0 (data_pages g (size_of head))) ≡
      list_any (λ (span : ℕ). is_number (entry_number g pages head span) r && is_some (data_of (pages r) span)) (range_with_len 0 (data_pages g (size_of head))) =
      ap (λ (t : ℕ → Bool). list_any t (range_with_len 0 (data_pages g (size_of head)))) (fun_ext (λ (span : ℕ). rw (entry-same g p pages now others was is head span, data-same g p pages now others was is span r) refl)) in
      rw (a, b) refl
