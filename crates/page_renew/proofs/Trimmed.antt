-- Header pages that are built name no page behind the last one of their file.
use Rattle.std.proofs.Common.{◌≡◌, ◌≢◌, ℕ, ◌+◌, ◌-◌, ◌*◌, ◌<◌, ◌≤◌, ◌==◌, List, length, set, slice_index, Bool, true, false, min, Some, ap, refl, sym, ◌∙◌, arith, ⊎_elim, inl, inr, subst, length-set, get_or-set_other}
use Rattle.std.specs.Prelude.{nat_lt, if◌then◌else◌}
use Rattle.std.proofs.lemmas.Bool.{cases_lt, lt-ltb, le-ltb, ne_eqb, and_parts, eqb-true}
use Rattle.geometry.specs.declared.geometry.Geometry.{Geometry}
use Rattle.geometry.specs.Numbers.{head_slots, span_slots}
use Rattle.nor_core.specs.Flash.{word_at, SameOutside}
use Rattle.table_model.specs.Room.{data_pages}
use Rattle.page_layout.specs.Layout.{slot_place}
use Rattle.image_model.specs.Within.{sizes}
use Rattle.image_model.specs.Headers.{obj_id, names_index, span_of, size_of}
use Rattle.image_model.specs.Files.{is_index, index_span, further, slot_at}
use Rattle.image_laws.proofs.Frames.{word_at-same}
use Rattle.trim_laws.specs.Trim.{IsTrimmed}
use Rattle.trim_laws.specs.Steps.{IsTrimHead}
use Rattle.trim_laws.proofs.Pages.{flags_trimmed, named_trimmed}
use Rattle.page_renew.specs.declared.edits.Edit.{Edit}
use Rattle.page_renew.specs.declared.edits.Edit.TheVariants.{Name, Meta, Cut, Grow, GrowBy}
use Rattle.page_renew.specs.Edits.{IsEdited, edited_size, TakesNext, cut_at, header_in}
use Rattle.page_renew.specs.Copies.{kept_of, IsCopy}
use Rattle.page_renew.proofs.Says.{named_behind}

-- ---- an edited header page

-- a page number that isn't kept
not_kept : (g : Geometry) (t kept x : ℕ) → kept ≤ t → (if nat_lt t kept then x else 0xFFFF) ≡ 0xFFFF
not_kept g t kept x high = rw (le-ltb t kept high) refl

pub edited_trims : (g : Geometry) (x y : List ℕ) (edit : Edit) → TakesNext g edit (size_of x) → IsEdited g x edit y → IsTrimmed g y
edited_trims g x y (Name name) takes edited = record {
  free = λ t from below.
      let high : data_pages g (size_of x) ≤ t = subst (λ (s : ℕ). data_pages g s ≤ t) edited.size from in
      edited.entries t below ∙ not_kept g t (min (data_pages g (size_of x)) (data_pages g (size_of x))) (word_at x (45 + g.meta + 2 * t)) (omega (arith, high));
}
edited_trims g x y (Meta meta) takes edited = record {
  free = λ t from below.
      let high : data_pages g (size_of x) ≤ t = subst (λ (s : ℕ). data_pages g s ≤ t) edited.size from in
      edited.entries t below ∙ not_kept g t (min (data_pages g (size_of x)) (data_pages g (size_of x))) (word_at x (45 + g.meta + 2 * t)) (omega (arith, high));
}
edited_trims g x y (Cut size) takes edited = record {
  free = λ t from below.
      let high : data_pages g size ≤ t = subst (λ (s : ℕ). data_pages g s ≤ t) edited.size from in
      edited.entries t below ∙ not_kept g t (min (data_pages g (size_of x)) (data_pages g size)) (word_at x (45 + g.meta + 2 * t)) (omega (arith, high));
}
edited_trims g x y (Grow size) takes edited = record {
  free = λ t from below.
      let high : data_pages g size ≤ t = subst (λ (s : ℕ). data_pages g s ≤ t) edited.size from in
      edited.entries t below ∙ not_kept g t (min (data_pages g (size_of x)) (data_pages g size)) (word_at x (45 + g.meta + 2 * t)) (omega (arith, high));
}
edited_trims g x y (GrowBy size pages) takes edited = record {
  free = λ t from below.
      let high : data_pages g size ≤ t = subst (λ (s : ℕ). data_pages g s ≤ t) edited.size from in
      edited.entries t below ∙ named_behind (data_pages g (size_of x)) pages.now (cut_at (min (data_pages g (size_of x)) (data_pages g size)) (header_in g x)).entry t (omega (arith, high, takes))
      ∙ not_kept g t (min (data_pages g (size_of x)) (data_pages g size)) (word_at x (45 + g.meta + 2 * t)) (omega (arith, high));
}

-- ---- the copy of an index page

-- flags of its own
pub flags_alone : (y new : List ℕ) → new ≡ set y 4 0xF8 → SameOutside 4 1 y new
flags_alone y new sets = rw sets (record {
  size = length-set y 4 0xF8;
  before = λ k below. get_or-set_other y 4 k 0xF8 0 (λ e. omega (arith, e, below));
  after = λ k above. get_or-set_other y 4 k 0xF8 0 (λ e. omega (arith, e, above));
})

-- the entry of a span that the header page has
pub slot_near : (g : Geometry) (s : ℕ) → index_span g s ≡ 0 → slot_at g s ≡ 45 + g.meta + 2 * s
slot_near g s e = ⊎_elim
    (λ (x : s < head_slots g). rw (lt-ltb s (head_slots g) x) refl)
    (λ (x : head_slots g ≤ s). let far : further g s ≡ 0 = rw (le-ltb s (head_slots g) x) at e in absurd (omega (arith, far)))
    (cases_lt s (head_slots g))

-- a page says that it is a header page by its span
pub span_zero : (x : List ℕ) → is_index (Some x) 0 ≡ true → span_of x ≡ 0
span_zero x e = eqb-true (span_of x) 0 (and_parts (names_index x) (span_of x == 0) e).1

module _ (g : Geometry) (old y : List ℕ) (count : ℕ) (copy : IsCopy g (span_of old) (kept_of g (span_of old) count) old y) (all : span_of old ≡ 0 → count ≡ data_pages g (size_of old)) where
  y_span : span_of y ≡ span_of old
  y_span = word_at-same old y 2 (copy.head 2 (omega arith)) (copy.head 3 (omega arith))

  module _ (zero : span_of old ≡ 0) where
    place : slot_place g (span_of old) (kept_of g (span_of old) count) ≡ 45 + g.meta + 2 * min count (head_slots g)
    place = rw zero refl

    byte : (k : ℕ) → 8 ≤ k → k < 12 → slice_index y k ≡ slice_index old k
    byte k low high = let at = place in copy.fields k low (omega (arith, at, high)) (λ z. inl (omega (arith, high)))

    pub copied_size : size_of y ≡ size_of old
    copied_size =
        let one : word_at y 8 ≡ word_at old 8 = word_at-same old y 8 (byte 8 (omega arith) (omega arith)) (byte 9 (omega arith) (omega arith)) in
        let two : word_at y 10 ≡ word_at old 10 = word_at-same old y 10 (byte 10 (omega arith) (omega arith)) (byte 11 (omega arith) (omega arith)) in
        rw (one, two) refl

    pub copied_trims : IsTrimmed g y
    copied_trims = record {
      free = λ t from below.
          let high : count ≤ t = let s : data_pages g (size_of old) ≤ t = subst (λ (s : ℕ). data_pages g s ≤ t) copied_size from in omega (arith, all zero, s) in
          let at = place in
          let one : slice_index y (45 + g.meta + 2 * t) ≡ 0xFF = copy.erased (45 + g.meta + 2 * t) (omega (arith, at, high)) (omega (arith, below)) in
          let two : slice_index y (45 + g.meta + 2 * t + 1) ≡ 0xFF = copy.erased (45 + g.meta + 2 * t + 1) (omega (arith, at, high)) (omega (arith, below)) in
          rw (one, two) refl;
    }

  -- with flags of its own
  pub copied_head : (new : List ℕ) → new ≡ set y 4 0xF8 → IsTrimHead g new
  copied_head new sets index =
      let same : SameOutside 4 1 y new = flags_alone y new sets in
      let span : span_of new ≡ span_of y = word_at-same y new 2 (same.before 2 (omega arith)) (same.before 3 (omega arith)) in
      let zero : span_of old ≡ 0 = sym y_span ∙ sym span ∙ span_zero new index in
      flags_trimmed g y new same (copied_trims zero)

  -- and with another page number in the place of one of the file's
  pub renamed_head : (z new : List ℕ) (s : ℕ) → SameOutside (slot_at g s) 2 y z → index_span g s ≡ span_of old → (span_of old ≡ 0 → s < count) → new ≡ set z 4 0xF8 → IsTrimHead g new
  renamed_head z new s around at low sets index =
      let same : SameOutside 4 1 z new = flags_alone z new sets in
      let behind : 5 ≤ slot_at g s = slot_low s in
      let span : span_of new ≡ span_of y = word_at-same y new 2 (same.before 2 (omega arith) ∙ around.before 2 (omega (arith, behind))) (same.before 3 (omega arith) ∙ around.before 3 (omega (arith, behind))) in
      let zero : span_of old ≡ 0 = sym y_span ∙ sym span ∙ span_zero new index in
      let place : slot_at g s ≡ 45 + g.meta + 2 * s = slot_near g s (at ∙ zero) in
      let below : s < data_pages g (size_of y) = let l = low zero in let c : count ≡ data_pages g (size_of y) = all zero ∙ ap (λ (n : ℕ). data_pages g n) (sym (copied_size zero)) in omega (arith, l, c) in
      flags_trimmed g z new same (named_trimmed g y z s below (subst (λ (n : ℕ). SameOutside n 2 y z) place around) (copied_trims zero))
    where
      slot_low : (s : ℕ) → 5 ≤ slot_at g s
      slot_low s = ⊎_elim (λ (x : s < head_slots g). rw (lt-ltb s (head_slots g) x) (omega arith)) (λ (x : head_slots g ≤ s). rw (le-ltb s (head_slots g) x) (omega arith)) (cases_lt s (head_slots g))
