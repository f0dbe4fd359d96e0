-- What most files are whole by, from how many are whole by each number of meta bytes.
use Rattle.std.proofs.Common.{◌≡◌, ℕ, ◌+◌, ◌<◌, ◌≤◌, List, length, slice_index, if◌then◌else◌, ap, refl, sym, ◌∙◌, subst, arith, ⊎_elim}
use Rattle.std.specs.Prelude.{nat_lt}
use Rattle.std.proofs.lemmas.Bool.{cases_lt, lt-ltb, le-ltb}
use Rattle.geometry.specs.declared.geometry.Geometry.{Geometry}
use Rattle.image_model.specs.Tables.{table_of, damaged_of}
use Rattle.meta_guess.specs.Guesses.{SameBut, IsMeta, CountsOf}
use Rattle.meta_tally.specs.Counted.{AreTallied}
use Rattle.volume_rank.specs.declared.found.MetaRange.{MetaRange}
use Rattle.volume_rank.specs.Ranges.{ReadsEqual, IsRange}
use Rattle.volume_rank.specs.Tops.{IsBestOf, IsTop}

pub best_next : (whole : List ℕ) (meta best next : ℕ) → IsBestOf whole meta best → next ≡ (if nat_lt (slice_index whole best) (slice_index whole meta) then meta else best) → IsBestOf whole (meta + 1) next
best_next whole meta best next was is = ⊎_elim
    (λ (more : slice_index whole best < slice_index whole meta).
    let new : next ≡ meta = is ∙ (rw (lt-ltb _ _ more) refl) in
    subst (λ (n : ℕ). IsBestOf whole (meta + 1) n) (sym new) (record {
      few = omega arith;
      most = λ k low. ⊎_elim
          (λ (below : k < meta). let old = was.most k below in omega (arith, old, more))
          (λ (here : meta ≤ k). let same : k ≡ meta = omega (arith, low, here) in rw same (omega arith))
          (cases_lt k meta);
      least = λ k low. let old = was.most k low in omega (arith, old, more);
    }))
    (λ (less : slice_index whole meta ≤ slice_index whole best).
    let same : next ≡ best = is ∙ (rw (le-ltb _ _ less) refl) in
    subst (λ (n : ℕ). IsBestOf whole (meta + 1) n) (sym same) (record {
      few = omega (arith, was.few);
      most = λ k low. ⊎_elim
          (λ (below : k < meta). was.most k below)
          (λ (here : meta ≤ k). let at : k ≡ meta = omega (arith, low, here) in rw at less)
          (cases_lt k meta);
      least = was.least;
    }))
    (cases_lt (slice_index whole best) (slice_index whole meta))

module _ (g : Geometry) (image : List ℕ) (whole : List ℕ) (heads : ℕ) (range : MetaRange) (tallied : AreTallied g image whole)
    (all : (h : Geometry) → SameBut g h → heads ≡ length (table_of h image) + length (damaged_of h image)) (top : IsTop whole heads range) where
  tally : (h : Geometry) → SameBut g h → slice_index whole h.meta ≡ length (table_of h image)
  tally h same = tallied.each h same

  most_is : (h : Geometry) → SameBut g h → length (table_of h image) ≤ range.counts.whole
  most_is h same = let most = top.best.most h.meta (omega (arith, h.valid.meta_most)) in let here = tally h same in omega (arith, most, here, top.counted)

  first_is : (h : Geometry) → IsMeta g range.first h → CountsOf h image range.counts
  first_is h is =
      let here : slice_index whole range.first ≡ length (table_of h image) = ap (λ (k : ℕ). slice_index whole k) (sym is.meta_is) ∙ tally h is.same in
      let sum = all h is.same in
      record { whole = top.counted ∙ here; damaged = omega (arith, top.counted, top.damaged, here, sum) }

  more_is : ReadsEqual g image range.counts.whole range.first range.last
  more_is = record {
    some = top.last.some;
    few = top.last.few;
    equal = λ h same low high. sym (tally h same) ∙ top.last.equal h.meta low high ∙ sym top.counted;
    end = λ h same at equal.
        let here : slice_index whole (range.last + 1) ≡ length (table_of h image) = ap (λ (k : ℕ). slice_index whole k) (sym at) ∙ tally h same in
        top.last.end (omega (arith, at, h.valid.meta_most)) (here ∙ equal ∙ top.counted);
  }

  pub range_is : (h : Geometry) → IsMeta g range.first h → IsRange g image range
  range_is h is = record {
    counts = record { volume = h; is = is; counts_are = first_is h is };
    most = most_is;
    fewest = λ k same. let sum = all k same in let most = most_is k same in omega (arith, sum, most, top.damaged);
    least = λ k same low. let less = top.best.least k.meta low in let here = tally k same in omega (arith, less, here, top.counted);
    more = more_is;
  }
