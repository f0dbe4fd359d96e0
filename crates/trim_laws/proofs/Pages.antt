-- Changes of a header page that leave it as it was behind the page numbers of its file.
use Rattle.std.proofs.Common.{◌≡◌, ℕ, ◌+◌, ◌*◌, ◌<◌, ◌≤◌, ◌⊎◌, ◌==◌, List, slice_index, true, false, Some, ap, sym, ◌∙◌, arith, ⊎_elim, inl, inr, subst, refl}
use Rattle.std.proofs.lemmas.Bool.{and_parts, eqb-true, false≢true, false_from_ne_true}
use Rattle.geometry.specs.declared.geometry.Geometry.{Geometry}
use Rattle.geometry.specs.Numbers.{head_slots}
use Rattle.nor_core.specs.Flash.{word_at, SameOutside}
use Rattle.table_model.specs.Room.{data_pages}
use Rattle.image_model.specs.Files.{is_index}
use Rattle.image_model.specs.Headers.{names_index, span_of, size_of}
use Rattle.image_laws.proofs.Frames.{word_at-same}
use Rattle.trim_laws.specs.Trim.{IsTrimmed}
use Rattle.trim_laws.specs.Steps.{IsTrimHead}

-- a word outside of what changed
word_out : (at n k : ℕ) (y z : List ℕ) → SameOutside at n y z → (k + 2 ≤ at) ⊎ (at + n ≤ k) → word_at z k ≡ word_at y k
word_out at n k y z same apart =
    word_at-same y z k
    (⊎_elim (λ (x : k + 2 ≤ at). same.before k (omega (arith, x))) (λ (x : at + n ≤ k). same.after k x) apart)
    (⊎_elim (λ (x : k + 2 ≤ at). same.before (k + 1) (omega (arith, x))) (λ (x : at + n ≤ k). same.after (k + 1) (omega (arith, x))) apart)

-- neither the size nor a page number behind the last one
pub stays_trimmed : (g : Geometry) (y z : List ℕ) (at n : ℕ) → SameOutside at n y z → (at + n ≤ 8) ⊎ (12 ≤ at) →
    ((t : ℕ) → data_pages g (size_of y) ≤ t → t < head_slots g → (at + n ≤ 45 + g.meta + 2 * t) ⊎ (45 + g.meta + 2 * t + 2 ≤ at)) → IsTrimmed g y → IsTrimmed g z
stays_trimmed g y z at n same apart behind was =
    let one : word_at z 8 ≡ word_at y 8 = word_out at n 8 y z same (⊎_elim (λ (x : at + n ≤ 8). inr x) (λ (x : 12 ≤ at). inl (omega (arith, x))) apart) in
    let two : word_at z 10 ≡ word_at y 10 = word_out at n 10 y z same (⊎_elim (λ (x : at + n ≤ 8). inr (omega (arith, x))) (λ (x : 12 ≤ at). inl (omega (arith, x))) apart) in
    let size : size_of z ≡ size_of y = rw (one, two) refl in
    record {
      free = λ t from below.
          let high : data_pages g (size_of y) ≤ t = subst (λ (s : ℕ). data_pages g s ≤ t) size from in
          word_out at n (45 + g.meta + 2 * t) y z same (⊎_elim (λ (x : at + n ≤ 45 + g.meta + 2 * t). inr x) (λ (x : 45 + g.meta + 2 * t + 2 ≤ at). inl x) (behind t high below))
          ∙ was.free t high below;
    }

-- the flags
pub flags_trimmed : (g : Geometry) (y z : List ℕ) → SameOutside 4 1 y z → IsTrimmed g y → IsTrimmed g z
flags_trimmed g y z same was = stays_trimmed g y z 4 1 same (inl (omega arith)) (λ t high below. inl (omega arith)) was

-- a page number of the file
pub named_trimmed : (g : Geometry) (y z : List ℕ) (s : ℕ) → s < data_pages g (size_of y) → SameOutside (45 + g.meta + 2 * s) 2 y z → IsTrimmed g y → IsTrimmed g z
named_trimmed g y z s low same was = stays_trimmed g y z (45 + g.meta + 2 * s) 2 same (inr (omega arith)) (λ t high below. inl (omega (arith, low, high))) was

-- the size that such a page tells stays
pub named_size : (g : Geometry) (y z : List ℕ) (s : ℕ) → SameOutside (45 + g.meta + 2 * s) 2 y z → size_of z ≡ size_of y
named_size g y z s same =
    let one : word_at z 8 ≡ word_at y 8 = word_out (45 + g.meta + 2 * s) 2 8 y z same (inl (omega arith)) in
    let two : word_at z 10 ≡ word_at y 10 = word_out (45 + g.meta + 2 * s) 2 10 y z same (inl (omega arith)) in
    rw (one, two) refl

-- ---- pages that are no header pages

pub data_trims : (g : Geometry) (page : List ℕ) → names_index page ≡ false → IsTrimHead g page
data_trims g page data_page index = absurd (false≢true (sym data_page ∙ (and_parts (names_index page) (span_of page == 0) index).0))

pub further_trims : (g : Geometry) (page : List ℕ) → (span_of page ≡ 0 → ⊥) → IsTrimHead g page
further_trims g page more index = absurd (more (eqb-true (span_of page) 0 (and_parts (names_index page) (span_of page == 0) index).1))

pub data_not_head : (page : List ℕ) → names_index page ≡ false → is_index (Some page) 0 ≡ false
data_not_head page data_page = rw data_page refl

pub further_not_head : (page : List ℕ) → (span_of page ≡ 0 → ⊥) → is_index (Some page) 0 ≡ false
further_not_head page more = false_from_ne_true _ (λ index. more (eqb-true (span_of page) 0 (and_parts (names_index page) (span_of page == 0) index).1))
