-- Marks that are added one after the other.
use Rattle.std.proofs.Common.{◌≡◌, ℕ, ◌+◌, ◌<◌, ◌≤◌, ◌⊎◌, List, slice_index, None, refl, ◌∙◌, sym, subst, arith, ⊎_elim, inl, inr}
use Rattle.std.proofs.lemmas.Bool.{cases_lt}
use Rattle.std.proofs.lemmas.Option.{none-some, same_Some}
use Rattle.geometry.specs.declared.geometry.Geometry.{Geometry}
use Rattle.image_model.specs.Live.{live_at}
use Rattle.flash_view.specs.Found.{headed}
use Rattle.file_find.proofs.Heads.{header_parts}
use Rattle.vol_check.specs.Needed.{AddsMarks, OfFirst, OfFile, OfHeaded, IsListed}

module _ {pages : ℕ} {P Q : ℕ → Type 0} {a b : List ℕ} where
  -- the same kind in other words
  adds_as : AddsMarks pages P a b → ((p : ℕ) → P p → Q p) → ((p : ℕ) → Q p → P p) → AddsMarks pages Q a b
  adds_as adds to from = record {
    set = λ p low is. adds.set p low (from p is);
    rest = λ p low. ⊎_elim (λ (is : P p). inl (to p is)) (λ (same : slice_index b p ≡ slice_index a p). inr same) (adds.rest p low);
  }

  -- one kind, then another
  pub adds_then : {c : List ℕ} → AddsMarks pages P a b → AddsMarks pages Q b c → AddsMarks pages (λ p. P p ⊎ Q p) a c
  adds_then {c} first second = record {
    set = λ p low is. ⊎_elim
        (λ (old : P p). ⊎_elim
        (λ (new : Q p). second.set p low new)
        (λ (same : slice_index c p ≡ slice_index b p). same ∙ first.set p low old)
        (second.rest p low))
        (λ (new : Q p). second.set p low new)
        is;
    rest = λ p low. ⊎_elim
        (λ (new : Q p). inl (inr new))
        (λ (same : slice_index c p ≡ slice_index b p). ⊎_elim
        (λ (old : P p). inl (inl old))
        (λ (was : slice_index b p ≡ slice_index a p). inr (same ∙ was))
        (first.rest p low))
        (second.rest p low);
  }

-- ---- number by number

module _ (P : ℕ → ℕ → Type 0) (n p : ℕ) where
  first_on : OfFirst P n p ⊎ P n p → OfFirst P (n + 1) p
  first_on is = ⊎_elim
      (λ (old : OfFirst P n p). record { number = old.number; below = omega (arith, old.below); of = old.of })
      (λ (new : P n p). record { number = n; below = omega arith; of = new })
      is

  first_back : OfFirst P (n + 1) p → OfFirst P n p ⊎ P n p
  first_back is = ⊎_elim
      (λ (low : is.number < n). inl (record { number = is.number; below = low; of = is.of }))
      (λ (last : n ≤ is.number). let same : is.number ≡ n = omega (arith, last, is.below) in inr (subst (λ (k : ℕ). P k p) same is.of))
      (cases_lt is.number n)

-- one number more
pub first_next : {pages n : ℕ} {P : ℕ → ℕ → Type 0} {a b c : List ℕ} → AddsMarks pages (OfFirst P n) a b → AddsMarks pages (P n) b c → AddsMarks pages (OfFirst P (n + 1)) a c
first_next {n = n} {P = P} first second = adds_as (adds_then first second) (λ p is. first_on P n p is) (λ p is. first_back P n p is)

-- numbers without any
pub first_skip : {pages n m : ℕ} {P : ℕ → ℕ → Type 0} {a b : List ℕ} → AddsMarks pages (OfFirst P n) a b → n ≤ m → ((k p : ℕ) → n ≤ k → k < m → P k p → ⊥) → AddsMarks pages (OfFirst P m) a b
first_skip {n = n} adds more none =
    adds_as adds (λ p is. record { number = is.number; below = omega (arith, is.below, more); of = is.of })
    (λ p is. ⊎_elim
    (λ (low : is.number < n). record { number = is.number; below = low; of = is.of })
    (λ (past : n ≤ is.number). absurd (none is.number p past is.below is.of))
    (cases_lt is.number n))

-- no page of a kind
pub adds_none : {pages : ℕ} {P : ℕ → Type 0} (a : List ℕ) → ((p : ℕ) → P p → ⊥) → AddsMarks pages P a a
adds_none a none = record { set = λ p low is. absurd (none p is); rest = λ p low. inr refl }

-- the file of a header page
pub headed_adds : {pages : ℕ} {a b : List ℕ} (g : Geometry) (image : List ℕ) (id h : ℕ) → IsListed g image id h → AddsMarks pages (OfFile g image id h) a b → AddsMarks pages (OfHeaded g image h) a b
headed_adds g image id h listed adds =
    adds_as adds (λ p of. record { id = id; listed = listed; of = of })
    (λ p of. let same : of.id ≡ id = same_Some of.id id (sym (header_parts g image of.id h of.listed.first).0 ∙ (header_parts g image id h listed.first).0) in subst (λ (k : ℕ). OfFile g image k h p) same of.of)

-- a page that is no header page has none
pub headless_none : (g : Geometry) (image : List ℕ) (h p : ℕ) → headed (live_at g image h) ≡ None → OfHeaded g image h p → ⊥
headless_none g image h p none of = none-some of.id (sym none ∙ (header_parts g image of.id h of.listed.first).0)
