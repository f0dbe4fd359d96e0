-- The copy of an index page, from the writes that make it.
use Rattle.std.proofs.Common.{◌≡◌, ◌≢◌, ℕ, ◌+◌, ◌*◌, ◌-◌, ◌<◌, ◌≤◌, List, slice_index, get_or, Option, Some, None, true, false, ◌==◌, position, take, refl, sym, ◌∙◌, arith, ⊎_elim, inl, inr, length-take}
use Rattle.std.specs.List.{All}
use Rattle.std.specs.Prelude.{option_and_then, if◌then◌else◌}
use Rattle.std.proofs.lemmas.List.{get_or-take}
use Rattle.std.proofs.lemmas.List.Quantifiers.{position-Some}
use Rattle.std.proofs.lemmas.List.Elements.{All-from_get_or}
use Rattle.std.proofs.lemmas.Bool.{cases_Bool, eq-eqb}
use Rattle.std.proofs.lemmas.Option.{none-some, same_Some}
use Rattle.geometry.specs.declared.geometry.Geometry.{Geometry}
use Rattle.page_layout.specs.Layout.{slot_place, name_field, padded}
use Rattle.nor_core.specs.Flash.{SameOutside}
use Rattle.image_model.specs.Headers.{name_of}
use Rattle.page_layout.proofs.Stays.{name_stays, range_stays}
use Rattle.page_renew.specs.Copies.{IsCopy}

-- the bytes of a name aren't zero
name_by : (field name : List ℕ) (o : Option ℕ) → position (λ b. b == 0) field ≡ o → option_and_then (λ n. if n == 0 then None else Some (take n field)) o ≡ Some name → All (λ b. b ≢ 0) name
name_by field name None at is = absurd (cc)
name_by field name (Some n) at is =
    ⊎_elim
    (λ (zero : (n == 0) ≡ true). let none : None ≡ Some name = rw zero at is in absurd (none-some name none))
    (λ (more : (n == 0) ≡ false).
    let taken : take n field ≡ name = same_Some (take n field) name (rw more at is) in
    let w = position-Some (λ (b : ℕ). b == 0) field n 0 at in
    rw (← taken) (All-from_get_or (λ (b : ℕ). b ≢ 0) (take n field) 0 (λ k within zero.
    let low : k < n = omega (arith, within, length-take n field) in
    let no : (get_or field k 0 == 0) ≡ false = w.2 k low in
    let yes : (get_or field k 0 == 0) ≡ true = eq-eqb (get_or field k 0) 0 (sym (get_or-take n field k 0 low) ∙ zero) in
    absurd (cc))))
    (cases_Bool (n == 0))

pub name_whole : (page name : List ℕ) → name_of page ≡ Some name → All (λ b. b ≢ 0) name
name_whole page name is = name_by (name_field page) name (position (λ b. b == 0) (name_field page)) refl is

module _ (g : Geometry) (span kept end n : ℕ) (a b c d : List ℕ) (whole : n ≡ g.page) (fits : end ≤ g.page) (from : 8 ≤ end) (place : end ≡ slot_place g span kept)
    (one : SameOutside 5 3 a b) (ones : (k : ℕ) → 5 ≤ k → k < 8 → slice_index b k ≡ 0xFF)
    (last : SameOutside end (n - end) c d) (erased : (k : ℕ) → end ≤ k → k < n → slice_index d k ≡ 0xFF) where
  -- of a further index page
  pub further_copy : span ≢ 0 → c ≡ b → IsCopy g span kept a d
  further_copy more same = record {
    size = last.size ∙ rw same one.size;
    head = λ k below. last.before k (omega arith) ∙ rw same (one.before k (omega arith));
    aligned = λ k low high. last.before k (omega arith) ∙ rw same (ones k low high);
    fields = λ k low high field. last.before k (omega (arith, high, place)) ∙ rw same (one.after k (omega arith));
    name = λ zero. absurd (more zero);
    padding = λ zero. absurd (more zero);
    erased = λ k low high. erased k (omega (arith, low, place)) (omega (arith, high, whole));
  }

  -- of a header page
  pub header_copy : span ≡ 0 → SameOutside 13 32 b c → name_of c ≡ name_of b → ((name : List ℕ) → name_of b ≡ Some name → name_field c ≡ padded name) → IsCopy g span kept a d
  header_copy zero two name padding =
      let there : end ≡ 45 + g.meta + 2 * kept = rw zero at place in
      let behind : 45 ≤ end = omega (arith, there) in
      let first : name_of b ≡ name_of a = name_stays 5 3 a b one (inl (omega arith)) in
      record {
        size = last.size ∙ two.size ∙ one.size;
        head = λ k below. last.before k (omega arith) ∙ two.before k (omega arith) ∙ one.before k (omega arith);
        aligned = λ k low high. last.before k (omega arith) ∙ two.before k (omega arith) ∙ ones k low high;
        fields = λ k low high field. last.before k (omega (arith, high, place)) ∙ ⊎_elim
            (λ (x : k < 13). two.before k x) (λ (x : 45 ≤ k). two.after k (omega (arith, x))) (field zero)
            ∙ one.after k (omega arith);
        name = λ e. name_stays end (n - end) c d last (inr (omega arith)) ∙ name ∙ first;
        padding = λ e named there. range_stays end (n - end) 13 32 c d last (inr (omega arith)) ∙ padding named (first ∙ there);
        erased = λ k low high. erased k (omega (arith, low, place)) (omega (arith, high, whole));
      }
