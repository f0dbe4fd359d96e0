-- Names that aren't refused, and those that header pages hold.
use Rattle.std.proofs.Common.{◌≡◌, ◌≢◌, ℕ, zero, suc, ◌<◌, ◌≤◌, List, [], ◌∷◌, length, take, get_or, slice_range, Bool, true, false, cond, ◌==◌, Option, Some, None, refl, sym, ◌∙◌, arith, ⊎_elim, length-take, length-drop}
use Rattle.std.specs.Prelude.{nat_lt, position}
use Rattle.std.specs.List.{list_any, AllByRecursion}
use Rattle.std.proofs.lemmas.List.Elements.{All-from_recursion}
use Rattle.std.proofs.lemmas.Bool.{cases_Bool, or_parts, eqb-false, ne_eqb, ltb-false, le-ltb, false≢true}
use Rattle.std.proofs.lemmas.List.Quantifiers.{position-Some}
use Rattle.std.proofs.lemmas.Option.{none-some, same_Some, option_and_then_some}
use Rattle.table_model.specs.declared.error.FsErr.{FsErr}
use Rattle.table_model.specs.Names.{name_refusal, is_bad_name, is_long_name}
use Rattle.image_model.specs.Headers.{name_of}
use Rattle.header_laws.specs.Names.{IsName, FineNames, NewNameUnused}
use Rattle.table_model.specs.Table.{File, same_text, has_name}
use Rattle.image_laws.proofs.Records.{bytes_equal}

refused_not : (e : FsErr) (o : Option FsErr) (b : Bool) → cond b (Some e) o ≡ None → (b ≡ false) × (o ≡ None)
refused_not e o true h = absurd (none-some e (sym h))
refused_not e o false h = (refl, h)

pub fine-names : FineNames
unfolding name_refusal
fine-names name = (
  λ h.
      let w = refused_not _ _ (is_bad_name name) h in
      let v = refused_not _ _ (is_long_name name) w.1 in
      let parts = or_parts (length name == 0) (list_any (λ b. b == 0) name) w.0 in
      let some = eqb-false (length name) 0 parts.0 in
      let most = ltb-false 31 (length name) v.0 in
      record { least = omega (arith, some); most = most; no_zero = parts.1 },
  λ h.
      let some : (length name == 0) ≡ false = ne_eqb (length name) 0 (λ e. omega (arith, e, h.least)) in
      let most : nat_lt 31 (length name) ≡ false = le-ltb 31 (length name) h.most in
      rw some (rw h.no_zero (rw most refl)),
)

none_passes : (t : ℕ → Bool) (n : ℕ) (xs : List ℕ) → ((k : ℕ) → k < n → t (get_or xs k 0) ≡ false) → list_any t (take n xs) ≡ false
none_passes t zero xs h = refl
none_passes t (suc n) [] h = refl
none_passes t (suc n) (x ∷ xs) h =
    let first : t x ≡ false = h 0 (omega arith) in
    rw first (none_passes t n xs (λ k low. h (suc k) (omega arith)))

-- the name in a header page is a fine one
pub name_of-fine : (page name : List ℕ) → name_of page ≡ Some name → IsName name
name_of-fine page name e =
    option_and_then_some _ (position (λ (b : ℕ). b == 0) (slice_range page 13 45)) name e
    (λ n at k.
    let w = position-Some (λ (b : ℕ). b == 0) (slice_range page 13 45) n 0 at in
    let field : length (slice_range page 13 45) ≤ 32 = simp (length-take, length-drop) (omega arith) in
    ⊎_elim
    (λ (z : (n == 0) ≡ true). absurd (none-some name (rw z at k)))
    (λ (some : (n == 0) ≡ false).
    let is : take n (slice_range page 13 45) ≡ name = same_Some _ _ (rw some at k) in
    let size : length (take n (slice_range page 13 45)) ≡ n = length-take n (slice_range page 13 45) ∙ (omega (arith, w.0)) in
    let more = eqb-false n 0 some in
    let fine : IsName (take n (slice_range page 13 45)) =
    record { least = omega (arith, size, more); most = omega (arith, size, w.0, field); no_zero = none_passes (λ (b : ℕ). b == 0) n (slice_range page 13 45) w.2 } in
    rw is at fine)
    (cases_Bool (n == 0)))

unused-list : (id : ℕ) (name : List ℕ) (files : List File) → list_any (λ f. same_text f.name name) files ≡ false → AllByRecursion (λ x. x.id ≢ id → x.name ≢ name) files
unused-list id name [] none = tt
unused-list id name (f ∷ files) none =
    let w = or_parts (same_text f.name name) (list_any (λ (x : File). same_text x.name name) files) none in
    (λ there same. false≢true (sym w.0 ∙ (rw same (bytes_equal name))), unused-list id name files w.1)

-- a name that is not there is no file's
pub new-unused : NewNameUnused
unfolding has_name
new-unused id name files none = All-from_recursion (λ (x : File). x.id ≢ id → x.name ≢ name) files (unused-list id name files none)
