-- Of every image no two files of the table have one name.
use Rattle.std.proofs.Common.{◌≡◌, ℕ, zero, suc, ◌+◌, ◌<◌, ◌≤◌, List, [], ◌∷◌, Bool, true, false, not, ◌&&◌, ◌||◌, Option, Some, None, Result, Ok, Err, ap, refl, sym, ◌∙◌, arith, ⊎_elim, ◌⊎◌, inl, inr}
use Rattle.std.specs.Prelude.{find, nat_lt}
use Rattle.std.specs.List.{range_with_len, filter_map, list_any}
use Rattle.std.proofs.lemmas.Bool.{cases_lt, cases_eq, cases_Bool, lt-ltb, or_parts, not-true, false≢true}
use Rattle.std.proofs.lemmas.Option.{none-some, same_Some}
use Rattle.geometry.specs.declared.geometry.Geometry.{Geometry}
use Rattle.table_model.specs.Table.{File, same_text, file_named}
use Rattle.image_model.specs.declared.damage.Damage.{Damage}
use Rattle.image_model.specs.Live.{live_at}
use Rattle.image_model.specs.Tables.{Found, has_of, counts, counted, is_before, ids, records, table_of}
use Rattle.image_laws.proofs.Records.{bytes_same, bytes_equal}
use Rattle.image_laws.proofs.Finish.{heads-apart, has_of-within}
use Rattle.header_laws.proofs.Listed.{found-first, found-none, each-listed}
use Rattle.header_laws.proofs.HeadPages.{file_at}
use Rattle.header_laws.specs.Heads.{EachByName}

none_at : (t : ℕ → Bool) (a n k : ℕ) → list_any t (range_with_len a n) ≡ false → a ≤ k → k < a + n → t k ≡ false
none_at t a zero k none low high = absurd (omega (arith, low, high))
none_at t a (suc n) k none low high =
    let w = or_parts (t a) (list_any t (range_with_len (a + 1) n)) none in
    ⊎_elim
    (λ (here : a ≡ k). ap t (sym here) ∙ w.0)
    (λ (there : a ≡ k → ⊥). none_at t (a + 1) n k w.1 (omega (arith, low, there)) (omega (arith, high)))
    (cases_eq a k)

-- the file that counts of an id
counted-counts : (has : Found) (m : ℕ) (o : Option (ℕ × Result File Damage)) (x : File) → counted has m o ≡ Some x → (q : ℕ) × (o ≡ Some (q, Ok x)) × (counts has m q x.name ≡ true)
counted-counts has m None x h = absurd (none-some x h)
counted-counts has m (Some (q, Err e)) x h = absurd (none-some x h)
counted-counts has m (Some (q, Ok f)) x h = ⊎_elim
    (λ (yes : counts has m q f.name ≡ true). let is : f ≡ x = same_Some f x (rw yes at h) in (q, ap (λ (y : File). Some (q, Ok y)) is, ap (λ (y : File). counts has m q y.name) (sym is) ∙ yes))
    (λ (no : counts has m q f.name ≡ false). absurd (none-some x (rw no at h)))
    (cases_Bool (counts has m q f.name))

-- no header page of a whole file of its name stands before its own
first_of : (has : Found) (m p q k : ℕ) (name : List ℕ) (h : File) → counts has m p name ≡ true → 1 ≤ k → k ≤ m → has k ≡ Some (q, Ok h) → h.name ≡ name → q < p → ⊥
unfolding counts
first_of has m p q k name h first low high is same less =
    let none : list_any (λ (id : ℕ). is_before (has id) p name) (ids m) ≡ false = not-true (list_any (λ (id : ℕ). is_before (has id) p name) (ids m)) first in
    let here : is_before (has k) p name ≡ false = none_at (λ (id : ℕ). is_before (has id) p name) 1 m k none low (omega (arith, high)) in
    let there : is_before (has k) p name ≡ true = rw is (rw (lt-ltb q p less, same) (bytes_equal name)) in
    false≢true (sym here ∙ there)

one_by : (g : Geometry) (a : List ℕ) (m j k : ℕ) (f h : File) → counted (has_of g (live_at g a)) m (has_of g (live_at g a) j) ≡ Some f → counted (has_of g (live_at g a)) m (has_of g (live_at g a) k) ≡ Some h → 1 ≤ j → j ≤ m → 1 ≤ k → k ≤ m → f.name ≡ h.name → j ≡ k
one_by g a m j k f h e e' jl jh kl kh same =
    let has = has_of g (live_at g a) in
    let x = counted-counts has m (has j) f e in
    let y = counted-counts has m (has k) h e' in
    ⊎_elim
    (λ (here : j ≡ k). here)
    (λ (there : j ≡ k → ⊥). absurd (⊎_elim
    (λ (less : x.0 < y.0). first_of has m y.0 x.0 j h.name f y.2 jl jh x.1 same less)
    (λ (more : y.0 ≤ x.0). ⊎_elim
    (λ (one : y.0 ≡ x.0). heads-apart g (live_at g a) j k x.0 y.0 (Ok f) (Ok h) x.1 y.1 there (sym one))
    (λ (apart : y.0 ≡ x.0 → ⊥). first_of has m x.0 y.0 k f.name h x.2 kl kh y.1 (sym same) (omega (arith, more, apart)))
    (cases_eq y.0 x.0))
    (cases_lt x.0 y.0)))
    (cases_eq j k)

within : (g : Geometry) (a : List ℕ) (m j : ℕ) (f : File) → counted (has_of g (live_at g a)) m (has_of g (live_at g a) j) ≡ Some f → (1 ≤ j) × (j ≤ 0x7FFF)
within g a m j f e = let x = counted-counts (has_of g (live_at g a)) m (has_of g (live_at g a) j) f e in has_of-within g a j x.0 (Ok f) x.1

pub one_name : (g : Geometry) (a : List ℕ) (j k : ℕ) (f h : File) → file_at g a j ≡ Some f → file_at g a k ≡ Some h → f.name ≡ h.name → j ≡ k
one_name g a j k f h e e' same =
    let x = within g a 0x7FFF j f e in
    let y = within g a 0x7FFF k h e' in
    one_by g a 0x7FFF j k f h e e' x.0 x.1 y.0 y.1 same

pub named-file : (g : Geometry) (a : List ℕ) (j : ℕ) (f : File) (name : List ℕ) → file_at g a j ≡ Some f → f.name ≡ name → file_named name (table_of g a) ≡ Some f
unfolding file_named table_of records
named-file g a j f name e same =
    let test : File → Bool = λ x. same_text x.name name in
    let w' = within g a 0x7FFF j f e in
    let go : (o : Option File) → find test (filter_map (file_at g a) (range_with_len 1 0x7FFF)) ≡ o → o ≡ Some f = λ o. elim o as (λ (o : Option File). find test (filter_map (file_at g a) (range_with_len 1 0x7FFF)) ≡ o → o ≡ Some f) [
      | None ↦ λ none.
          let fails : same_text f.name name ≡ false = found-none (file_at g a) test 1 0x7FFF none j w'.0 (omega (arith, w'.1)) f e in
          absurd (false≢true (sym fails ∙ (rw same (bytes_equal name))))
      | Some x ↦ λ found.
          let w = found-first (file_at g a) test 1 0x7FFF x found in
          let one : w.j ≡ j = one_name g a w.j j x f w.is e (bytes_same x.name name w.passes ∙ sym same) in
          sym w.is ∙ ap (file_at g a) one ∙ e
    ] in go (find test (filter_map (file_at g a) (range_with_len 1 0x7FFF))) refl

pub each_by_name : (g : Geometry) → EachByName g
unfolding table_of records
each_by_name g a = each-listed (λ (f : File). file_named f.name (table_of g a) ≡ Some f) (file_at g a) 1 0x7FFF (λ j f is. named-file g a j f f.name is refl)
