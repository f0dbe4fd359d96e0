-- In a neat volume no id is doubled.
use Rattle.std.proofs.Common.{◌≡◌, ◌≢◌, ℕ, zero, suc, ◌+◌, ◌%◌, ◌≤◌, Bool, true, false, List, [], length, Option, Some, None, ◌==◌, if◌then◌else◌, ap, refl, sym, ◌∙◌, arith, ⊎_elim}
use Rattle.std.specs.Prelude.{filter, nat_lt, option_and_then}
use Rattle.std.specs.List.{range_with_len}
use Rattle.std.proofs.lemmas.Bool.{cases_Bool, cases_eq, false≢true, le-ltb, ltb-true}
use Rattle.std.proofs.lemmas.Option.{same_Some}
use Rattle.geometry.specs.declared.geometry.Geometry.{Geometry}
use Rattle.geometry.specs.Numbers.{page_count}
use Rattle.image_model.specs.Headers.{obj_id}
use Rattle.image_model.specs.Live.{Live, live_at, own}
use Rattle.image_model.specs.Files.{is_index, index_page}
use Rattle.image_model.specs.Tidy.{IsNeat, is_wanted}
use Rattle.image_laws.proofs.Finish.{own-parts}
use Rattle.image_laws.proofs.Matching.{filter-none_in}
use Rattle.image_laws.proofs.Unshared.{neat_wanted}
use Rattle.image_laws.proofs.Wants.{wanted_parts, Wanted}
use Rattle.renew_laws.proofs.Serves.{served_place}
use Rattle.doubled_ids.specs.Doubled.{heads_to, doubled_to, doubled_of}

-- two numbers that pass are the same: so there is one at most
one_at_most : (t : ℕ → Bool) → ((p q : ℕ) → t p ≡ true → t q ≡ true → q ≡ p) → (a n : ℕ) → length (filter t (range_with_len a n)) ≤ 1
one_at_most t same a zero = omega arith
one_at_most t same a (suc n) = ⊎_elim
    (λ (yes : t a ≡ true).
    let none : length (filter t (range_with_len (a + 1) n)) ≡ 0 = filter-none_in t (a + 1) n (λ q low high. ⊎_elim
    (λ (also : t q ≡ true). absurd (omega (arith, same a q yes also, low)))
    (λ (no : t q ≡ false). no)
    (cases_Bool (t q))) in
    rw yes (omega (arith, none)))
    (λ (no : t a ≡ false). rw no (one_at_most t same (a + 1) n))
    (cases_Bool (t a))

no_ids : (t : ℕ → Bool) → ((q : ℕ) → t q ≡ false) → (a n : ℕ) → filter t (range_with_len a n) ≡ []
no_ids t none a zero = refl
no_ids t none a (suc n) = rw (none a) (no_ids t none (a + 1) n)

some_page : (o : Option (List ℕ)) → is_index o 0 ≡ true → (page : List ℕ) × (o ≡ Some page)
some_page None e = absurd (false≢true e)
some_page (Some page) e = (page, refl)

-- a live header page of an id, by its bytes
head_parts : (live : Live) (id p : ℕ) → is_index (own live id p) 0 ≡ true → (page : List ℕ) × (live p ≡ Some page) × (obj_id page % 0x8000 ≡ id)
head_parts live id p is =
    let w = some_page (own live id p) is in
    let v = own-parts live id p w.0 w.1 in
    (w.0, v.0, v.1)

module _ (g : Geometry) (image : List ℕ) (neat : IsNeat g image) where
  -- Each live header page is the first of its id.
  head_first : (id p : ℕ) → is_index (own (live_at g image) id p) 0 ≡ true → index_page g (own (live_at g image) id) 0 ≡ Some p
  unfolding is_wanted
  head_first id p is =
      let w = head_parts (live_at g image) id p is in
      let wanted : Wanted g (live_at g image) p = wanted_parts g (live_at g image) p (neat_wanted g image neat p w.0 w.1) in
      let page : wanted.page ≡ w.0 = same_Some wanted.page w.0 (sym wanted.is ∙ w.1) in
      let same : obj_id wanted.page % 0x8000 ≡ id = rw page w.2 in
      let served = rw same at wanted.served in
      (served_place g (own (live_at g image) id) wanted.head p 0 served is).0

  same_head : (id p q : ℕ) → is_index (own (live_at g image) id p) 0 ≡ true → is_index (own (live_at g image) id q) 0 ≡ true → q ≡ p
  same_head id p q one other = same_Some q p (sym (head_first id q other) ∙ head_first id p one)

  pub never_two : (n id : ℕ) → heads_to (live_at g image) n id ≤ 1
  unfolding heads_to
  never_two n id = one_at_most (λ (q : ℕ). is_index (own (live_at g image) id q) 0) (same_head id) 0 n

  none_to : (m n : ℕ) → doubled_to (live_at g image) m n ≡ []
  unfolding doubled_to
  none_to m n = no_ids (λ (id : ℕ). nat_lt 1 (heads_to (live_at g image) m id)) (λ id. le-ltb 1 (heads_to (live_at g image) m id) (never_two m id)) 1 n

pub none_doubled : (g : Geometry) (image : List ℕ) → IsNeat g image → doubled_of g image ≡ []
unfolding doubled_of
none_doubled g image neat = none_to g image neat (page_count g) 0x7FFF

-- ---- one page is changed

own_same : (live other : Live) (id p : ℕ) → live p ≡ other p → own live id p ≡ own other id p
unfolding own
own_same live other id p e = ap (λ (o : Option (List ℕ)). option_and_then (λ (page : List ℕ). if obj_id page % 0x8000 == id then Some page else None) o) e

module _ (g : Geometry) (was now : List ℕ) (p : ℕ) (neat : IsNeat g was) (others : (q : ℕ) → q ≢ p → live_at g now q ≡ live_at g was q) where
  -- where it isn't the header page of an id, that has one at most
  one_head : (n id : ℕ) → is_index (own (live_at g now) id p) 0 ≡ false → heads_to (live_at g now) n id ≤ 1
  unfolding heads_to
  one_head n id not = one_at_most (λ (q : ℕ). is_index (own (live_at g now) id q) 0) (λ q r one other. same_head g was neat id q r (back q one) (back r other)) 0 n where
    back : (q : ℕ) → is_index (own (live_at g now) id q) 0 ≡ true → is_index (own (live_at g was) id q) 0 ≡ true
    back q is = ⊎_elim
        (λ (here : q ≡ p). absurd (false≢true (sym not ∙ ap (λ (r : ℕ). is_index (own (live_at g now) id r) 0) (sym here) ∙ is)))
        (λ (there : q ≡ p → ⊥). ap (λ (o : Option (List ℕ)). is_index o 0) (sym (own_same (live_at g now) (live_at g was) id q (others q there))) ∙ is)
        (cases_eq q p)

  -- so a doubled id is its own
  its_own : (n id : ℕ) → nat_lt 1 (heads_to (live_at g now) n id) ≡ true → is_index (own (live_at g now) id p) 0 ≡ true
  its_own n id two = ⊎_elim
      (λ (yes : is_index (own (live_at g now) id p) 0 ≡ true). yes)
      (λ (no : is_index (own (live_at g now) id p) 0 ≡ false). absurd (omega (arith, one_head n id no, ltb-true 1 (heads_to (live_at g now) n id) two)))
      (cases_Bool (is_index (own (live_at g now) id p) 0))

  same_id : (n j k : ℕ) → nat_lt 1 (heads_to (live_at g now) n j) ≡ true → nat_lt 1 (heads_to (live_at g now) n k) ≡ true → k ≡ j
  same_id n j k one other =
      let w = head_parts (live_at g now) j p (its_own n j one) in
      let v = head_parts (live_at g now) k p (its_own n k other) in
      let page : w.0 ≡ v.0 = same_Some w.0 v.0 (sym w.1 ∙ v.1) in
      sym v.2 ∙ ap (λ (x : List ℕ). obj_id x % 0x8000) (sym page) ∙ w.2

  one_to : (m n : ℕ) → length (doubled_to (live_at g now) m n) ≤ 1
  unfolding doubled_to
  one_to m n = one_at_most (λ (id : ℕ). nat_lt 1 (heads_to (live_at g now) m id)) (same_id m) 1 n

  pub one_doubled : length (doubled_of g now) ≤ 1
  unfolding doubled_of
  one_doubled = one_to (page_count g) 0x7FFF
