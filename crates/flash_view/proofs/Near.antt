-- Index pages between two pages, and a search that begins at any page.
use Rattle.std.proofs.Common.{◌≡◌, ℕ, zero, suc, ◌+◌, ◌-◌, ◌<◌, ◌≤◌, Bool, true, false, List, refl, sym, ◌∙◌, ap, subst, arith, min, ⊎_elim}
use Rattle.std.specs.Prelude.{Option, Some, None, find, is_some, option_and_then}
use Rattle.std.specs.List.{range_with_len}
use Rattle.std.specs.Option.{option_map, option_or}
use Rattle.std.proofs.lemmas.Bool.{cases_lt, cases_eq, cases_Bool}
use Rattle.std.proofs.Math.Nat.{sub-zero}
use Rattle.geometry.specs.declared.geometry.Geometry.{Geometry}
use Rattle.geometry.specs.Numbers.{page_count}
use Rattle.image_model.specs.Live.{Live, live_at}
use Rattle.image_model.specs.Files.{is_index, index_page}
use Rattle.image_laws.proofs.Append.{find-all}
use Rattle.flash_view.specs.Found.{first_near, index_between, index_near, named_at, first_named, named_page, named_between, named_near}
use Rattle.flash_view.proofs.Passed.{find_first, find_none}

-- ---- what holds from one number on

-- what holds from `a` on and below one number, and from there on, holds below another
pub from_to : (P : ℕ → Type 0) (a at p : ℕ) → ((q : ℕ) → a ≤ q → q < at → P q) → ((q : ℕ) → at ≤ q → q < p → P q) → (q : ℕ) → a ≤ q → q < p → P q
from_to P a at p was more q low before = ⊎_elim (λ (early : q < at). was q low early) (λ (late : at ≤ q). more q late before) (cases_lt q at)

-- .. or at one more
pub from_and : (P : ℕ → Type 0) (a p end : ℕ) → end ≡ p + 1 → ((q : ℕ) → a ≤ q → q < p → P q) → P p → (q : ℕ) → a ≤ q → q < end → P q
from_and P a p end next was this q low before = ⊎_elim (λ (early : q < p). was q low early) (λ (late : p ≤ q). let same : p ≡ q = omega (arith, next) in subst P same this) (cases_lt q p)

-- ---- the first number that passes, from any place

-- the first number that passes: it lies in the range, and none before it passes
pub record FirstAt (test : ℕ → Bool) (a n p : ℕ) : Type 0 where
  pub passes : test p ≡ true
  pub low : a ≤ p
  pub below : p < a + n
  pub before : (q : ℕ) → a ≤ q → q < p → test q ≡ false

module _ (test : ℕ → Bool) where
  pub first_at : (a n p : ℕ) → find test (range_with_len a n) ≡ Some p → FirstAt test a n p
  first_at a zero p e = absurd (cc)
  first_at a (suc n) p e = ⊎_elim
      (λ (here : test a ≡ true).
      let same : Some a ≡ Some p = rw here at e in
      let at : a ≡ p = cc in
      record { passes = rw at at here; low = omega (arith, at); below = omega (arith, at); before = λ q low less. absurd (omega (arith, at)) })
      (λ (later : test a ≡ false).
      let w = first_at (a + 1) n p (rw later at e) in
      record {
        passes = w.passes;
        low = omega (arith, w.low);
        below = omega (arith, w.below);
        before = λ q low less. ⊎_elim (λ (x : a ≡ q). rw x at later) (λ (x : a ≡ q → ⊥). w.before q (omega (arith, x)) less) (cases_eq a q);
      })
      (cases_Bool (test a))

  -- where one number alone passes, the search may begin anywhere
  pub near_same : (near n : ℕ) → ((p q : ℕ) → test p ≡ true → test q ≡ true → p ≡ q) → first_near test near n ≡ find test (range_with_len 0 n)
  near_same near n one =
      let go : (o : Option ℕ) → find test (range_with_len near (n - near)) ≡ o → option_or o (find test (range_with_len 0 n)) ≡ find test (range_with_len 0 n) = λ o. elim o as (λ (o : Option ℕ). find test (range_with_len near (n - near)) ≡ o → option_or o (find test (range_with_len 0 n)) ≡ find test (range_with_len 0 n)) [
        | None ↦ λ e. refl
        | Some p ↦ λ e.
            let w = first_at near (n - near) p e in
            sym (find_first test 0 n p (omega arith) (omega (arith, w.low, w.below)) w.passes (λ q after less. ⊎_elim
            (λ (yes' : test q ≡ true). let same : p ≡ q = one p q w.passes yes' in absurd (omega (arith, same)))
            (λ (no' : test q ≡ false). no')
            (cases_Bool (test q))))
      ] in go (find test (range_with_len near (n - near))) refl

  -- the two halves of such a search
  nothing_behind : (near from n : ℕ) → from ≡ min near n → find test (range_with_len from (n - from)) ≡ None → find test (range_with_len near (n - near)) ≡ None
  nothing_behind near from n is none = find_none test near (n - near) (λ q after before. find-all test from (n - from) none q (omega (arith, is)) (omega (arith, is)))

  half_first : (near from n p : ℕ) → from ≡ min near n → find test (range_with_len from (n - from)) ≡ Some p → first_near test near n ≡ Some p
  half_first near from n p is found =
      let w = first_at from (n - from) p found in
      let here : find test (range_with_len near (n - near)) ≡ Some p =
      find_first test near (n - near) p (omega (arith, is, w.low, w.below)) (omega (arith, is, w.low, w.below)) w.passes (λ q after less. w.before q (omega (arith, is)) less) in
      rw here refl

  half_below : (near from n : ℕ) (o : Option ℕ) → from ≡ min near n → find test (range_with_len from (n - from)) ≡ None → find test (range_with_len 0 (from - 0)) ≡ o → first_near test near n ≡ o
  half_below near from n None is none e =
      rw (nothing_behind near from n is none)
      (find_none test 0 n (λ q after before. ⊎_elim
      (λ (early : q < from). find-all test 0 (from - 0) e q after (omega (arith, early)))
      (λ (late : from ≤ q). find-all test from (n - from) none q late (omega (arith, before)))
      (cases_lt q from)))
  half_below near from n (Some p) is none e =
      let w = first_at 0 (from - 0) p e in
      rw (nothing_behind near from n is none) (find_first test 0 n p (omega arith) (omega (arith, w.below, is)) w.passes (λ q after less. w.before q after less))

-- ---- index pages

module _ (g : Geometry) (pages : Live) (span : ℕ) where
  pub between_here : (from to p : ℕ) → from ≤ p → p < to → is_index (pages p) span ≡ true → ((q : ℕ) → from ≤ q → q < p → is_index (pages q) span ≡ false) → Some p ≡ index_between pages span from to
  unfolding index_between
  between_here from to p low below is none = sym (find_first (λ q. is_index (pages q) span) from (to - from) p low (omega (arith, low, below)) is none)

  pub between_none : (from to : ℕ) → ((q : ℕ) → from ≤ q → q < to → is_index (pages q) span ≡ false) → None ≡ index_between pages span from to
  unfolding index_between
  between_none from to none = sym (find_none (λ q. is_index (pages q) span) from (to - from) (λ q low less. none q low (omega (arith, less, low))))

  -- those of the whole volume
  pub between_all : (to : ℕ) → to ≡ page_count g → index_between pages span 0 to ≡ index_page g pages span
  unfolding index_between index_page
  between_all to is = rw (is, sub-zero (page_count g)) refl

  pub near_first : (near from p : ℕ) → from ≡ min near (page_count g) → Some p ≡ index_between pages span from (page_count g) → Some p ≡ index_near g pages span near
  unfolding index_between index_near
  near_first near from p is found = sym (half_first (λ q. is_index (pages q) span) near from (page_count g) p is (sym found))

  pub near_below : (near from : ℕ) → from ≡ min near (page_count g) → None ≡ index_between pages span from (page_count g) → index_between pages span 0 from ≡ index_near g pages span near
  unfolding index_between index_near
  near_below near from is none = sym (half_below (λ q. is_index (pages q) span) near from (page_count g) (find (λ q. is_index (pages q) span) (range_with_len 0 (from - 0))) is (sym none) refl)

  -- where the object has one index page of a span alone, it doesn't matter where the search for it begins
  pub near_is_first : (near : ℕ) → ((p q : ℕ) → is_index (pages p) span ≡ true → is_index (pages q) span ≡ true → p ≡ q) → index_near g pages span near ≡ index_page g pages span
  unfolding index_near index_page
  near_is_first near one = near_same (λ q. is_index (pages q) span) near (page_count g) one

-- ---- header pages with a name

-- the same for what the first number that has something has
first_has : {Y : Type 0} (at : ℕ → Option ℕ) (made : ℕ → Option Y) (a n p : ℕ) (y : Y) → a ≤ p → p < a + n → is_some (at p) ≡ true → made p ≡ Some y → ((q : ℕ) → a ≤ q → q < p → at q ≡ None) →
    option_and_then made (find (λ q. is_some (at q)) (range_with_len a n)) ≡ Some y
first_has at made a n p y low below has is none = rw (find_first (λ q. is_some (at q)) a n p low below has (λ q after less. ap (λ (o : Option ℕ). is_some o) (none q after less))) is

module _ (g : Geometry) (image name : List ℕ) where
  pub named_here : (from to p id : ℕ) → from ≤ p → p < to → named_at (live_at g image p) name ≡ Some id → ((q : ℕ) → from ≤ q → q < p → named_at (live_at g image q) name ≡ None) → Some (id, p) ≡ named_between g image name from to
  unfolding named_between
  named_here from to p id low below is none =
      sym (first_has (λ q. named_at (live_at g image q) name) (named_page g image name) from (to - from) p (id, p) low (omega (arith, low, below)) (ap (λ (o : Option ℕ). is_some o) is) (ap (option_map (λ (i : ℕ). (i, p))) is) none)

  pub named_none : (from to : ℕ) → ((q : ℕ) → from ≤ q → q < to → named_at (live_at g image q) name ≡ None) → None ≡ named_between g image name from to
  unfolding named_between
  named_none from to none =
      rw (find_none (λ q. is_some (named_at (live_at g image q) name)) from (to - from) (λ q low less. ap (λ (o : Option ℕ). is_some o) (none q low (omega (arith, less, low))))) refl

  id_of_page : (p : ℕ) (o : Option ℕ) → option_map (λ (f : ℕ × ℕ). f.0) (option_map (λ (i : ℕ). (i, p)) o) ≡ o
  id_of_page p None = refl
  id_of_page p (Some i) = refl

  id_of_pages : (o : Option ℕ) → option_map (λ (f : ℕ × ℕ). f.0) (option_and_then (named_page g image name) o) ≡ option_and_then (λ p. named_at (live_at g image p) name) o
  id_of_pages None = refl
  id_of_pages (Some p) = id_of_page p (named_at (live_at g image p) name)

  -- those of the whole volume
  pub named_all : (to : ℕ) → to ≡ page_count g → option_map (λ (f : ℕ × ℕ). f.0) (named_between g image name 0 to) ≡ first_named g image name
  unfolding named_between first_named
  named_all to is = rw (is, sub-zero (page_count g)) (id_of_pages (find (λ p. is_some (named_at (live_at g image p) name)) (range_with_len 0 (page_count g))))

  some_named : (o : Option ℕ) (y : ℕ × ℕ) → option_and_then (named_page g image name) o ≡ Some y → (p : ℕ) × (o ≡ Some p)
  some_named None y e = absurd (cc)
  some_named (Some p) y e = (p, refl)

  -- a page that was found has something
  pub no_named : (a n : ℕ) → option_and_then (named_page g image name) (find (λ p. is_some (named_at (live_at g image p) name)) (range_with_len a n)) ≡ None → find (λ p. is_some (named_at (live_at g image p) name)) (range_with_len a n) ≡ None
  no_named a n e =
      let test : ℕ → Bool = λ p. is_some (named_at (live_at g image p) name) in
      let go : (o : Option ℕ) → find test (range_with_len a n) ≡ o → option_and_then (named_page g image name) o ≡ None → o ≡ None = λ o. elim o as (λ (o : Option ℕ). find test (range_with_len a n) ≡ o → option_and_then (named_page g image name) o ≡ None → o ≡ None) [
        | None ↦ λ is k. refl
        | Some p ↦ λ is k. let w = first_at test a n p is in absurd (has_nothing (named_at (live_at g image p) name) p w.passes k)
      ] in go (find test (range_with_len a n)) refl e
    where
      has_nothing : (o : Option ℕ) (p : ℕ) → is_some o ≡ true → option_map {U = ℕ × ℕ} (λ (i : ℕ). (i, p)) o ≡ None → ⊥
      has_nothing None p e k = cc
      has_nothing (Some i) p e k = cc

  pub named_near_first : (near from : ℕ) (y : ℕ × ℕ) → from ≡ min near (page_count g) → Some y ≡ named_between g image name from (page_count g) → Some y ≡ named_near g image name near
  unfolding named_between named_near
  named_near_first near from y is found =
      let test : ℕ → Bool = λ p. is_some (named_at (live_at g image p) name) in
      let w = some_named (find test (range_with_len from (page_count g - from))) y (sym found) in
      let here : first_near test near (page_count g) ≡ Some w.0 = half_first test near from (page_count g) w.0 is w.1 in
      found ∙ ap (option_and_then (named_page g image name)) (w.1 ∙ sym here)

  pub named_near_below : (near from : ℕ) → from ≡ min near (page_count g) → None ≡ named_between g image name from (page_count g) → named_between g image name 0 from ≡ named_near g image name near
  unfolding named_between named_near
  named_near_below near from is none =
      let test : ℕ → Bool = λ p. is_some (named_at (live_at g image p) name) in
      let nothing = no_named from (page_count g - from) (sym none) in
      sym (ap (option_and_then (named_page g image name)) (half_below test near from (page_count g) (find test (range_with_len 0 (from - 0))) is nothing refl))

  -- where one header page has the name, it doesn't matter where the search for it begins
  pub named_near_is_first : (near : ℕ) → ((p q i j : ℕ) → named_at (live_at g image p) name ≡ Some i → named_at (live_at g image q) name ≡ Some j → p ≡ q) → option_map (λ (f : ℕ × ℕ). f.0) (named_near g image name near) ≡ first_named g image name
  unfolding named_near first_named
  named_near_is_first near one =
      let test : ℕ → Bool = λ p. is_some (named_at (live_at g image p) name) in
      let same : first_near test near (page_count g) ≡ find test (range_with_len 0 (page_count g)) =
      near_same test near (page_count g) (λ p q e k. let x = some_id_of (named_at (live_at g image p) name) e in let y = some_id_of (named_at (live_at g image q) name) k in one p q x.0 y.0 x.1 y.1) in
      id_of_pages (first_near test near (page_count g)) ∙ ap (option_and_then (λ p. named_at (live_at g image p) name)) same
    where
      some_id_of : (o : Option ℕ) → is_some o ≡ true → (i : ℕ) × (o ≡ Some i)
      some_id_of None e = absurd (cc)
      some_id_of (Some i) e = (i, refl)
