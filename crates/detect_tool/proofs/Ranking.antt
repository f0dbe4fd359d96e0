-- Candidates put in order, and read in it one after the other.
use Rattle.std.proofs.Common.{◌≡◌, ℕ, zero, suc, ◌<◌, ◌≤◌, ◌⊎◌, true, List, [], ◌∷◌, length, slice_index_or, All, AllPairs, HoldsAt, IsPermutation, Option, Some, None, refl, sym, ap, ◌∙◌, subst, arith, ⊎_elim}
use Rattle.std.proofs.lemmas.Bool.{cases_lt}
use Rattle.std.proofs.lemmas.List.{get_or_default}
use Rattle.std.proofs.lemmas.List.Elements.{All-nil, All-cons, All-head, All-tail, All-weaker, Contains-get_or}
use Rattle.std.proofs.lemmas.List.Sorted.{IsPermutation-refl, IsPermutation-cons, IsPermutation-sym, IsPermutation-trans, IsPermutation-middle, All-permutation, Contains-permutation}
use Rattle.volume_rank.specs.declared.found.Found.{Found}
use Rattle.volume_rank.specs.Order.{IsBefore, is_before, is_behind, FirstBehind}
use Rattle.volume_rank.proofs.Orders.{before_is, is_tested, not_itself, before_then as tested_then, before_or}
use Rattle.detect_tool.specs.Ranked.{IsRanking}

before_then : (f g h : Found) → IsBefore f g → IsBefore g h → IsBefore f h
before_then f g h one two = before_is f h (tested_then f g h (is_tested f g one) (is_tested g h two))

not_both : (f g : Found) → IsBefore f g → IsBefore g f → ⊥
not_both f g one two = not_itself f (is_tested f f (before_then f g f one two))

-- in order, from one to the next
abbrev Ordered : List Found → Type 0
Ordered [] = Unit {0}
Ordered (x ∷ xs) = All (IsBefore x) xs × Ordered xs

ordered_pairs : (xs : List Found) → Ordered xs → AllPairs IsBefore xs
ordered_pairs [] o i j d less low = absurd (omega (arith, low))
ordered_pairs (x ∷ xs) o zero zero d less low = absurd (omega (arith, less))
ordered_pairs (x ∷ xs) o zero (suc j) d less low = o.0 j d (omega (arith, low))
ordered_pairs (x ∷ xs) o (suc i) zero d less low = absurd (omega (arith, less))
ordered_pairs (x ∷ xs) o (suc i) (suc j) d less low = ordered_pairs xs o.1 i j d (omega (arith, less)) (omega (arith, low))

-- a list with one more
record Put (f : Found) (xs : List Found) : Type 0 where
  list : List Found
  same : IsPermutation (f ∷ xs) list
  ordered : Ordered list

put_front : (f x : Found) (xs : List Found) → IsBefore f x → Ordered (x ∷ xs) → Put f (x ∷ xs)
put_front f x xs before o = record {
  list = f ∷ x ∷ xs;
  same = IsPermutation-refl (f ∷ x ∷ xs);
  ordered = (All-cons (IsBefore f) x xs before (All-weaker (IsBefore x) (IsBefore f) (λ g h. before_then f x g before h) xs o.0), o);
}

put_behind : (f x : Found) (xs : List Found) → IsBefore x f → Ordered (x ∷ xs) → Put f xs → Put f (x ∷ xs)
put_behind f x xs before o p = record {
  list = x ∷ p.list;
  same = IsPermutation-trans (f ∷ x ∷ xs) (x ∷ f ∷ xs) (x ∷ p.list) (IsPermutation-middle (f ∷ []) x xs) (IsPermutation-cons x (f ∷ xs) p.list p.same);
  ordered = (All-permutation (IsBefore x) (f ∷ xs) p.list p.same (All-cons (IsBefore x) f xs before o.0), p.ordered);
}

put : (f : Found) (xs : List Found) → All (λ x. IsBefore f x ⊎ IsBefore x f) xs → Ordered xs → Put f xs
put f [] apart o = record { list = f ∷ []; same = IsPermutation-refl (f ∷ []); ordered = (All-nil (IsBefore f), tt) }
put f (x ∷ xs) apart o =
    let rest = put f xs (All-tail (λ x. IsBefore f x ⊎ IsBefore x f) x xs apart) o.1 in
    ⊎_elim
    (λ (before : IsBefore f x). put_front f x xs before o)
    (λ (behind : IsBefore x f). put_behind f x xs behind o rest)
    (All-head (λ x. IsBefore f x ⊎ IsBefore x f) x xs apart)

sorted : (xs : List Found) → AllPairs (λ f g. f.place < g.place) xs → (ys : List Found) × IsPermutation xs ys × Ordered ys
sorted [] apart = ([], IsPermutation-refl [], tt)
sorted (x ∷ xs) apart =
    let s = sorted xs (λ i j d less low. apart (suc i) (suc j) d (omega (arith, less)) (omega (arith, low))) in
    let others : All (λ y. IsBefore x y ⊎ IsBefore y x) xs = λ k d low. before_or x (slice_index_or xs k d) (apart zero (suc k) d (omega arith) (omega (arith, low))) in
    let p = put x s.0 (All-permutation (λ y. IsBefore x y ⊎ IsBefore y x) xs s.0 s.1 others) s.2 in
    (p.list, IsPermutation-trans (x ∷ xs) (x ∷ s.0) p.list (IsPermutation-cons x xs s.0 s.1) p.same, p.ordered)

-- a list of other places has a ranking
pub ranking_of : (found : List Found) → AllPairs (λ f g. f.place < g.place) found → (list : List Found) × IsRanking found list
ranking_of found apart = let s = sorted found apart in (s.0, record { same = s.1; order = ordered_pairs s.0 s.2 })

-- the one before number n of a list, if there is one
abbrev pub After : List Found → ℕ → Option Found → Type 0
After list zero last = last ≡ None
After list (suc n) last = (f : Found) × (last ≡ Some f) × HoldsAt (λ x. x ≡ f) list n

-- a list that isn't empty has an element
pub some_of : (xs : List Found) → 0 < length xs → Found
some_of [] some = absurd (omega (arith, some))
some_of (x ∷ xs) some = x

module _ (list : List Found) (order : AllPairs IsBefore list) where
  -- those from number n on come behind it
  behind_it : (n : ℕ) (last : Option Found) → After list n last → (d : Found) (k : ℕ) → n ≤ k → k < length list → is_behind last (slice_index_or list k d) ≡ true
  behind_it zero last a d k low high = subst (λ (o : Option Found). is_behind o (slice_index_or list k d) ≡ true) (sym a) refl
  behind_it (suc m) last a d k low high =
      let is : IsBefore a.0 (slice_index_or list k d) = subst (λ (x : Found). IsBefore x (slice_index_or list k d)) (a.2 d) (order m k d (omega (arith, low)) high) in
      subst (λ (o : Option Found). is_behind o (slice_index_or list k d) ≡ true) (sym a.1) (is_tested a.0 (slice_index_or list k d) is)

  -- and those before don't
  not_before : (n : ℕ) (last : Option Found) → n ≤ length list → After list n last → (f : Found) (k : ℕ) → k < n → slice_index_or list k f ≡ f → is_behind last f ≡ true → ⊥
  not_before zero last room a f k low at behind = omega (arith, low)
  not_before (suc m) last room a f k low at behind =
      let is : IsBefore a.0 f = before_is a.0 f (subst (λ (o : Option Found). is_behind o f ≡ true) a.1 behind) in
      ⊎_elim
      (λ (below : k < m).
      let there : IsBefore f a.0 = subst (λ (x : Found). IsBefore x a.0) at (subst (λ (x : Found). IsBefore (slice_index_or list k f) x) (a.2 f) (order k m f below (omega (arith, room)))) in
      not_both a.0 f is there)
      (λ (above : m ≤ k).
      let e : k ≡ m = omega (arith, above, low) in
      let same : f ≡ a.0 = sym at ∙ ap (λ (i : ℕ). slice_index_or list i f) e ∙ a.2 f in
      let itself : IsBefore f f = subst (λ (x : Found). IsBefore x f) (sym same) is in
      not_both f f itself itself)
      (cases_lt k m)

module _ (found list : List Found) (r : IsRanking found list) where
  -- what stands in the one list stands in the other
  stands : (n : ℕ) (d : Found) → n < length list → (j : ℕ) × (j < length found) × (slice_index_or found j (slice_index_or list n d) ≡ slice_index_or list n d)
  stands n d low = Contains-permutation list found (slice_index_or list n d) (IsPermutation-sym found list r.same) (Contains-get_or list n d low)

  -- the first behind the one before number n is number n
  pub next_is : (n : ℕ) (last : Option Found) (f : Found) → n ≤ length list → After list n last → FirstBehind found last (Some f) → (n < length list) × HoldsAt (λ x. x ≡ f) list n
  next_is n last f room a first =
      let w = Contains-permutation found list f r.same (first.1 f) in
      ⊎_elim
      (λ (below : w.0 < n). absurd (not_before list r.order n last room a f w.0 below w.2 first.0))
      (λ (above : n ≤ w.0). ⊎_elim
      (λ (less : n < w.0).
      let low : n < length list = omega (arith, less, w.1) in
      let x = slice_index_or list n f in
      let s = stands n f low in
      let before : IsBefore x f = subst (λ (y : Found). IsBefore x y) w.2 (r.order n w.0 f less w.1) in
      absurd (first.2 x s.0 s.1
      (subst (λ (y : Found). is_behind last y ≡ true) (sym s.2) (behind_it list r.order n last a f n (omega arith) low))
      (subst (λ (y : Found). is_before y f ≡ true) (sym s.2) (is_tested x f before))))
      (λ (last_one : w.0 ≤ n).
      let e : w.0 ≡ n = omega (arith, above, last_one) in
      let low : n < length list = omega (arith, e, w.1) in
      (low, λ d. get_or_default list n d f low ∙ (ap (λ (i : ℕ). slice_index_or list i f) (sym e) ∙ w.2)))
      (cases_lt n w.0))
      (cases_lt w.0 n)

  -- where there is none behind it there is no number n
  pub none_is : (n : ℕ) (last : Option Found) → After list n last → FirstBehind found last None → n < length list → ⊥
  none_is n last a none low =
      let d = some_of list (omega (arith, low)) in
      let x = slice_index_or list n d in
      let s = stands n d low in
      none x s.0 s.1 (subst (λ (y : Found). is_behind last y ≡ true) (sym s.2) (behind_it list r.order n last a d n (omega arith) low))
