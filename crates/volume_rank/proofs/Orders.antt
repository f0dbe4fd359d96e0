-- The first of a list that comes behind one.
use Rattle.std.proofs.Common.{◌≡◌, ◌==◌, ℕ, ◌+◌, ◌<◌, ◌≤◌, ◌⊎◌, ◌&&◌, ◌||◌, Bool, true, false, nat_lt, List, length, slice_index_or, Option, Some, None, inl, inr, sym, ap, ◌∙◌, subst, arith, ⊎_elim}
use Rattle.std.proofs.lemmas.Bool.{cases_lt, or_cases, or_left, or_right, and_parts, and_from, ltb-true, lt-ltb, eqb-true, eq-eqb, both_ways}
use Rattle.volume_rank.specs.declared.found.Found.{Found}
use Rattle.volume_rank.specs.Order.{lost_blocks, IsSounder, IsFirmer, IsBefore, is_sounder, is_firmer, is_before, is_behind, FirstBehind, Better}

-- a number is less, or equal and what follows decides
abbrev Lex : (a b : ℕ) → Type 0 → Type 0
Lex a b then = (a < b) ⊎ ((a ≡ b) × then)

lex_is : (a b : ℕ) (rest : Bool) (then : Type 0) → (nat_lt a b || ((a == b) && rest)) ≡ true → (rest ≡ true → then) → Lex a b then
lex_is a b rest then is next = ⊎_elim
    (λ (less : nat_lt a b ≡ true). inl (ltb-true _ _ less))
    (λ (equal : ((a == b) && rest) ≡ true). let w = and_parts _ _ equal in inr (eqb-true _ _ w.0, next w.1))
    (or_cases _ _ is)

lex_tested : (a b : ℕ) (rest : Bool) (then : Type 0) → Lex a b then → (then → rest ≡ true) → (nat_lt a b || ((a == b) && rest)) ≡ true
lex_tested a b rest then is next = ⊎_elim
    (λ (less : a < b). or_left _ _ (lt-ltb _ _ less))
    (λ (equal : (a ≡ b) × then). or_right _ _ (and_from _ _ (eq-eqb _ _ equal.0) (next equal.1)))
    is

lex_then : (a b c : ℕ) (one two all : Type 0) → Lex a b one → Lex b c two → (one → two → all) → Lex a c all
lex_then a b c one two all first second next = ⊎_elim
    (λ (less : a < b). ⊎_elim
    (λ (less' : b < c). inl (omega (arith, less, less')))
    (λ (equal' : (b ≡ c) × two). inl (omega (arith, less, equal'.0)))
    second)
    (λ (equal : (a ≡ b) × one). ⊎_elim
    (λ (less' : b < c). inl (omega (arith, equal.0, less')))
    (λ (equal' : (b ≡ c) × two). inr (equal.0 ∙ equal'.0, next equal.1 equal'.1))
    second)
    first

lex_not : (a : ℕ) (then : Type 0) → Lex a a then → (then → ⊥) → ⊥
lex_not a then is none = ⊎_elim (λ (less : a < a). omega (arith, less)) (λ (equal : (a ≡ a) × then). none equal.1) is

-- one of two is less, or what follows tells which
pub lex_or : (a b : ℕ) (one other : Type 0) → one ⊎ other → ((a < b) ⊎ ((a ≡ b) × one)) ⊎ ((b < a) ⊎ ((b ≡ a) × other))
lex_or a b one other rest = ⊎_elim
    (λ (less : a < b). inl (inl less))
    (λ (ge : b ≤ a). ⊎_elim
    (λ (more : b < a). inr (inl more))
    (λ (le : a ≤ b).
    let e : a ≡ b = omega (arith, le, ge) in
    ⊎_elim (λ (x : one). inl (inr (e, x))) (λ (y : other). inr (inr (sym e, y))) rest)
    (cases_lt b a))
    (cases_lt a b)

-- the test tells it
sounder_is : (f g : Found) → is_sounder f g ≡ true → IsSounder f g
sounder_is f g is = lex_is f.counts.damaged g.counts.damaged (nat_lt f.place g.place) (f.place < g.place) is (λ less. ltb-true _ _ less)

firmer_is : (f g : Found) → is_firmer f g ≡ true → IsFirmer f g
firmer_is f g is = lex_is (lost_blocks f) (lost_blocks g) (is_sounder f g) (IsSounder f g) is (sounder_is f g)

pub before_is : (f g : Found) → is_before f g ≡ true → IsBefore f g
before_is f g is = lex_is g.counts.whole f.counts.whole (is_firmer f g) (IsFirmer f g) is (firmer_is f g)

sounder_tested : (f g : Found) → IsSounder f g → is_sounder f g ≡ true
sounder_tested f g is = lex_tested f.counts.damaged g.counts.damaged (nat_lt f.place g.place) (f.place < g.place) is (λ less. lt-ltb _ _ less)

firmer_tested : (f g : Found) → IsFirmer f g → is_firmer f g ≡ true
firmer_tested f g is = lex_tested (lost_blocks f) (lost_blocks g) (is_sounder f g) (IsSounder f g) is (sounder_tested f g)

pub is_tested : (f g : Found) → IsBefore f g → is_before f g ≡ true
is_tested f g is = lex_tested g.counts.whole f.counts.whole (is_firmer f g) (IsFirmer f g) is (firmer_tested f g)

-- it goes on
sounder_then : (f g h : Found) → IsSounder f g → IsSounder g h → IsSounder f h
sounder_then f g h one two = lex_then f.counts.damaged g.counts.damaged h.counts.damaged (f.place < g.place) (g.place < h.place) (f.place < h.place) one two (λ less less'. omega (arith, less, less'))

firmer_then : (f g h : Found) → IsFirmer f g → IsFirmer g h → IsFirmer f h
firmer_then f g h one two = lex_then (lost_blocks f) (lost_blocks g) (lost_blocks h) (IsSounder f g) (IsSounder g h) (IsSounder f h) one two (sounder_then f g h)

pub before_then : (f g h : Found) → is_before f g ≡ true → is_before g h ≡ true → is_before f h ≡ true
before_then f g h one two = is_tested f h (lex_then h.counts.whole g.counts.whole f.counts.whole (IsFirmer g h) (IsFirmer f g) (IsFirmer f h) (before_is g h two) (before_is f g one) (λ later first. firmer_then f g h first later))

-- none is before itself
pub not_itself : (f : Found) → is_before f f ≡ true → ⊥
not_itself f is =
    lex_not f.counts.whole (IsFirmer f f) (before_is f f is)
    (λ firmer. lex_not (lost_blocks f) (IsSounder f f) firmer
    (λ sounder. lex_not f.counts.damaged (f.place < f.place) sounder (λ less. omega (arith, less))))

-- of two of other places one comes before the other
pub before_or : (f g : Found) → f.place < g.place → IsBefore f g ⊎ IsBefore g f
before_or f g less =
    lex_or g.counts.whole f.counts.whole (IsFirmer f g) (IsFirmer g f)
    (lex_or (lost_blocks f) (lost_blocks g) (IsSounder f g) (IsSounder g f)
    (lex_or f.counts.damaged g.counts.damaged (f.place < g.place) (g.place < f.place) (inl less)))

-- the first so far
abbrev pub FirstTo : List Found → ℕ → Option Found → Option Found → Type 0
FirstTo list n after (Some f) = (is_behind after f ≡ true) × ((d : Found) → (k : ℕ) × (k < n) × (slice_index_or list k d ≡ f)) × ((d : Found) (k : ℕ) → k < n → is_behind after (slice_index_or list k d) ≡ true → is_before (slice_index_or list k d) f ≡ true → ⊥)
FirstTo list n after None = (d : Found) (k : ℕ) → k < n → is_behind after (slice_index_or list k d) ≡ true → ⊥

module _ (list : List Found) (after : Option Found) where
  pub first_none : FirstTo list 0 after None
  first_none d k low = absurd (omega (arith, low))

  last_is : (f : Found) (n k : ℕ) (d : Found) → ((d : Found) → slice_index_or list n d ≡ f) → n ≤ k → k < n + 1 → slice_index_or list k d ≡ f
  last_is f n k d is low high = let e : k ≡ n = omega (arith, low, high) in ap (λ (i : ℕ). slice_index_or list i d) e ∙ is d

  -- one that doesn't come behind
  pub first_stays : (n : ℕ) (f : Found) (best next : Option Found) → ((d : Found) → slice_index_or list n d ≡ f) → is_behind after f ≡ false → next ≡ best → FirstTo list n after best → FirstTo list (n + 1) after next
  first_stays n f best next is not same was = subst (λ (o : Option Found). FirstTo list (n + 1) after o) (sym same) (by_best best was) where
    other : (d : Found) (k : ℕ) → n ≤ k → k < n + 1 → is_behind after (slice_index_or list k d) ≡ true → ⊥
    other d k low high behind = both_ways (is_behind after f) not (ap (λ (x : Found). is_behind after x) (sym (last_is f n k d is low high)) ∙ behind)

    by_best : (best : Option Found) → FirstTo list n after best → FirstTo list (n + 1) after best
    by_best None was = λ d k low behind. ⊎_elim (λ (below : k < n). was d k below behind) (λ (above : n ≤ k). other d k above low behind) (cases_lt k n)
    by_best (Some b) was = (was.0, λ d. let w = was.1 d in (w.0, omega (arith, w.1), w.2), λ d k low behind before. ⊎_elim (λ (below : k < n). was.2 d k below behind before) (λ (above : n ≤ k). other d k above low behind) (cases_lt k n))

  -- one that does
  new_first : (n : ℕ) (f : Found) → ((d : Found) → slice_index_or list n d ≡ f) → is_behind after f ≡ true → ((d : Found) (k : ℕ) → k < n → is_behind after (slice_index_or list k d) ≡ true → is_before (slice_index_or list k d) f ≡ true → ⊥) → FirstTo list (n + 1) after (Some f)
  new_first n f is behind none = (
    behind,
    λ d. (n, omega arith, is d),
    λ d k low behind' before. ⊎_elim
        (λ (below : k < n). none d k below behind' before)
        (λ (above : n ≤ k). not_itself f (ap (λ (x : Found). is_before x f) (sym (last_is f n k d is above low)) ∙ before))
        (cases_lt k n),
  )

  pub first_better : (n : ℕ) (f : Found) (best next : Option Found) → ((d : Found) → slice_index_or list n d ≡ f) → is_behind after f ≡ true → Better best f next → FirstTo list n after best → FirstTo list (n + 1) after next
  first_better n f None next is behind same was = subst (λ (o : Option Found). FirstTo list (n + 1) after o) (sym same) (new_first n f is behind (λ d k low behind' before. was d k low behind'))
  first_better n f (Some b) next is behind better was = ⊎_elim
      (λ (new : (is_before f b ≡ true) × (next ≡ Some f)). subst (λ (o : Option Found). FirstTo list (n + 1) after o) (sym new.1) (new_first n f is behind (λ d k low behind' before. was.2 d k low behind' (before_then (slice_index_or list k d) f b before new.0))))
      (λ (old : (is_before f b ≡ false) × (next ≡ Some b)). subst (λ (o : Option Found). FirstTo list (n + 1) after o) (sym old.1) (
        was.0,
        λ d. let w = was.1 d in (w.0, omega (arith, w.1), w.2),
        λ d k low behind' before. ⊎_elim
            (λ (below : k < n). was.2 d k below behind' before)
            (λ (above : n ≤ k). both_ways (is_before f b) old.0 (ap (λ (x : Found). is_before x b) (sym (last_is f n k d is above low)) ∙ before))
            (cases_lt k n),
      ))
      better

  -- all were looked at
  pub first_all : (n : ℕ) (best : Option Found) → n ≡ length list → FirstTo list n after best → FirstBehind list after best
  first_all n None all was = λ d k low. was d k (omega (arith, low, all))
  first_all n (Some f) all was = (was.0, λ d. let w = was.1 d in (w.0, omega (arith, w.1, all), w.2), λ d k low. was.2 d k (omega (arith, low, all)))
