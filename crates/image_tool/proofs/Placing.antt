-- Lists into which something is put by its name.
use Rattle.std.proofs.Common.{◌≡◌, ◌≢◌, ℕ, zero, suc, ◌<◌, ⊎_elim, true, false, List, [], ◌∷◌, ◌++◌, length, get_or, set, refl, sym, ap, arith}
use Rattle.std.specs.Cmp.Lexicographic.{same_text as text_is}
use Rattle.std.proofs.lemmas.Bool.{cases_Bool, both_ways}
use Rattle.table_model.specs.Table.{same_text}
use Rattle.image_laws.proofs.Records.{bytes_equal}
use Rattle.image_tool.specs.Putting.{put_named, put_all}

other_text : (a b : List ℕ) → a ≢ b → same_text a b ≡ false
other_text a b apart = ⊎_elim
    (λ (same : same_text a b ≡ true). absurd (apart (text_is a b (sym same))))
    (λ (other : same_text a b ≡ false). other)
    (cases_Bool (same_text a b))

equal_text : (a b : List ℕ) → a ≡ b → same_text a b ≡ true
equal_text a b same = rw same (bytes_equal b)

-- what stands at a place is the first of a name
pub record FirstAt {X : Type 0} (name : X → List ℕ) (none : X) (n : List ℕ) (i : ℕ) (ys : List X) : Type 0 where
  pub inside : i < length ys
  pub here : name (get_or ys i none) ≡ n
  pub before : (k : ℕ) → k < i → name (get_or ys k none) ≢ n

-- nothing has that name
abbrev pub NoneAt : {X : Type 0} → (X → List ℕ) → X → List ℕ → List X → Type 0
NoneAt name none n ys = (k : ℕ) → k < length ys → name (get_or ys k none) ≢ n

module _ {X : Type 0} (name : X → List ℕ) (none : X) where
  first_behind : (n : List ℕ) (i : ℕ) (y : X) (ys : List X) → FirstAt name none n (suc i) (y ∷ ys) → FirstAt name none n i ys
  first_behind n i y ys f = record { inside = omega (arith, f.inside); here = f.here; before = λ k below. f.before (suc k) (omega (arith, below)) }

  none_behind : (n : List ℕ) (y : X) (ys : List X) → NoneAt name none n (y ∷ ys) → NoneAt name none n ys
  none_behind n y ys free = λ k below. free (suc k) (omega (arith, below))

  -- what is set in the place of the first of its name is put there
  pub set_put : (x : X) (i : ℕ) (ys : List X) → FirstAt name none (name x) i ys → set ys i x ≡ put_named name x ys
  unfolding put_named
  set_put x i [] f = absurd (omega (arith, f.inside))
  set_put x zero (y ∷ ys) f = rw (equal_text (name y) (name x) f.here) refl
  set_put x (suc i) (y ∷ ys) f = rw (other_text (name y) (name x) (f.before 0 (omega arith))) (ap (λ (l : List X). y ∷ l) (set_put x i ys (first_behind (name x) i y ys f)))

  -- what is pushed behind all is put there, where none has its name
  pub push_put : (x : X) (ys : List X) → NoneAt name none (name x) ys → ys ++ x ∷ [] ≡ put_named name x ys
  unfolding put_named
  push_put x [] free = refl
  push_put x (y ∷ ys) free = rw (other_text (name y) (name x) (free 0 (omega arith))) (ap (λ (l : List X). y ∷ l) (push_put x ys (none_behind (name x) y ys free)))

  -- of two things of one name the later one stays
  pub put_twice : (x y : X) (zs : List X) → name y ≡ name x → put_named name x (put_named name y zs) ≡ put_named name x zs
  unfolding put_named
  put_twice x y [] same = rw (equal_text (name y) (name x) same) refl
  put_twice x y (z ∷ zs) same = ⊎_elim
      (λ (is : same_text (name z) (name y) ≡ true).
      let there : same_text (name z) (name x) ≡ true = rw (sym same) is in
      rw (is, there, equal_text (name y) (name x) same) refl)
      (λ (is : same_text (name z) (name y) ≡ false).
      let not_there : same_text (name z) (name x) ≡ false = rw (sym same) is in
      rw (is, not_there) (ap (λ (l : List X). z ∷ l) (put_twice x y zs same)))
      (cases_Bool (same_text (name z) (name y)))

  first_head : (y : X) (i : ℕ) (zs : List X) → FirstAt name none (name y) i (y ∷ zs) → get_or (y ∷ zs) i none ≡ y
  first_head y zero zs f = refl
  first_head y (suc i) zs f = absurd (f.before 0 (omega arith) refl)

  first_tail : (y z : X) (i : ℕ) (zs : List X) → same_text (name z) (name y) ≡ false → ((k : ℕ) → FirstAt name none (name y) k (put_named name y zs) → get_or (put_named name y zs) k none ≡ y) →
      FirstAt name none (name y) i (z ∷ put_named name y zs) → get_or (z ∷ put_named name y zs) i none ≡ y
  first_tail y z zero zs other rest f = absurd (both_ways (same_text (name z) (name y)) other (equal_text (name z) (name y) f.here))
  first_tail y z (suc i) zs other rest f = rest i (first_behind (name y) i z (put_named name y zs) f)

  -- the first of the name of what was put is what was put
  pub first_put : (y : X) (i : ℕ) (zs : List X) → FirstAt name none (name y) i (put_named name y zs) → get_or (put_named name y zs) i none ≡ y
  unfolding put_named
  first_put y i [] f = first_head y i [] f
  first_put y i (z ∷ zs) f = ⊎_elim
      (λ (is : same_text (name z) (name y) ≡ true). rw is (first_head y i zs (rw is at f)))
      (λ (is : same_text (name z) (name y) ≡ false). rw is (first_tail y z i zs is (λ k g. first_put y k zs g) (rw is at f)))
      (cases_Bool (same_text (name z) (name y)))

  -- there is one of that name
  pub put_there : (y : X) (zs : List X) → NoneAt name none (name y) (put_named name y zs) → ⊥
  unfolding put_named
  put_there y [] free = free 0 (omega arith) refl
  put_there y (z ∷ zs) free = ⊎_elim
      (λ (is : same_text (name z) (name y) ≡ true). (rw is at free) 0 (omega arith) refl)
      (λ (is : same_text (name z) (name y) ≡ false). put_there y zs (none_behind (name y) z (put_named name y zs) (rw is at free)))
      (cases_Bool (same_text (name z) (name y)))

  -- a list behind another is put behind it
  pub put_more : (xs more ys : List X) → put_all name (xs ++ more) ys ≡ put_all name more (put_all name xs ys)
  unfolding put_all
  put_more [] more ys = refl
  put_more (x ∷ xs) more ys = put_more xs more (put_named name x ys)
