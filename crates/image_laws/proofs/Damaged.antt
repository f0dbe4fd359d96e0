-- Damaged ids do not matter to the records.
use Rattle.std.proofs.Common.{◌≡◌, ◌≢◌, ℕ, zero, suc, ◌+◌, ◌<◌, ◌≤◌, List, Bool, true, false, not, Option, Some, None, Result, Ok, Err, ap, refl, sym, ◌∙◌, arith, ⊎_elim}
use Rattle.std.proofs.Math.Path.{fun_ext}
use Rattle.std.specs.List.{range_with_len, filter_map, list_any}
use Rattle.std.proofs.lemmas.Bool.{cases_eq, cases_Bool, and_parts, ltb-true, lt-ltb, or_right, or_cases}
use Rattle.std.proofs.lemmas.Option.{some_pair_parts}
use Rattle.image_model.specs.declared.damage.Damage.{Damage}
use Rattle.table_model.specs.Table.{File}
use Rattle.image_model.specs.Tables.{Found, counts, counted, is_before, records, ids}
use Rattle.image_laws.proofs.Records.{bytes_same, bytes_equal}

-- the whole file of an id, if it has one
abbrev pub whole_of : Option (ℕ × Result File Damage) → Option (ℕ × File)
whole_of None = None
whole_of (Some (p, Err e)) = None
whole_of (Some (p, Ok f)) = Some (p, f)

is_before-whole : (o o' : Option (ℕ × Result File Damage)) (q : ℕ) (name : List ℕ) → whole_of o' ≡ whole_of o → is_before o' q name ≡ is_before o q name
is_before-whole None None q name e = refl
is_before-whole None (Some (p, Err x)) q name e = refl
is_before-whole None (Some (p, Ok f)) q name e = cc
is_before-whole (Some (p, Err x)) None q name e = refl
is_before-whole (Some (p, Err x)) (Some (r, Err y)) q name e = refl
is_before-whole (Some (p, Err x)) (Some (r, Ok f)) q name e = cc
is_before-whole (Some (p, Ok f)) None q name e = cc
is_before-whole (Some (p, Ok f)) (Some (r, Err x)) q name e = cc
is_before-whole (Some (p, Ok f)) (Some (r, Ok h)) q name e = let w = some_pair_parts r p h f e in rw (w.0, w.1) refl

pub counts-whole : (has now : Found) (m : ℕ) → ((j : ℕ) → whole_of (now j) ≡ whole_of (has j)) → (q : ℕ) (name : List ℕ) → counts now m q name ≡ counts has m q name
unfolding counts
counts-whole has now m same q name =
    ap (λ (test : ℕ → Bool). not (list_any test (ids m))) (fun_ext (λ (j : ℕ). is_before-whole (has j) (now j) q name (same j)))

pub counted-whole : (has now : Found) (m : ℕ) → ((q : ℕ) (name : List ℕ) → counts now m q name ≡ counts has m q name) → (o o' : Option (ℕ × Result File Damage)) → whole_of o' ≡ whole_of o → counted now m o' ≡ counted has m o
counted-whole has now m c None None e = refl
counted-whole has now m c None (Some (p, Err x)) e = refl
counted-whole has now m c None (Some (p, Ok f)) e = cc
counted-whole has now m c (Some (p, Err x)) None e = refl
counted-whole has now m c (Some (p, Err x)) (Some (r, Err y)) e = refl
counted-whole has now m c (Some (p, Err x)) (Some (r, Ok f)) e = cc
counted-whole has now m c (Some (p, Ok f)) None e = cc
counted-whole has now m c (Some (p, Ok f)) (Some (r, Err x)) e = cc
counted-whole has now m c (Some (p, Ok f)) (Some (r, Ok h)) e = let w = some_pair_parts r p h f e in rw (w.0, w.1, c p f.name) refl

-- the records depend on the whole files alone, so killing what is damaged and not whole keeps them
pub records-whole : (has now : Found) (m : ℕ) → ((j : ℕ) → whole_of (now j) ≡ whole_of (has j)) → records now m ≡ records has m
unfolding records
records-whole has now m same =
    ap (λ (f : ℕ → Option File). filter_map f (ids m))
    (fun_ext (λ (j : ℕ). counted-whole has now m (counts-whole has now m same) (has j) (now j) (same j)))

-- ---- a whole file that another one with its name hides

pub any_from : (test : ℕ → Bool) (a n j : ℕ) → a ≤ j → j < a + n → test j ≡ true → list_any test (range_with_len a n) ≡ true
any_from test a zero j low high h = absurd (omega arith)
any_from test a (suc n) j low high h =
    ⊎_elim
    (λ (here : a ≡ j). let first : test a ≡ true = rw here h in rw first refl)
    (λ (there : a ≡ j → ⊥). or_right (test a) _ (any_from test (a + 1) n j (omega (arith, there)) (omega arith) h))
    (cases_eq a j)

pub any_at : (test : ℕ → Bool) (a n : ℕ) → list_any test (range_with_len a n) ≡ true → (j : ℕ) × (a ≤ j) × (j < a + n) × (test j ≡ true)
any_at test a zero h = cc
any_at test a (suc n) h =
    ⊎_elim
    (λ (first : test a ≡ true). (a, omega arith, omega arith, first))
    (λ (later : list_any test (range_with_len (a + 1) n) ≡ true). let w = any_at test (a + 1) n later in (w.0, omega (arith, w.1), omega (arith, w.2), w.3))
    (or_cases (test a) _ h)

pub same_truth : (x y : Bool) → (x ≡ true → y ≡ true) → (y ≡ true → x ≡ true) → x ≡ y
same_truth true y f h = sym (f refl)
same_truth false true f h = h refl
same_truth false false f h = refl

-- k is gone, which w hid: it has the same name, and its header page stands in front
module _ (has now : Found) (m k w p r : ℕ) (f e : File) (was : has k ≡ Some (p, Ok f)) (gone : now k ≡ None) (same : (j : ℕ) → j ≢ k → now j ≡ has j)
    (winner : has w ≡ Some (r, Ok e)) (other : w ≢ k) (low : 1 ≤ w) (high : w ≤ m) (name : e.name ≡ f.name) (before : r < p) where
  hidden-by : (q : ℕ) (n : List ℕ) → is_before (has k) q n ≡ true → is_before (now w) q n ≡ true
  hidden-by q n h =
      let parts = and_parts _ _ (rw was at h) in
      let less : p < q = ltb-true p q parts.0 in
      let named : f.name ≡ n = bytes_same f.name n parts.1 in
      rw (same w other) (rw winner (rw (lt-ltb r q (omega arith)) (rw (name, named) (bytes_equal n))))

  pub counts-hidden : (q : ℕ) (n : List ℕ) → counts now m q n ≡ counts has m q n
  unfolding counts
  counts-hidden q n =
      ap not (same_truth _ _
      (λ some. let j = any_at (λ (i : ℕ). is_before (now i) q n) 1 m some in
      any_from (λ (i : ℕ). is_before (has i) q n) 1 m j.0 j.1 j.2
      (⊎_elim
      (λ (here : j.0 ≡ k). let none : is_before (now j.0) q n ≡ false = rw here (rw gone refl) in let yes = j.3 in cc)
      (λ (there : j.0 ≡ k → ⊥). rw (sym (same j.0 there)) j.3)
      (cases_eq j.0 k)))
      (λ some. let j = any_at (λ (i : ℕ). is_before (has i) q n) 1 m some in
      ⊎_elim
      (λ (here : j.0 ≡ k). any_from (λ (i : ℕ). is_before (now i) q n) 1 m w low (omega arith) (hidden-by q n (rw here at j.3)))
      (λ (there : j.0 ≡ k → ⊥). any_from (λ (i : ℕ). is_before (now i) q n) 1 m j.0 j.1 j.2 (rw (same j.0 there) j.3))
      (cases_eq j.0 k)))

  not_counted : counts has m p f.name ≡ false
  unfolding counts
  not_counted =
      let yes : is_before (has w) p f.name ≡ true = rw winner (rw (lt-ltb r p before) (rw name (bytes_equal f.name))) in
      ap not (any_from (λ (i : ℕ). is_before (has i) p f.name) 1 m w low (omega arith) yes)

  pub records-hidden : records now m ≡ records has m
  unfolding records
  records-hidden =
      ap (λ (h : ℕ → Option File). filter_map h (ids m))
      (fun_ext (λ (j : ℕ). ⊎_elim
      (λ (here : j ≡ k).
      let none : counted now m (now j) ≡ None = rw here (rw gone refl) in
      let hid : counted has m (has j) ≡ None = rw here (rw was (rw not_counted refl)) in
      none ∙ sym hid)
      (λ (there : j ≡ k → ⊥). rw (same j there) (counted-whole has now m counts-hidden (has j) (has j) refl))
      (cases_eq j k)))

-- ---- a whole file that does not count has one in front that does

pub record Winner (has : Found) (m p : ℕ) (name : List ℕ) : Type 0 where
  pub id : ℕ
  pub at : ℕ
  pub file : File
  pub low : 1 ≤ id
  pub high : id ≤ m
  pub is : has id ≡ Some (at, Ok file)
  pub named : file.name ≡ name
  pub before : at < p
  pub counting : counts has m at name ≡ true

seen_before : (o : Option (ℕ × Result File Damage)) (q : ℕ) (name : List ℕ) → is_before o q name ≡ true → (r : ℕ) × (f : File) × (o ≡ Some (r, Ok f)) × (r < q) × (f.name ≡ name)
seen_before None q name h = cc
seen_before (Some (r, Err e)) q name h = cc
seen_before (Some (r, Ok f)) q name h = let w = and_parts _ _ h in (r, f, refl, ltb-true r q w.0, bytes_same f.name name w.1)

not_counts : (has : Found) (m p : ℕ) (name : List ℕ) → counts has m p name ≡ false → list_any (λ (id : ℕ). is_before (has id) p name) (ids m) ≡ true
unfolding counts
not_counts has m p name h = grind (arith, h)

-- n bounds how often one in front is looked for
winner_within : (has : Found) (m n p : ℕ) (name : List ℕ) → p ≤ n → counts has m p name ≡ false → Winner has m p name
winner_within has m zero p name bound h =
    let j = any_at (λ (id : ℕ). is_before (has id) p name) 1 m (not_counts has m p name h) in
    let w = seen_before (has j.0) p name j.3 in absurd (omega (arith, w.3))
winner_within has m (suc n) p name bound h =
    let j = any_at (λ (id : ℕ). is_before (has id) p name) 1 m (not_counts has m p name h) in
    let w = seen_before (has j.0) p name j.3 in
    ⊎_elim
    (λ (wins : counts has m w.0 name ≡ true). record { id = j.0; at = w.0; file = w.1; low = j.1; high = omega (arith, j.2); is = w.2; named = w.4; before = w.3; counting = wins })
    (λ (loses : counts has m w.0 name ≡ false).
    let v = winner_within has m n w.0 name (omega (arith, w.3)) loses in
    record { id = v.id; at = v.at; file = v.file; low = v.low; high = v.high; is = v.is; named = v.named; before = omega (arith, w.3, v.before); counting = v.counting })
    (cases_Bool (counts has m w.0 name))

pub winner : (has : Found) (m p : ℕ) (name : List ℕ) → counts has m p name ≡ false → Winner has m p name
winner has m p name h = winner_within has m p p name (omega arith) h
