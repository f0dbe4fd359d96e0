-- What one file does to the records.
use Rattle.std.proofs.Common.{◌≡◌, ◌≢◌, ℕ, zero, suc, ◌+◌, ◌<◌, ◌≤◌, List, [], ◌∷◌, Bool, true, false, not, nat_eq, Option, Some, None, Result, Ok, Err, ap, refl, sym, ◌∙◌, arith, ⊎_elim, subst}
use Rattle.std.proofs.Math.Path.{fun_ext}
use Rattle.std.specs.List.{range_with_len, filter_map, list_any, cons_option, AllByRecursion, All}
use Rattle.std.specs.Cmp.Lexicographic.{pointwise}
use Rattle.std.proofs.lemmas.List.Elements.{recursion_from_All}
use Rattle.std.proofs.lemmas.Bool.{cases_lt, cases_eq, cases_Bool, eq-eqb, eqb-true, ne_eqb, lt-ltb, le-ltb, and_right, and_parts, or_parts, false_from_ne_true}
use Rattle.std.proofs.lemmas.Option.{none-some, same_Some}
use Rattle.image_model.specs.declared.damage.Damage.{Damage}
use Rattle.table_model.specs.Table.{File, put_file, drop_file}
use Rattle.image_model.specs.Tables.{Found, counts, counted, records, is_before, damage, damages, ids}

pub bytes_same : (xs ys : List ℕ) → pointwise nat_eq xs ys ≡ true → xs ≡ ys
bytes_same [] [] h = refl
bytes_same [] (y ∷ ys) h = cc
bytes_same (x ∷ xs) [] h = cc
bytes_same (x ∷ xs) (y ∷ ys) h = let w = and_parts _ _ h in let e = eqb-true x y w.0 in let t = bytes_same xs ys w.1 in cc

pub bytes_equal : (xs : List ℕ) → pointwise nat_eq xs xs ≡ true
bytes_equal [] = refl
bytes_equal (x ∷ xs) = rw (eq-eqb x x refl) (bytes_equal xs)

pub bytes_differ : (xs ys : List ℕ) → xs ≢ ys → pointwise nat_eq xs ys ≡ false
bytes_differ xs ys h = false_from_ne_true _ (λ e. h (bytes_same xs ys e))

-- the records of ids from a on
pub from : Found → ℕ → ℕ → ℕ → List File
from has m a n = filter_map (λ (id : ℕ). counted has m (has id)) (range_with_len a n)

-- each record goes by its id
abbrev pub IsKeyed : Found → Type 0
IsKeyed has = (id q : ℕ) (f : File) → has id ≡ Some (q, Ok f) → f.id ≡ id

pub counted-some : (has : Found) (m : ℕ) (o : Option (ℕ × Result File Damage)) (x : File) → counted has m o ≡ Some x → (q : ℕ) × (o ≡ Some (q, Ok x))
counted-some has m None x h = absurd (none-some x h)
counted-some has m (Some (q, Err e)) x h = absurd (none-some x h)
counted-some has m (Some (q, Ok f)) x h = (q, grind (arith, h))

pub counted-keyed : (has : Found) (m : ℕ) → IsKeyed has → (id : ℕ) (x : File) → counted has m (has id) ≡ Some x → x.id ≡ id
counted-keyed has m keyed id x h = let w = counted-some has m (has id) x h in keyed id w.0 x w.1

pub counted-same : (has now : Found) (m : ℕ) (o : Option (ℕ × Result File Damage)) →
    ((q : ℕ) (f : File) → o ≡ Some (q, Ok f) → counts now m q f.name ≡ counts has m q f.name) → counted now m o ≡ counted has m o
counted-same has now m None h = refl
counted-same has now m (Some (q, Err e)) h = refl
counted-same has now m (Some (q, Ok f)) h = rw (h q f refl) refl

list_any-none : (test : ℕ → Bool) (xs : List ℕ) → ((q : ℕ) → test q ≡ false) → list_any test xs ≡ false
list_any-none test [] h = refl
list_any-none test (x ∷ xs) h = rw (h x) (list_any-none test xs h)

is_before-other : (o : Option (ℕ × Result File Damage)) (q : ℕ) (name : List ℕ) →
    ((p : ℕ) (f : File) → o ≡ Some (p, Ok f) → pointwise nat_eq f.name name ≡ false) → is_before o q name ≡ false
is_before-other None q name h = refl
is_before-other (Some (p, Err e)) q name h = refl
is_before-other (Some (p, Ok f)) q name h = rw (h p f refl) (and_right _ _ refl)

-- put_file puts it before a greater id, in the place of the same one, and behind a smaller one
put_file-before : (f : File) (o : Option File) (xs : List File) → ((x : File) → o ≡ Some x → f.id < x.id) → put_file f xs ≡ f ∷ xs → put_file f (cons_option o xs) ≡ f ∷ cons_option o xs
put_file-before f None xs more h = h
put_file-before f (Some x) xs more h = rw (lt-ltb f.id x.id (more x refl)) refl

put_file-at : (f : File) (o : Option File) (xs : List File) → ((x : File) → o ≡ Some x → x.id ≡ f.id) → put_file f xs ≡ f ∷ xs → put_file f (cons_option o xs) ≡ f ∷ xs
put_file-at f None xs same h = h
put_file-at f (Some x) xs same h = let e = same x refl in rw (le-ltb f.id x.id (omega (arith, e))) (rw (eq-eqb f.id x.id (sym e)) refl)

put_file-behind : (f : File) (o : Option File) (xs : List File) → ((x : File) → o ≡ Some x → x.id < f.id) → put_file f (cons_option o xs) ≡ cons_option o (put_file f xs)
put_file-behind f None xs less = refl
put_file-behind f (Some x) xs less = let e = less x refl in rw (le-ltb f.id x.id (omega (arith, e))) (rw (ne_eqb f.id x.id (λ q. omega (arith, e, q))) refl)

put_file-front : (has : Found) (m : ℕ) → IsKeyed has → (f : File) (a n : ℕ) → f.id < a → put_file f (from has m a n) ≡ f ∷ from has m a n
unfolding from
put_file-front has m keyed f a zero h = refl
put_file-front has m keyed f a (suc n) h =
    put_file-before f (counted has m (has a)) _ (λ x e. let key = counted-keyed has m keyed a x e in omega arith)
    (put_file-front has m keyed f (a + 1) n (omega arith))

-- id k has file f now; its name and the one that it had are no other file's
module _ (has now : Found) (m : ℕ) (keyed : IsKeyed has) (k p : ℕ) (f : File) (at : f.id ≡ k)
    (new : now k ≡ Some (p, Ok f)) (same : (j : ℕ) → j ≢ k → now j ≡ has j)
    (apart : (j q : ℕ) (h : File) → j ≢ k → has j ≡ Some (q, Ok h) → f.name ≢ h.name)
    (was_apart : (j q r : ℕ) (h e : File) → j ≢ k → has j ≡ Some (q, Ok h) → has k ≡ Some (r, Ok e) → e.name ≢ h.name) where
  pub counts-kept : (j q : ℕ) (h : File) → j ≢ k → has j ≡ Some (q, Ok h) → counts now m q h.name ≡ counts has m q h.name
  unfolding counts
  counts-kept j q h other e =
      ap (λ (test : ℕ → Bool). not (list_any test (ids m)))
      (fun_ext (λ (i : ℕ). ⊎_elim
      (λ (here : i ≡ k).
      let before : is_before (now i) q h.name ≡ false = rw here (rw new (rw (bytes_differ f.name h.name (apart j q h other e)) (and_right _ _ refl))) in
      let was : is_before (has i) q h.name ≡ false = rw here (is_before-other (has k) q h.name (λ r x w. bytes_differ x.name h.name (was_apart j q r h x other e w))) in
      before ∙ sym was)
      (λ (there : i ≡ k → ⊥). rw (same i there) refl)
      (cases_eq i k)))

  pub counted-kept : (j : ℕ) → j ≢ k → counted now m (now j) ≡ counted has m (has j)
  counted-kept j there = rw (same j there) (counted-same has now m (has j) (λ q h e. counts-kept j q h there e))

  pub counts-new : counts now m p f.name ≡ true
  unfolding counts
  counts-new =
      rw (list_any-none (λ (j : ℕ). is_before (now j) p f.name) (ids m)
      (λ (j : ℕ). ⊎_elim
      (λ (here : j ≡ k). rw here (rw new (rw (le-ltb p p (omega arith)) refl)))
      (λ (there : j ≡ k → ⊥). rw (same j there) (is_before-other (has j) p f.name (λ q h e. bytes_differ h.name f.name (λ x. apart j q h there e (sym x)))))
      (cases_eq j k)))
      refl

  pub counted-new : counted now m (now k) ≡ Some f
  counted-new = rw new (rw counts-new refl)

  from-above : (a n : ℕ) → k < a → from now m a n ≡ from has m a n
  unfolding from
  from-above a zero h = refl
  from-above a (suc n) h = rw (counted-kept a (λ e. omega (arith, e))) (ap (λ (xs : List File). cons_option (counted has m (has a)) xs) (from-above (a + 1) n (omega arith)))

  from-put : (a n : ℕ) → a ≤ k → k < a + n → from now m a n ≡ put_file f (from has m a n)
  unfolding from
  from-put a zero low high = absurd (omega arith)
  from-put a (suc n) low high =
      ⊎_elim
      (λ (here : a ≡ k).
      let come : counted now m (now a) ≡ Some f = rw here counted-new in
      rw come (ap (λ (xs : List File). f ∷ xs) (from-above (a + 1) n (omega (arith, here)))
      ∙ sym (put_file-at f (counted has m (has a)) (from has m (a + 1) n) (λ x e. counted-keyed has m keyed a x e ∙ here ∙ sym at)
      (put_file-front has m keyed f (a + 1) n (omega (arith, here))))))
      (λ (there : a ≡ k → ⊥).
      rw (counted-kept a there)
      (ap (λ (xs : List File). cons_option (counted has m (has a)) xs) (from-put (a + 1) n (omega (arith, there)) (omega arith))
      ∙ sym (put_file-behind f (counted has m (has a)) (from has m (a + 1) n) (λ x e. let key = counted-keyed has m keyed a x e in omega (arith, there)))))
      (cases_eq a k)

  pub records-put : 1 ≤ k → k ≤ m → records now m ≡ put_file f (records has m)
  unfolding records from
  records-put low high = from-put 1 m low (omega arith)

-- ---- a file less

drop-at : (k : ℕ) (o : Option File) (xs : List File) → ((x : File) → o ≡ Some x → x.id ≡ k) → drop_file k (cons_option o xs) ≡ drop_file k xs
drop-at k None xs same = refl
drop-at k (Some x) xs same = rw (eq-eqb x.id k (same x refl)) refl

drop-other : (k : ℕ) (o : Option File) (xs : List File) → ((x : File) → o ≡ Some x → x.id ≢ k) → drop_file k (cons_option o xs) ≡ cons_option o (drop_file k xs)
drop-other k None xs differ = refl
drop-other k (Some x) xs differ = rw (ne_eqb x.id k (differ x refl)) refl

module _ (has now : Found) (m : ℕ) (keyed : IsKeyed has) (k : ℕ) (new : now k ≡ None) (same : (j : ℕ) → j ≢ k → now j ≡ has j)
    (was_apart : (j q r : ℕ) (h e : File) → j ≢ k → has j ≡ Some (q, Ok h) → has k ≡ Some (r, Ok e) → e.name ≢ h.name) where
  pub counts-left : (j q : ℕ) (h : File) → j ≢ k → has j ≡ Some (q, Ok h) → counts now m q h.name ≡ counts has m q h.name
  unfolding counts
  counts-left j q h other e =
      ap (λ (test : ℕ → Bool). not (list_any test (ids m)))
      (fun_ext (λ (i : ℕ). ⊎_elim
      (λ (here : i ≡ k).
      let before : is_before (now i) q h.name ≡ false = rw here (rw new refl) in
      let was : is_before (has i) q h.name ≡ false = rw here (is_before-other (has k) q h.name (λ r x w. bytes_differ x.name h.name (was_apart j q r h x other e w))) in
      before ∙ sym was)
      (λ (there : i ≡ k → ⊥). rw (same i there) refl)
      (cases_eq i k)))

  pub counted-left : (j : ℕ) → j ≢ k → counted now m (now j) ≡ counted has m (has j)
  counted-left j there = rw (same j there) (counted-same has now m (has j) (λ q h e. counts-left j q h there e))

  from-drop : (a n : ℕ) → from now m a n ≡ drop_file k (from has m a n)
  unfolding from
  from-drop a zero = refl
  from-drop a (suc n) =
      ⊎_elim
      (λ (here : a ≡ k).
      let gone : counted now m (now a) ≡ None = rw here (rw new refl) in
      rw gone (from-drop (a + 1) n ∙ sym (drop-at k (counted has m (has a)) (from has m (a + 1) n) (λ x e. counted-keyed has m keyed a x e ∙ here))))
      (λ (there : a ≡ k → ⊥).
      rw (counted-left a there)
      (ap (λ (xs : List File). cons_option (counted has m (has a)) xs) (from-drop (a + 1) n)
      ∙ sym (drop-other k (counted has m (has a)) (from has m (a + 1) n) (λ x e w. there (sym (counted-keyed has m keyed a x e) ∙ w)))))
      (cases_eq a k)

  pub records-drop : records now m ≡ drop_file k (records has m)
  unfolding records from
  records-drop = from-drop 1 m

-- ---- where nothing is damaged, each whole file is in the table

pub filter_map-nil : {Y : Type 0} (h : ℕ → Option Y) (a n : ℕ) → filter_map h (range_with_len a n) ≡ [] → (j : ℕ) → a ≤ j → j < a + n → h j ≡ None
filter_map-nil h a zero e j low high = absurd (omega arith)
filter_map-nil {Y} h a (suc n) e j low high =
    let parts : (o : Option Y) → cons_option o (filter_map h (range_with_len (a + 1) n)) ≡ [] → (o ≡ None) × (filter_map h (range_with_len (a + 1) n) ≡ []) =
    λ o k. elim o as (λ (v : Option Y). cons_option v (filter_map h (range_with_len (a + 1) n)) ≡ [] → (v ≡ None) × (filter_map h (range_with_len (a + 1) n) ≡ []))
    [ None ↦ λ w. (refl, w) | Some x ↦ λ w. cc ] k in
    let w = parts (h a) e in
    ⊎_elim
    (λ (here : a ≡ j). rw here at w.0)
    (λ (there : a ≡ j → ⊥). filter_map-nil h (a + 1) n w.1 j (omega (arith, there)) (omega arith))
    (cases_eq a j)

all-cons : {Y : Type 0} (P : Y → Type 0) (o : Option Y) (xs : List Y) → AllByRecursion P (cons_option o xs) → ((y : Y) → o ≡ Some y → P y) × AllByRecursion P xs
all-cons P None xs all = (λ y e. absurd (none-some y e), all)
all-cons P (Some x) xs all = (λ y e. subst P (same_Some x y e) all.0, all.1)

filter_map-has : {Y : Type 0} (P : Y → Type 0) (h : ℕ → Option Y) (a n : ℕ) → AllByRecursion P (filter_map h (range_with_len a n)) →
    (j : ℕ) → a ≤ j → j < a + n → (y : Y) → h j ≡ Some y → P y
filter_map-has P h a zero all j low high y e = absurd (omega arith)
filter_map-has P h a (suc n) all j low high y e =
    let w = all-cons P (h a) (filter_map h (range_with_len (a + 1) n)) all in
    ⊎_elim
    (λ (here : a ≡ j). w.0 y (rw here e))
    (λ (there : a ≡ j → ⊥). filter_map-has P h (a + 1) n w.1 j (omega (arith, there)) (omega arith) y e)
    (cases_eq a j)

pub counts_from_quiet : (has : Found) (m j q : ℕ) (f : File) → damage has m j (Some (q, Ok f)) ≡ None → counts has m q f.name ≡ true
counts_from_quiet has m j q f h =
    ⊎_elim
    (λ (yes : counts has m q f.name ≡ true). yes)
    (λ (no : counts has m q f.name ≡ false). absurd (none-some _ (sym (rw no at h))))
    (cases_Bool (counts has m q f.name))

-- where nothing is damaged, what holds of each record holds of each whole file
pub whole-in_table : (P : File → Type 0) (has : Found) (m : ℕ) → damages has m ≡ [] → All P (records has m) →
    (j q : ℕ) (f : File) → 1 ≤ j → j ≤ m → has j ≡ Some (q, Ok f) → P f
unfolding damages records
whole-in_table P has m none all j q f low high e =
    let quiet : damage has m j (has j) ≡ None = filter_map-nil (λ (id : ℕ). damage has m id (has id)) 1 m none j low (omega arith) in
    let counting : counts has m q f.name ≡ true = counts_from_quiet has m j q f (rw e at quiet) in
    let record_of : counted has m (has j) ≡ Some f = rw e (rw counting refl) in
    filter_map-has P (λ (id : ℕ). counted has m (has id)) 1 m (recursion_from_All P _ all) j low (omega arith) f record_of

-- where nothing is damaged, whole files have different names
pub list_any-at : (test : ℕ → Bool) (a n : ℕ) → list_any test (range_with_len a n) ≡ false → (j : ℕ) → a ≤ j → j < a + n → test j ≡ false
list_any-at test a zero h j low high = absurd (omega arith)
list_any-at test a (suc n) h j low high =
    let w = or_parts (test a) _ h in
    ⊎_elim
    (λ (here : a ≡ j). rw here at w.0)
    (λ (there : a ≡ j → ⊥). list_any-at test (a + 1) n w.1 j (omega (arith, there)) (omega arith))
    (cases_eq a j)

counts-before : (has : Found) (m q : ℕ) (name : List ℕ) → counts has m q name ≡ true → (j r : ℕ) (h : File) → 1 ≤ j → j ≤ m → has j ≡ Some (r, Ok h) → h.name ≡ name → r < q → ⊥
unfolding counts
counts-before has m q name c j r h low high e same less =
    let none : list_any (λ (id : ℕ). is_before (has id) q name) (ids m) ≡ false = grind (arith, c) in
    let no : is_before (has j) q name ≡ false = list_any-at (λ (id : ℕ). is_before (has id) q name) 1 m none j low (omega arith) in
    let yes : is_before (has j) q name ≡ true = rw e (rw (lt-ltb r q less) (rw same (bytes_equal name))) in
    cc

pub whole-counts : (has : Found) (m : ℕ) → damages has m ≡ [] → (j q : ℕ) (f : File) → 1 ≤ j → j ≤ m → has j ≡ Some (q, Ok f) → counts has m q f.name ≡ true
unfolding damages
whole-counts has m none j q f low high e =
    let quiet : damage has m j (has j) ≡ None = filter_map-nil (λ (id : ℕ). damage has m id (has id)) 1 m none j low (omega arith) in
    counts_from_quiet has m j q f (rw e at quiet)

pub names-apart : (has : Found) (m : ℕ) → damages has m ≡ [] → (j k q r : ℕ) (f h : File) → 1 ≤ j → j ≤ m → 1 ≤ k → k ≤ m →
    has j ≡ Some (q, Ok f) → has k ≡ Some (r, Ok h) → (q ≡ r → ⊥) → f.name ≢ h.name
names-apart has m none j k q r f h low high low' high' e e' differ same =
    ⊎_elim
    (λ (x : q < r). counts-before has m r h.name (whole-counts has m none k r h low' high' e') j q f low high e same x)
    (λ (x : r ≤ q). counts-before has m q f.name (whole-counts has m none j q f low high e) k r h low' high' e' (sym same) (omega (arith, differ)))
    (cases_lt q r)
