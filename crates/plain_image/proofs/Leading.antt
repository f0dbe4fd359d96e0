-- The id that counts of a name has the least header page of the whole files of that name.
use Rattle.std.proofs.Common.{◌≡◌, ℕ, zero, suc, ◌+◌, ◌&&◌, ◌<◌, ◌≤◌, ◌++◌, length, get_or, not, nat_lt, ⊎_elim, inl, inr, Bool, true, false, List, [], ◌∷◌, refl, sym, ◌∙◌, ap, arith, subst, Option, Some, None, if◌then◌else◌}
use Rattle.std.specs.Prelude.{Result, Ok, Err, find, is_some, option_and_then}
use Rattle.std.specs.Option.{option_map}
use Rattle.std.specs.List.{range_with_len, list_any}
use Rattle.std.specs.Cmp.Lexicographic.{same_text as text_is}
use Rattle.std.proofs.lemmas.Bool.{cases_lt, cases_eq, cases_Bool, lt-ltb, le-ltb, eq-eqb}
use Rattle.std.proofs.lemmas.Option.{some_pair_parts}
use Rattle.std.proofs.lemmas.List.{get_or_append_left, get_or_at, length-append}
use Rattle.geometry.specs.declared.geometry.Geometry.{Geometry}
use Rattle.table_model.specs.Table.{File, same_text}
use Rattle.image_model.specs.declared.damage.Damage.{Damage}
use Rattle.geometry.specs.Numbers.{page_count}
use Rattle.image_model.specs.Live.{Live, own}
use Rattle.image_model.specs.Headers.{name_of}
use Rattle.image_model.specs.Files.{index_page, is_index, judged, judged_by, file_of, first_missing, found}
use Rattle.image_model.specs.Tables.{Found, has_of, ids, is_before, counts, counted, is_named, holder}
use Rattle.plain_image.specs.Leading.{file_page, AreFiles, has_name, earlier, IsFirst, Leads}

-- ---- searches over a range

find_first : (t : ℕ → Bool) (a n k : ℕ) → a ≤ k → k < a + n → t k ≡ true → ((i : ℕ) → a ≤ i → i < k → t i ≡ false) → find t (range_with_len a n) ≡ Some k
find_first t a zero k low high here other = absurd (omega arith)
find_first t a (suc n) k low high here other =
    ⊎_elim
    (λ (same : a ≡ k). rw (rw (← same) at here) (ap (λ (x : ℕ). Some x) same))
    (λ (differ : a ≡ k → ⊥). rw (other a (omega arith) (omega (arith, differ))) (find_first t (a + 1) n k (omega (arith, differ)) (omega arith) here (λ i from to. other i (omega arith) to)))
    (cases_eq a k)

pub find_nothing : (t : ℕ → Bool) (a n : ℕ) → ((i : ℕ) → a ≤ i → i < a + n → t i ≡ false) → find t (range_with_len a n) ≡ None
find_nothing t a zero none = refl
find_nothing t a (suc n) none = rw (none a (omega arith) (omega arith)) (find_nothing t (a + 1) n (λ i from to. none i (omega arith) (omega arith)))

pub any_nothing : (t : ℕ → Bool) (a n : ℕ) → ((i : ℕ) → a ≤ i → i < a + n → t i ≡ false) → list_any t (range_with_len a n) ≡ false
any_nothing t a zero none = refl
any_nothing t a (suc n) none = rw (none a (omega arith) (omega arith)) (any_nothing t (a + 1) n (λ i from to. none i (omega arith) (omega arith)))

any_at : (t : ℕ → Bool) (a n j : ℕ) → list_any t (range_with_len a n) ≡ false → a ≤ j → j < a + n → t j ≡ false
any_at t a zero j e low high = absurd (omega arith)
any_at t a (suc n) j e low high =
    ⊎_elim
    (λ (yes' : t a ≡ true). let bad : true ≡ false = rw yes' at e in absurd (cc))
    (λ (no' : t a ≡ false). ⊎_elim
    (λ (x : a ≡ j). rw x at no')
    (λ (x : a ≡ j → ⊥). any_at t (a + 1) n j (rw no' at e) (omega (arith, x)) (omega arith))
    (cases_eq a j))
    (cases_Bool (t a))

find_within : (t : ℕ → Bool) (a n k : ℕ) → find t (range_with_len a n) ≡ Some k → k < a + n
find_within t a zero k e = absurd (cc)
find_within t a (suc n) k e =
    ⊎_elim
    (λ (yes' : t a ≡ true). let same : Some a ≡ Some k = rw yes' at e in let at : a ≡ k = cc in omega (arith, at))
    (λ (no' : t a ≡ false). let less = find_within t (a + 1) n k (rw no' at e) in omega (arith, less))
    (cases_Bool (t a))

-- ---- what an id has

equal_text : (xs : List ℕ) → same_text xs xs ≡ true
equal_text [] = refl
equal_text (x ∷ xs) = rw (eq-eqb x x refl) (equal_text xs)

pub texts : (xs ys : List ℕ) → same_text xs ys ≡ true → xs ≡ ys
texts xs ys e = text_is xs ys (sym e)

not_true : (b : Bool) → not b ≡ true → b ≡ false
not_true true e = absurd (cc)
not_true false e = refl

before_is : (o : Option (ℕ × Result File Damage)) (r p : ℕ) (f : File) (name : List ℕ) → o ≡ Some (r, Ok f) → f.name ≡ name → r < p → is_before o p name ≡ true
before_is o r p f name is named less = rw is (rw (lt-ltb r p less, named) (equal_text name))

before_not : (o : Option (ℕ × Result File Damage)) (r p : ℕ) (f : File) (name : List ℕ) → o ≡ Some (r, Ok f) → p ≤ r → is_before o p name ≡ false
before_not o r p f name is more = rw is (rw (le-ltb r p more) refl)

earlier_is : (o : Option (ℕ × Result File Damage)) (r p : ℕ) (f : File) (name : List ℕ) → o ≡ Some (r, Ok f) → f.name ≡ name → r < p → earlier o p name ≡ Some r
earlier_is o r p f name is named less = rw is (rw (lt-ltb r p less, named, equal_text name) refl)

pub record IsEarlier (o : Option (ℕ × Result File Damage)) (p : ℕ) (name : List ℕ) (q : ℕ) : Type 0 where
  file : File
  is : o ≡ Some (q, Ok file)
  less : q < p
  named : file.name ≡ name

earlier_file : (r p q : ℕ) (f : File) (name : List ℕ) (b c : Bool) → nat_lt r p ≡ b → same_text f.name name ≡ c → (if b && c then Some r else None) ≡ Some q → IsEarlier (Some (r, Ok f)) p name q
earlier_file r p q f name true true less named e =
    let same : r ≡ q = cc in
    record {
      file = f;
      is = rw same refl;
      less = ⊎_elim (λ (x : r < p). omega (arith, same, x)) (λ (x : p ≤ r). let bad : true ≡ false = sym less ∙ le-ltb r p x in absurd (cc)) (cases_lt r p);
      named = texts f.name name named;
    }
earlier_file r p q f name true false less named e = absurd (cc)
earlier_file r p q f name false c less named e = absurd (cc)

earlier_parts : (o : Option (ℕ × Result File Damage)) (p : ℕ) (name : List ℕ) (q : ℕ) → earlier o p name ≡ Some q → IsEarlier o p name q
earlier_parts None p name q e = absurd (cc)
earlier_parts (Some (r, Err x)) p name q e = absurd (cc)
earlier_parts (Some (r, Ok f)) p name q e = earlier_file r p q f name (nat_lt r p) (same_text f.name name) refl refl e

some_if : (b : Bool) (q : ℕ) → is_some (if b then Some q else None) ≡ b
some_if true q = refl
some_if false q = refl

-- a whole file stands before a page where it has an earlier header page
pub earlier_before : (o : Option (ℕ × Result File Damage)) (p : ℕ) (name : List ℕ) → is_some (earlier o p name) ≡ is_before o p name
earlier_before None p name = refl
earlier_before (Some (q, Err e)) p name = refl
earlier_before (Some (q, Ok f)) p name = some_if (nat_lt q p && same_text f.name name) q

-- what isn't before a page isn't before an earlier one
sooner : (o : Option (ℕ × Result File Damage)) (p q : ℕ) (name : List ℕ) → q ≤ p → is_before o p name ≡ false → is_before o q name ≡ false
sooner None p q name low h = refl
sooner (Some (r, Err e)) p q name low h = refl
sooner (Some (r, Ok f)) p q name low h =
    ⊎_elim
    (λ (less : r < q). let other : same_text f.name name ≡ false = rw (lt-ltb r p (omega (arith, less, low))) at h in rw (lt-ltb r q less, other) refl)
    (λ (more : q ≤ r). rw (le-ltb r q more) refl)
    (cases_lt r q)

record IsHolder (has : Found) (n : ℕ) (o : Option (ℕ × Result File Damage)) (name : List ℕ) : Type 0 where
  page : ℕ
  file : File
  is : o ≡ Some (page, Ok file)
  counting : counts has n page name ≡ true
  named : file.name ≡ name

named_if : (f : File) (b : Bool) (name : List ℕ) → is_named (if b then Some f else None) name ≡ true → (b ≡ true) × (f.name ≡ name)
named_if f true name e = (refl, texts f.name name e)
named_if f false name e = absurd (cc)

holder_parts : (has : Found) (n : ℕ) (o : Option (ℕ × Result File Damage)) (name : List ℕ) → is_named (counted has n o) name ≡ true → IsHolder has n o name
holder_parts has n None name e = absurd (cc)
holder_parts has n (Some (q, Err x)) name e = absurd (cc)
holder_parts has n (Some (q, Ok f)) name e =
    let w = named_if f (counts has n q f.name) name e in
    record { page = q; file = f; is = refl; counting = rw w.1 at w.0; named = w.1 }

false_by : (b : Bool) → (b ≡ true → ⊥) → b ≡ false
false_by true h = absurd (h refl)
false_by false h = refl

-- ---- the walk

pub leads_none : (has : Found) (pages : ℕ) (name : List ℕ) → Leads has pages name 1 0 pages
leads_none has pages name = record { none = λ j low high. absurd (omega arith); place = inl (refl, refl) }

pub leads_yes : (has : Found) (pages : ℕ) (name : List ℕ) (id best least q : ℕ) → 1 ≤ id → earlier (has id) least name ≡ Some q → Leads has pages name id best least → Leads has pages name (id + 1) id q
leads_yes has pages name id best least q from e was =
    let w = earlier_parts (has id) least name q e in
    record {
      none = λ j low high. ⊎_elim
          (λ (here : j ≡ id). rw here (before_not (has id) q q w.file name w.is (omega arith)))
          (λ (there : j ≡ id → ⊥). sooner (has j) least q name (omega (arith, w.less)) (was.none j low (omega (arith, there))))
          (cases_eq j id);
      place = inr (record {
        low = from;
        high = omega arith;
        here = earlier_is (has id) q (q + 1) w.file name w.is w.named (omega arith);
        later = λ j low high. sooner (has j) least (q + 1) name (omega (arith, w.less)) (was.none j low high);
      });
    }

pub leads_no : (has : Found) (pages : ℕ) (name : List ℕ) (id best least : ℕ) → earlier (has id) least name ≡ None → Leads has pages name id best least → Leads has pages name (id + 1) best least
leads_no has pages name id best least e was =
    record {
      none = λ j low high. ⊎_elim
          (λ (here : j ≡ id). rw here (sym (earlier_before (has id) least name) ∙ rw e refl))
          (λ (there : j ≡ id → ⊥). was.none j low (omega (arith, there)))
          (cases_eq j id);
      place = ⊎_elim
          (λ (x : (best ≡ 0) × (least ≡ pages)). inl x)
          (λ (x : IsFirst has name id best least). inr (record { low = x.low; high = omega (arith, x.high); here = x.here; later = x.later }))
          was.place;
    }

-- every header page is one of the volume
pub record Within (has : Found) (pages : ℕ) : Type 0 where
  pub below : (j q : ℕ) (f : File) → has j ≡ Some (q, Ok f) → q < pages

found_page : (p q : ℕ) (f : List ℕ → Result File Damage) (o : Option (List ℕ)) (r : Result File Damage) → option_map {U = ℕ × Result File Damage} (λ (head : List ℕ). (q, f head)) o ≡ Some (p, r) → q ≡ p
found_page p q f None r e = absurd (cc)
found_page p q f (Some head) r e = (some_pair_parts q p (f head) r e).0

found_within : (g : Geometry) (live : Live) (j q : ℕ) (r : Result File Damage) (o : Option ℕ) → index_page g (own live j) 0 ≡ o →
    option_and_then {U = ℕ × Result File Damage} (λ (p : ℕ). option_map {U = ℕ × Result File Damage} (λ (head : List ℕ). (p, judged g (own live j) j head)) (own live j p)) o ≡ Some (q, r) → q < page_count g
unfolding index_page
found_within g live j q r None is e = absurd (cc)
found_within g live j q r (Some p) is e =
    let same = found_page q p (λ (head : List ℕ). judged g (own live j) j head) (own live j p) r e in
    let less = find_within (λ (x : ℕ). is_index (own live j x) 0) 0 (page_count g) p is in
    omega (arith, same, less)

pub has_within : (g : Geometry) (live : Live) → Within (has_of g live) (page_count g)
unfolding has_of found
has_within g live = record { below = λ j q f e. found_within g live j q (Ok f) (index_page g (own live j) 0) refl e }

module _ (has : Found) (pages n : ℕ) (name : List ℕ) where
  holds : ℕ → Bool
  holds id = is_named (counted has n (has id)) name

  none_holds : Within has pages → ((j : ℕ) → 1 ≤ j → j < n + 1 → is_before (has j) pages name ≡ false) → find holds (range_with_len 1 n) ≡ None
  unfolding holds
  none_holds within none = find_nothing holds 1 n (λ i low high. false_by (holds i) (λ e.
      let w = holder_parts has n (has i) name e in
      let bad : true ≡ false = sym (before_is (has i) w.page pages w.file name w.is w.named (within.below i w.page w.file w.is)) ∙ none i low (omega arith) in
      absurd (cc)))

  pub counting : (p : ℕ) → ((j : ℕ) → 1 ≤ j → j < n + 1 → is_before (has j) p name ≡ false) → counts has n p name ≡ true
  unfolding counts
  counting p none =
      let quiet : list_any (λ (id : ℕ). is_before (has id) p name) (ids n) ≡ false = any_nothing (λ (id : ℕ). is_before (has id) p name) 1 n (λ i low high. none i low (omega arith)) in
      rw quiet refl

  not_before : (p j : ℕ) → counts has n p name ≡ true → 1 ≤ j → j < n + 1 → is_before (has j) p name ≡ false
  unfolding counts
  not_before p j c low high = any_at (λ (id : ℕ). is_before (has id) p name) 1 n j (not_true _ c) low (omega arith)

  first_holds : (best least : ℕ) → ((j : ℕ) → 1 ≤ j → j < n + 1 → is_before (has j) least name ≡ false) → IsFirst has name (n + 1) best least → find holds (range_with_len 1 n) ≡ Some best
  unfolding holds
  first_holds best least none first =
      let w = earlier_parts (has best) (least + 1) name least first.here in
      find_first holds 1 n best first.low (omega (arith, first.high))
      (rw w.is (rw (w.named, counting least none) (rw w.named (equal_text name))))
      (λ j low high. false_by (holds j) (λ e.
      let v = holder_parts has n (has j) name e in
      ⊎_elim
      (λ (less : v.page < least + 1). let bad : true ≡ false = sym (before_is (has j) v.page (least + 1) v.file name v.is v.named less) ∙ first.later j low high in absurd (cc))
      (λ (more : least + 1 ≤ v.page). let bad : true ≡ false = sym (before_is (has best) least v.page w.file name w.is w.named (omega arith)) ∙ not_before v.page best v.counting first.low first.high in absurd (cc))
      (cases_lt v.page (least + 1))))

  pub leads_end : (best least : ℕ) → Within has pages → Leads has pages name (n + 1) best least → best ≡ holder has n name
  unfolding holder holds
  leads_end best least within was = ⊎_elim
      (λ (x : (best ≡ 0) × (least ≡ pages)). rw (none_holds within (subst (λ (p : ℕ). (j : ℕ) → 1 ≤ j → j < n + 1 → is_before (has j) p name ≡ false) x.1 was.none)) x.0)
      (λ (x : IsFirst has name (n + 1) best least). rw (first_holds best least was.none x) refl)
      was.place

-- ---- the whole files, by id

pub files_none : (g : Geometry) (live : Live) (files : List (Option ℕ)) → files ≡ [] → AreFiles g live 0 files
files_none g live files none = record { len = ap length none; each = λ p low. absurd (omega arith) }

pub files_more : (g : Geometry) (live : Live) (n : ℕ) (old new : List (Option ℕ)) (b : Option ℕ) → AreFiles g live n old → new ≡ old ++ b ∷ [] → b ≡ file_page (has_of g live n) → AreFiles g live (n + 1) new
files_more g live n old new b was more is = record {
  len = ap length more ∙ (let long = length-append old (b ∷ []) in omega (arith, long, was.len));
  each = λ p low. ap (λ (l : List (Option ℕ)). get_or l p None) more ∙ ⊎_elim
      (λ (last : p ≡ n). (let here = get_or_at old b [] None p (was.len ∙ sym last) in here ∙ is ∙ ap (λ (j : ℕ). file_page (has_of g live j)) (sym last)))
      (λ (other : p ≡ n → ⊥). (let below : p < n = omega (arith, other) in get_or_append_left old (b ∷ []) None p (omega (arith, was.len)) ∙ was.each p below))
      (cases_eq p n);
}

pub record IsWhole (g : Geometry) (live : Live) (id q : ℕ) : Type 0 where
  pub head : List ℕ
  pub file : File
  pub own_is : own live id q ≡ Some head
  pub name_is : name_of head ≡ Some file.name
  pub has_is : has_of g live id ≡ Some (q, Ok file)

whole_named : (g : Geometry) (live : Live) (id p q : ℕ) (head : List ℕ) (name : Option (List ℕ)) (missing : Option ℕ) → index_page g (own live id) 0 ≡ Some p → own live id p ≡ Some head → name_of head ≡ name → first_missing g (own live id) head ≡ missing →
    file_page (Some (p, judged_by g (own live id) id head name missing)) ≡ Some q → IsWhole g live id q
unfolding has_of found judged
whole_named g live id p q head None missing at is named miss e = absurd (cc)
whole_named g live id p q head (Some name) (Some span) at is named miss e = absurd (cc)
whole_named g live id p q head (Some name) None at is named miss e =
    let same : p ≡ q = cc in
    record {
      head = head;
      file = file_of g (own live id) id head name;
      own_is = rw (← same) is;
      name_is = named;
      has_is = rw (at, is, named, miss, same) refl;
    }

whole_own : (g : Geometry) (live : Live) (id p q : ℕ) (o : Option (List ℕ)) → index_page g (own live id) 0 ≡ Some p → own live id p ≡ o →
    file_page (option_map {U = ℕ × Result File Damage} (λ (head : List ℕ). (p, judged g (own live id) id head)) o) ≡ Some q → IsWhole g live id q
unfolding judged
whole_own g live id p q None at is e = absurd (cc)
whole_own g live id p q (Some head) at is e = whole_named g live id p q head (name_of head) (first_missing g (own live id) head) at is refl refl e

whole_at : (g : Geometry) (live : Live) (id q : ℕ) (o : Option ℕ) → index_page g (own live id) 0 ≡ o →
    file_page (option_and_then {U = ℕ × Result File Damage} (λ (p : ℕ). option_map {U = ℕ × Result File Damage} (λ (head : List ℕ). (p, judged g (own live id) id head)) (own live id p)) o) ≡ Some q → IsWhole g live id q
whole_at g live id q None at e = absurd (cc)
whole_at g live id q (Some p) at e = whole_own g live id p q (own live id p) at refl e

pub whole_of : (g : Geometry) (live : Live) (id q : ℕ) → file_page (has_of g live id) ≡ Some q → IsWhole g live id q
unfolding has_of found
whole_of g live id q e = whole_at g live id q (index_page g (own live id) 0) refl e

-- an id with no whole file has none that is earlier
no_earlier : (o : Option (ℕ × Result File Damage)) (p : ℕ) (name : List ℕ) → file_page o ≡ None → earlier o p name ≡ None
no_earlier None p name e = refl
no_earlier (Some (q, Err x)) p name e = refl
no_earlier (Some (q, Ok f)) p name e = absurd (cc)

pub earlier_none : (g : Geometry) (live : Live) (n id p : ℕ) (files : List (Option ℕ)) (name : List ℕ) → AreFiles g live n files → id < n → get_or files id None ≡ None → earlier (has_of g live id) p name ≡ None
earlier_none g live n id p files name are low none = no_earlier (has_of g live id) p name (sym (are.each id low) ∙ none)

pub earlier_some : (g : Geometry) (live : Live) (n id p q : ℕ) (files : List (Option ℕ)) (name : List ℕ) → AreFiles g live n files → id < n → get_or files id None ≡ Some q →
    earlier (has_of g live id) p name ≡ (if nat_lt q p && has_name (own live id q) name then Some q else None)
earlier_some g live n id p q files name are low some =
    let w = whole_of g live id q (sym (are.each id low) ∙ some) in
    rw (w.has_is, w.own_is, w.name_is) refl
