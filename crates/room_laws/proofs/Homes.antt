-- The file of a live page of a tidy image, and where it leads to that page.
use Rattle.std.proofs.Common.{◌≡◌, ℕ, zero, suc, ◌+◌, ◌-◌, ◌*◌, ◌/◌, ◌%◌, ◌<◌, ◌≤◌, List, length, Bool, true, false, not, ◌==◌, ◌&&◌, Option, Some, None, Ok, ap, refl, sym, ◌∙◌, subst, arith, ⊎_elim}
use Rattle.std.specs.Prelude.{is_some, is_none, option_and_then, Contains}
use Rattle.std.specs.List.{range_with_len, list_any, filter_map, cons_option}
use Rattle.std.proofs.Math.Nat.{mul-le-mul_right, div-add-mod, mul-div_cancel}
use Rattle.std.proofs.lemmas.Bool.{cases_eq, cases_lt, cases_Bool, and_parts, or_cases, eq-eqb, eqb-true, lt-ltb, le-ltb}
use Rattle.std.proofs.lemmas.Option.{same_Some, none-some}
use Rattle.geometry.specs.declared.geometry.Geometry.{Geometry}
use Rattle.geometry.specs.Numbers.{head_slots, span_slots, ceil, page_count}
use Rattle.table_model.specs.Table.{File}
use Rattle.table_model.specs.Room.{data_pages, index_pages}
use Rattle.image_model.specs.Within.{sizes, page_length, page_number}
use Rattle.image_model.specs.Headers.{obj_id, span_of, names_index, size_of}
use Rattle.image_model.specs.Live.{Live, live_at, own}
use Rattle.image_model.specs.Places.{IsImage}
use Rattle.image_model.specs.Files.{is_index, index_page, further, entry_number, data_of, data_page, first_missing, bytes_of, judged}
use Rattle.image_model.specs.Tables.{has_of, counted, records, table_of}
use Rattle.image_model.specs.Tidy.{IsTidy, is_number, serves}
use Rattle.image_laws.proofs.Append.{find-all}
use Rattle.image_laws.proofs.Damaged.{any_at}
use Rattle.image_laws.proofs.Doubled.{index-span_is}
use Rattle.image_laws.proofs.Finish.{own-parts, has_of-within, has_of-keyed}
use Rattle.image_laws.proofs.Frames.{live_parts}
use Rattle.image_laws.proofs.Judge.{found_parts, index_passes}
use Rattle.image_laws.proofs.Records.{counted-some, counted-keyed}
use Rattle.image_laws.proofs.Serving.{judged-bytes, bytes_long}
use Rattle.image_laws.proofs.Tally.{counted-in, served}
use Rattle.image_laws.proofs.TidySteps.{neat_of}
use Rattle.image_laws.proofs.Wanted.{some_file, judged-whole}
use Rattle.image_laws.proofs.Wants.{number-is}

-- ---- pages that serve their file

index_some : (o : Option (List ℕ)) (j : ℕ) → is_index o j ≡ true → (x : List ℕ) × (o ≡ Some x) × (names_index x ≡ true) × (span_of x ≡ j)
index_some None j h = absurd (cc)
index_some (Some x) j h = let w = and_parts _ _ h in (x, refl, w.0, eqb-true _ j w.1)

-- an index page is no data page
no_data : (o : Option (List ℕ)) (page : List ℕ) (span : ℕ) → o ≡ Some page → names_index page ≡ true → is_some (data_of o span) ≡ true → ⊥
no_data o page span was index h = let none : is_some (data_of o span) ≡ false = rw was (rw index refl) in let bad : true ≡ false = sym h ∙ none in absurd (cc)

-- one that serves its file is the first of its span, which is one of the file
pub serves_first : (g : Geometry) (pages : Live) (head page : List ℕ) (p : ℕ) → pages p ≡ Some page → names_index page ≡ true → serves g pages head p ≡ true →
    (span_of page < index_pages g (size_of head)) × (index_page g pages (span_of page) ≡ Some p)
unfolding serves
serves_first g pages head page p was index e =
    ⊎_elim
    (λ (yes : list_any (λ (j : ℕ). is_number (index_page g pages j) p) (range_with_len 0 (index_pages g (size_of head))) ≡ true).
    let w = any_at (λ (j : ℕ). is_number (index_page g pages j) p) 0 (index_pages g (size_of head)) yes in
    let is : index_page g pages w.0 ≡ Some p = number-is (index_page g pages w.0) p w.3 in
    let passes : is_index (Some page) w.0 ≡ true = rw was at (index_passes g pages w.0 p is) in
    let span = index-span_is page w.0 passes in
    (omega (arith, w.2, span), ap (λ (k : ℕ). index_page g pages k) span ∙ is))
    (λ (yes : list_any (λ (span : ℕ). is_number (entry_number g pages head span) p && is_some (data_of (pages p) span)) (range_with_len 0 (data_pages g (size_of head))) ≡ true).
    let w = any_at (λ (span : ℕ). is_number (entry_number g pages head span) p && is_some (data_of (pages p) span)) 0 (data_pages g (size_of head)) yes in
    absurd (no_data (pages p) page w.0 was index (and_parts _ _ w.3).1))
    (or_cases _ _ e)

data_parts : (page : List ℕ) (t : ℕ) → is_some (data_of (Some page) t) ≡ true → (names_index page ≡ false) × (span_of page ≡ t)
data_parts page t some = ⊎_elim
    (λ (yes : (not (names_index page) && (span_of page == t)) ≡ true).
    let w = and_parts (not (names_index page)) _ yes in
    (⊎_elim (λ (index : names_index page ≡ true). let bad : false ≡ true = rw index at w.0 in absurd (cc)) (λ (none : names_index page ≡ false). none) (cases_Bool (names_index page)), eqb-true _ t w.1))
    (λ (none : (not (names_index page) && (span_of page == t)) ≡ false). let bad : false ≡ true = rw none at some in absurd (cc))
    (cases_Bool (not (names_index page) && (span_of page == t)))

-- a data page that serves its file is named by the entry of its span, which is one of the file
pub serves_data : (g : Geometry) (pages : Live) (head page : List ℕ) (p : ℕ) → pages p ≡ Some page → names_index page ≡ false → serves g pages head p ≡ true →
    (span_of page < data_pages g (size_of head)) × (entry_number g pages head (span_of page) ≡ Some p)
unfolding serves
serves_data g pages head page p was kind e =
    ⊎_elim
    (λ (yes : list_any (λ (j : ℕ). is_number (index_page g pages j) p) (range_with_len 0 (index_pages g (size_of head))) ≡ true).
    let w = any_at (λ (j : ℕ). is_number (index_page g pages j) p) 0 (index_pages g (size_of head)) yes in
    let x = index_some (pages p) w.0 (index_passes g pages w.0 p (number-is (index_page g pages w.0) p w.3)) in
    let same : x.0 ≡ page = same_Some x.0 page (sym x.1 ∙ was) in
    let bad : true ≡ false = sym x.2 ∙ ap names_index same ∙ kind in absurd (cc))
    (λ (yes : list_any (λ (t : ℕ). is_number (entry_number g pages head t) p && is_some (data_of (pages p) t)) (range_with_len 0 (data_pages g (size_of head))) ≡ true).
    let w = any_at (λ (t : ℕ). is_number (entry_number g pages head t) p && is_some (data_of (pages p) t)) 0 (data_pages g (size_of head)) yes in
    let v = and_parts _ _ w.3 in
    let some : is_some (data_of (Some page) w.0) ≡ true = ap (λ (x : Option (List ℕ)). is_some (data_of x w.0)) (sym was) ∙ v.1 in
    let span : span_of page ≡ w.0 = (data_parts page w.0 some).1 in
    let entry : entry_number g pages head w.0 ≡ Some p = number-is (entry_number g pages head w.0) p v.0 in
    (omega (arith, w.2, span), ap (λ (t : ℕ). entry_number g pages head t) span ∙ entry))
    (or_cases _ _ e)

pub own_of : (live : Live) (p : ℕ) (x : List ℕ) → live p ≡ Some x → own live (obj_id x % 0x8000) p ≡ Some x
unfolding own
own_of live p x e = rw e (rw (eq-eqb (obj_id x % 0x8000) (obj_id x % 0x8000) refl) refl)

-- ---- the pages of a whole file

-- a page of a kind and span
pub record HasPage (pages : Live) (index : Bool) (span : ℕ) : Type 0 where
  pub q : ℕ
  pub page : List ℕ
  pub is : pages q ≡ Some page
  pub kind : names_index page ≡ index
  pub at : span_of page ≡ span

not-none : (o : Option (List ℕ)) → is_none o ≡ false → is_some o ≡ true
not-none None h = cc
not-none (Some x) h = refl

-- the entry of a span leads to a data page
record IsNamed (g : Geometry) (pages : Live) (head : List ℕ) (span : ℕ) : Type 0 where
  q : ℕ
  entry : entry_number g pages head span ≡ Some q
  some : is_some (data_of (pages q) span) ≡ true

named : (g : Geometry) (pages : Live) (head : List ℕ) (span : ℕ) → is_none (data_page g pages head span) ≡ false → IsNamed g pages head span
unfolding data_page
named g pages head span present =
    let P : Option ℕ → Type 0 = λ o. is_none (option_and_then (λ p. data_of (pages p) span) o) ≡ false → (p : ℕ) × (o ≡ Some p) × (is_some (data_of (pages p) span) ≡ true) in
    let go : (o : Option ℕ) → P o = λ o. elim o as P [ None ↦ λ h. absurd (cc) | Some p ↦ λ h. (p, refl, not-none (data_of (pages p) span) h) ] in
    let w = go (entry_number g pages head span) present in record { q = w.0; entry = w.1; some = w.2 }

data_is : (o : Option (List ℕ)) (span : ℕ) → is_some (data_of o span) ≡ true → (x : List ℕ) × (o ≡ Some x) × (names_index x ≡ false) × (span_of x ≡ span)
data_is None span h = absurd (cc)
data_is (Some page) span h = let w = data_parts page span h in (page, refl, w.0, w.1)

index_has : (g : Geometry) (pages : Live) (span q : ℕ) → index_page g pages span ≡ Some q → HasPage pages true span
index_has g pages span q e = let w = index_some (pages q) span (index_passes g pages span q e) in record { q = q; page = w.0; is = w.1; kind = w.2; at = w.3 }

-- an entry of a further index page is read from it
further_has : (g : Geometry) (pages : Live) (head : List ℕ) (span p : ℕ) → head_slots g ≤ span → entry_number g pages head span ≡ Some p → HasPage pages true (further g span)
unfolding entry_number
further_has g pages head span p high e =
    let go : (o : Option ℕ) → index_page g pages (further g span) ≡ o → HasPage pages true (further g span) =
    λ o. elim o as (λ (o : Option ℕ). index_page g pages (further g span) ≡ o → HasPage pages true (further g span)) [
      | None ↦ λ k. let none : entry_number g pages head span ≡ None = rw (le-ltb span (head_slots g) high) (rw k refl) in absurd (none-some p (sym none ∙ e))
      | Some q ↦ λ k. index_has g pages (further g span) q k
    ] in
    go (index_page g pages (further g span)) refl

-- further index page k + 1 names a data span of the file
span_by : (n h x k : ℕ) → 0 < x → h < n → k + 1 < 1 + (n - h + x - 1) / x → (h + k * x < n) × ((h + k * x - h) / x + 1 ≡ k + 1)
span_by n h x k pos more below =
    let c : x * ((n - h + x - 1) / x) + (n - h + x - 1) % x ≡ n - h + x - 1 = div-add-mod (n - h + x - 1) x in
    let step : (k + 1) * x ≤ ((n - h + x - 1) / x) * x = mul-le-mul_right x (omega arith) in
    let less : k * x + x ≤ n - h + x - 1 = omega arith in
    let place : h + k * x - h ≡ k * x = omega arith in
    (omega arith, rw place (ap (λ (y : ℕ). y + 1) (mul-div_cancel k pos)))

module _ (g : Geometry) (pages : Live) (h : ℕ) (head : List ℕ) (at : index_page g pages 0 ≡ Some h) (whole : first_missing g pages head ≡ None) where
  present : (span : ℕ) → span < data_pages g (size_of head) → is_none (data_page g pages head span) ≡ false
  present span below = find-all (λ (span : ℕ). is_none (data_page g pages head span)) 0 (data_pages g (size_of head)) whole span (omega arith) (omega arith)

  pub has_data : (span : ℕ) → span < data_pages g (size_of head) → HasPage pages false span
  has_data span below =
      let e = named g pages head span (present span below) in
      let w = data_is (pages e.q) span e.some in
      record { q = e.q; page = w.0; is = w.1; kind = w.2; at = w.3 }

  pub has_index : (j : ℕ) → j < index_pages g (size_of head) → HasPage pages true j
  has_index zero below = index_has g pages 0 h at
  has_index (suc k) below =
      let pos : 0 < span_slots g = let big : 128 ≤ g.page = (sizes g).page in omega arith in
      ⊎_elim
      (λ (more : head_slots g < data_pages g (size_of head)).
      let low : suc k < 1 + ceil (data_pages g (size_of head) - head_slots g) (span_slots g) = rw (lt-ltb (head_slots g) (data_pages g (size_of head)) more) at below in
      let low' : k + 1 < 1 + ceil (data_pages g (size_of head) - head_slots g) (span_slots g) = omega arith in
      let w = span_by (data_pages g (size_of head)) (head_slots g) (span_slots g) k pos more low' in
      let e = named g pages head (head_slots g + k * span_slots g) (present (head_slots g + k * span_slots g) w.0) in
      let q = further_has g pages head (head_slots g + k * span_slots g) e.q (omega arith) e.entry in
      let j : further g (head_slots g + k * span_slots g) ≡ suc k = w.1 ∙ (omega arith) in
      subst (λ (i : ℕ). HasPage pages true i) j q)
      (λ (few : data_pages g (size_of head) ≤ head_slots g).
      let low : suc k < 1 = rw (le-ltb (head_slots g) (data_pages g (size_of head)) few) at below in absurd (omega arith))
      (cases_lt (head_slots g) (data_pages g (size_of head)))

-- ---- the file of a page

-- what the file of an id is
pub record Home (g : Geometry) (a : List ℕ) (id : ℕ) : Type 0 where
  pub h : ℕ
  pub head : List ℕ
  pub f : File
  pub counts : counted (has_of g (live_at g a)) 0x7FFF (has_of g (live_at g a) id) ≡ Some f
  pub has : has_of g (live_at g a) id ≡ Some (h, Ok f)
  pub at : index_page g (own (live_at g a) id) 0 ≡ Some h
  pub header : own (live_at g a) id h ≡ Some head
  pub file : judged g (own (live_at g a) id) id head ≡ Ok f

pub home_by : (g : Geometry) (a : List ℕ) (id : ℕ) (f : File) → counted (has_of g (live_at g a)) 0x7FFF (has_of g (live_at g a) id) ≡ Some f → (home : Home g a id) × (home.f ≡ f)
unfolding has_of
home_by g a id f counts =
    let w = counted-some (has_of g (live_at g a)) 0x7FFF (has_of g (live_at g a) id) f counts in
    let v = found_parts g (own (live_at g a) id) id w.0 (Ok f) w.1 in
    (record { h = w.0; head = v.0; f = f; counts = counts; has = w.1; at = v.1; header = v.2; file = v.3 }, refl)

pub home_of : (g : Geometry) (a : List ℕ) → IsImage g a → IsTidy g a → (p : ℕ) (page : List ℕ) → live_at g a p ≡ Some page → Home g a (obj_id page % 0x8000)
home_of g a is t p page live =
    let yes = counted-in g a is (neat_of t) (obj_id page % 0x8000) p page (own_of (live_at g a) p page live) in
    let f = some_file (counted (has_of g (live_at g a)) 0x7FFF (has_of g (live_at g a) (obj_id page % 0x8000))) yes in
    (home_by g a (obj_id page % 0x8000) f.0 f.1).0

module _ (g : Geometry) (a : List ℕ) (is : IsImage g a) (t : IsTidy g a) (id : ℕ) (home : Home g a id) where
  pub serves_own : (p : ℕ) (x : List ℕ) → own (live_at g a) id p ≡ Some x → serves g (own (live_at g a) id) home.head p ≡ true
  serves_own p x e = served g a is (neat_of t) id home.h home.head home.at home.header p x e

  pub home_whole : first_missing g (own (live_at g a) id) home.head ≡ None
  home_whole = judged-whole g (own (live_at g a) id) id home.head home.f home.file

  inside : (p : ℕ) (x : List ℕ) → own (live_at g a) id p ≡ Some x → p < page_count g
  inside p x e = let w = own-parts (live_at g a) id p x e in page_number g p (live_parts g a p x w.0).entry_page

  long : (p : ℕ) (x : List ℕ) → own (live_at g a) id p ≡ Some x → length x ≡ g.page
  long p x e =
      let w = own-parts (live_at g a) id p x e in
      let v = live_parts g a p x w.0 in
      ap length (sym v.bytes) ∙ page_length g a p is v.entry_page

  pub home_size : length home.f.bytes ≡ size_of home.head
  unfolding judged
  home_size =
      let big : 128 ≤ g.page = (sizes g).page in
      let pos : 0 < span_slots g = omega arith in
      let bytes : home.f.bytes ≡ bytes_of g (own (live_at g a) id) home.head = judged-bytes g (own (live_at g a) id) id home.head _ _ home.f home.file in
      ap length bytes ∙ bytes_long g pos (own (live_at g a) id) home.h home.head home.at home_whole serves_own inside long big

-- ---- two images with one table

cons_has : (o : Option File) (xs : List File) (f : File) → o ≡ Some f → Contains (cons_option o xs) f
cons_has None xs f e = absurd (none-some f e)
cons_has (Some y) xs f e = (0, omega arith, same_Some y f e)

cons_later : (o : Option File) (xs : List File) (f : File) → Contains xs f → Contains (cons_option o xs) f
cons_later None xs f has = has
cons_later (Some y) xs f has = (suc has.0, omega (arith, has.1), has.2)

listed_in : (c : ℕ → Option File) (a n j : ℕ) (f : File) → a ≤ j → j < a + n → c j ≡ Some f → Contains (filter_map c (range_with_len a n)) f
listed_in c a zero j f low high e = absurd (omega arith)
listed_in c a (suc n) j f low high e = ⊎_elim
    (λ (here : a ≡ j). cons_has (c a) (filter_map c (range_with_len (a + 1) n)) f (ap c here ∙ e))
    (λ (later : a ≡ j → ⊥). cons_later (c a) (filter_map c (range_with_len (a + 1) n)) f (listed_in c (a + 1) n j f (omega (arith, later)) (omega arith) e))
    (cases_eq a j)

record IsListed (c : ℕ → Option File) (f : File) : Type 0 where
  j : ℕ
  is : c j ≡ Some f

listed_cons : (c : ℕ → Option File) (a : ℕ) (xs : List File) (f : File) (o : Option File) → c a ≡ o → (Contains xs f → IsListed c f) → Contains (cons_option o xs) f → IsListed c f
listed_cons c a xs f None e rest has = rest has
listed_cons c a xs f (Some y) e rest (zero, low, is) = record { j = a; is = e ∙ ap (λ (z : File). Some z) is }
listed_cons c a xs f (Some y) e rest (suc k, low, is) = rest (k, omega arith, is)

listed_from : (c : ℕ → Option File) (a n : ℕ) (f : File) → Contains (filter_map c (range_with_len a n)) f → IsListed c f
listed_from c a zero f has = absurd (omega (arith, has.1))
listed_from c a (suc n) f has = listed_cons c a (filter_map c (range_with_len (a + 1) n)) f (c a) refl (listed_from c (a + 1) n f) has

-- a file of the table is one of the other image, with the same id
pub kept_file : (g : Geometry) (a b : List ℕ) (id : ℕ) (f : File) → table_of g b ≡ table_of g a → counted (has_of g (live_at g a)) 0x7FFF (has_of g (live_at g a) id) ≡ Some f →
    counted (has_of g (live_at g b)) 0x7FFF (has_of g (live_at g b) id) ≡ Some f
unfolding table_of records
kept_file g a b id f table counts =
    let h = counted-some (has_of g (live_at g a)) 0x7FFF (has_of g (live_at g a) id) f counts in
    let within = has_of-within g a id h.0 (Ok f) h.1 in
    let old = listed_in (λ (j : ℕ). counted (has_of g (live_at g a)) 0x7FFF (has_of g (live_at g a) j)) 1 0x7FFF id f within.0 (omega (arith, within.1)) counts in
    let new = listed_from (λ (j : ℕ). counted (has_of g (live_at g b)) 0x7FFF (has_of g (live_at g b) j)) 1 0x7FFF f (subst (λ (l : List File). Contains l f) (sym table) old) in
    let same : new.j ≡ id = sym (counted-keyed (has_of g (live_at g b)) 0x7FFF (has_of-keyed g (live_at g b)) new.j f new.is)
    ∙ counted-keyed (has_of g (live_at g a)) 0x7FFF (has_of-keyed g (live_at g a)) id f counts in
    let is = new.is in rw same at is
