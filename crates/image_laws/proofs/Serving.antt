-- The pages of a whole id, all of them wanted, are as many as its size needs.
use Rattle.std.proofs.Common.{◌≡◌, ℕ, zero, suc, ◌+◌, ◌-◌, ◌*◌, ◌/◌, ◌%◌, ◌<◌, ◌≤◌, List, length, true, false, not, ◌==◌, ◌&&◌, Option, Some, None, Ok, ap, refl, sym, ◌∙◌, arith, ⊎_elim, subst, length-take, length-drop, length-take-le}
use Rattle.std.specs.Prelude.{filter, is_some, is_none, unwrap_or, option_and_then}
use Rattle.std.specs.List.{range_with_len, list_any, flat_map}
use Rattle.std.proofs.Math.Nat.{mul-le-mul_right, div-add-mod, mul-div_cancel, div-mul-le_self}
use Rattle.std.proofs.lemmas.Nat.{le-div}
use Rattle.std.proofs.lemmas.Bool.{cases_lt, and_parts, or_cases, eqb-true, eq-eqb, lt-ltb, le-ltb}
use Rattle.geometry.specs.declared.geometry.Geometry.{Geometry}
use Rattle.geometry.specs.Numbers.{page_count, head_slots, span_slots, ceil}
use Rattle.table_model.specs.Room.{data_pages, index_pages}
use Rattle.image_model.specs.Headers.{names_index, span_of, size_of}
use Rattle.image_model.specs.Live.{Live}
use Rattle.table_model.specs.Table.{File}
use Rattle.image_model.specs.Files.{is_index, index_page, further, entry_number, data_of, data_page, first_missing, judged_by, file_of, bytes_of, span_bytes}
use Rattle.image_model.specs.Tidy.{is_number, serves}
use Rattle.image_model.specs.Kinds.{is_index_page, is_data_page}
use Rattle.image_laws.proofs.Tables.{find_passes}
use Rattle.image_laws.proofs.Damaged.{any_at}
use Rattle.image_laws.proofs.Append.{find-all}
use Rattle.image_laws.proofs.Wants.{number-is}
use Rattle.image_laws.proofs.Matching.{count_match, length-pieces}

-- a ceiling grows with what is divided
pub ceil-mono : (a c b : ℕ) → 0 < b → a ≤ c → (a + b - 1) / b ≤ (c + b - 1) / b
ceil-mono a c b pos h = let x : (a + b - 1) / b * b ≤ a + b - 1 = div-mul-le_self (a + b - 1) b in le-div ((a + b - 1) / b) (c + b - 1) b pos (omega (arith, x))

-- index page k + 1 names a data span of the file
further_span : (n h x k : ℕ) → 0 < x → h < n → k + 1 < 1 + (n - h + x - 1) / x → (h + k * x < n) × ((h + k * x - h) / x + 1 ≡ k + 1)
further_span n h x k pos more below =
    let c : x * ((n - h + x - 1) / x) + (n - h + x - 1) % x ≡ n - h + x - 1 = div-add-mod (n - h + x - 1) x in
    let step : (k + 1) * x ≤ ((n - h + x - 1) / x) * x = mul-le-mul_right x (omega arith) in
    let less : k * x + x ≤ n - h + x - 1 = omega arith in
    let place : h + k * x - h ≡ k * x = omega arith in
    (omega arith, rw place (ap (λ (y : ℕ). y + 1) (mul-div_cancel k pos)))

index-span : (o : Option (List ℕ)) (i j : ℕ) → is_index o i ≡ true → is_index o j ≡ true → i ≡ j
index-span None i j a b = cc
index-span (Some page) i j a b = let x = and_parts _ _ a in let y = and_parts _ _ b in sym (eqb-true _ i x.1) ∙ eqb-true _ j y.1

index-names : (o : Option (List ℕ)) (i : ℕ) → is_index o i ≡ true → is_index_page o ≡ true
index-names None i a = cc
index-names (Some page) i a = (and_parts _ _ a).0

index-no_data : (o : Option (List ℕ)) (span : ℕ) → is_index_page o ≡ true → is_some (data_of o span) ≡ true → ⊥
index-no_data None span a b = absurd (cc)
index-no_data (Some page) span a b = let no : is_some (data_of (Some page) span) ≡ false = rw a refl in let bad : true ≡ false = sym b ∙ no in absurd (cc)

data_parts : (page : List ℕ) (span : ℕ) → is_some (data_of (Some page) span) ≡ true → (not (names_index page) ≡ true) × (span_of page ≡ span)
data_parts page span h =
    ⊎_elim
    (λ (yes : (not (names_index page) && (span_of page == span)) ≡ true). let w = and_parts _ _ yes in (w.0, eqb-true _ span w.1))
    (λ (none : (not (names_index page) && (span_of page == span)) ≡ false). let bad : false ≡ true = rw none at h in absurd (cc))
    (Rattle.std.proofs.lemmas.Bool.cases_Bool (not (names_index page) && (span_of page == span)))

data-span : (o : Option (List ℕ)) (i j : ℕ) → is_some (data_of o i) ≡ true → is_some (data_of o j) ≡ true → i ≡ j
data-span None i j a b = cc
data-span (Some page) i j a b = sym (data_parts page i a).1 ∙ (data_parts page j b).1

data-holds : (o : Option (List ℕ)) (i : ℕ) → is_some (data_of o i) ≡ true → is_data_page o ≡ true
data-holds None i a = cc
data-holds (Some page) i a = (data_parts page i a).0

data-no_index : (o : Option (List ℕ)) (j : ℕ) → is_data_page o ≡ true → is_index o j ≡ true → ⊥
data-no_index None j a b = absurd (cc)
data-no_index (Some page) j a b = let w : names_index page ≡ true = (and_parts _ _ b).0 in let bad : false ≡ true = rw w at a in absurd (cc)

pub some_of : (o : Option (List ℕ)) → is_index_page o ≡ true → (x : List ℕ) × (o ≡ Some x)
some_of None h = cc
some_of (Some x) h = (x, refl)

pub some_of_data : (o : Option (List ℕ)) → is_data_page o ≡ true → (x : List ℕ) × (o ≡ Some x)
some_of_data None h = cc
some_of_data (Some x) h = (x, refl)

some-not_none : (o : Option (List ℕ)) → is_none o ≡ false → is_some o ≡ true
some-not_none None h = cc
some-not_none (Some x) h = refl

entry_there : (g : Geometry) (pages : Live) (head : List ℕ) (span : ℕ) → is_none (data_page g pages head span) ≡ false → (p : ℕ) × (entry_number g pages head span ≡ Some p) × (is_some (data_of (pages p) span) ≡ true)
unfolding data_page
entry_there g pages head span present =
    let P : Option ℕ → Type 0 = λ o. is_none (option_and_then (λ p. data_of (pages p) span) o) ≡ false → (p : ℕ) × (o ≡ Some p) × (is_some (data_of (pages p) span) ≡ true) in
    let go : (o : Option ℕ) → P o = λ o. elim o as P [ None ↦ λ h. absurd (cc) | Some p ↦ λ h. (p, refl, some-not_none (data_of (pages p) span) h) ] in
    go (entry_number g pages head span) present

further_there : (g : Geometry) (pages : Live) (head : List ℕ) (span p : ℕ) → head_slots g ≤ span → entry_number g pages head span ≡ Some p → (q : ℕ) × (index_page g pages (further g span) ≡ Some q)
unfolding entry_number
further_there g pages head span p high e =
    let go : (o : Option ℕ) → index_page g pages (further g span) ≡ o → (q : ℕ) × (index_page g pages (further g span) ≡ Some q) =
    λ o. elim o as (λ (o : Option ℕ). index_page g pages (further g span) ≡ o → (q : ℕ) × (index_page g pages (further g span) ≡ Some q)) [
      | None ↦ λ k. let none : entry_number g pages head span ≡ None = rw (le-ltb span (head_slots g) high) (rw k refl) in absurd (Rattle.std.proofs.lemmas.Option.none-some p (sym none ∙ e))
      | Some q ↦ λ k. (q, k)
    ] in
    go (index_page g pages (further g span)) refl

pub ceil-enough : (s b : ℕ) → 0 < b → s ≤ ceil s b * b
ceil-enough s b pos =
    let c : b * ((s + b - 1) / b) + (s + b - 1) % b ≡ s + b - 1 = div-add-mod (s + b - 1) b in
    let r : (s + b - 1) % b < b = omega arith in
    omega arith

data_is : (o : Option (List ℕ)) (span : ℕ) → is_some (data_of o span) ≡ true → (x : List ℕ) × (o ≡ Some x) × (data_of o span ≡ Some x)
data_is None span h = absurd (cc)
data_is (Some page) span h = let w = data_parts page span h in let yes : (not (names_index page) && (span_of page == span)) ≡ true = rw w.0 (eq-eqb (span_of page) span w.1) in (page, refl, rw yes refl)

module _ (g : Geometry) (pos : 0 < span_slots g) (pages : Live) (h : ℕ) (head : List ℕ) (at : index_page g pages 0 ≡ Some h) (whole : first_missing g pages head ≡ None)
    (served : (p : ℕ) (x : List ℕ) → pages p ≡ Some x → serves g pages head p ≡ true) (inside : (p : ℕ) (x : List ℕ) → pages p ≡ Some x → p < page_count g) where
  present : (span : ℕ) → span < data_pages g (size_of head) → is_none (data_page g pages head span) ≡ false
  present span below = find-all (λ (span : ℕ). is_none (data_page g pages head span)) 0 (data_pages g (size_of head)) whole span (omega arith) (omega arith)

  -- each index page is there
  index_there : (j : ℕ) → j < index_pages g (size_of head) → (p : ℕ) × (index_page g pages j ≡ Some p)
  index_there zero below = (h, at)
  index_there (suc k) below =
      ⊎_elim
      (λ (more : head_slots g < data_pages g (size_of head)).
      let low : suc k < 1 + ceil (data_pages g (size_of head) - head_slots g) (span_slots g) = rw (lt-ltb (head_slots g) (data_pages g (size_of head)) more) at below in
      let low' : k + 1 < 1 + ceil (data_pages g (size_of head) - head_slots g) (span_slots g) = omega arith in
      let w = further_span (data_pages g (size_of head)) (head_slots g) (span_slots g) k pos more low' in
      let e = entry_there g pages head (head_slots g + k * span_slots g) (present (head_slots g + k * span_slots g) w.0) in
      let q = further_there g pages head (head_slots g + k * span_slots g) e.0 (omega arith) e.1 in
      let j : further g (head_slots g + k * span_slots g) ≡ suc k = w.1 ∙ (omega arith) in
      (q.0, subst (λ (i : ℕ). index_page g pages i ≡ Some q.0) j q.1))
      (λ (few : data_pages g (size_of head) ≤ head_slots g).
      let low : suc k < 1 = rw (le-ltb (head_slots g) (data_pages g (size_of head)) few) at below in absurd (omega arith))
      (cases_lt (head_slots g) (data_pages g (size_of head)))

  index_number : (j p : ℕ) → index_page g pages j ≡ Some p → (p < page_count g) × (is_index (pages p) j ≡ true)
  unfolding index_page
  index_number j p e = let w = find_passes (λ (q : ℕ). is_index (pages q) j) 0 (page_count g) p e in (omega (arith, w.2), w.0)

  index_place : ℕ → ℕ
  index_place j = unwrap_or (index_page g pages j) 0

  index_at : (j : ℕ) → j < index_pages g (size_of head) → index_page g pages j ≡ Some (index_place j)
  unfolding index_place
  index_at j below = let w = index_there j below in w.1 ∙ ap (λ (x : ℕ). Some x) (sym (ap (λ (o : Option ℕ). unwrap_or o 0) w.1))

  pub index_total : length (filter (λ p. is_index_page (pages p)) (range_with_len 0 (page_count g))) ≡ index_pages g (size_of head)
  unfolding serves index_place
  index_total =
      count_match (index_pages g (size_of head)) index_place (λ (p : ℕ). is_index_page (pages p)) (page_count g)
      (λ j below. let w = index_number j (index_place j) (index_at j below) in (w.0, index-names (pages (index_place j)) j w.1))
      (λ i j low low' same. let a = index_number i (index_place i) (index_at i low) in let b = index_number j (index_place j) (index_at j low') in
      index-span (pages (index_place j)) i j (subst (λ (q : ℕ). is_index (pages q) i ≡ true) same a.1) b.1)
      (λ p low yes. let x = some_of (pages p) yes in
      ⊎_elim
      (λ (index : list_any (λ (j : ℕ). is_number (index_page g pages j) p) (range_with_len 0 (index_pages g (size_of head))) ≡ true).
      let w = any_at (λ (j : ℕ). is_number (index_page g pages j) p) 0 (index_pages g (size_of head)) index in
      (w.0, omega (arith, w.2), ap (λ (o : Option ℕ). unwrap_or o 0) (number-is (index_page g pages w.0) p w.3)))
      (λ (page : list_any (λ (span : ℕ). is_number (entry_number g pages head span) p && is_some (data_of (pages p) span)) (range_with_len 0 (data_pages g (size_of head))) ≡ true).
      let w = any_at (λ (span : ℕ). is_number (entry_number g pages head span) p && is_some (data_of (pages p) span)) 0 (data_pages g (size_of head)) page in
      let v = and_parts (is_number (entry_number g pages head w.0) p) (is_some (data_of (pages p) w.0)) w.3 in absurd (index-no_data (pages p) w.0 yes v.1))
      (or_cases _ _ (served p x.0 x.1)))

  data_place : ℕ → ℕ
  data_place span = unwrap_or (entry_number g pages head span) 0

  data_at : (span : ℕ) → span < data_pages g (size_of head) → is_some (data_of (pages (data_place span)) span) ≡ true
  unfolding data_place
  data_at span below =
      let w = entry_there g pages head span (present span below) in
      let place : unwrap_or (entry_number g pages head span) 0 ≡ w.0 = ap (λ (o : Option ℕ). unwrap_or o 0) w.1 in rw place w.2

  pub data_total : length (filter (λ p. is_data_page (pages p)) (range_with_len 0 (page_count g))) ≡ data_pages g (size_of head)
  unfolding serves data_place
  data_total =
      count_match (data_pages g (size_of head)) data_place (λ (p : ℕ). is_data_page (pages p)) (page_count g)
      (λ span below. let holds = data-holds (pages (data_place span)) span (data_at span below) in let x = some_of_data (pages (data_place span)) holds in (inside (data_place span) x.0 x.1, holds))
      (λ i j low low' same. data-span (pages (data_place j)) i j (subst (λ (q : ℕ). is_some (data_of (pages q) i) ≡ true) same (data_at i low)) (data_at j low'))
      (λ p low yes. let x = some_of_data (pages p) yes in
      ⊎_elim
      (λ (index : list_any (λ (j : ℕ). is_number (index_page g pages j) p) (range_with_len 0 (index_pages g (size_of head))) ≡ true).
      let w = any_at (λ (j : ℕ). is_number (index_page g pages j) p) 0 (index_pages g (size_of head)) index in
      absurd (data-no_index (pages p) w.0 yes (index_number w.0 p (number-is (index_page g pages w.0) p w.3)).1))
      (λ (page : list_any (λ (span : ℕ). is_number (entry_number g pages head span) p && is_some (data_of (pages p) span)) (range_with_len 0 (data_pages g (size_of head))) ≡ true).
      let w = any_at (λ (span : ℕ). is_number (entry_number g pages head span) p && is_some (data_of (pages p) span)) 0 (data_pages g (size_of head)) page in
      let v = and_parts (is_number (entry_number g pages head w.0) p) (is_some (data_of (pages p) w.0)) w.3 in
      (w.0, omega (arith, w.2), ap (λ (o : Option ℕ). unwrap_or o 0) (number-is (entry_number g pages head w.0) p v.0)))
      (or_cases _ _ (served p x.0 x.1)))

  -- its bytes are as many as its size says
  data_whole : (span : ℕ) → span < data_pages g (size_of head) → (p : ℕ) × (x : List ℕ) × (data_page g pages head span ≡ Some x) × (pages p ≡ Some x)
  unfolding data_page
  data_whole span below =
      let w = entry_there g pages head span (present span below) in
      let v = data_is (pages w.0) span w.2 in
      (w.0, v.0, rw w.1 v.2, v.1)

  pub bytes_long : (long : (p : ℕ) (x : List ℕ) → pages p ≡ Some x → length x ≡ g.page) → 128 ≤ g.page → length (bytes_of g pages head) ≡ size_of head
  bytes_long long big =
      let piece : (span : ℕ) → 0 ≤ span → span < 0 + data_pages g (size_of head) → length (span_bytes g pages head span) ≡ g.page - 5 = λ span low below.
      let w = data_whole span (omega arith) in
      let len : length w.1 ≡ g.page = long w.0 w.1 w.3 in
      rw w.2 (simp (length-take, length-drop) (omega (arith, len))) in
      let all : length (flat_map (span_bytes g pages head) (range_with_len 0 (data_pages g (size_of head)))) ≡ data_pages g (size_of head) * (g.page - 5) =
      length-pieces (span_bytes g pages head) (g.page - 5) 0 (data_pages g (size_of head)) piece in
      let enough : size_of head ≤ data_pages g (size_of head) * (g.page - 5) = ceil-enough (size_of head) (g.page - 5) (omega arith) in
      length-take-le (size_of head) (flat_map (span_bytes g pages head) (range_with_len 0 (data_pages g (size_of head)))) (omega (arith, all, enough))

pub judged-bytes : (g : Geometry) (pages : Live) (id : ℕ) (head : List ℕ) (n : Option (List ℕ)) (m : Option ℕ) (f : File) → judged_by g pages id head n m ≡ Ok f → f.bytes ≡ bytes_of g pages head
judged-bytes g pages id head None m f h = cc
judged-bytes g pages id head (Some name) (Some span) f h = cc
judged-bytes g pages id head (Some name) None f h = let same : file_of g pages id head name ≡ f = cc in ap (λ (x : File). x.bytes) (sym same)
