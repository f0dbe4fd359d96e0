-- What pages that were passed over are not, and what live pages that were found are.
use Rattle.std.proofs.Common.{◌≡◌, ◌≢◌, ℕ, zero, suc, ◌+◌, ◌%◌, ◌==◌, ◌<◌, ◌≤◌, ◌&&◌, not, nat_lt, nat_le, Bool, true, false, List, refl, sym, subst, ◌∙◌, ap, ⊎_elim, arith, if◌then◌else◌}
use Rattle.std.specs.Prelude.{Option, Some, None, is_some, find, option_and_then}
use Rattle.std.specs.List.{range_with_len}
use Rattle.std.specs.Option.{option_map}
use Rattle.std.proofs.lemmas.Bool.{and_parts, cases_lt, leb-true, eq-eqb, le-ltb, lt-ltb}
use Rattle.std.proofs.lemmas.Bool.Decides.{nat_tests}
use Rattle.geometry.specs.declared.geometry.Geometry.{Geometry}
use Rattle.page_layout.specs.declared.header.PageHeader.{PageHeader}
use Rattle.page_layout.specs.Layout.{header_at, names_index, is_between}
use Rattle.image_model.specs.Headers.{obj_id, name_of, is_finished}
use Rattle.image_model.specs.Places.{page_of, entry_of}
use Rattle.image_model.specs.Live.{live_at, is_live, own}
use Rattle.image_model.specs.Files.{is_index, data_of}
use Rattle.flash_view.specs.Found.{headed, named_at, is_name}
use Rattle.flash_view.specs.Walk.{IsPassed, IsNextLive}
use Rattle.flash_view.proofs.Entries.{live_page, some_id, other_index, other_head}
use Rattle.flash_view.proofs.Heads.{index_seen, and_false}
use Rattle.flash_view.proofs.Names.{headed_by, named_by, unnamed_by}
use Rattle.flash_view.proofs.Spans.{data_other, data_seen}

-- ---- numbers

pub differ : (a b : ℕ) → a ≢ b → (a == b) ≡ false
differ a b ne = grind (arith, nat_tests)

not_index : (n id : ℕ) → n < 0x10000 → is_between (0x8000 + id) (0x8000 + id) n ≡ false → (not (nat_lt n 0x8000) && (n % 0x8000 == id)) ≡ false
not_index n id small none = grind (arith, nat_tests)

this_index : (n id : ℕ) (same : Bool) → id < 0x8000 → is_between (0x8000 + id) (0x8000 + id) n ≡ true → ((n % 0x8000 == id) && (not (nat_lt n 0x8000) && same)) ≡ same
this_index n id same small is =
    let parts = and_parts (nat_le (0x8000 + id) n) (nat_le n (0x8000 + id)) is in
    let number : n ≡ 0x8000 + id = omega (arith, leb-true (0x8000 + id) n parts.0, leb-true n (0x8000 + id) parts.1) in
    rw (eq-eqb (n % 0x8000) id (omega (arith, number, small)), le-ltb n 0x8000 (omega (arith, number))) refl

not_head : (n : ℕ) → n < 0x10000 → is_between 0x8000 0xFFFE n ≡ false → (not (nat_lt n 0x8000) && not (n == 0xFFFF)) ≡ false
not_head n small none = grind (arith, nat_tests)

not_data : (n id : ℕ) → is_between id id n ≡ false → n ≢ id
not_data n id none = grind (arith, nat_tests)

this_data : (n id : ℕ) (same : Bool) → id < 0x8000 → is_between id id n ≡ true → ((n % 0x8000 == id) && (not (not (nat_lt n 0x8000)) && same)) ≡ same
this_data n id same small is =
    let parts = and_parts (nat_le id n) (nat_le n id) is in
    let number : n ≡ id = omega (arith, leb-true id n parts.0, leb-true n id parts.1) in
    rw (eq-eqb (n % 0x8000) id (omega (arith, number, small)), lt-ltb n 0x8000 (omega (arith, number, small))) refl

not_used : (n : ℕ) → n < 0x10000 → is_between 1 0xFFFE n ≡ false → not (n % 0x8000 == 0) ≡ true → not (n == 0xFFFF) ≡ true → ⊥
not_used n small none some whole = grind (arith, nat_tests)

-- ---- pages that were passed over

-- a live page that was passed over has an object id of two bytes that isn't between
pub record IsOther (low high : ℕ) (page : List ℕ) : Type 0 where
  pub word : obj_id page < 0x10000
  pub none : is_between low high (obj_id page) ≡ false
  pub finished : is_finished page ≡ true

module _ (g : Geometry) (image : List ℕ) where
  pub passed_page : (low high p : ℕ) (page : List ℕ) → IsPassed g image low high p → live_at g image p ≡ Some page → IsOther low high page
  passed_page low high p page passed e =
      let w = live_page g image p page e in
      record {
        word = subst (λ (n : ℕ). n < 0x10000) w.number (passed.word w.place);
        none = subst (λ (n : ℕ). is_between low high n ≡ false) w.number (passed.none w.live);
        finished = w.finished;
      }

  -- it is no index page of an object, no header page, no data page of an object, or not live at all
  pub passed_index : (id span p : ℕ) → IsPassed g image (0x8000 + id) (0x8000 + id) p → is_index (own (live_at g image) id p) span ≡ false
  unfolding own
  passed_index id span p passed = index_apart (live_at g image p) id span (λ page e. passed_page (0x8000 + id) (0x8000 + id) p page passed e)
    where
      index_apart : (o : Option (List ℕ)) (id span : ℕ) → ((page : List ℕ) → o ≡ Some page → IsOther (0x8000 + id) (0x8000 + id) page) → is_index (option_and_then (λ page. if obj_id page % 0x8000 == id then Some page else None) o) span ≡ false
      index_apart None id span known = refl
      index_apart (Some page) id span known = let w = known page refl in other_index (Some page) (obj_id page) id span (λ x e. let same : page ≡ x = cc in ap obj_id same) (not_index (obj_id page) id w.word w.none)

  pub passed_head : (p : ℕ) → IsPassed g image 0x8000 0xFFFE p → headed (live_at g image p) ≡ None
  passed_head p passed = head_apart (live_at g image p) (λ page e. passed_page 0x8000 0xFFFE p page passed e)
    where
      head_apart : (o : Option (List ℕ)) → ((page : List ℕ) → o ≡ Some page → IsOther 0x8000 0xFFFE page) → headed o ≡ None
      head_apart None known = refl
      head_apart (Some page) known = let w = known page refl in other_head (Some page) (obj_id page) (λ x e. let same : page ≡ x = cc in (ap obj_id same, subst (λ (l : List ℕ). is_finished l ≡ true) same w.finished)) (not_head (obj_id page) w.word w.none)

  pub passed_named : (p : ℕ) (name : List ℕ) → IsPassed g image 0x8000 0xFFFE p → named_at (live_at g image p) name ≡ None
  passed_named p name passed = unnamed_by (live_at g image p) name (sym (passed_head p passed))

  pub passed_data : (id span p : ℕ) → IsPassed g image id id p → is_some (data_of (own (live_at g image) id p) span) ≡ false
  unfolding own
  passed_data id span p passed = data_apart (live_at g image p) id span (λ page e. passed_page id id p page passed e)
    where
      data_apart : (o : Option (List ℕ)) (id span : ℕ) → ((page : List ℕ) → o ≡ Some page → IsOther id id page) → is_some (data_of (option_and_then (λ page. if obj_id page % 0x8000 == id then Some page else None) o) span) ≡ false
      data_apart None id span known = refl
      data_apart (Some page) id span known = let w = known page refl in data_other (Some page) (obj_id page) id span (λ x e. let same : page ≡ x = cc in ap obj_id same) (not_data (obj_id page) id w.none)

  pub passed_used : (p : ℕ) → IsPassed g image 1 0xFFFE p → live_at g image p ≡ None
  passed_used p passed = none_used (live_at g image p) (λ page e. passed_page 1 0xFFFE p page passed e)
    where
      none_used : (o : Option (List ℕ)) → ((page : List ℕ) → o ≡ Some page → IsOther 1 0xFFFE page) → o ≡ None
      none_used None known = refl
      none_used (Some page) known = let w = known page refl in let id = some_id page w.finished in absurd (not_used (obj_id page) w.word w.none id.0 id.1)

  -- ---- a live page that was found

  pub live_here : (p : ℕ) → is_live g image p ≡ true → live_at g image p ≡ Some (page_of g image p)
  unfolding live_at
  live_here p e = rw e refl

  pub found_some : (from low high p : ℕ) (head : PageHeader) → IsNextLive g image from low high p head → Some head ≡ option_map header_at (live_at g image p)
  found_some from low high p head found = rw (live_here p found.live, found.header) refl

  -- its id lies between
  found_id : (from low high p : ℕ) (head : PageHeader) → IsNextLive g image from low high p head → is_between low high head.id ≡ true
  found_id from low high p head found =
      let w = live_page g image p (page_of g image p) (live_here p found.live) in
      let same : entry_of g image p ≡ head.id = w.number ∙ sym (ap (λ (h : PageHeader). h.id) found.header) in
      subst (λ (n : ℕ). is_between low high n ≡ true) same found.between

  pub found_index : (id span from p : ℕ) (head : PageHeader) → id < 0x8000 → IsNextLive g image from (0x8000 + id) (0x8000 + id) p head → is_index (own (live_at g image) id p) span ≡ (head.span == span)
  found_index id span from p head small found =
      index_seen (live_at g image) p id span head (found_some from (0x8000 + id) (0x8000 + id) p head found) ∙ this_index head.id id (head.span == span) small (found_id from (0x8000 + id) (0x8000 + id) p head found)

  pub found_data : (id span from p : ℕ) (head : PageHeader) → id < 0x8000 → IsNextLive g image from id id p head → is_some (data_of (own (live_at g image) id p) span) ≡ (head.span == span)
  found_data id span from p head small found =
      data_seen (live_at g image) p id span head (found_some from id id p head found) ∙ this_data head.id id (head.span == span) small (found_id from id id p head found)

  -- a live index page is a header page where its span is 0
  pub found_head : (from p : ℕ) (head : PageHeader) → IsNextLive g image from 0x8000 0xFFFE p head → headed (live_at g image p) ≡ (if names_index head && (head.span == 0) then Some (head.id % 0x8000) else None)
  found_head from p head found = headed_by (live_at g image p) head (found_some from 0x8000 0xFFFE p head found)

  -- .. and one with that name where it holds it
  pub found_named : (from p : ℕ) (head : PageHeader) (name : List ℕ) → IsNextLive g image from 0x8000 0xFFFE p head → head.span ≡ 0 → is_name (name_of (page_of g image p)) name ≡ true → named_at (live_at g image p) name ≡ Some (head.id % 0x8000)
  found_named from p head name found first has =
      let large = and_parts (nat_le 0x8000 head.id) (nat_le head.id 0xFFFE) (found_id from 0x8000 0xFFFE p head found) in
      let index : nat_lt head.id 0x8000 ≡ false = le-ltb head.id 0x8000 (leb-true 0x8000 head.id large.0) in
      let id : Some (head.id % 0x8000) ≡ headed (live_at g image p) = sym (found_head from p head found ∙ rw (index, first) refl) in
      named_by g image p (head.id % 0x8000) name id ∙ rw has refl

  pub found_other : (from p : ℕ) (head : PageHeader) (name : List ℕ) → IsNextLive g image from 0x8000 0xFFFE p head → head.span ≢ 0 → named_at (live_at g image p) name ≡ None
  found_other from p head name found further =
      unnamed_by (live_at g image p) name (sym (found_head from p head found ∙ rw (differ head.span 0 further, and_false (names_index head)) refl))

  pub found_unnamed : (from p : ℕ) (head : PageHeader) (name : List ℕ) → IsNextLive g image from 0x8000 0xFFFE p head → is_name (name_of (page_of g image p)) name ≡ false → named_at (live_at g image p) name ≡ None
  found_unnamed from p head name found no' = rw (live_here p found.live) (rw no' refl)

  -- an id is below 0x8000
  pub no_index : (id span p : ℕ) → 0x8000 ≤ id → is_index (own (live_at g image) id p) span ≡ false
  unfolding own
  no_index id span p large = none (live_at g image p)
    where
      none : (o : Option (List ℕ)) → is_index (option_and_then (λ page. if obj_id page % 0x8000 == id then Some page else None) o) span ≡ false
      none None = refl
      none (Some page) = let e : (obj_id page % 0x8000 == id) ≡ false = grind (arith, nat_tests) in rw e refl

-- ---- numbers below a loop's counter

-- what holds below one number and from there on holds below another
pub all_to : (P : ℕ → Type 0) (at p : ℕ) → ((q : ℕ) → q < at → P q) → ((q : ℕ) → at ≤ q → q < p → P q) → (q : ℕ) → q < p → P q
all_to P at p was more q before = ⊎_elim (λ (early : q < at). was q early) (λ (late : at ≤ q). more q late before) (cases_lt q at)

-- .. or at one more
pub all_and : (P : ℕ → Type 0) (p end : ℕ) → end ≡ p + 1 → ((q : ℕ) → q < p → P q) → P p → (q : ℕ) → q < end → P q
all_and P p end next was this q before = ⊎_elim (λ (early : q < p). was q early) (λ (late : p ≤ q). let same : p ≡ q = omega arith in subst P same this) (cases_lt q p)

-- ---- the first number that passes a test

pub find_first : (test : ℕ → Bool) (a n p : ℕ) → a ≤ p → p < a + n → test p ≡ true → ((q : ℕ) → a ≤ q → q < p → test q ≡ false) → find test (range_with_len a n) ≡ Some p
find_first test a zero p low high passes none = absurd (omega arith)
find_first test a (suc n) p low high passes none = ⊎_elim
    (λ (before : a < p). let no' = none a (omega arith) before in rw no' (find_first test (a + 1) n p (omega arith) (omega arith) passes (λ q after. none q (omega arith))))
    (λ (here : p ≤ a). let same : p ≡ a = omega arith in let yes' : test a ≡ true = subst (λ (q : ℕ). test q ≡ true) same passes in rw yes' (ap (λ (k : ℕ). Some k) (sym same)))
    (cases_lt a p)

pub find_none : (test : ℕ → Bool) (a n : ℕ) → ((q : ℕ) → a ≤ q → q < a + n → test q ≡ false) → find test (range_with_len a n) ≡ None
find_none test a zero none = refl
find_none test a (suc n) none = let no' = none a (omega arith) (omega arith) in rw no' (find_none test (a + 1) n (λ q after before. none q (omega arith) (omega arith)))

-- the same for what the first number that has something has
pub first_some : (at : ℕ → Option ℕ) (n p id : ℕ) → p < n → at p ≡ Some id → ((q : ℕ) → q < p → at q ≡ None) → option_and_then at (find (λ q. is_some (at q)) (range_with_len 0 n)) ≡ Some id
first_some at n p id low here none =
    rw (find_first (λ q. is_some (at q)) 0 n p (omega arith) (omega arith) (ap (λ (o : Option ℕ). is_some o) here) (λ q after before. ap (λ (o : Option ℕ). is_some o) (none q before))) here

pub first_none : (at : ℕ → Option ℕ) (n : ℕ) → ((q : ℕ) → q < n → at q ≡ None) → option_and_then at (find (λ q. is_some (at q)) (range_with_len 0 n)) ≡ None
first_none at n none = rw (find_none (λ q. is_some (at q)) 0 n (λ q after before. ap (λ (o : Option ℕ). is_some o) (none q (omega (arith, before))))) refl
