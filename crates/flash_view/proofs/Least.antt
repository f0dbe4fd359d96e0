-- The least id of the pages below a loop's counter.
use Rattle.std.proofs.Common.{◌≡◌, ℕ, zero, suc, ◌+◌, ◌%◌, ◌==◌, ◌<◌, ◌≤◌, ◌⊎◌, ⊎_elim, inl, inr, Bool, true, false, List, refl, sym, subst, ◌∙◌, ap, arith, Option, Some, None, if◌then◌else◌}
use Rattle.std.specs.Prelude.{find, is_some, option_and_then}
use Rattle.std.specs.List.{range_with_len}
use Rattle.std.proofs.lemmas.Bool.{cases_lt, lt-ltb, le-ltb, eqb-true, eq-eqb}
use Rattle.geometry.specs.declared.geometry.Geometry.{Geometry}
use Rattle.geometry.specs.Numbers.{page_count}
use Rattle.image_model.specs.Headers.{obj_id}
use Rattle.image_model.specs.Live.{live_at, own}
use Rattle.image_model.specs.Files.{index_page, is_index}
use Rattle.flash_view.specs.Found.{headed, has_header, NextId, lower}

-- no page below p has an id above `after`
pub record NoneBelow (at : ℕ → Option ℕ) (after p : ℕ) : Type 0 where
  pub none : (q id : ℕ) → q < p → at q ≡ Some id → id ≤ after

-- a page below p has this id above `after`, and none has a lesser one
pub record SomeBelow (at : ℕ → Option ℕ) (after p id : ℕ) : Type 0 where
  pub page : ℕ
  pub below : page < p
  pub here : at page ≡ Some id
  pub above : after < id
  pub least : (q other : ℕ) → q < p → at q ≡ Some other → after < other → id ≤ other

abbrev pub LeastBelow : (ℕ → Option ℕ) → ℕ → ℕ → Option ℕ → Type 0
LeastBelow at after p None = NoneBelow at after p
LeastBelow at after p (Some id) = SomeBelow at after p id

-- a page below the next one is a page below this one, or this one
last_or : (p q : ℕ) → q < p + 1 → (q < p) ⊎ (q ≡ p)
last_or p q h = ⊎_elim (λ (low : q < p). inl low) (λ (high : p ≤ q). inr (omega arith)) (cases_lt q p)

none_more : (at : ℕ → Option ℕ) (after p : ℕ) → NoneBelow at after p → ((id : ℕ) → at p ≡ Some id → id ≤ after) → NoneBelow at after (p + 1)
none_more at after p was here = record {
  none = λ q id low is. ⊎_elim (λ (before : q < p). was.none q id before is) (λ (same : q ≡ p). here id (subst (λ (r : ℕ). at r ≡ Some id) same is)) (last_or p q low);
}

some_more : (at : ℕ → Option ℕ) (after p id : ℕ) → SomeBelow at after p id → ((other : ℕ) → at p ≡ Some other → after < other → id ≤ other) → SomeBelow at after (p + 1) id
some_more at after p id was here = record {
  page = was.page;
  below = omega (arith, was.below);
  here = was.here;
  above = was.above;
  least = λ q other low is more. ⊎_elim (λ (before : q < p). was.least q other before is more) (λ (same : q ≡ p). here other (subst (λ (r : ℕ). at r ≡ Some other) same is) more) (last_or p q low);
}

some_now : (at : ℕ → Option ℕ) (after p id : ℕ) → at p ≡ Some id → after < id → ((q other : ℕ) → q < p → at q ≡ Some other → after < other → id ≤ other) → SomeBelow at after (p + 1) id
some_now at after p id is above low = record {
  page = p;
  below = omega arith;
  here = is;
  above = above;
  least = λ q other next has more. ⊎_elim (λ (before : q < p). low q other before has more) (λ (same : q ≡ p). let e : Some other ≡ Some id = sym has ∙ ap at same ∙ is in let f : other ≡ id = cc in omega (arith, f)) (last_or p q next);
}

-- one page more
pub least_more : (at : ℕ → Option ℕ) (after p : ℕ) (least o : Option ℕ) → LeastBelow at after p least → o ≡ at p → LeastBelow at after (p + 1) (lower after least o)
least_more at after p None None was is = none_more at after p was (λ id e. absurd (cc))
least_more at after p (Some m) None was is = some_more at after p m was (λ id e more. absurd (cc))
least_more at after p None (Some id) was is =
    ⊎_elim
    (λ (above : after < id). rw (lt-ltb after id above) (some_now at after p id (sym is) above (λ q other low has more. absurd (let few = was.none q other low has in omega (arith, few, more)))))
    (λ (few : id ≤ after). rw (le-ltb after id few) (none_more at after p was (λ x e. let same : x ≡ id = cc in omega (arith, same, few))))
    (cases_lt after id)
least_more at after p (Some m) (Some id) was is =
    ⊎_elim
    (λ (above : after < id). ⊎_elim
    (λ (less : id < m). rw (lt-ltb after id above, lt-ltb id m less) (some_now at after p id (sym is) above (λ q other low has more. let most = was.least q other low has more in omega (arith, most, less))))
    (λ (more : m ≤ id). rw (lt-ltb after id above, le-ltb id m more) (some_more at after p m was (λ x e above'. let same : x ≡ id = cc in omega (arith, same, more))))
    (cases_lt id m))
    (λ (few : id ≤ after). rw (le-ltb after id few) (some_more at after p m was (λ x e above'. let same : x ≡ id = cc in absurd (omega (arith, same, few, above')))))
    (cases_lt after id)

-- pages without an id
pub least_skip : (at : ℕ → Option ℕ) (after p r : ℕ) (least : Option ℕ) → p ≤ r → LeastBelow at after p least → ((q : ℕ) → p ≤ q → q < r → at q ≡ None) → LeastBelow at after r least
least_skip at after p r None on was none = record {
  none = λ q id low is. ⊎_elim (λ (before : q < p). was.none q id before is) (λ (behind : p ≤ q). let no' = none q behind low in absurd (cc)) (cases_lt q p);
}
least_skip at after p r (Some id) on was none = record {
  page = was.page;
  below = omega (arith, was.below);
  here = was.here;
  above = was.above;
  least = λ q other low is more. ⊎_elim (λ (before : q < p). was.least q other before is more) (λ (behind : p ≤ q). let no' = none q behind low in absurd (cc)) (cases_lt q p);
}

-- ---- what a header page says of its id

own_if : (page : List ℕ) (mine : Bool) → is_index (if mine then Some page else None) 0 ≡ true → (mine ≡ true) × (is_index (Some page) 0 ≡ true)
own_if page true e = (refl, e)
own_if page false e = absurd (cc)

pub head_id : (o : Option (List ℕ)) (id : ℕ) → is_index (option_and_then (λ page. if obj_id page % 0x8000 == id then Some page else None) o) 0 ≡ true → headed o ≡ Some id
head_id None id e = absurd (cc)
head_id (Some page) id e =
    let w = own_if page (obj_id page % 0x8000 == id) e in
    let same : obj_id page % 0x8000 ≡ id = eqb-true _ _ w.0 in
    rw w.1 (ap (λ (x : ℕ). Some x) same)

headed_if : (page : List ℕ) (id : ℕ) (index : Bool) → (if index then Some (obj_id page % 0x8000) else None) ≡ Some id → (index ≡ true) × (obj_id page % 0x8000 ≡ id)
headed_if page id true e = (refl, cc)
headed_if page id false e = absurd (cc)

id_head : (o : Option (List ℕ)) (id : ℕ) → headed o ≡ Some id → is_index (option_and_then (λ page. if obj_id page % 0x8000 == id then Some page else None) o) 0 ≡ true
id_head None id e = absurd (cc)
id_head (Some page) id e =
    let w = headed_if page id (is_index (Some page) 0) e in
    rw (eq-eqb _ _ w.1) w.0

-- ---- whether a range has a page that passes

find_or : (a : ℕ) (rest : Option ℕ) (first : Bool) → is_some rest ≡ true → is_some (if first then Some a else rest) ≡ true
find_or a rest true e = refl
find_or a rest false e = e

has_page : (test : ℕ → Bool) (a n q : ℕ) → a ≤ q → q < a + n → test q ≡ true → is_some (find test (range_with_len a n)) ≡ true
has_page test a zero q low high passes = absurd (omega arith)
has_page test a (suc n) q low high passes =
    ⊎_elim
    (λ (later : a < q). find_or a (find test (range_with_len (a + 1) n)) (test a) (has_page test (a + 1) n q (omega arith) (omega arith) passes))
    (λ (now : q ≤ a). let same : q ≡ a = omega arith in let first : test a ≡ true = subst (λ (r : ℕ). test r ≡ true) same passes in rw first refl)
    (cases_lt a q)

-- a page of a range that passes
record Passing (test : ℕ → Bool) (a n : ℕ) : Type 0 where
  page : ℕ
  below : page < a + n
  passes : test page ≡ true

had_step : (test : ℕ → Bool) (a n : ℕ) (first : Bool) → test a ≡ first → (is_some (find test (range_with_len (a + 1) n)) ≡ true → Passing test (a + 1) n) →
    is_some (if first then Some a else find test (range_with_len (a + 1) n)) ≡ true → Passing test a (suc n)
had_step test a n true is later e = record { page = a; below = omega arith; passes = is }
had_step test a n false is later e = let w = later e in record { page = w.page; below = omega (arith, w.below); passes = w.passes }

had_page : (test : ℕ → Bool) (a n : ℕ) → is_some (find test (range_with_len a n)) ≡ true → Passing test a n
had_page test a zero e = absurd (cc)
had_page test a (suc n) e = had_step test a n (test a) refl (had_page test (a + 1) n) e

-- ---- the ids that have header pages, and those of pages

pub heads : (g : Geometry) (image : List ℕ) (q id : ℕ) → q < page_count g → headed (live_at g image q) ≡ Some id → has_header g image id ≡ true
unfolding has_header index_page own
heads g image q id low e = has_page (λ p. is_index (own (live_at g image) id p) 0) 0 (page_count g) q (omega arith) (omega arith) (id_head (live_at g image q) id e)

-- a page of an id that has a header page
pub record Headed (g : Geometry) (image : List ℕ) (id : ℕ) : Type 0 where
  pub page : ℕ
  pub below : page < page_count g
  pub is : headed (live_at g image page) ≡ Some id

pub headed_of : (g : Geometry) (image : List ℕ) (id : ℕ) → has_header g image id ≡ true → Headed g image id
unfolding has_header index_page own
headed_of g image id e =
    let w = had_page (λ p. is_index (own (live_at g image) id p) 0) 0 (page_count g) e in
    record { page = w.page; below = omega (arith, w.below); is = head_id (live_at g image w.page) id w.passes }

none_of : (has : Bool) → (has ≡ true → ⊥) → has ≡ false
none_of true e = absurd (e refl)
none_of false e = refl

-- with no page left it is the next id
pub least_all : (g : Geometry) (image : List ℕ) (after p : ℕ) (least : Option ℕ) → p ≡ page_count g → LeastBelow (λ q. headed (live_at g image q)) after p least → NextId g image after least
least_all g image after p None all was = record {
  none = λ other above. none_of (has_header g image other) (λ e. let w = headed_of g image other e in let few = was.none w.page other (omega (arith, all, w.below)) w.is in omega (arith, few, above));
}
least_all g image after p (Some id) all was = record {
  above = was.above;
  has = heads g image was.page id (omega (arith, all, was.below)) was.here;
  least = λ other above e. let w = headed_of g image other e in was.least w.page other (omega (arith, all, w.below)) w.is above;
}
