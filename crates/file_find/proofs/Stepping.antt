-- The table and the damaged files, by stepping over the ids that have header pages.
use Rattle.std.proofs.Common.{◌≡◌, ◌≢◌, ℕ, zero, suc, ◌+◌, ◌<◌, ◌≤◌, ⊎_elim, nat_lt, not, ◌==◌, Bool, true, false, List, refl, sym, ◌∙◌, ap, arith, Option, Some, None}
use Rattle.std.specs.Prelude.{Result, Ok, Err, find, is_some}
use Rattle.std.specs.Option.{option_map}
use Rattle.std.specs.List.{range_with_len, filter_map, cons_option}
use Rattle.std.proofs.lemmas.Bool.{cases_lt, cases_eq, cases_Bool, lt-ltb, le-ltb, eq-eqb, ne_eqb}
use Rattle.std.proofs.lemmas.Option.{none-some, same_Some}
use Rattle.geometry.specs.declared.geometry.Geometry.{Geometry}
use Rattle.table_model.specs.Table.{File, file_of as file_of_id, file_above}
use Rattle.image_model.specs.declared.damage.Damage.{Damage}
use Rattle.image_model.specs.declared.damage.Damage.TheVariants.{SameName}
use Rattle.image_model.specs.Places.{page_of}
use Rattle.image_model.specs.Headers.{name_of}
use Rattle.image_model.specs.Live.{Live, live_at, own}
use Rattle.image_model.specs.Files.{index_page, judged, judged_by, file_of, first_missing}
use Rattle.image_model.specs.Tables.{Found, has_of, counts, counted, records, table_of, holder, damage, damages, damaged_of}
use Rattle.flash_view.specs.Found.{has_header}
use Rattle.file_find.specs.Marks.{NextHead, cause_at}
use Rattle.file_find.specs.Listing.{IsNextFile, IsTheFile, damaged_above}
use Rattle.file_find.proofs.Marking.{has_at, has_none}
use Rattle.file_find.proofs.Heads.{header_parts}
use Rattle.file_find.proofs.Wholes.{has_parts, head_within}

-- ---- the first element of a number above another, in a list that goes by numbers

find_skip : {Y : Type 0} (t : Y → Bool) (o : Option Y) (xs : List Y) → ((y : Y) → o ≡ Some y → t y ≡ false) → find t (cons_option o xs) ≡ find t xs
find_skip t None xs fails = refl
find_skip t (Some y) xs fails = rw (fails y refl) refl

module _ {Y : Type 0} (key : Y → ℕ) (c : ℕ → Option Y) (keyed : (j : ℕ) (y : Y) → c j ≡ Some y → key y ≡ j) (after : ℕ) where
  -- an element whose number is at most `after` is passed over, and so is a number without an element
  skip : (a n : ℕ) → ((after < a) → c a ≡ None) → find (λ y. nat_lt after (key y)) (cons_option (c a) (filter_map c (range_with_len (a + 1) n))) ≡ find (λ y. nat_lt after (key y)) (filter_map c (range_with_len (a + 1) n))
  skip a n none =
      find_skip (λ (y : Y). nat_lt after (key y)) (c a) (filter_map c (range_with_len (a + 1) n)) (λ y is.
      ⊎_elim
      (λ (less : after < a). absurd (none-some y (sym (none less) ∙ is)))
      (λ (few : a ≤ after). let at : key y ≡ a = keyed a y is in le-ltb after (key y) (omega (arith, at)))
      (cases_lt after a))

  pub next_none : (a n : ℕ) → ((j : ℕ) → after < j → c j ≡ None) → find (λ y. nat_lt after (key y)) (filter_map c (range_with_len a n)) ≡ None
  next_none a zero none = refl
  next_none a (suc n) none = skip a n (none a) ∙ next_none (a + 1) n none

  pub next_some : (a n k : ℕ) (y : Y) → a ≤ k → k < a + n → after < k → c k ≡ Some y → ((j : ℕ) → after < j → j < k → c j ≡ None) → find (λ y. nat_lt after (key y)) (filter_map c (range_with_len a n)) ≡ Some y
  next_some a zero k y low high above is none = absurd (omega arith)
  next_some a (suc n) k y low high above is none =
      ⊎_elim
      (λ (here : a ≡ k). let at : c a ≡ Some y = ap c here ∙ is in let key_is : key y ≡ k = keyed k y is in rw at (rw (lt-ltb after (key y) (omega (arith, key_is))) refl))
      (λ (later : a ≡ k → ⊥). skip a n (λ less. none a less (omega (arith, later))) ∙ next_some (a + 1) n k y (omega (arith, later)) (omega arith) above is none)
      (cases_eq a k)

-- the element of a number, and of no other
module _ {Y : Type 0} (key : Y → ℕ) (c : ℕ → Option Y) (keyed : (j : ℕ) (y : Y) → c j ≡ Some y → key y ≡ j) (k : ℕ) where
  miss : (a n : ℕ) → ((y : Y) → c a ≡ Some y → key y ≢ k) → find (λ y. key y == k) (cons_option (c a) (filter_map c (range_with_len (a + 1) n))) ≡ find (λ y. key y == k) (filter_map c (range_with_len (a + 1) n))
  miss a n other = find_skip (λ (y : Y). key y == k) (c a) (filter_map c (range_with_len (a + 1) n)) (λ y is. ne_eqb (key y) k (other y is))

  pub of_none : (a n : ℕ) → c k ≡ None → find (λ y. key y == k) (filter_map c (range_with_len a n)) ≡ None
  of_none a zero none = refl
  of_none a (suc n) none = miss a n (λ y is e. let at : a ≡ k = sym (keyed a y is) ∙ e in none-some y (sym none ∙ ap c (sym at) ∙ is)) ∙ of_none (a + 1) n none

  pub of_some : (a n : ℕ) (y : Y) → a ≤ k → k < a + n → c k ≡ Some y → find (λ y. key y == k) (filter_map c (range_with_len a n)) ≡ Some y
  of_some a zero y low high is = absurd (omega arith)
  of_some a (suc n) y low high is =
      ⊎_elim
      (λ (here : a ≡ k). let at : c a ≡ Some y = ap c here ∙ is in rw at (rw (eq-eqb (key y) k (keyed k y is)) refl))
      (λ (later : a ≡ k → ⊥). miss a n (λ x has e. later (sym (keyed a x has) ∙ e)) ∙ of_some (a + 1) n y (omega (arith, later)) (omega arith) is)
      (cases_eq a k)

-- ---- what the table and the damaged files have of an id

file_key : (g : Geometry) (pages : Live) (id : ℕ) (head : List ℕ) (name : Option (List ℕ)) (missing : Option ℕ) (f : File) → judged_by g pages id head name missing ≡ Ok f → f.id ≡ id
file_key g pages id head None missing f e = absurd (cc)
file_key g pages id head (Some name) (Some span) f e = absurd (cc)
file_key g pages id head (Some name) None f e = let same : file_of g pages id head name ≡ f = cc in sym (ap (λ (x : File). x.id) same)

judged_key : (g : Geometry) (pages : Live) (id : ℕ) (head : List ℕ) (f : File) → judged g pages id head ≡ Ok f → f.id ≡ id
unfolding judged
judged_key g pages id head f e = file_key g pages id head (name_of head) (first_missing g pages head) f e

counted_parts : (has : Found) (n : ℕ) (o : Option (ℕ × Result File Damage)) (f : File) → counted has n o ≡ Some f → (p : ℕ) × (o ≡ Some (p, Ok f))
counted_parts has n None f e = absurd (none-some f e)
counted_parts has n (Some (p, Err x)) f e = absurd (none-some f e)
counted_parts has n (Some (p, Ok h)) f e =
    ⊎_elim
    (λ (yes' : counts has n p h.name ≡ true). let same : h ≡ f = same_Some h f (rw yes' at e) in (p, ap (λ (x : File). Some (p, Ok x)) same))
    (λ (no' : counts has n p h.name ≡ false). absurd (none-some f (rw no' at e)))
    (cases_Bool (counts has n p h.name))

damage_key : (has : Found) (n id : ℕ) (o : Option (ℕ × Result File Damage)) (d : ℕ × Damage) → damage has n id o ≡ Some d → d.0 ≡ id
damage_key has n id None d e = absurd (none-some d e)
damage_key has n id (Some (p, Err x)) d e = let same : (id, x) ≡ d = same_Some (id, x) d e in sym (ap (λ (y : ℕ × Damage). y.0) same)
damage_key has n id (Some (p, Ok f)) d e =
    ⊎_elim
    (λ (yes' : counts has n p f.name ≡ true). absurd (none-some d (rw yes' at e)))
    (λ (no' : counts has n p f.name ≡ false). let same : (id, SameName (holder has n f.name)) ≡ d = same_Some (id, SameName (holder has n f.name)) d (rw no' at e) in sym (ap (λ (y : ℕ × Damage). y.0) same))
    (cases_Bool (counts has n p f.name))

-- an id is in the table or damaged, by its cause
whole_or : (has : Found) (n id p : ℕ) (r : Result File Damage) → option_map (λ d. d.1) (damage has n id (Some (p, r))) ≡ None → (f : File) × (r ≡ Ok f) × (counted has n (Some (p, r)) ≡ Some f)
whole_or has n id p (Err e) none = absurd (none-some e (sym none))
whole_or has n id p (Ok f) none =
    ⊎_elim
    (λ (yes' : counts has n p f.name ≡ true). (f, refl, rw yes' refl))
    (λ (no' : counts has n p f.name ≡ false). absurd (none-some (SameName (holder has n f.name)) (sym (rw no' at none))))
    (cases_Bool (counts has n p f.name))

damaged_or : (has : Found) (n id p : ℕ) (r : Result File Damage) (cause : Damage) → option_map (λ d. d.1) (damage has n id (Some (p, r))) ≡ Some cause → (counted has n (Some (p, r)) ≡ None) × (damage has n id (Some (p, r)) ≡ Some (id, cause))
damaged_or has n id p (Err e) cause some = (refl, let same : e ≡ cause = same_Some e cause some in ap (λ (x : Damage). Some (id, x)) same)
damaged_or has n id p (Ok f) cause some =
    ⊎_elim
    (λ (yes' : counts has n p f.name ≡ true). absurd (none-some cause (rw yes' at some)))
    (λ (no' : counts has n p f.name ≡ false).
    let same : SameName (holder has n f.name) ≡ cause = same_Some (SameName (holder has n f.name)) cause (rw no' at some) in
    (rw no' refl, rw no' (ap (λ (x : Damage). Some (id, x)) same)))
    (cases_Bool (counts has n p f.name))

no_cause : (o : Option (ℕ × Damage)) → option_map (λ d. d.1) o ≡ None → o ≡ None
no_cause None e = refl
no_cause (Some d) e = absurd (none-some d.1 (sym e))

index_none : (o : Option ℕ) → is_some o ≡ false → o ≡ None
index_none None e = refl
index_none (Some p) e = absurd (cc)

module _ (g : Geometry) (image : List ℕ) where
  -- the file of an id in the table, and its damage
  pub file_at : ℕ → Option File
  file_at id = counted (has_of g (live_at g image)) 0x7FFF (has_of g (live_at g image) id)

  pub damage_at : ℕ → Option (ℕ × Damage)
  damage_at id = damage (has_of g (live_at g image)) 0x7FFF id (has_of g (live_at g image) id)

  headless : (id : ℕ) → has_header g image id ≡ false → has_of g (live_at g image) id ≡ None
  unfolding has_header
  headless id e = has_none g (live_at g image) id (index_none (index_page g (own (live_at g image) id) 0) e)

  not_header : (id : ℕ) → (has_header g image id ≡ true → ⊥) → has_header g image id ≡ false
  not_header id none = ⊎_elim (λ (yes' : has_header g image id ≡ true). absurd (none yes')) (λ (no' : has_header g image id ≡ false). no') (cases_Bool (has_header g image id))

  -- no id between has anything
  pub gap : (at id page j : ℕ) → NextHead g image at (Some (id, page)) → at < j → j < id → has_of g (live_at g image) j ≡ None
  gap at id page j next low high = headless j (not_header j (λ e. let few = next.0.least j low e in omega (arith, few)))

  pub past : (at j : ℕ) → NextHead g image at None → at < j → has_of g (live_at g image) j ≡ None
  past at j last low = headless j (last.none j low)

  file_at-keyed : (j : ℕ) (f : File) → file_at j ≡ Some f → f.id ≡ j
  unfolding file_at
  file_at-keyed j f e =
      let w = counted_parts (has_of g (live_at g image)) 0x7FFF (has_of g (live_at g image) j) f e in
      let v = has_parts g image j w.0 (Ok f) (index_page g (own (live_at g image) j) 0) refl w.1 in
      judged_key g (own (live_at g image) j) j (page_of g image w.0) f v.1

  damage_at-keyed : (j : ℕ) (d : ℕ × Damage) → damage_at j ≡ Some d → d.0 ≡ j
  unfolding damage_at
  damage_at-keyed j d e = damage_key (has_of g (live_at g image)) 0x7FFF j (has_of g (live_at g image) j) d e

  -- an id with a header page and no cause of damage
  pub whole_here : (id page : ℕ) → index_page g (own (live_at g image) id) 0 ≡ Some page → None ≡ cause_at g image id →
      (f : File) × (has_of g (live_at g image) id ≡ Some (page, Ok f)) × (file_at id ≡ Some f) × (damage_at id ≡ None) × (1 ≤ id) × (id ≤ 0x7FFF)
  unfolding cause_at file_at damage_at
  whole_here id page at none =
      let is = has_at g image id page at in
      let w = whole_or (has_of g (live_at g image)) 0x7FFF id page (judged g (own (live_at g image) id) id (page_of g image page)) (rw is at (sym none)) in
      let within = head_within g image page id (header_parts g image id page at).0 in
      (w.0, is ∙ ap (λ (r : Result File Damage). Some (page, r)) w.1, rw is w.2, no_cause (damage (has_of g (live_at g image)) 0x7FFF id (has_of g (live_at g image) id)) (sym none), within.0, within.1)

  -- one with a cause
  pub damaged_here : (id page : ℕ) (cause : Damage) → index_page g (own (live_at g image) id) 0 ≡ Some page → Some cause ≡ cause_at g image id →
      (file_at id ≡ None) × (damage_at id ≡ Some (id, cause)) × (1 ≤ id) × (id ≤ 0x7FFF)
  unfolding cause_at file_at damage_at
  damaged_here id page cause at some =
      let is = has_at g image id page at in
      let w = damaged_or (has_of g (live_at g image)) 0x7FFF id page (judged g (own (live_at g image) id) id (page_of g image page)) cause (rw is at (sym some)) in
      let within = head_within g image page id (header_parts g image id page at).0 in
      (rw is w.0, rw is w.1, within.0, within.1)

  file_none : (j : ℕ) → has_of g (live_at g image) j ≡ None → file_at j ≡ None
  unfolding file_at
  file_none j none = rw none refl

  damage_none : (j : ℕ) → has_of g (live_at g image) j ≡ None → damage_at j ≡ None
  unfolding damage_at
  damage_none j none = rw none refl

-- ---- steps

-- no id above `after` and at most `at` is in the table
pub record NoFile (g : Geometry) (image : List ℕ) (after at : ℕ) : Type 0 where
  pub low : after ≤ at
  pub none : (j : ℕ) → after < j → j ≤ at → file_at g image j ≡ None

-- none of them is damaged
pub record NoDamage (g : Geometry) (image : List ℕ) (after at : ℕ) : Type 0 where
  pub low : after ≤ at
  pub none : (j : ℕ) → after < j → j ≤ at → damage_at g image j ≡ None

module _ (g : Geometry) (image : List ℕ) (after : ℕ) where
  module _ (at id page : ℕ) (next : NextHead g image at (Some (id, page))) where
    -- the next id with a header page is damaged
    pub file_more : (cause : Damage) → NoFile g image after at → Some cause ≡ cause_at g image id → NoFile g image after id
    file_more cause was some =
        let here = damaged_here g image id page cause next.1 some in
        let above = next.0.above in
        record {
          low = omega (arith, was.low, above);
          none = λ j less most. ⊎_elim
              (λ (past' : at < j). ⊎_elim
              (λ (below : j < id). file_none g image j (gap g image at id page j next past' below))
              (λ (end : id ≤ j). let same : j ≡ id = omega arith in ap (file_at g image) same ∙ here.0)
              (cases_lt j id))
              (λ (before : j ≤ at). was.none j less before)
              (cases_lt at j);
        }

    -- it is in the table
    pub file_next : NoFile g image after at → None ≡ cause_at g image id → IsNextFile g image after id page
    unfolding file_above table_of records file_at
    file_next was none =
        let here = whole_here g image id page next.1 none in
        let above = next.0.above in
        record {
          file = here.0;
          above = next_some (λ (f : File). f.id) (file_at g image) (file_at-keyed g image) after 1 0x7FFF id here.0 here.4 (omega (arith, here.5)) (omega (arith, was.low, above)) here.2
              (λ j less most. ⊎_elim
              (λ (past' : at < j). file_none g image j (gap g image at id page j next past' most))
              (λ (before : j ≤ at). was.none j less before)
              (cases_lt at j));
          id_is = file_at-keyed g image id here.0 here.2;
          has = here.1;
        }

    pub damage_more : NoDamage g image after at → None ≡ cause_at g image id → NoDamage g image after id
    damage_more was none =
        let here = whole_here g image id page next.1 none in
        let above = next.0.above in
        record {
          low = omega (arith, was.low, above);
          none = λ j less most. ⊎_elim
              (λ (past' : at < j). ⊎_elim
              (λ (below : j < id). damage_none g image j (gap g image at id page j next past' below))
              (λ (end : id ≤ j). let same : j ≡ id = omega arith in ap (damage_at g image) same ∙ here.3)
              (cases_lt j id))
              (λ (before : j ≤ at). was.none j less before)
              (cases_lt at j);
        }

    pub damage_next : (cause : Damage) → NoDamage g image after at → Some cause ≡ cause_at g image id → Some (id, cause) ≡ damaged_above g image after
    unfolding damaged_above damaged_of damages damage_at
    damage_next cause was some =
        let here = damaged_here g image id page cause next.1 some in
        let above = next.0.above in
        sym (next_some (λ (d : ℕ × Damage). d.0) (damage_at g image) (damage_at-keyed g image) after 1 0x7FFF id (id, cause) here.2 (omega (arith, here.3)) (omega (arith, was.low, above)) here.1
        (λ j less most. ⊎_elim
        (λ (past' : at < j). damage_none g image j (gap g image at id page j next past' most))
        (λ (before : j ≤ at). was.none j less before)
        (cases_lt at j)))

  -- no id above has a header page
  pub file_last : (at : ℕ) → NextHead g image at None → NoFile g image after at → file_above after (table_of g image) ≡ None
  unfolding file_above table_of records file_at
  file_last at last was =
      next_none (λ (f : File). f.id) (file_at g image) (file_at-keyed g image) after 1 0x7FFF
      (λ j less. ⊎_elim
      (λ (past' : at < j). file_none g image j (past g image at j last past'))
      (λ (before : j ≤ at). was.none j less before)
      (cases_lt at j))

  pub damage_last : (at : ℕ) → NextHead g image at None → NoDamage g image after at → None ≡ damaged_above g image after
  unfolding damaged_above damaged_of damages damage_at
  damage_last at last was =
      sym (next_none (λ (d : ℕ × Damage). d.0) (damage_at g image) (damage_at-keyed g image) after 1 0x7FFF
      (λ j less. ⊎_elim
      (λ (past' : at < j). damage_none g image j (past g image at j last past'))
      (λ (before : j ≤ at). was.none j less before)
      (cases_lt at j)))

-- ---- the file of an id

pub file_headless : (g : Geometry) (image : List ℕ) (id : ℕ) → None ≡ index_page g (own (live_at g image) id) 0 → file_of_id id (table_of g image) ≡ None
unfolding file_of_id table_of records file_at
file_headless g image id none = of_none (λ (f : File). f.id) (file_at g image) (file_at-keyed g image) id 1 0x7FFF (file_none g image id (has_none g (live_at g image) id (sym none)))

pub file_damaged : (g : Geometry) (image : List ℕ) (id page : ℕ) (cause : Damage) → Some page ≡ index_page g (own (live_at g image) id) 0 → Some cause ≡ cause_at g image id → file_of_id id (table_of g image) ≡ None
unfolding file_of_id table_of records file_at
file_damaged g image id page cause at some =
    let here = damaged_here g image id page cause (sym at) some in
    of_none (λ (f : File). f.id) (file_at g image) (file_at-keyed g image) id 1 0x7FFF here.0

pub file_whole : (g : Geometry) (image : List ℕ) (id page : ℕ) → Some page ≡ index_page g (own (live_at g image) id) 0 → None ≡ cause_at g image id → IsTheFile g image id page
unfolding file_of_id table_of records file_at
file_whole g image id page at none =
    let here = whole_here g image id page (sym at) none in
    record {
      file = here.0;
      listed = of_some (λ (f : File). f.id) (file_at g image) (file_at-keyed g image) id 1 0x7FFF here.0 here.4 (omega (arith, here.5)) here.2;
      has = here.1;
    }

-- ---- what an optional value is

pub is_gone : {A : Type 0} (o : Option A) (none : Bool) → is_some o ≡ not none → none ≡ true → None ≡ o
is_gone None none e is = refl
is_gone (Some x) none e is = let bad : true ≡ false = rw is at e in absurd (cc)

pub is_there : {A : Type 0} (o : Option A) (none : Bool) → is_some o ≡ not none → none ≡ false → (x : A) × (Some x ≡ o)
is_there None none e is = let bad : false ≡ true = rw is at e in absurd (cc)
is_there (Some x) none e is = (x, refl)
