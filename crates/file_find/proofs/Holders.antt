-- The table's file of a name, by marked pages, and the damage of an id by its mark.
use Rattle.std.proofs.Common.{◌≡◌, ◌≢◌, ℕ, ◌%◌, ◌==◌, ◌&&◌, ◌<◌, ◌≤◌, not, nat_lt, ⊎_elim, Bool, true, false, List, refl, sym, ◌∙◌, ap, arith, Option, Some, None, if◌then◌else◌}
use Rattle.std.specs.Prelude.{Result, Ok, Err, find, is_some, unwrap_or, option_and_then}
use Rattle.std.specs.List.{range_with_len}
use Rattle.std.proofs.lemmas.Bool.{cases_lt, cases_Bool, lt-ltb, le-ltb, eqb-true, eq-eqb, ne_eqb}
use Rattle.geometry.specs.declared.geometry.Geometry.{Geometry}
use Rattle.table_model.specs.Table.{File}
use Rattle.image_model.specs.declared.damage.Damage.{Damage}
use Rattle.image_model.specs.declared.damage.Damage.TheVariants.{SameName}
use Rattle.geometry.specs.Numbers.{page_count}
use Rattle.image_model.specs.Headers.{name_of}
use Rattle.image_model.specs.Places.{page_of}
use Rattle.image_model.specs.Live.{live_at, own}
use Rattle.image_model.specs.Files.{index_page, judged}
use Rattle.image_model.specs.Tables.{Found, has_of, ids, counts, counted, is_named, holder}
use Rattle.flash_view.specs.Found.{headed, is_name}
use Rattle.flash_view.specs.DataPages.{lookup_entry}
use Rattle.file_find.specs.Judging.{cause_of}
use Rattle.file_find.specs.Marks.{name_mark, mark_of, mark_for, holder_at, holder_below, judged_mark, table_id, same_name, cause_at}
use Rattle.file_find.proofs.Marking.{has_at, find_parts}
use Rattle.file_find.proofs.Heads.{mark_entry, header_mark, mark_head}
use Rattle.file_find.proofs.Wholes.{equal_text, named_parts, name_is, name_of_file, whole_of, find_one, find_nothing, nothing_found, clash, had_before, Counts, first_that_counts, holder_parts, cause_counts, counts_cause, doubled_cause, broken_cause}

-- ---- the id of a page that holds a name, by its entry

none_if : (o : Option ℕ) (b : Bool) → None ≡ (if b && false then o else None)
none_if o true = refl
none_if o false = refl

pub other_name : (g : Geometry) (image name : List ℕ) (p : ℕ) → is_name (name_of (page_of g image p)) name ≡ false → None ≡ holder_at g image name p
unfolding holder_at
other_name g image name p other = rw other (none_if (headed (live_at g image p)) (mark_of g image p == name_mark name))

pub other_mark_name : (g : Geometry) (image name : List ℕ) (p mark sought : ℕ) → sought ≡ name_mark name → mark ≡ mark_of g image p → mark ≢ sought → None ≡ holder_at g image name p
unfolding holder_at
other_mark_name g image name p mark sought seeks is other = rw (sym is, ne_eqb mark (name_mark name) (λ e. other (e ∙ sym seeks))) refl

pub holder_by_entry : (g : Geometry) (image name : List ℕ) (p mark sought entry : ℕ) → sought ≡ name_mark name → mark ≡ mark_of g image p → mark ≡ sought → is_name (name_of (page_of g image p)) name ≡ true → entry ≡ lookup_entry g image p →
    Some (entry % 0x8000) ≡ holder_at g image name p
unfolding holder_at
holder_by_entry g image name p mark sought entry seeks is same named told =
    let marked : mark_of g image p ≡ name_mark name = sym is ∙ same ∙ seeks in
    rw (eq-eqb (mark_of g image p) (name_mark name) marked, named, told) (mark_entry g image p (λ z. let bad : name_mark name ≡ 0 = sym marked ∙ z in absurd (omega (arith, bad))))

-- ---- the page of the table's file of a name

listed_parts : (r : Result File Damage) (cause : Option Damage) (name : List ℕ) → mark_for r cause ≡ name_mark name → (f : File) × (r ≡ Ok f) × (cause ≡ None)
listed_parts (Err e) cause name is = absurd (omega (arith, is))
listed_parts (Ok f) None name is = (f, refl, refl)
listed_parts (Ok f) (Some x) name is = absurd (omega (arith, is))

-- this page is the header page of the table's file of that name, and of this id
pub record Holds (g : Geometry) (image name : List ℕ) (p id : ℕ) : Type 0 where
  pub file : File
  pub has : has_of g (live_at g image) id ≡ Some (p, Ok file)
  pub named : file.name ≡ name
  pub counting : counts (has_of g (live_at g image)) 0x7FFF p name ≡ true

pub holder_parts_at : (g : Geometry) (image name : List ℕ) (p id : ℕ) → holder_at g image name p ≡ Some id → Holds g image name p id
unfolding holder_at
holder_parts_at g image name p id e =
    let w = named_parts (mark_of g image p == name_mark name) (is_name (name_of (page_of g image p)) name) (headed (live_at g image p)) id e in
    let marked : mark_of g image p ≡ name_mark name = eqb-true _ _ w.0 in
    let at : index_page g (own (live_at g image) id) 0 ≡ Some p = mark_head g image p id w.2 (λ z. let bad : name_mark name ≡ 0 = sym marked ∙ z in absurd (omega (arith, bad))) in
    let f = listed_parts (judged g (own (live_at g image) id) id (page_of g image p)) (cause_at g image id) name (sym (header_mark g image id p at) ∙ marked) in
    let has = has_at g image id p at ∙ ap (λ (r : Result File Damage). Some (p, r)) f.1 in
    let named = name_is (name_of (page_of g image p)) f.0.name name (name_of_file g (own (live_at g image) id) id (page_of g image p) f.0 f.1) w.1 in
    record { file = f.0; has = has; named = named; counting = rw named at (cause_counts g image id p f.0 has f.2) }

listed_mark : (r : Result File Damage) (cause : Option Damage) (f : File) → r ≡ Ok f → cause ≡ None → mark_for r cause ≡ name_mark f.name
listed_mark r cause f is none = rw (is, none) refl

pub holder_here : (g : Geometry) (image name : List ℕ) (p id : ℕ) (f : File) → has_of g (live_at g image) id ≡ Some (p, Ok f) → f.name ≡ name → counts (has_of g (live_at g image)) 0x7FFF p name ≡ true → holder_at g image name p ≡ Some id
unfolding holder_at
holder_here g image name p id f has named counting =
    let w = whole_of g image id p f has in
    let none : cause_at g image id ≡ None = counts_cause g image id p f has (rw named counting) in
    let marked : mark_of g image p ≡ name_mark name = header_mark g image id p w.first ∙ listed_mark (judged g (own (live_at g image) id) id (page_of g image p)) (cause_at g image id) f w.is none ∙ ap name_mark named in
    rw (eq-eqb (mark_of g image p) (name_mark name) marked, name_of_file g (own (live_at g image) id) id (page_of g image p) f w.is, named, equal_text name) w.head

module _ (g : Geometry) (image name : List ℕ) where
  -- the id has the table's file of that name
  holds : ℕ → Bool
  holds id = is_named (counted (has_of g (live_at g image)) 0x7FFF (has_of g (live_at g image) id)) name

  same_holder : (i j p q : ℕ) (f h : File) → has_of g (live_at g image) i ≡ Some (p, Ok f) → has_of g (live_at g image) j ≡ Some (q, Ok h) → f.name ≡ name → h.name ≡ name →
      counts (has_of g (live_at g image)) 0x7FFF p name ≡ true → counts (has_of g (live_at g image)) 0x7FFF q name ≡ true → i ≡ j
  same_holder i j p q f h is is' named named' c c' =
      let w = whole_of g image i p f is in
      let w' = whole_of g image j q h is' in
      ⊎_elim
      (λ (less : p < q). absurd (clash (has_of g (live_at g image)) 0x7FFF q p i name f c' w.low w.high is named less))
      (λ (high : q ≤ p). ⊎_elim
      (λ (more : q < p). absurd (clash (has_of g (live_at g image)) 0x7FFF p q j name h c w'.low w'.high is' named' more))
      (λ (low : p ≤ q). let at : p ≡ q = omega arith in let same : Some i ≡ Some j = sym w.head ∙ ap (λ (r : ℕ). headed (live_at g image r)) at ∙ w'.head in cc)
      (cases_lt q p))
      (cases_lt p q)

  -- an id that has it is the only one
  holder_is : (id p : ℕ) (f : File) → has_of g (live_at g image) id ≡ Some (p, Ok f) → f.name ≡ name → counts (has_of g (live_at g image)) 0x7FFF p name ≡ true → table_id g image name ≡ Some id
  unfolding table_id holds
  holder_is id p f is named c =
      let within = whole_of g image id p f is in
      find_one holds 1 0x7FFF id within.low (omega (arith, within.high))
      (rw is (rw (named, c) (equal_text name)))
      (λ i e. let w = holder_parts (has_of g (live_at g image)) 0x7FFF (has_of g (live_at g image) i) name e in
      same_holder i id w.page p w.file f w.is is w.named named w.counting c)

  none_is : ((q : ℕ) → q < page_count g → is_some (holder_at g image name q) ≡ false) → None ≡ table_id g image name
  unfolding table_id holds
  none_is none =
      sym (find_nothing holds 1 0x7FFF (λ i e.
      let w = holder_parts (has_of g (live_at g image)) 0x7FFF (has_of g (live_at g image) i) name e in
      let here = holder_here g image name w.page i w.file w.is w.named w.counting in
      let bad : true ≡ false = rw here at (none w.page (whole_of g image i w.page w.file w.is).below) in absurd (cc)))

  some_holder : (p : ℕ) (o : Option ℕ) → holder_at g image name p ≡ o → is_some o ≡ true → o ≡ table_id g image name
  some_holder p None is e = absurd (cc)
  some_holder p (Some id) is e = let w = holder_parts_at g image name p id is in sym (holder_is id p w.file w.has w.named w.counting)

  table_by : (o : Option ℕ) → find (λ q. is_some (holder_at g image name q)) (range_with_len 0 (page_count g)) ≡ o → option_and_then (holder_at g image name) o ≡ table_id g image name
  table_by None e = none_is (λ q low. nothing_found (λ (q : ℕ). is_some (holder_at g image name q)) 0 (page_count g) e q (omega arith) (omega arith))
  table_by (Some p) e =
      let w = find_parts (λ (q : ℕ). is_some (holder_at g image name q)) 0 (page_count g) p e in
      some_holder p (holder_at g image name p) refl w.0

  -- the page that has it is one of the volume
  pub holder_all : holder_below g image name (page_count g) ≡ table_id g image name
  unfolding holder_below
  holder_all = table_by (find (λ q. is_some (holder_at g image name q)) (range_with_len 0 (page_count g))) refl

  -- ---- the same for the pages below one

  held_by : (p : ℕ) (o : Option ℕ) → holder_at g image name p ≡ o → is_some o ≡ true → (id : ℕ) × (holder_at g image name p ≡ Some id)
  held_by p None is e = absurd (cc)
  held_by p (Some id) is e = (id, is)

  below_by : (end : ℕ) (o : Option ℕ) → find (λ q. is_some (holder_at g image name q)) (range_with_len 0 end) ≡ o → is_some (option_and_then (holder_at g image name) o) ≡ true → Counts (has_of g (live_at g image)) 0x7FFF end name
  below_by end None is e = absurd (cc)
  below_by end (Some p) is e =
      let w = find_parts (λ (q : ℕ). is_some (holder_at g image name q)) 0 end p is in
      let at = held_by p (holder_at g image name p) refl w.0 in
      let here = holder_parts_at g image name p at.0 at.1 in
      record { id = at.0; page = p; file = here.file; is = here.has; named = here.named; counting = here.counting; below = omega (arith, w.2) }

  held_below : (end : ℕ) → is_some (holder_below g image name end) ≡ true → Counts (has_of g (live_at g image)) 0x7FFF end name
  unfolding holder_below
  held_below end e = below_by end (find (λ q. is_some (holder_at g image name q)) (range_with_len 0 end)) refl e

  nobody_by : (end : ℕ) (o : Option ℕ) → find (λ q. is_some (holder_at g image name q)) (range_with_len 0 end) ≡ o → is_some (option_and_then (holder_at g image name) o) ≡ false → Counts (has_of g (live_at g image)) 0x7FFF end name → ⊥
  nobody_by end None is e w =
      let none : is_some (holder_at g image name w.page) ≡ false = nothing_found (λ (q : ℕ). is_some (holder_at g image name q)) 0 end is w.page (omega arith) (omega (arith, w.below)) in
      let here = holder_here g image name w.page w.id w.file w.is w.named w.counting in
      let bad : true ≡ false = rw here at none in cc
  nobody_by end (Some p) is e w =
      let at = find_parts (λ (q : ℕ). is_some (holder_at g image name q)) 0 end p is in
      let bad : true ≡ false = sym at.0 ∙ e in cc

  nobody_below : (end : ℕ) → is_some (holder_below g image name end) ≡ false → Counts (has_of g (live_at g image)) 0x7FFF end name → ⊥
  unfolding holder_below
  nobody_below end e w = nobody_by end (find (λ q. is_some (holder_at g image name q)) (range_with_len 0 end)) refl e w

  -- a whole file counts where the pages before it have no holder of its name
  counts_below : (id p : ℕ) (f : File) → has_of g (live_at g image) id ≡ Some (p, Ok f) → f.name ≡ name → counts (has_of g (live_at g image)) 0x7FFF p name ≡ not (is_some (holder_below g image name p))
  counts_below id p f has named =
      ⊎_elim
      (λ (held : is_some (holder_below g image name p) ≡ true).
      let w = held_below p held in
      let within = whole_of g image w.id w.page w.file w.is in
      ⊎_elim
      (λ (yes' : counts (has_of g (live_at g image)) 0x7FFF p name ≡ true). absurd (clash (has_of g (live_at g image)) 0x7FFF p w.page w.id name w.file yes' within.low within.high w.is w.named w.below))
      (λ (no' : counts (has_of g (live_at g image)) 0x7FFF p name ≡ false). rw (held, no') refl)
      (cases_Bool (counts (has_of g (live_at g image)) 0x7FFF p name)))
      (λ (nobody : is_some (holder_below g image name p) ≡ false).
      ⊎_elim
      (λ (yes' : counts (has_of g (live_at g image)) 0x7FFF p name ≡ true). rw (nobody, yes') refl)
      (λ (no' : counts (has_of g (live_at g image)) 0x7FFF p name ≡ false).
      let b = had_before (has_of g (live_at g image)) 0x7FFF p name no' in
      let at = b.before in
      absurd (nobody_below p nobody (first_that_counts (has_of g (live_at g image)) 0x7FFF p p b.id at.page name at.file at.less at.less at.is at.named)))
      (cases_Bool (counts (has_of g (live_at g image)) 0x7FFF p name)))
      (cases_Bool (is_some (holder_below g image name p)))

-- ---- the mark of a header page, by what is judged of its file

whole_right : (g : Geometry) (image : List ℕ) (id p : ℕ) (f : File) (held : Bool) → is_some (holder_below g image f.name p) ≡ held → has_of g (live_at g image) id ≡ Some (p, Ok f) →
    (if held then 2 else name_mark f.name) ≡ mark_for (Ok f) (cause_at g image id)
whole_right g image id p f true is has = rw (doubled_cause g image id p f has (counts_below g image f.name id p f has refl ∙ ap not is)) refl
whole_right g image id p f false is has = rw (counts_cause g image id p f has (counts_below g image f.name id p f has refl ∙ ap not is)) refl

right_by : (g : Geometry) (image : List ℕ) (id p : ℕ) (r : Result File Damage) → judged g (own (live_at g image) id) id (page_of g image p) ≡ r → has_of g (live_at g image) id ≡ Some (p, r) → judged_mark g image p (cause_of r) ≡ mark_for r (cause_at g image id)
right_by g image id p (Err e) is has = refl
right_by g image id p (Ok f) is has = rw (name_of_file g (own (live_at g image) id) id (page_of g image p) f is) (whole_right g image id p f (is_some (holder_below g image f.name p)) refl has)

pub judged_right : (g : Geometry) (image : List ℕ) (id p : ℕ) → index_page g (own (live_at g image) id) 0 ≡ Some p → judged_mark g image p (cause_of (judged g (own (live_at g image) id) id (page_of g image p))) ≡ mark_of g image p
judged_right g image id p at = right_by g image id p (judged g (own (live_at g image) id) id (page_of g image p)) refl (has_at g image id p at) ∙ sym (header_mark g image id p at)

-- ---- the damage of an id, by the mark of its header page

holder_name : (has : Found) (n : ℕ) (name mine : List ℕ) → mine ≡ name → unwrap_or (find (λ id. is_named (counted has n (has id)) name) (ids n)) 0 ≡ holder has n mine
unfolding holder
holder_name has n name mine same = rw same refl

held_name : (g : Geometry) (image name : List ℕ) (f : File) → f.name ≡ name → Some (SameName (unwrap_or (table_id g image name) 0)) ≡ Some (SameName (holder (has_of g (live_at g image)) 0x7FFF f.name))
unfolding table_id
held_name g image name f named = ap (λ (x : ℕ). Some (SameName x)) (holder_name (has_of g (live_at g image)) 0x7FFF name f.name named)

not_broken : (cause : Option Damage) (f : File) → mark_for (Ok f) cause ≡ 1 → ⊥
not_broken None f one = omega (arith, one)
not_broken (Some x) f one = omega (arith, one)

not_doubled : (cause : Option Damage) (f : File) → cause ≡ None → mark_for (Ok f) cause ≡ 2 → ⊥
not_doubled cause f none two = let bad : name_mark f.name ≡ 2 = rw none at two in omega (arith, bad)

listed_by : (r : Result File Damage) (cause : Option Damage) (mark : ℕ) → mark ≡ mark_for r cause → mark ≢ 1 → mark ≢ 2 → None ≡ cause
listed_by (Err e) cause mark is one two = absurd (one is)
listed_by (Ok f) None mark is one two = refl
listed_by (Ok f) (Some x) mark is one two = absurd (two is)

some_by : (cause : Option Damage) (f : File) (mark : ℕ) → mark ≡ mark_for (Ok f) cause → mark < 3 → (c : Damage) × (Some c ≡ cause)
some_by None f mark is few = absurd (omega (arith, is, few))
some_by (Some x) f mark is few = (x, refl)

module _ (g : Geometry) (image : List ℕ) (id p mark : ℕ) (at : index_page g (own (live_at g image) id) 0 ≡ Some p) (is : mark ≡ mark_of g image p) where
  -- its mark by what is judged
  mark_is : mark ≡ mark_for (judged g (own (live_at g image) id) id (page_of g image p)) (cause_at g image id)
  mark_is = is ∙ header_mark g image id p at

  broken_by : (r : Result File Damage) → has_of g (live_at g image) id ≡ Some (p, r) → mark_for r (cause_at g image id) ≡ 1 → cause_of r ≡ cause_at g image id
  broken_by (Err e) has one = sym (broken_cause g image id p e has)
  broken_by (Ok f) has one = absurd (not_broken (cause_at g image id) f one)

  pub cause_broken : mark ≡ 1 → cause_of (judged g (own (live_at g image) id) id (page_of g image p)) ≡ cause_at g image id
  cause_broken one = broken_by (judged g (own (live_at g image) id) id (page_of g image p)) (has_at g image id p at) (sym mark_is ∙ one)

  doubled_by : (r : Result File Damage) → judged g (own (live_at g image) id) id (page_of g image p) ≡ r → has_of g (live_at g image) id ≡ Some (p, r) → mark_for r (cause_at g image id) ≡ 2 → same_name g image (name_of (page_of g image p)) ≡ cause_at g image id
  doubled_by (Err e) judging has two = absurd (omega (arith, two))
  doubled_by (Ok f) judging has two =
      ⊎_elim
      (λ (yes' : counts (has_of g (live_at g image)) 0x7FFF p f.name ≡ true). absurd (not_doubled (cause_at g image id) f (counts_cause g image id p f has yes') two))
      (λ (no' : counts (has_of g (live_at g image)) 0x7FFF p f.name ≡ false).
      rw (name_of_file g (own (live_at g image) id) id (page_of g image p) f judging) (held_name g image f.name f refl ∙ sym (doubled_cause g image id p f has no')))
      (cases_Bool (counts (has_of g (live_at g image)) 0x7FFF p f.name))

  pub cause_doubled : mark ≡ 2 → same_name g image (name_of (page_of g image p)) ≡ cause_at g image id
  cause_doubled two = doubled_by (judged g (own (live_at g image) id) id (page_of g image p)) refl (has_at g image id p at) (sym mark_is ∙ two)

  pub cause_other : mark ≢ 1 → mark ≢ 2 → None ≡ cause_at g image id
  cause_other one two = listed_by (judged g (own (live_at g image) id) id (page_of g image p)) (cause_at g image id) mark mark_is one two

  pub listed_none : not (nat_lt mark 3) ≡ true → None ≡ cause_at g image id
  listed_none listed =
      ⊎_elim
      (λ (few : mark < 3). let bad : not true ≡ true = rw (lt-ltb mark 3 few) at listed in absurd (cc))
      (λ (many : 3 ≤ mark). cause_other (λ e. omega (arith, e, many)) (λ e. omega (arith, e, many)))
      (cases_lt mark 3)

  few_by : (r : Result File Damage) → has_of g (live_at g image) id ≡ Some (p, r) → mark ≡ mark_for r (cause_at g image id) → mark < 3 → (c : Damage) × (Some c ≡ cause_at g image id)
  few_by (Err e) has marked few = (e, sym (broken_cause g image id p e has))
  few_by (Ok f) has marked few = some_by (cause_at g image id) f mark marked few

  pub unlisted_some : not (nat_lt mark 3) ≡ false → (c : Damage) × (Some c ≡ cause_at g image id)
  unlisted_some unlisted =
      ⊎_elim
      (λ (few : mark < 3). few_by (judged g (own (live_at g image) id) id (page_of g image p)) (has_at g image id p at) mark_is few)
      (λ (many : 3 ≤ mark). let bad : not false ≡ false = rw (le-ltb mark 3 many) at unlisted in absurd (cc))
      (cases_lt mark 3)
