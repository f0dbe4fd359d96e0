-- What the pages of an id make of it, and what leaves that as it is.
use Rattle.std.proofs.Common.{slice_index, slice_range, ◌≡◌, ◌≢◌, ℕ, zero, suc, ◌+◌, ◌-◌, ◌/◌, ◌<◌, ◌≤◌, List, ◌++◌, take, Bool, true, false, cond, Option, Some, None, Result, Ok, ap, refl, sym, ◌∙◌, arith, ⊎_elim, subst}
use Rattle.std.proofs.Math.Path.{fun_ext}
use Rattle.std.specs.Prelude.{find, option_and_then, is_none}
use Rattle.std.specs.Option.{option_map}
use Rattle.std.specs.List.{range_with_len, flat_map}
use Rattle.std.proofs.lemmas.Bool.{cases_eq, ne_eqb, false_from_ne_true}
use Rattle.std.proofs.lemmas.Option.{none-some, option_and_then_some, some_pair_parts}
use Rattle.geometry.specs.declared.geometry.Geometry.{Geometry}
use Rattle.table_model.specs.Room.{data_pages}
use Rattle.geometry.specs.Numbers.{page_count, head_slots}
use Rattle.image_model.specs.Headers.{names_index, span_of, size_of, name_of}
use Rattle.image_model.specs.declared.damage.Damage.{Damage}
use Rattle.image_model.specs.Live.{Live}
use Rattle.table_model.specs.Table.{File}
use Rattle.image_model.specs.Files.{is_index, index_page, further, entry_number, data_of, data_page, judged, judged_by, file_of, span_bytes, bytes_of, first_missing, found}
use Rattle.image_laws.proofs.Tables.{find_only, find_passes, find_gains}

-- ---- over a range

pub find-range : (test now : ℕ → Bool) (a n : ℕ) → ((q : ℕ) → a ≤ q → q < a + n → now q ≡ test q) → find now (range_with_len a n) ≡ find test (range_with_len a n)
find-range test now a zero same = refl
find-range test now a (suc n) same = rw (same a (omega arith) (omega arith)) (ap (λ (o : Option ℕ). cond (test a) (Some a) o) (find-range test now (a + 1) n (λ q low high. same q (omega arith) (omega arith))))

flat_map-range : {Y : Type 0} (f now : ℕ → List Y) (a n : ℕ) → ((q : ℕ) → a ≤ q → q < a + n → now q ≡ f q) → flat_map now (range_with_len a n) ≡ flat_map f (range_with_len a n)
flat_map-range f now a zero same = refl
flat_map-range {Y} f now a (suc n) same = rw (same a (omega arith) (omega arith)) (ap (λ (ys : List Y). f a ++ ys) (flat_map-range f now (a + 1) n (λ q low high. same q (omega arith) (omega arith))))

-- ---- an id is judged by its data pages alone

pub judged_by-same : (g : Geometry) (pages now : Live) (id : ℕ) (head : List ℕ) (n : Option (List ℕ)) (m : Option ℕ) → bytes_of g now head ≡ bytes_of g pages head →
    judged_by g now id head n m ≡ judged_by g pages id head n m
judged_by-same g pages now id head None m same = refl
judged_by-same g pages now id head (Some name) (Some span) same = refl
judged_by-same g pages now id head (Some name) None same = cc

pub judged-same : (g : Geometry) (pages now : Live) (id : ℕ) (head : List ℕ) →
    ((span : ℕ) → span < data_pages g (size_of head) → data_page g now head span ≡ data_page g pages head span) →
    judged g now id head ≡ judged g pages id head
unfolding judged
judged-same g pages now id head same =
    let missing : first_missing g now head ≡ first_missing g pages head =
    find-range (λ (span : ℕ). is_none (data_page g pages head span)) (λ (span : ℕ). is_none (data_page g now head span)) 0 (data_pages g (size_of head))
    (λ span low below. rw (same span (omega arith)) refl) in
    let bytes : bytes_of g now head ≡ bytes_of g pages head =
    ap (λ (bs : List ℕ). take (size_of head) bs)
    (flat_map-range (span_bytes g pages head) (span_bytes g now head) 0 (data_pages g (size_of head))
    (λ span low below. rw (same span (omega arith)) refl)) in
    rw missing (judged_by-same g pages now id head (name_of head) (first_missing g pages head) bytes)

-- ---- the record goes by its id

judged_by-keyed : (g : Geometry) (pages : Live) (id : ℕ) (head : List ℕ) (n : Option (List ℕ)) (m : Option ℕ) (f : File) → judged_by g pages id head n m ≡ Ok f → f.id ≡ id
judged_by-keyed g pages id head None m f h = cc
judged_by-keyed g pages id head (Some name) (Some span) f h = cc
judged_by-keyed g pages id head (Some name) None f h = let same : file_of g pages id head name ≡ f = cc in ap (λ (x : File). x.id) (sym same)

pub judged-keyed : (g : Geometry) (pages : Live) (id : ℕ) (head : List ℕ) (f : File) → judged g pages id head ≡ Ok f → f.id ≡ id
unfolding judged
judged-keyed g pages id head f h = judged_by-keyed g pages id head (name_of head) _ f h

-- what is found: its header page, and how that is judged
paired-some : (F : List ℕ → Result File Damage) (p q : ℕ) (o : Option (List ℕ)) (r : Result File Damage) → option_map {U = ℕ × Result File Damage} (λ head. (p, F head)) o ≡ Some (q, r) →
    (head : List ℕ) × (o ≡ Some head) × (p ≡ q) × (F head ≡ r)
paired-some F p q None r h = absurd (none-some _ h)
paired-some F p q (Some head) r h = let w = some_pair_parts p q (F head) r h in (head, refl, w.0, w.1)

pub found_parts : (g : Geometry) (pages : Live) (id q : ℕ) (r : Result File Damage) → found g pages id ≡ Some (q, r) →
    (head : List ℕ) × (index_page g pages 0 ≡ Some q) × (pages q ≡ Some head) × (judged g pages id head ≡ r)
unfolding found
found_parts g pages id q r h =
    option_and_then_some _ (index_page g pages 0) (q, r) h
    (λ p e k. let w = paired-some (judged g pages id) p q (pages p) r k in (w.0, e ∙ ap (λ (x : ℕ). Some x) w.2, subst (λ (x : ℕ). pages x ≡ Some w.0) w.2 w.1, w.3))

pub found_from : (g : Geometry) (pages : Live) (id q : ℕ) (head : List ℕ) → index_page g pages 0 ≡ Some q → pages q ≡ Some head → found g pages id ≡ Some (q, judged g pages id head)
unfolding found
found_from g pages id q head e b = rw e (rw b refl)

pub found_none : (g : Geometry) (pages : Live) (id : ℕ) → index_page g pages 0 ≡ None → found g pages id ≡ None
unfolding found
found_none g pages id e = rw e refl

-- ---- header pages do not matter to how an id is judged

-- the page is no data page and no further index page
abbrev pub IsHeadAtMost : Option (List ℕ) → Type 0
IsHeadAtMost None = Unit {0}
IsHeadAtMost (Some page) = (names_index page ≡ true) × (span_of page ≡ 0)

head-no_index : (o : Option (List ℕ)) (j : ℕ) → IsHeadAtMost o → is_index o (j + 1) ≡ false
head-no_index None j h = refl
head-no_index (Some page) j h = rw (h.0, h.1) (ne_eqb 0 (j + 1) (λ e. omega (arith, e)))

head-no_data : (o : Option (List ℕ)) (span : ℕ) → IsHeadAtMost o → data_of o span ≡ None
head-no_data None span h = refl
head-no_data (Some page) span h = rw h.0 refl

module _ (g : Geometry) (p : ℕ) (pages now : Live) (others : (q : ℕ) → q ≢ p → now q ≡ pages q) (was : IsHeadAtMost (pages p)) (is : IsHeadAtMost (now p)) where
  pub further-same : (j : ℕ) → index_page g now (j + 1) ≡ index_page g pages (j + 1)
  unfolding index_page
  further-same j =
      ap (λ (test : ℕ → Bool). find test (range_with_len 0 (page_count g)))
      (fun_ext (λ (q : ℕ). ⊎_elim
      (λ (here : q ≡ p). rw here (head-no_index (now p) j is ∙ sym (head-no_index (pages p) j was)))
      (λ (there : q ≡ p → ⊥). rw (others q there) refl)
      (cases_eq q p)))

  further-not : (j : ℕ) → index_page g pages (j + 1) ≢ Some p
  unfolding index_page
  further-not j e =
      let w = find_passes (λ (q : ℕ). is_index (pages q) (j + 1)) 0 (page_count g) p e in
      let no = head-no_index (pages p) j was in let yes : is_index (pages p) (j + 1) ≡ true = w.0 in cc

  further_bytes : (o : Option ℕ) → o ≢ Some p → option_and_then now o ≡ option_and_then pages o
  further_bytes None differ = refl
  further_bytes (Some q) differ = others q (λ e. differ (ap (λ (x : ℕ). Some x) e))

  pub entry-same : (head : List ℕ) (span : ℕ) → entry_number g now head span ≡ entry_number g pages head span
  unfolding entry_number
  entry-same head span =
      rw (further-same ((span - head_slots g) / Rattle.geometry.specs.Numbers.span_slots g))
      (rw (further_bytes (index_page g pages (further g span)) (further-not ((span - head_slots g) / Rattle.geometry.specs.Numbers.span_slots g))) refl)

  pub data-same : (span q : ℕ) → data_of (now q) span ≡ data_of (pages q) span
  data-same span q = ⊎_elim
      (λ (here : q ≡ p). rw here (head-no_data (now p) span is ∙ sym (head-no_data (pages p) span was)))
      (λ (there : q ≡ p → ⊥). rw (others q there) refl)
      (cases_eq q p)

  data_page-same : (head : List ℕ) (span : ℕ) → data_page g now head span ≡ data_page g pages head span
  unfolding data_page
  data_page-same head span =
      rw (entry-same head span)
      (ap (λ (f : ℕ → Option (List ℕ)). option_and_then f (entry_number g pages head span)) (fun_ext (data-same span)))

  pub judged-heads : (id : ℕ) (head : List ℕ) → judged g now id head ≡ judged g pages id head
  judged-heads id head = judged-same g pages now id head (λ span below. data_page-same head span)

-- the index page of a span is one
pub index_passes : (g : Geometry) (pages : Live) (span q : ℕ) → index_page g pages span ≡ Some q → is_index (pages q) span ≡ true
unfolding index_page
index_passes g pages span q e = (find_passes (λ (p : ℕ). is_index (pages p) span) 0 (page_count g) q e).0

pub index-none : (g : Geometry) (pages : Live) (span q : ℕ) → index_page g pages span ≡ Some q → pages q ≡ None → ⊥
index-none g pages span q e none = let yes = index_passes g pages span q e in let no : is_index (pages q) span ≡ false = rw none refl in cc

-- ---- a header page more

module _ (g : Geometry) (p : ℕ) (head : List ℕ) (pages now : Live) (within : p < page_count g)
    (before : pages p ≡ None) (after : now p ≡ Some head) (others : (q : ℕ) → q ≢ p → now q ≡ pages q) (index : names_index head ≡ true) (first : span_of head ≡ 0) where
  gains_judged : (id : ℕ) (page : List ℕ) → judged g now id page ≡ judged g pages id page
  gains_judged =
      judged-heads g p pages now others (subst IsHeadAtMost (sym before) tt) (subst IsHeadAtMost (sym after) (index, first))

  passes_now : is_index (now p) 0 ≡ true
  passes_now = rw after (rw (index, first) refl)

  index-gains : ((q : ℕ) → index_page g pages 0 ≡ Some q → q < p → index_page g now 0 ≡ Some q) ×
      (((q : ℕ) → index_page g pages 0 ≡ Some q → p < q) → index_page g now 0 ≡ Some p)
  unfolding index_page
  index-gains = find_gains (λ (q : ℕ). is_index (pages q) 0) (λ (q : ℕ). is_index (now q) 0) p 0 (page_count g) (λ q there. rw (others q there) refl) passes_now (omega arith) (omega arith)

  -- in front of the one that counted
  pub published-first : (id : ℕ) → ((q : ℕ) → index_page g pages 0 ≡ Some q → p < q) → found g now id ≡ Some (p, judged g pages id head)
  published-first id front = found_from g now id p head (index-gains.1 front) after ∙ ap (λ (r : Result File Damage). Some (p, r)) (gains_judged id head)

  -- behind it
  pub published-later : (id q : ℕ) → index_page g pages 0 ≡ Some q → q < p → found g now id ≡ found g pages id
  unfolding found
  published-later id q e less =
      rw (index-gains.0 q e less, e) (rw (others q (λ x. omega (arith, x))) (ap (λ (judge : List ℕ → Result File Damage). option_map {U = ℕ × Result File Damage} (λ page. (q, judge page)) (pages q)) (fun_ext (gains_judged id))))

-- ---- a header page less

module _ (g : Geometry) (p : ℕ) (pages now : Live) (was : IsHeadAtMost (pages p)) (after : now p ≡ None) (others : (q : ℕ) → q ≢ p → now q ≡ pages q) where
  loses_judged : (id : ℕ) (page : List ℕ) → judged g now id page ≡ judged g pages id page
  loses_judged = judged-heads g p pages now others was (subst IsHeadAtMost (sym after) tt)

  -- the one that is left counts
  pub retired : (id q : ℕ) (head : List ℕ) → q < page_count g → q ≢ p → pages q ≡ Some head → names_index head ≡ true → span_of head ≡ 0 →
      ((r : ℕ) → is_index (pages r) 0 ≡ true → r ≢ p → r ≡ q) → found g now id ≡ Some (q, judged g pages id head)
  unfolding index_page
  retired id q head within other here index first only =
      let kept : now q ≡ Some head = others q other ∙ here in
      let found_at : index_page g now 0 ≡ Some q =
      find_only (λ (r : ℕ). is_index (now r) 0) q 0 (page_count g) (omega arith) (omega arith) (rw kept (rw (index, first) refl))
      (λ r there. false_from_ne_true _ (λ yes.
      ⊎_elim
      (λ (gone : r ≡ p). let no : is_index (now r) 0 ≡ false = rw gone (rw after refl) in cc)
      (λ (left : r ≡ p → ⊥). let yes' : is_index (pages r) 0 ≡ true = rw (others r left) at yes in there (only r yes' left))
      (cases_eq r p))) in
      found_from g now id q head found_at kept ∙ ap (λ (r : Result File Damage). Some (q, r)) (loses_judged id head)

-- ---- two header pages that say the same: the copy of a moved header page, or one that names the copy of a moved data page

pub record Alike (g : Geometry) (pages now : Live) (head other : List ℕ) : Type 0 where
  pub size : size_of other ≡ size_of head
  pub name : name_of other ≡ name_of head
  pub kind : slice_index other 12 ≡ slice_index head 12
  pub meta : slice_range other 45 (45 + g.meta) ≡ slice_range head 45 (45 + g.meta)
  pub bytes : (span : ℕ) → span < data_pages g (size_of head) → data_page g now other span ≡ data_page g pages head span

alike_by : (g : Geometry) (pages now : Live) (id : ℕ) (head other : List ℕ) → Alike g pages now head other → (n : Option (List ℕ)) (m : Option ℕ) → bytes_of g now other ≡ bytes_of g pages head →
    judged_by g now id other n m ≡ judged_by g pages id head n m
alike_by g pages now id head other same None m e = refl
alike_by g pages now id head other same (Some name) (Some span) e = refl
alike_by g pages now id head other same (Some name) None e = let k = same.kind in let t = same.meta in cc

pub judged-alike : (g : Geometry) (pages now : Live) (id : ℕ) (head other : List ℕ) → Alike g pages now head other → judged g now id other ≡ judged g pages id head
unfolding judged
judged-alike g pages now id head other same =
    let missing : first_missing g now other ≡ first_missing g pages head =
    rw same.size (find-range (λ (span : ℕ). is_none (data_page g pages head span)) (λ (span : ℕ). is_none (data_page g now other span)) 0 (data_pages g (size_of head))
    (λ span low below. rw (same.bytes span (omega arith)) refl)) in
    let bytes : bytes_of g now other ≡ bytes_of g pages head =
    rw same.size (ap (λ (bs : List ℕ). take (size_of head) bs)
    (flat_map-range (span_bytes g pages head) (span_bytes g now other) 0 (data_pages g (size_of head))
    (λ span low below. rw (same.bytes span (omega arith)) refl))) in
    rw (missing, same.name) (alike_by g pages now id head other same (name_of head) (first_missing g pages head) bytes)
