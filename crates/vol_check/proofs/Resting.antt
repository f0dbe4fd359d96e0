-- Pages that no file of the table needs, where no page is doubled and nothing is damaged.
use Rattle.std.proofs.Common.{◌≡◌, ◌≢◌, ℕ, ◌+◌, ◌%◌, ◌<◌, ◌≤◌, List, [], Bool, true, false, not, ◌&&◌, slice_index, Option, Some, None, Result, Ok, Err, ap, refl, sym, ◌∙◌, arith, ⊎_elim, inl, inr, ◌⊎◌, cond}
use Rattle.std.specs.Prelude.{is_some}
use Rattle.std.specs.Option.{option_map}
use Rattle.std.specs.List.{range_with_len, list_any}
use Rattle.std.proofs.lemmas.Bool.{cases_Bool, cases_eq, cases_lt, le-ltb, not-true, not-false, eq-eqb, ne_eqb, eqb-true, and_parts, or_cases, false_from_ne_true, true_from_ne_false}
use Rattle.std.proofs.Math.Bool.{and-false}
use Rattle.std.proofs.lemmas.Option.{none-some, same_Some, cond_some}
use Rattle.geometry.specs.declared.geometry.Geometry.{Geometry}
use Rattle.table_model.specs.Table.{File}
use Rattle.table_model.specs.Room.{data_pages, index_pages}
use Rattle.page_layout.specs.declared.header.PageHeader.{PageHeader}
use Rattle.page_layout.specs.Layout.{header_at}
use Rattle.image_model.specs.declared.damage.Damage.{Damage}
use Rattle.geometry.specs.Numbers.{page_count}
use Rattle.image_model.specs.Places.{is_entry_page}
use Rattle.image_model.specs.Headers.{obj_id, span_of, names_index, size_of}
use Rattle.image_model.specs.Live.{Live, live_at, own, is_live}
use Rattle.image_model.specs.Files.{is_index, index_page, entry_number, data_of, judged}
use Rattle.image_model.specs.Tables.{Found, has_of, counted, damage, damages, damaged_of}
use Rattle.image_model.specs.Tidy.{is_number, serves, is_wanted, is_wanted_as}
use Rattle.image_laws.specs.Changes.{Loses}
use Rattle.image_laws.proofs.Records.{filter_map-nil, counts_from_quiet}
use Rattle.image_laws.proofs.Judge.{found_from, found_none, index_passes}
use Rattle.image_laws.proofs.Finish.{has_of-within}
use Rattle.image_laws.proofs.Damaged.{any_at}
use Rattle.image_laws.proofs.Kill.{index-loses, own-loses, has_of-loses}
use Rattle.image_laws.proofs.Wanted.{unwanted-idle}
use Rattle.image_laws.proofs.Wants.{number-is, wanted_from}
use Rattle.image_laws.proofs.Unwanted.{wanted-as_before}
use Rattle.image_laws.proofs.Headless.{headless-is_idle, uncounted-wanted}
use Rattle.flash_view.specs.Found.{headed}
use Rattle.vol_check.specs.Culls.{Spares, is_doubled, is_doubled_as, HasNoDoubles, IsSettled, is_unwanted, IsServed, Culls, CullsRest, Passes, PassesRest}
use Rattle.vol_check.specs.Needed.{TellsUnwanted}
use Rattle.vol_check.specs.Works.{Work, culling, culling_unmarked}
use Rattle.vol_check.proofs.CullStep.{spares_by}
use Rattle.vol_check.proofs.Working.{Goes}
use Rattle.vol_check.proofs.Passing.{culls_nothing, passes_none, passes_next}

-- ---- nothing is damaged: an id with a header page is in the table

counted_by : (has : Found) (m id : ℕ) (o : Option (ℕ × Result File Damage)) → damage has m id o ≡ None → is_some o ≡ true → is_some (counted has m o) ≡ true
counted_by has m id None quiet some = some
counted_by has m id (Some (q, Err e)) quiet some = absurd (none-some _ (sym quiet))
counted_by has m id (Some (q, Ok f)) quiet some = rw (counts_from_quiet has m id q f quiet) refl

-- no id has a damage
pub quiet_at : (has : Found) (m id : ℕ) → damages has m ≡ [] → 1 ≤ id → id ≤ m → damage has m id (has id) ≡ None
unfolding damages
quiet_at has m id none low high = filter_map-nil (λ (j : ℕ). damage has m j (has j)) 1 m none id low (omega arith)

pub headed_counted : (g : Geometry) (image : List ℕ) (id h : ℕ) (head : List ℕ) → damaged_of g image ≡ [] → index_page g (own (live_at g image) id) 0 ≡ Some h → own (live_at g image) id h ≡ Some head →
    is_some (counted (has_of g (live_at g image)) 0x7FFF (has_of g (live_at g image) id)) ≡ true
unfolding damaged_of has_of
headed_counted g image id h head none at is =
    let has : has_of g (live_at g image) id ≡ Some (h, judged g (own (live_at g image) id) id head) = found_from g (own (live_at g image) id) id h head at is in
    let within = has_of-within g image id h (judged g (own (live_at g image) id) id head) has in
    counted_by (has_of g (live_at g image)) 0x7FFF id (has_of g (live_at g image) id) (quiet_at (has_of g (live_at g image)) 0x7FFF id none within.0 within.1) (rw has refl)

-- ---- no page is doubled: a live index page is the one of its id and span

pub single_index : (g : Geometry) (image : List ℕ) (p : ℕ) (page : List ℕ) → is_doubled g image p ≡ false → live_at g image p ≡ Some page → names_index page ≡ true →
    index_page g (own (live_at g image) (obj_id page % 0x8000)) (span_of page) ≡ Some p
unfolding is_doubled
single_index g image p page single live index =
    let none : (names_index page && not (is_number (index_page g (own (live_at g image) (obj_id page % 0x8000)) (span_of page)) p)) ≡ false = rw live at single in
    let none' : not (is_number (index_page g (own (live_at g image) (obj_id page % 0x8000)) (span_of page)) p) ≡ false = rw index at none in
    number-is _ p (true_from_ne_false _ (λ no. let bad = rw no at none' in absurd (cc)))

-- its own page
pub own_self : (live : Live) (p : ℕ) (page : List ℕ) → live p ≡ Some page → own live (obj_id page % 0x8000) p ≡ Some page
unfolding own
own_self live p page e = rw e (rw (eq-eqb (obj_id page % 0x8000) _ refl) refl)

-- ---- what serves a file

pub index_parts : (o : Option (List ℕ)) (span : ℕ) → is_index o span ≡ true → (page : List ℕ) × (o ≡ Some page) × (names_index page ≡ true) × (span_of page ≡ span)
index_parts None span h = absurd (cc)
index_parts (Some page) span h = let w = and_parts _ _ h in (page, refl, w.0, eqb-true (span_of page) span w.1)

-- a page that serves a file is one of its index pages, or is named by an index entry
pub served_parts : (g : Geometry) (pages : Live) (head : List ℕ) (p : ℕ) → serves g pages head p ≡ true →
    ((j : ℕ) × (j < index_pages g (size_of head)) × (index_page g pages j ≡ Some p)) ⊎ ((s : ℕ) × (s < data_pages g (size_of head)) × (entry_number g pages head s ≡ Some p) × (is_some (data_of (pages p) s) ≡ true))
unfolding serves
served_parts g pages head p e =
    ⊎_elim
    (λ (some : list_any (λ (j : ℕ). is_number (index_page g pages j) p) (range_with_len 0 (index_pages g (size_of head))) ≡ true).
    let w = any_at (λ (j : ℕ). is_number (index_page g pages j) p) 0 (index_pages g (size_of head)) some in
    inl (w.0, omega (arith, w.2), number-is _ p w.3))
    (λ (some : list_any (λ (span : ℕ). is_number (entry_number g pages head span) p && is_some (data_of (pages p) span)) (range_with_len 0 (data_pages g (size_of head))) ≡ true).
    let w = any_at (λ (span : ℕ). is_number (entry_number g pages head span) p && is_some (data_of (pages p) span)) 0 (data_pages g (size_of head)) some in
    let v = and_parts _ _ w.3 in
    inr (w.0, omega (arith, w.2), number-is _ p v.0, v.1))
    (or_cases _ _ e)

-- an index page that serves is the one of its span
pub served_index : (g : Geometry) (pages : Live) (head page : List ℕ) (p : ℕ) → pages p ≡ Some page → names_index page ≡ true → serves g pages head p ≡ true → index_page g pages (span_of page) ≡ Some p
served_index g pages head page p is index e =
    ⊎_elim
    (λ (at : (j : ℕ) × (j < index_pages g (size_of head)) × (index_page g pages j ≡ Some p)).
    let passes : is_index (Some page) at.0 ≡ true = rw is at (index_passes g pages at.0 p at.2) in
    let v = and_parts _ _ passes in
    let span : span_of page ≡ at.0 = eqb-true (span_of page) at.0 v.1 in
    rw span at.2)
    (λ (entry : (s : ℕ) × (s < data_pages g (size_of head)) × (entry_number g pages head s ≡ Some p) × (is_some (data_of (pages p) s) ≡ true)).
    let holds : is_some (data_of (Some page) entry.0) ≡ true = rw is at entry.3 in
    let bad : false ≡ true = rw index at holds in absurd (cc))
    (served_parts g pages head p e)

-- the header page of an id
pub head_of : (g : Geometry) (pages : Live) (h : ℕ) → index_page g pages 0 ≡ Some h → (head : List ℕ) × (pages h ≡ Some head)
head_of g pages h at = let w = index_parts (pages h) 0 (index_passes g pages 0 h at) in (w.0, w.1)

-- ---- by what the device tells of a page

-- a live page by its header
pub headed_page : (o : Option (List ℕ)) (head : PageHeader) → Some head ≡ option_map header_at o → (page : List ℕ) × (o ≡ Some page) × (head ≡ header_at page)
headed_page None head e = absurd (cc)
headed_page (Some page) head e = (page, refl, cc)

pub headed_at : (o : Option (List ℕ)) (id : ℕ) → headed o ≡ Some id → (head : List ℕ) × (o ≡ Some head) × (names_index head ≡ true) × (span_of head ≡ 0) × (obj_id head % 0x8000 ≡ id)
headed_at None id e = absurd (none-some id e)
headed_at (Some head) id e =
    let w = cond_some (is_index (Some head) 0) (obj_id head % 0x8000) id e in
    let v = and_parts _ _ w.0 in
    (head, refl, v.0, eqb-true (span_of head) 0 v.1, w.1)

-- a lookup page isn't live
pub lookup_dead : (g : Geometry) (image : List ℕ) (p : ℕ) → is_entry_page g p ≡ false → live_at g image p ≡ None
unfolding live_at is_live
lookup_dead g image p e = rw e refl

pub marked_stays : (g : Geometry) (image : List ℕ) (p mark : ℕ) → TellsUnwanted g image p mark → mark ≢ 0 → is_unwanted g image p ≡ false
marked_stays g image p mark tells some = tells ∙ rw (ne_eqb mark 0 some, and-false) refl

pub unmarked_goes : (g : Geometry) (image : List ℕ) (p mark : ℕ) → TellsUnwanted g image p mark → is_some (live_at g image p) ≡ true → mark ≡ 0 → is_unwanted g image p ≡ true
unmarked_goes g image p mark tells live none = tells ∙ rw (live, none) refl

-- ---- a page that is live and not wanted may be killed

pub record Unwanted (g : Geometry) (image : List ℕ) (p : ℕ) : Type 0 where
  pub page : List ℕ
  pub live : live_at g image p ≡ Some page
  pub unwanted : is_wanted g image p ≡ false

pub unwanted_parts : (g : Geometry) (image : List ℕ) (p : ℕ) → is_unwanted g image p ≡ true → Unwanted g image p
unfolding is_unwanted
unwanted_parts g image p e =
    let w = and_parts (is_some (live_at g image p)) (not (is_wanted g image p)) e in
    let v = some (live_at g image p) w.0 in
    record { page = v.0; live = v.1; unwanted = not-true (is_wanted g image p) w.1 }
  where
    some : (o : Option (List ℕ)) → is_some o ≡ true → (page : List ℕ) × (o ≡ Some page)
    some None e = absurd (let bad : false ≡ true = e in cc)
    some (Some page) e = (page, refl)

-- nothing is damaged: the table has the file of an id, or the id has no header page
headed_or : (g : Geometry) (image : List ℕ) (id : ℕ) → damaged_of g image ≡ [] →
    (is_some (counted (has_of g (live_at g image)) 0x7FFF (has_of g (live_at g image) id)) ≡ true) ⊎ (index_page g (own (live_at g image) id) 0 ≡ None)
headed_or g image id undamaged = by (index_page g (own (live_at g image) id) 0) refl
  where
    by : (o : Option ℕ) → index_page g (own (live_at g image) id) 0 ≡ o → (is_some (counted (has_of g (live_at g image)) 0x7FFF (has_of g (live_at g image) id)) ≡ true) ⊎ (index_page g (own (live_at g image) id) 0 ≡ None)
    by None e = inr e
    by (Some h) e = let v = head_of g (own (live_at g image) id) h e in inl (headed_counted g image id h v.0 undamaged e v.1)

uncounted : (g : Geometry) (live : Live) (id : ℕ) → index_page g (own live id) 0 ≡ None → counted (has_of g live) 0x7FFF (has_of g live id) ≡ None
unfolding has_of
uncounted g live id none = let has : has_of g live id ≡ None = found_none g (own live id) id none in rw has refl

-- ---- what its kill leaves

-- a page less doubles none
single_by : (g : Geometry) (old new : Live) (p : ℕ) (page : List ℕ) → old p ≡ Some page → Loses p old new → (q : ℕ) (x : List ℕ) → q ≢ p →
    (names_index x && not (is_number (index_page g (own old (obj_id x % 0x8000)) (span_of x)) q)) ≡ false → (names_index x && not (is_number (index_page g (own new (obj_id x % 0x8000)) (span_of x)) q)) ≡ false
single_by g old new p page was change q x there e =
    ⊎_elim
    (λ (index : names_index x ≡ true).
    let none : not (is_number (index_page g (own old (obj_id x % 0x8000)) (span_of x)) q) ≡ false = rw index at e in
    let at : index_page g (own old (obj_id x % 0x8000)) (span_of x) ≡ Some q = number-is _ q (not-false _ none) in
    let stays : index_page g (own new (obj_id x % 0x8000)) (span_of x) ≡ Some q =
    index-loses g p (own old (obj_id x % 0x8000)) (own new (obj_id x % 0x8000)) (own-loses p page old new was change (obj_id x % 0x8000)) (span_of x) (λ k. there (same_Some q p (sym at ∙ k))) ∙ at in
    rw (index, stays, eq-eqb q q refl) refl)
    (λ (other : names_index x ≡ false). rw other refl)
    (cases_Bool (names_index x))

pub single_loses : (g : Geometry) (a b : List ℕ) (p : ℕ) (page : List ℕ) → live_at g a p ≡ Some page → Loses p (live_at g a) (live_at g b) → HasNoDoubles g a → HasNoDoubles g b
unfolding is_doubled
single_loses g a b p page was change single q =
    ⊎_elim
    (λ (here : q ≡ p). rw here (rw change.after refl))
    (λ (there : q ≡ p → ⊥). let same = change.others q there in by (live_at g b q) refl (sym same) (single q) there)
    (cases_eq q p)
  where
    by : (o : Option (List ℕ)) → live_at g b q ≡ o → live_at g a q ≡ live_at g b q → is_doubled_as g a q (live_at g a q) ≡ false → q ≢ p → is_doubled_as g b q o ≡ false
    by None e same before there = refl
    by (Some x) e same before there = let at : is_doubled_as g a q (Some x) ≡ false = rw (same ∙ e) at before in single_by g (live_at g a) (live_at g b) p page was change q x there at

module _ (g : Geometry) (a b : List ℕ) (p : ℕ) (page : List ℕ) (live : live_at g a p ≡ Some page) (unwanted : is_wanted g a p ≡ false) (undamaged : damaged_of g a ≡ []) (change : Loses p (live_at g a) (live_at g b)) where
  -- what the id has stays, and the other pages are as wanted as before
  rests : ((q : ℕ) → q ≢ p → is_wanted g b q ≡ is_wanted g a q) × (has_of g (live_at g b) ≡ has_of g (live_at g a))
  unfolding is_wanted
  rests = ⊎_elim
      (λ (in_table : is_some (counted (has_of g (live_at g a)) 0x7FFF (has_of g (live_at g a) (obj_id page % 0x8000))) ≡ true).
      let idle = unwanted-idle g a p page live unwanted in_table in
      let unserved : (h : ℕ) (hd : List ℕ) → index_page g (own (live_at g a) (obj_id page % 0x8000)) 0 ≡ Some h → own (live_at g a) (obj_id page % 0x8000) h ≡ Some hd → serves g (own (live_at g a) (obj_id page % 0x8000)) hd p ≡ false =
      λ h hd e k. false_from_ne_true _ (λ yes.
      let wanted : is_wanted_as g (live_at g a) (live_at g a p) p ≡ true = wanted_from g (live_at g a) p (record { page = page; h = h; head = hd; is = live; in_table = in_table; at = e; header = k; served = yes }) in
      let bad : true ≡ false = sym wanted ∙ unwanted in absurd (cc)) in
      (wanted-as_before g p page (live_at g a) (live_at g b) live change idle unserved, has_of-loses p page (live_at g a) (live_at g b) live change g idle))
      (λ (none : index_page g (own (live_at g a) (obj_id page % 0x8000)) 0 ≡ None).
      let idle = headless-is_idle g (own (live_at g a) (obj_id page % 0x8000)) p none in
      (uncounted-wanted g p page (live_at g a) (live_at g b) live change idle (uncounted g (live_at g a) (obj_id page % 0x8000) none), has_of-loses p page (live_at g a) (live_at g b) live change g idle))
      (headed_or g a (obj_id page % 0x8000) undamaged)

  spares : Spares g p a b
  spares = spares_by g a b p rests.1 rests.0

  rest_others : (q : ℕ) → q ≢ p → is_unwanted g b q ≡ is_unwanted g a q
  unfolding is_unwanted
  rest_others q there = rw (change.others q there, rests.0 q there) refl

  rest_undamaged : damaged_of g b ≡ []
  unfolding damaged_of
  rest_undamaged = ap (λ (x : Found). damages x 0x7FFF) rests.1 ∙ undamaged

pub may_be_culled : (g : Geometry) (a : List ℕ) (p mark : ℕ) → IsSettled g a → is_unwanted g a p ≡ true → Goes g a a (culling p) (culling_unmarked p mark)
may_be_culled g a p mark settled e =
    let w = unwanted_parts g a p e in
    record {
      needs = record { page = w.page; live = w.live; unwanted = w.unwanted; spares = λ b change. spares g a b p w.page w.live w.unwanted settled.undamaged change };
      idle = λ quiet. let bad : true ≡ false = sym e ∙ quiet in absurd (cc);
    }

pub dead_served : (g : Geometry) (b : List ℕ) (p : ℕ) → live_at g b p ≡ None → is_unwanted g b p ≡ false
unfolding is_unwanted
dead_served g b p e = rw e refl

pub culls_rest : (g : Geometry) (a b : List ℕ) (p : ℕ) → IsSettled g a → is_unwanted g a p ≡ true → Culls g p true a b → CullsRest g p true a b
culls_rest g a b p settled e culls =
    let w = unwanted_parts g a p e in
    let change : Loses p (live_at g a) (live_at g b) = record { after = culls.gone refl; others = culls.others } in
    record {
      culls = culls;
      served = dead_served g b p change.after;
      others = rest_others g a b p w.page w.live w.unwanted settled.undamaged change;
      settled = record { single = single_loses g a b p w.page w.live change settled.single; undamaged = rest_undamaged g a b p w.page w.live w.unwanted settled.undamaged change };
    }

-- a page that isn't unwanted stays
pub rests_nothing : (g : Geometry) (a : List ℕ) (p : ℕ) → IsSettled g a → is_unwanted g a p ≡ false → CullsRest g p false a a
rests_nothing g a p settled served = record { culls = culls_nothing g a p; served = served; others = λ q there. refl; settled = settled }

-- ---- page by page

-- p pages on, with n of them killed and the marks of the rest right
pub record Resting (g : Geometry) (first now marks : List ℕ) (p n : ℕ) : Type 0 where
  pub passes : Passes g n first now
  pub served : (q : ℕ) → q < p → is_unwanted g now q ≡ false
  pub marked : (q : ℕ) → p ≤ q → q < page_count g → TellsUnwanted g now q (slice_index marks q)
  pub settled : IsSettled g now

abbrev pub resting_to : ℕ → List ℕ → Work ℕ
resting_to p marks = record { needs = λ g was. IsSettled g was; done = λ g was now n. Resting g was now marks p n; idle = λ g was. IsServed g was }

pub resting_start : (g : Geometry) (a marks : List ℕ) → IsSettled g a → ((q : ℕ) → q < page_count g → TellsUnwanted g a q (slice_index marks q)) → Resting g a a marks 0 0
resting_start g a marks settled marked = record { passes = passes_none g a; served = λ q low. absurd (omega arith); marked = λ q low high. marked q high; settled = settled }

pub resting_next : (g : Geometry) (first a b marks : List ℕ) (p n m : ℕ) (killed : Bool) → Resting g first a marks p n → CullsRest g p killed a b → m ≡ n + cond killed 1 0 → Resting g first b marks (p + 1) m
resting_next g first a b marks p n m killed s t e = record {
  passes = passes_next g first a b p n m killed s.passes t.culls e;
  served = λ q low. ⊎_elim
      (λ (here : q ≡ p). rw here t.served)
      (λ (there : q ≡ p → ⊥). t.others q there ∙ s.served q (omega (arith, there)))
      (cases_eq q p);
  marked = λ q low high.
      let there : q ≢ p = λ same. omega (arith, same, low) in
      rw (t.others q there, t.culls.others q there) (s.marked q (omega (arith, low)) high);
  settled = t.settled;
}

-- pages that aren't unwanted are passed over
pub resting_skip : (g : Geometry) (first a marks : List ℕ) (at p n : ℕ) → at ≤ p → ((q : ℕ) → at ≤ q → q < p → is_unwanted g a q ≡ false) → Resting g first a marks at n → Resting g first a marks p n
resting_skip g first a marks at p n more none s = record {
  passes = s.passes;
  served = λ q low. ⊎_elim (λ (early : q < at). s.served q early) (λ (late : at ≤ q). none q late low) (cases_lt q at);
  marked = λ q low high. s.marked q (omega (arith, low, more)) high;
  settled = s.settled;
}

-- so are pages that have marks
pub resting_marked : (g : Geometry) (first a marks : List ℕ) (at p n : ℕ) → at ≤ p → p ≤ page_count g → ((q : ℕ) → at ≤ q → q < p → slice_index marks q ≢ 0) → Resting g first a marks at n → Resting g first a marks p n
resting_marked g first a marks at p n more inside some s = resting_skip g first a marks at p n more (λ q low high. marked_stays g a q (slice_index marks q) (s.marked q low (omega (arith, high, inside))) (some q low high)) s

-- the same with a live page at p
pub record Standing (g : Geometry) (first now marks : List ℕ) (p n : ℕ) : Type 0 where
  pub resting : Resting g first now marks p n
  pub live : is_some (live_at g now p) ≡ true

abbrev pub standing_at : ℕ → List ℕ → Work ℕ
standing_at p marks = record { needs = λ g was. IsSettled g was; done = λ g was now n. Standing g was now marks p n; idle = λ g was. IsServed g was }

beyond_served : (g : Geometry) (a : List ℕ) (p : ℕ) → page_count g ≤ p → is_unwanted g a p ≡ false
unfolding is_entry_page
beyond_served g a p past = dead_served g a p (lookup_dead g a p (rw (le-ltb p (page_count g) past) refl))

pub resting_end : (g : Geometry) (first a marks : List ℕ) (p n : ℕ) → page_count g ≤ p → Resting g first a marks p n → PassesRest g n first a
resting_end g first a marks p n all s = record {
  passes = s.passes;
  served = λ q. ⊎_elim (λ (low : q < p). s.served q low) (λ (past : p ≤ q). beyond_served g a q (omega arith)) (cases_lt q p);
  none = s.settled.undamaged;
}
