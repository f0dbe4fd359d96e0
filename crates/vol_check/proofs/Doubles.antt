-- Index pages that aren't the first of their id and span.
use Rattle.std.proofs.Common.{◌≡◌, ◌≢◌, ℕ, ◌+◌, ◌%◌, ◌<◌, ◌≤◌, List, Bool, true, false, not, cond, ◌==◌, ◌&&◌, Option, Some, None, ap, refl, sym, ◌∙◌, arith, ⊎_elim, subst}
use Rattle.std.specs.Prelude.{is_some}
use Rattle.std.specs.List.{range_with_len, list_any}
use Rattle.std.specs.Option.{option_map, option_eq}
use Rattle.std.proofs.lemmas.Bool.{cases_eq, cases_lt, cases_Bool, and_parts, le-ltb, not-true, or_cases}
use Rattle.std.proofs.lemmas.Option.{same_Some}
use Rattle.geometry.specs.declared.geometry.Geometry.{Geometry}
use Rattle.table_model.specs.Room.{index_pages, data_pages}
use Rattle.page_layout.specs.declared.header.PageHeader.{PageHeader}
use Rattle.page_layout.specs.Layout as layout
use Rattle.page_layout.specs.Layout.{header_at}
use Rattle.geometry.specs.Numbers.{page_count}
use Rattle.image_model.specs.Headers.{obj_id, span_of, names_index, size_of}
use Rattle.image_model.specs.Live.{live_at, Live, own}
use Rattle.image_model.specs.Places.{is_entry_page}
use Rattle.image_model.specs.Files.{index_page, is_index, entry_number, data_of}
use Rattle.image_model.specs.Tables.{Found, damaged_of, damages}
use Rattle.image_model.specs.Tidy.{is_number, is_wanted, is_wanted_as, serves}
use Rattle.image_laws.specs.Changes.{Loses}
use Rattle.image_laws.proofs.Damaged.{any_at}
use Rattle.image_laws.proofs.Doubled.{doubled-has, doubled-wanted, index-span_is}
use Rattle.image_laws.proofs.Judge.{index_passes}
use Rattle.image_laws.proofs.Kill.{own-loses, own-loses_other, index-loses}
use Rattle.image_laws.proofs.Wanted.{number-other}
use Rattle.image_laws.proofs.Wants.{number-is, wanted_parts}
use Rattle.vol_check.specs.Culls.{MayCull, Culls, Passes, is_doubled, is_doubled_as, HasNoDoubles, CullsDoubled, PassesDoubled}
use Rattle.vol_check.specs.Noted.{Notes, IsIndexPage}
use Rattle.vol_check.specs.Works.{Work, TurnsDoubled, culling, culling_doubled}
use Rattle.vol_check.proofs.CullStep.{spares_by}
use Rattle.vol_check.proofs.Resting.{own_self, headed_page, lookup_dead}
use Rattle.vol_check.proofs.Working.{Goes}
use Rattle.vol_check.proofs.Passing.{culls_nothing, passes_none, passes_next}

-- ---- what the header of a page tells

pub dead_single : (g : Geometry) (a : List ℕ) (p : ℕ) → live_at g a p ≡ None → is_doubled g a p ≡ false
unfolding is_doubled
dead_single g a p e = rw e refl

lookup_single : (g : Geometry) (a : List ℕ) (p : ℕ) → is_entry_page g p ≡ false → is_doubled g a p ≡ false
lookup_single g a p e = dead_single g a p (lookup_dead g a p e)

other_number : (o : Option ℕ) (p : ℕ) → option_eq (λ (x y : ℕ). x == y) o (Some p) ≡ is_number o p
other_number None p = refl
other_number (Some q) p = refl

doubled_page : (g : Geometry) (a page : List ℕ) (p : ℕ) (head : PageHeader) → live_at g a p ≡ Some page → names_index page ≡ true → head ≡ header_at page →
    is_doubled g a p ≡ not (is_number (index_page g (own (live_at g a) (head.id % 0x8000)) head.span) p)
unfolding is_doubled
doubled_page g a page p head live kind same = rw (live, kind, same) refl

pub doubled_is : (g : Geometry) (a : List ℕ) (p : ℕ) (head : PageHeader) → Some head ≡ option_map header_at (live_at g a p) → layout.names_index head ≡ true →
    is_doubled g a p ≡ not (is_number (index_page g (own (live_at g a) (head.id % 0x8000)) head.span) p)
doubled_is g a p head e index =
    let w = headed_page (live_at g a p) head e in
    let kind : names_index w.0 ≡ true = rw w.2 at index in
    doubled_page g a w.0 p head w.1 kind w.2

pub index_told : (g : Geometry) (a : List ℕ) (p : ℕ) (head : PageHeader) (first : Option ℕ) → Some head ≡ option_map header_at (live_at g a p) → layout.names_index head ≡ true →
    first ≡ index_page g (own (live_at g a) (head.id % 0x8000)) head.span → not (option_eq (λ (x y : ℕ). x == y) first (Some p)) ≡ is_doubled g a p
index_told g a p head first e index is = ap (λ (x : Bool). not x) (other_number first p ∙ ap (λ (x : Option ℕ). is_number x p) is) ∙ sym (doubled_is g a p head e index)

-- ---- a doubled page by its parts

pub record IsDouble (g : Geometry) (live : Live) (p : ℕ) : Type 0 where
  pub page : List ℕ
  pub live_is : live p ≡ Some page
  pub index : names_index page ≡ true
  pub later : index_page g (own live (obj_id page % 0x8000)) (span_of page) ≢ Some p

parts_of : (g : Geometry) (a : List ℕ) (p : ℕ) (o : Option (List ℕ)) → live_at g a p ≡ o → is_doubled_as g a p o ≡ true → IsDouble g (live_at g a) p
parts_of g a p None at h = absurd (cc)
parts_of g a p (Some page) at h =
    let w = and_parts _ _ h in
    record { page = page; live_is = at; index = w.0; later = number-other (index_page g (own (live_at g a) (obj_id page % 0x8000)) (span_of page)) p (not-true _ w.1) }

pub doubled_parts : (g : Geometry) (a : List ℕ) (p : ℕ) → is_doubled g a p ≡ true → IsDouble g (live_at g a) p
unfolding is_doubled
doubled_parts g a p h = parts_of g a p (live_at g a p) refl h

module _ (g : Geometry) (live : Live) (p : ℕ) (d : IsDouble g live p) where
  own_is : own live (obj_id d.page % 0x8000) p ≡ Some d.page
  own_is = own_self live p d.page d.live_is

  -- it is the index page of no span
  pub index_never : (j : ℕ) → index_page g (own live (obj_id d.page % 0x8000)) j ≢ Some p
  index_never j e =
      let passes : is_index (Some d.page) j ≡ true = rw own_is at (index_passes g (own live (obj_id d.page % 0x8000)) j p e) in
      d.later (ap (λ (k : ℕ). index_page g (own live (obj_id d.page % 0x8000)) k) (index-span_is d.page j passes) ∙ e)

  no_data : (span : ℕ) → is_some (data_of (own live (obj_id d.page % 0x8000) p) span) ≡ false
  no_data span = rw own_is (rw d.index refl)

  serves_not : (head : List ℕ) → serves g (own live (obj_id d.page % 0x8000)) head p ≡ true → ⊥
  unfolding serves
  serves_not head e =
      ⊎_elim
      (λ (yes : list_any (λ (j : ℕ). is_number (index_page g (own live (obj_id d.page % 0x8000)) j) p) (range_with_len 0 (index_pages g (size_of head))) ≡ true).
      let w = any_at (λ (j : ℕ). is_number (index_page g (own live (obj_id d.page % 0x8000)) j) p) 0 (index_pages g (size_of head)) yes in
      index_never w.0 (number-is (index_page g (own live (obj_id d.page % 0x8000)) w.0) p w.3))
      (λ (yes : list_any (λ (span : ℕ). is_number (entry_number g (own live (obj_id d.page % 0x8000)) head span) p && is_some (data_of (own live (obj_id d.page % 0x8000) p) span)) (range_with_len 0 (data_pages g (size_of head))) ≡ true).
      let w = any_at (λ (span : ℕ). is_number (entry_number g (own live (obj_id d.page % 0x8000)) head span) p && is_some (data_of (own live (obj_id d.page % 0x8000) p) span)) 0 (data_pages g (size_of head)) yes in
      let v : (is_number (entry_number g (own live (obj_id d.page % 0x8000)) head w.0) p ≡ true) × (is_some (data_of (own live (obj_id d.page % 0x8000) p) w.0) ≡ true) = and_parts _ _ w.3 in
      let bad : true ≡ false = sym v.1 ∙ no_data w.0 in absurd (cc))
      (or_cases _ _ e)

  unwanted_as : is_wanted_as g live (live p) p ≡ false
  unwanted_as =
      ⊎_elim
      (λ (yes : is_wanted_as g live (live p) p ≡ true).
      let w = wanted_parts g live p yes in
      let same : w.page ≡ d.page = same_Some w.page d.page (sym w.is ∙ d.live_is) in
      let served : serves g (own live (obj_id d.page % 0x8000)) w.head p ≡ true = subst (λ (x : List ℕ). serves g (own live (obj_id x % 0x8000)) w.head p ≡ true) same w.served in
      absurd (serves_not w.head served))
      (λ (no : is_wanted_as g live (live p) p ≡ false). no)
      (cases_Bool (is_wanted_as g live (live p) p))

may_cull : (g : Geometry) (a : List ℕ) (p : ℕ) → is_doubled g a p ≡ true → MayCull g a p
unfolding is_wanted
may_cull g a p doubled =
    let d = doubled_parts g a p doubled in
    record {
      page = d.page;
      live = d.live_is;
      unwanted = unwanted_as g (live_at g a) p d;
      spares = λ b change. spares_by g a b p (doubled-has g p d.page (live_at g a) (live_at g b) d.live_is change d.index d.later) (doubled-wanted g p d.page (live_at g a) (live_at g b) d.live_is change d.index d.later);
    }

pub may_be_culled : (g : Geometry) (a : List ℕ) (p : ℕ) (head : PageHeader) (bits later : List ℕ) → is_doubled g a p ≡ true → Goes g a a (culling p) (culling_doubled p head bits later)
may_be_culled g a p head bits later doubled = record { needs = may_cull g a p doubled; idle = λ quiet. let bad : true ≡ false = sym doubled ∙ quiet in absurd (cc) }

-- ---- after its kill

module _ (g : Geometry) (a b : List ℕ) (p : ℕ) (d : IsDouble g (live_at g a) p) (change : Loses p (live_at g a) (live_at g b)) where
  -- every id and span has its index page
  index_same : (id j : ℕ) → index_page g (own (live_at g b) id) j ≡ index_page g (own (live_at g a) id) j
  index_same id j =
      ⊎_elim
      (λ (here : obj_id d.page % 0x8000 ≡ id). subst (λ (k : ℕ). index_page g (own (live_at g b) k) j ≡ index_page g (own (live_at g a) k) j) here
      (index-loses g p (own (live_at g a) (obj_id d.page % 0x8000)) (own (live_at g b) (obj_id d.page % 0x8000)) (own-loses p d.page (live_at g a) (live_at g b) d.live_is change (obj_id d.page % 0x8000)) j (index_never g (live_at g a) p d j)))
      (λ (there : obj_id d.page % 0x8000 ≡ id → ⊥). ap (λ (pages : Live). index_page g pages j) (own-loses_other p d.page (live_at g a) (live_at g b) d.live_is change id there))
      (cases_eq (obj_id d.page % 0x8000) id)

  as_same : (q : ℕ) (o : Option (List ℕ)) → is_doubled_as g b q o ≡ is_doubled_as g a q o
  as_same q None = refl
  as_same q (Some x) = rw (index_same (obj_id x % 0x8000) (span_of x)) refl

  pub others_doubled : (q : ℕ) → q ≢ p → is_doubled g b q ≡ is_doubled g a q
  unfolding is_doubled
  others_doubled q there = rw (change.others q there) (as_same q (live_at g a q))

  pub same_damaged : damaged_of g b ≡ damaged_of g a
  unfolding damaged_of
  same_damaged = ap (λ (f : Found). damages f 0x7FFF) (doubled-has g p d.page (live_at g a) (live_at g b) d.live_is change d.index d.later)

pub culls_double : (g : Geometry) (a b : List ℕ) (p : ℕ) → is_doubled g a p ≡ true → Culls g p true a b → CullsDoubled g p true a b
culls_double g a b p doubled c =
    let d = doubled_parts g a p doubled in
    let change : Loses p (live_at g a) (live_at g b) = record { after = c.gone refl; others = c.others } in
    record {
      culls = c;
      single = dead_single g b p (c.gone refl);
      others = others_doubled g a b p d change;
      damaged = same_damaged g a b p d change;
    }

-- a page that isn't doubled stays
pub doubles_nothing : (g : Geometry) (a : List ℕ) (p : ℕ) → is_doubled g a p ≡ false → CullsDoubled g p false a a
doubles_nothing g a p single = record { culls = culls_nothing g a p; single = single; others = λ q there. refl; damaged = refl }

-- ---- p pages on, with n of them killed and the ids of their header pages noted

pub record Doubling (g : Geometry) (first now bits : List ℕ) (p n : ℕ) : Type 0 where
  pub passes : Passes g n first now
  pub single : (q : ℕ) → q < p → is_doubled g now q ≡ false
  pub damaged : damaged_of g now ≡ damaged_of g first
  pub noted : Notes g now p bits

abbrev pub doubling_to : ℕ → List ℕ → Work ℕ
doubling_to p bits = record { needs = λ g was. Unit {0}; done = λ g was now n. Doubling g was now bits p n; idle = λ g was. HasNoDoubles g was }

pub doubling_start : (g : Geometry) (a bits : List ℕ) → Notes g a 0 bits → Doubling g a a bits 0 0
doubling_start g a bits noted = record { passes = passes_none g a; single = λ q low. absurd (omega arith); damaged = refl; noted = noted }

pub doubling_next : (g : Geometry) (first a b bits later : List ℕ) (p n m : ℕ) (killed : Bool) → Doubling g first a bits p n → TurnsDoubled g p later killed a b → m ≡ n + cond killed 1 0 → Doubling g first b later (p + 1) m
doubling_next g first a b bits later p n m killed s turn e =
    let t = turn.culls in
    record {
      passes = passes_next g first a b p n m killed s.passes t.culls e;
      single = λ q low. ⊎_elim
          (λ (here : q ≡ p). rw here t.single)
          (λ (there : q ≡ p → ⊥). t.others q there ∙ s.single q (omega (arith, there)))
          (cases_eq q p);
      damaged = t.damaged ∙ s.damaged;
      noted = turn.noted;
    }

-- the same with a live index page at p
pub record Facing (g : Geometry) (first now bits : List ℕ) (p n : ℕ) (head : PageHeader) : Type 0 where
  pub doubling : Doubling g first now bits p n
  pub index : IsIndexPage g now p head

abbrev pub facing_at : ℕ → PageHeader → List ℕ → Work ℕ
facing_at p head bits = record { needs = λ g was. Unit {0}; done = λ g was now n. Facing g was now bits p n head; idle = λ g was. HasNoDoubles g was }

outside_single : (g : Geometry) (a : List ℕ) (q : ℕ) → page_count g ≤ q → is_doubled g a q ≡ false
unfolding is_entry_page
outside_single g a q high = lookup_single g a q (rw (le-ltb q (page_count g) high) refl)

pub doubling_end : (g : Geometry) (first a bits : List ℕ) (p n : ℕ) → page_count g ≤ p → Doubling g first a bits p n → PassesDoubled g n first a
doubling_end g first a bits p n all s = record {
  passes = s.passes;
  single = λ q. ⊎_elim (λ (low : q < p). s.single q low) (λ (high : p ≤ q). outside_single g a q (omega (arith, all, high))) (cases_lt q p);
  damaged = s.damaged;
}
