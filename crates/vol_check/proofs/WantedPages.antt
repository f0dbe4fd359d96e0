-- The pages of the files of the table are the wanted ones.
use Rattle.std.proofs.Common.{◌≡◌, ℕ, zero, suc, ◌+◌, ◌-◌, ◌*◌, ◌/◌, ◌%◌, ◌<◌, ◌≤◌, List, true, false, ◌&&◌, min, Option, Some, None, ap, refl, sym, ◌∙◌, arith, ⊎_elim, inl, inr, subst, slice_index}
use Rattle.std.specs.Prelude.{is_none, is_some, option_and_then}
use Rattle.std.proofs.Math.Bool.{and-false}
use Rattle.std.proofs.lemmas.Bool.{cases_Bool, cases_lt, lt-ltb, le-ltb, eq-eqb, and_from, or_left, or_right}
use Rattle.std.proofs.lemmas.Nat.{div-mul-add, mod-mul-add}
use Rattle.std.proofs.Math.Nat.{div-add-mod, mul-le-mul_right}
use Rattle.std.proofs.lemmas.Option.{none-some, same_Some}
use Rattle.geometry.specs.declared.geometry.Geometry.{Geometry}
use Rattle.geometry.specs.Numbers.{head_slots, span_slots, ceil, page_count}
use Rattle.nor_core.specs.Flash.{word_at}
use Rattle.table_model.specs.Room.{data_pages, index_pages}
use Rattle.image_model.specs.Places.{page_of}
use Rattle.image_model.specs.Headers.{obj_id, span_of, size_of}
use Rattle.image_model.specs.Live.{Live, live_at, own}
use Rattle.image_model.specs.Files.{index_page, further, entry_number, data_of, data_page, first_missing}
use Rattle.image_model.specs.Tidy.{is_number, serves, is_wanted}
use Rattle.image_laws.proofs.Append.{find-all}
use Rattle.image_laws.proofs.Damaged.{any_from}
use Rattle.image_laws.proofs.Finish.{own-parts}
use Rattle.image_laws.proofs.Judge.{index_passes}
use Rattle.image_laws.proofs.Wanted.{header-below}
use Rattle.image_laws.proofs.Wants.{wanted_from, wanted_parts}
use Rattle.flash_view.specs.Found.{headed}
use Rattle.flash_view.proofs.Spans.{index_known}
use Rattle.file_find.specs.Marks.{mark_of, IsMarked}
use Rattle.file_find.proofs.Marking.{mark_none}
use Rattle.file_find.proofs.Heads.{header_parts}
use Rattle.file_find.proofs.Spans.{ceil_enough, slots_some}
use Rattle.vol_check.specs.Culls.{is_unwanted}
use Rattle.vol_check.specs.Needed.{AddsMarks, IsNamed, OfHead, OfFurther, OfFirst, OfFile, OfHeaded, IsListed, TellsListed, MarksListed, HasFurthers, TellsUnwanted, MarksUses}
use Rattle.vol_check.proofs.Listed.{listed_whole, listed_by}
use Rattle.vol_check.proofs.Resting.{headed_at, index_parts, served_parts, served_index}

-- ---- where the entry of a span stands

-- a number below one that is rounded up
below_ceil : (r x k : ℕ) → 0 < x → k < (r + x - 1) / x → k * x < r
below_ceil r x k some low =
    let whole : x * ((r + x - 1) / x) + (r + x - 1) % x ≡ r + x - 1 = div-add-mod (r + x - 1) x in
    let step : (k + 1) * x ≤ (r + x - 1) / x * x = mul-le-mul_right x (omega arith) in
    omega arith

-- how many further index pages a size takes
further_count : (g : Geometry) (size k : ℕ) → k < ceil (data_pages g size - head_slots g) (span_slots g) → (k + 1 < index_pages g size) × (head_slots g + k * span_slots g < data_pages g size)
further_count g size k low =
    let some = slots_some g in
    let less : k * span_slots g < data_pages g size - head_slots g = below_ceil (data_pages g size - head_slots g) (span_slots g) k some low in
    (rw (lt-ltb (head_slots g) (data_pages g size) (omega (arith, less))) (omega (arith, low)), omega (arith, less))

further_below : (g : Geometry) (size k : ℕ) → k + 1 < index_pages g size → k < ceil (data_pages g size - head_slots g) (span_slots g)
further_below g size k low =
    ⊎_elim
    (λ (more : head_slots g < data_pages g size).
    let at : k + 1 < 1 + ceil (data_pages g size - head_slots g) (span_slots g) = rw (lt-ltb (head_slots g) (data_pages g size) more) at low in omega (arith, at))
    (λ (few : data_pages g size ≤ head_slots g).
    let at : k + 1 < 1 = rw (le-ltb (head_slots g) (data_pages g size) few) at low in absurd (omega (arith, at)))
    (cases_lt (head_slots g) (data_pages g size))

span_at : (h k x r : ℕ) → r < x → ((h + (k * x + r) - h) / x ≡ k) × ((h + (k * x + r) - h) % x ≡ r)
span_at h k x r low =
    let at : h + (k * x + r) - h ≡ k * x + r = omega arith in
    (rw at (div-mul-add k x r low), rw at (mod-mul-add k x r low))

module _ (g : Geometry) (pages : Live) (head : List ℕ) where
  entry_near : (s : ℕ) → s < head_slots g → entry_number g pages head s ≡ Some (word_at head (45 + g.meta + 2 * s))
  unfolding entry_number
  entry_near s low = rw (lt-ltb s (head_slots g) low) refl

  entry_behind : (page : List ℕ) (q k r : ℕ) → r < span_slots g → index_page g pages (k + 1) ≡ Some q → pages q ≡ Some page →
      entry_number g pages head (head_slots g + (k * span_slots g + r)) ≡ Some (word_at page (8 + 2 * r))
  unfolding entry_number
  entry_behind page q k r low is holds =
      let w = span_at (head_slots g) k (span_slots g) r low in
      rw (le-ltb (head_slots g + (k * span_slots g + r)) (head_slots g) (omega arith)) (rw (w.0, w.1) (rw is (rw holds refl)))

  -- an entry behind those of the header page has its index page
  further_there : (s p : ℕ) → head_slots g ≤ s → entry_number g pages head s ≡ Some p → (q : ℕ) × (index_page g pages ((s - head_slots g) / span_slots g + 1) ≡ Some q)
  unfolding entry_number
  further_there s p high e = by (index_page g pages (further g s)) refl
    where
      by : (o : Option ℕ) → index_page g pages (further g s) ≡ o → (q : ℕ) × (index_page g pages (further g s) ≡ Some q)
      by None k = let none : entry_number g pages head s ≡ None = rw (le-ltb s (head_slots g) high) (rw k refl) in absurd (none-some p (sym none ∙ e))
      by (Some q) k = (q, k)

  -- a span with a data page has its entry, which names that page
  entry_of_data : (s : ℕ) → is_none (data_page g pages head s) ≡ false → (p : ℕ) × (entry_number g pages head s ≡ Some p) × (is_some (data_of (pages p) s) ≡ true)
  unfolding data_page
  entry_of_data s there = by (entry_number g pages head s) refl there
    where
      holds : (o : Option (List ℕ)) → is_none o ≡ false → is_some o ≡ true
      holds None e = absurd (cc)
      holds (Some x) e = refl

      by : (o : Option ℕ) → entry_number g pages head s ≡ o → is_none (option_and_then (λ p. data_of (pages p) s) o) ≡ false → (p : ℕ) × (entry_number g pages head s ≡ Some p) × (is_some (data_of (pages p) s) ≡ true)
      by None k e = absurd (cc)
      by (Some p) k e = (p, k, holds (data_of (pages p) s) e)

  -- ---- what serves a file

  index_served : (j p : ℕ) → j < index_pages g (size_of head) → index_page g pages j ≡ Some p → serves g pages head p ≡ true
  unfolding serves
  index_served j p low e =
      or_left _ _ (any_from (λ (i : ℕ). is_number (index_page g pages i) p) 0 (index_pages g (size_of head)) j (omega arith) (omega (arith, low)) (rw e (eq-eqb p p refl)))

  entry_served : (s p : ℕ) → s < data_pages g (size_of head) → is_none (data_page g pages head s) ≡ false → entry_number g pages head s ≡ Some p → serves g pages head p ≡ true
  unfolding serves
  entry_served s p low there e =
      let w = entry_of_data s there in
      let same : w.0 ≡ p = same_Some w.0 p (sym w.1 ∙ e) in
      let holds : is_some (data_of (pages p) s) ≡ true = rw same at w.2 in
      or_right _ _ (any_from (λ (span : ℕ). is_number (entry_number g pages head span) p && is_some (data_of (pages p) span)) 0 (data_pages g (size_of head)) s (omega arith) (omega (arith, low))
      (and_from _ _ (rw e (eq-eqb p p refl)) holds))

  there : (o : Option (List ℕ)) (s : ℕ) → is_some (data_of o s) ≡ true → (x : List ℕ) × (o ≡ Some x)
  there None s e = absurd (let bad : false ≡ true = e in cc)
  there (Some x) s e = (x, refl)

  served_page : (p : ℕ) → serves g pages head p ≡ true → (x : List ℕ) × (pages p ≡ Some x)
  served_page p e =
      ⊎_elim
      (λ (index : (j : ℕ) × (j < index_pages g (size_of head)) × (index_page g pages j ≡ Some p)). let w = index_parts (pages p) index.0 (index_passes g pages index.0 p index.2) in (w.0, w.1))
      (λ (entry : (s : ℕ) × (s < data_pages g (size_of head)) × (entry_number g pages head s ≡ Some p) × (is_some (data_of (pages p) s) ≡ true)). there (pages p) entry.0 entry.3)
      (served_parts g pages head p e)

-- ---- a whole file

module _ (g : Geometry) (image : List ℕ) (id h : ℕ) (whole : first_missing g (own (live_at g image) id) (page_of g image h) ≡ None) where
  present : (s : ℕ) → s < data_pages g (size_of (page_of g image h)) → is_none (data_page g (own (live_at g image) id) (page_of g image h) s) ≡ false
  present s low = find-all (λ (span : ℕ). is_none (data_page g (own (live_at g image) id) (page_of g image h) span)) 0 (data_pages g (size_of (page_of g image h))) whole s (omega arith) (omega (arith, low))

  pub has_furthers : HasFurthers g image id (data_pages g (size_of (page_of g image h)))
  has_furthers k low =
      let pages = own (live_at g image) id in
      let at = further_count g (size_of (page_of g image h)) k low in
      let s = head_slots g + (k * span_slots g + 0) in
      let e = entry_of_data g pages (page_of g image h) s (present s (omega (arith, at.1))) in
      let w = further_there g pages (page_of g image h) s e.0 (omega arith) e.1 in
      let place = span_at (head_slots g) k (span_slots g) 0 (slots_some g) in
      let here : index_page g pages (k + 1) ≡ Some w.0 = rw place.0 at w.1 in
      ap is_some here

  module _ (first : index_page g (own (live_at g image) id) 0 ≡ Some h) where
    of_further : (k p : ℕ) → k < ceil (data_pages g (size_of (page_of g image h)) - head_slots g) (span_slots g) → OfFurther g image id k (data_pages g (size_of (page_of g image h))) p → serves g (own (live_at g image) id) (page_of g image h) p ≡ true
    of_further k p low of =
        let pages = own (live_at g image) id in
        let at = further_count g (size_of (page_of g image h)) k low in
        ⊎_elim
        (λ (index : p ≡ of.index). index_served g pages (page_of g image h) (k + 1) p at.0 (rw index of.at))
        (λ (named : IsNamed (page_of g image of.index) 8 (min (span_slots g) (data_pages g (size_of (page_of g image h)) - (head_slots g + k * span_slots g))) p).
        let low' = named.below in
        let s = head_slots g + (k * span_slots g + named.slot) in
        let less : s < data_pages g (size_of (page_of g image h)) = omega (arith, low', at.1) in
        let e = entry_behind g pages (page_of g image h) (page_of g image of.index) of.index k named.slot (omega (arith, low')) of.at (index_known g image id (k + 1) of.index of.at) in
        entry_served g pages (page_of g image h) s p less (present s less) (e ∙ ap (λ (x : ℕ). Some x) named.is))
        of.is

    pub file_served : (p : ℕ) → OfFile g image id h p → serves g (own (live_at g image) id) (page_of g image h) p ≡ true
    file_served p of =
        let pages = own (live_at g image) id in
        ⊎_elim
        (λ (near : OfHead g (page_of g image h) h p). ⊎_elim
        (λ (here : p ≡ h). index_served g pages (page_of g image h) 0 p (header-below g (size_of (page_of g image h))) (rw here first))
        (λ (named : IsNamed (page_of g image h) (45 + g.meta) (min (head_slots g) (data_pages g (size_of (page_of g image h)))) p).
        let low = named.below in
        let less : named.slot < data_pages g (size_of (page_of g image h)) = omega (arith, low) in
        entry_served g pages (page_of g image h) named.slot p less (present named.slot less) (entry_near g pages (page_of g image h) named.slot (omega (arith, low)) ∙ ap (λ (x : ℕ). Some x) named.is))
        near)
        (λ (behind : OfFirst (λ k q. OfFurther g image id k (data_pages g (size_of (page_of g image h))) q) (ceil (data_pages g (size_of (page_of g image h)) - head_slots g) (span_slots g)) p). of_further behind.number p behind.below behind.of)
        of

-- ---- what serves a file is of it

module _ (g : Geometry) (image : List ℕ) (id h : ℕ) (first : index_page g (own (live_at g image) id) 0 ≡ Some h) where
  of_index : (j p : ℕ) → j < index_pages g (size_of (page_of g image h)) → index_page g (own (live_at g image) id) j ≡ Some p → OfFile g image id h p
  of_index zero p low e = inl (inl (same_Some p h (sym e ∙ first)))
  of_index (suc k) p low e =
      let next : suc k ≡ k + 1 = omega arith in
      let at : index_page g (own (live_at g image) id) (k + 1) ≡ Some p = rw next at e in
      let low' : k + 1 < index_pages g (size_of (page_of g image h)) = omega (arith, low) in
      inr (record { number = k; below = further_below g (size_of (page_of g image h)) k low'; of = record { index = p; at = at; is = inl refl } })

  of_entry : (s p : ℕ) → s < data_pages g (size_of (page_of g image h)) → entry_number g (own (live_at g image) id) (page_of g image h) s ≡ Some p → OfFile g image id h p
  of_entry s p low e =
      let pages = own (live_at g image) id in
      ⊎_elim
      (λ (near : s < head_slots g).
      inl (inr (record { slot = s; below = omega (arith, near, low); is = same_Some _ p (sym (entry_near g pages (page_of g image h) s near) ∙ e) })))
      (λ (far : head_slots g ≤ s).
      let x = span_slots g in
      let k = (s - head_slots g) / x in
      let r = (s - head_slots g) % x in
      let some = slots_some g in
      let whole : x * k + r ≡ s - head_slots g = div-add-mod (s - head_slots g) x in
      let low' : r < x = omega (arith, some) in
      let w = further_there g pages (page_of g image h) s p far e in
      let same : head_slots g + (k * x + r) ≡ s = omega (arith, whole, far) in
      let named = entry_behind g pages (page_of g image h) (page_of g image w.0) w.0 k r low' w.1 (index_known g image id (k + 1) w.0 w.1) in
      let is : Some (word_at (page_of g image w.0) (8 + 2 * r)) ≡ Some p = sym named ∙ ap (λ (i : ℕ). entry_number g pages (page_of g image h) i) same ∙ e in
      let few : r < data_pages g (size_of (page_of g image h)) - (head_slots g + k * x) = omega (arith, same, low) in
      inr (record {
        number = k;
        below = ⊎_elim
            (λ (less : k < ceil (data_pages g (size_of (page_of g image h)) - head_slots g) x). less)
            (λ (past : ceil (data_pages g (size_of (page_of g image h)) - head_slots g) x ≤ k).
            let enough = ceil_enough (data_pages g (size_of (page_of g image h)) - head_slots g) x k some past in absurd (omega (arith, enough, few)))
            (cases_lt k (ceil (data_pages g (size_of (page_of g image h)) - head_slots g) x));
        of = record { index = w.0; at = w.1; is = inr (record { slot = r; below = omega (arith, low', few); is = same_Some _ p is }) };
      }))
      (cases_lt s (head_slots g))

  served_file : (p : ℕ) → serves g (own (live_at g image) id) (page_of g image h) p ≡ true → OfFile g image id h p
  served_file p e =
      ⊎_elim
      (λ (index : (j : ℕ) × (j < index_pages g (size_of (page_of g image h))) × (index_page g (own (live_at g image) id) j ≡ Some p)). of_index index.0 p index.1 index.2)
      (λ (entry : (s : ℕ) × (s < data_pages g (size_of (page_of g image h))) × (entry_number g (own (live_at g image) id) (page_of g image h) s ≡ Some p) × (is_some (data_of (own (live_at g image) id p) s) ≡ true)). of_entry entry.0 p entry.1 entry.2)
      (served_parts g (own (live_at g image) id) (page_of g image h) p e)

-- ---- all files

module _ (g : Geometry) (image : List ℕ) where
  -- a page of a file of the table
  of_served : (h p : ℕ) (of : OfHeaded g image h p) → serves g (own (live_at g image) of.id) (page_of g image h) p ≡ true
  of_served h p of = file_served g image of.id h (listed_whole g image of.id h of.listed) of.listed.first p of.of

  files_wanted : (n p : ℕ) → OfFirst (OfHeaded g image) n p → is_wanted g image p ≡ true
  unfolding is_wanted
  files_wanted n p of =
      let id = of.of.id in
      let at = of.of.listed.first in
      let header = index_known g image id 0 of.number at in
      let served = of_served of.number p of.of in
      let w = served_page g (own (live_at g image) id) (page_of g image of.number) p served in
      let v = own-parts (live_at g image) id p w.0 w.1 in
      wanted_from g (live_at g image) p (record {
        page = w.0;
        h = of.number;
        head = page_of g image of.number;
        is = v.0;
        in_table = rw v.1 of.of.listed.in_table;
        at = rw v.1 at;
        header = rw v.1 header;
        served = rw v.1 served;
      })

  wanted_files : (p : ℕ) → is_wanted g image p ≡ true → OfFirst (OfHeaded g image) (page_count g) p
  unfolding is_wanted
  wanted_files p e =
      let w = wanted_parts g (live_at g image) p e in
      let id = obj_id w.page % 0x8000 in
      let parts = header_parts g image id w.h w.at in
      let same : w.head ≡ page_of g image w.h = same_Some w.head (page_of g image w.h) (sym w.header ∙ index_known g image id 0 w.h w.at) in
      let served : serves g (own (live_at g image) id) (page_of g image w.h) p ≡ true = subst (λ (x : List ℕ). serves g (own (live_at g image) id) x p ≡ true) same w.served in
      record { number = w.h; below = parts.1; of = record { id = id; listed = record { first = w.at; in_table = w.in_table }; of = served_file g image id w.h w.at p served } }

  live_wanted : (p : ℕ) → is_wanted g image p ≡ true → is_some (live_at g image p) ≡ true
  unfolding is_wanted
  live_wanted p e = ap is_some (wanted_parts g (live_at g image) p e).is

  -- ---- marks that are added

  -- a header page that a file of the table needs is that file's own
  own_head : (h p id : ℕ) → OfHeaded g image h p → headed (live_at g image p) ≡ Some id → IsListed g image id p
  own_head h p id of heads =
      let w = served_page g (own (live_at g image) of.id) (page_of g image h) p (of_served h p of) in
      let v = own-parts (live_at g image) of.id p w.0 w.1 in
      let x = headed_at (live_at g image p) id heads in
      let same : w.0 ≡ x.0 = same_Some w.0 x.0 (sym v.0 ∙ x.1) in
      let page : own (live_at g image) of.id p ≡ Some x.0 = subst (λ (y : List ℕ). own (live_at g image) of.id p ≡ Some y) same w.1 in
      let at : index_page g (own (live_at g image) of.id) (span_of x.0) ≡ Some p = served_index g (own (live_at g image) of.id) (page_of g image h) x.0 p page x.2 (of_served h p of) in
      let to : of.id ≡ id = sym v.1 ∙ ap (λ (y : List ℕ). obj_id y % 0x8000) same ∙ x.4 in
      let first : index_page g (own (live_at g image) of.id) 0 ≡ Some p = subst (λ (span : ℕ). index_page g (own (live_at g image) of.id) span ≡ Some p) x.3 at in
      subst (λ (i : ℕ). IsListed g image i p) to (record { first = first; in_table = of.listed.in_table })

  -- so marks of 3 tell header pages of files of the table as those before did
  pub listed_still : (least n : ℕ) (a b : List ℕ) → least ≤ 3 → MarksListed g image least a → AddsMarks (page_count g) (OfFirst (OfHeaded g image) n) a b → MarksListed g image least b
  listed_still least n a b few was adds h low =
      ⊎_elim
      (λ (of : OfFirst (OfHeaded g image) n h).
      let is : slice_index b h ≡ 3 = adds.set h low of in
      record { listed = λ id heads more. own_head of.number h id of.of heads; enough = λ id listed. omega (arith, is, few) })
      (λ (same : slice_index b h ≡ slice_index a h). subst (λ (m : ℕ). TellsListed g image least h m) (sym same) (was h low))
      (adds.rest h low)

  -- marks of these pages alone tell what is unwanted
  pub marks_wanted : (zeros marks : List ℕ) → ((p : ℕ) → p < page_count g → slice_index zeros p ≡ 0) → AddsMarks (page_count g) (OfFirst (OfHeaded g image) (page_count g)) zeros marks →
      (p : ℕ) → p < page_count g → TellsUnwanted g image p (slice_index marks p)
  unfolding is_unwanted
  marks_wanted zeros marks clear adds p low =
      ⊎_elim
      (λ (yes : is_wanted g image p ≡ true). rw (yes, adds.set p low (wanted_files p yes)) refl)
      (λ (no : is_wanted g image p ≡ false). ⊎_elim
      (λ (of : OfFirst (OfHeaded g image) (page_count g) p). let bad : true ≡ false = sym (files_wanted (page_count g) p of) ∙ no in absurd (cc))
      (λ (same : slice_index marks p ≡ slice_index zeros p). rw (no, same ∙ clear p low) refl)
      (adds.rest p low))
      (cases_Bool (is_wanted g image p))

  -- a page with the mark of a file of the table is its header page, and wanted
  listed_wanted : (p mark : ℕ) (o : Option ℕ) → headed (live_at g image p) ≡ o → mark ≡ mark_of g image p → 3 ≤ mark → is_wanted g image p ≡ true
  listed_wanted p mark None e is more = let none = mark_none g image p (sym e) in absurd (omega (arith, is, none, more))
  listed_wanted p mark (Some id) e is more = files_wanted (p + 1) p (record { number = p; below = omega arith; of = record { id = id; listed = listed_by g image id p mark e is more; of = inl (inl refl) } })

  -- added to the marks of header pages they tell what is wanted
  pub marks_uses : (heads marks : List ℕ) → IsMarked g image heads → AddsMarks (page_count g) (OfFirst (OfHeaded g image) (page_count g)) heads marks → MarksUses g image marks
  marks_uses heads marks marked adds p low =
      ⊎_elim
      (λ (yes : is_wanted g image p ≡ true). rw (yes, live_wanted p yes, adds.set p low (wanted_files p yes)) refl)
      (λ (no : is_wanted g image p ≡ false). ⊎_elim
      (λ (of : OfFirst (OfHeaded g image) (page_count g) p). let bad : true ≡ false = sym (files_wanted (page_count g) p of) ∙ no in absurd (cc))
      (λ (same : slice_index marks p ≡ slice_index heads p). ⊎_elim
      (λ (few : slice_index marks p < 3). no ∙ sym (rw (lt-ltb (slice_index marks p) 3 few) (and-false (is_some (live_at g image p)))))
      (λ (more : 3 ≤ slice_index marks p). let bad : true ≡ false = sym (listed_wanted p (slice_index marks p) (headed (live_at g image p)) refl (same ∙ marked.each p low) more) ∙ no in absurd (cc))
      (cases_lt (slice_index marks p) 3))
      (adds.rest p low))
      (cases_Bool (is_wanted g image p))
