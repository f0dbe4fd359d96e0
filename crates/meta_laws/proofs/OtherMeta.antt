-- A file with bytes isn't whole by another number of meta bytes.
use Rattle.std.proofs.Common.{◌≡◌, ◌≢◌, ℕ, ◌+◌, ◌-◌, ◌*◌, ◌/◌, ◌%◌, ◌<◌, ◌≤◌, ◌⊎◌, List, length, slice_index, slice_range, replicate, true, false, Bool, Option, Some, None, Result, Ok, Err, inl, inr, ap, refl, sym, ◌∙◌, arith, ⊎_elim, subst, get_or-take, get_or-drop}
use Rattle.std.specs.Prelude.{nat_lt, is_some, is_none, option_and_then, if◌then◌else◌}
use Rattle.std.specs.Option.{option_map}
use Rattle.std.proofs.lemmas.Bool.{cases_lt, cases_eq, cases_Bool, lt-ltb, le-ltb, eq-eqb, ne_eqb, eqb-true, false≢true, and_parts}
use Rattle.std.proofs.lemmas.List.{get_or-replicate}
use Rattle.std.proofs.lemmas.Option.{none-some, same_Some}
use Rattle.geometry.specs.declared.geometry.Geometry.{Geometry}
use Rattle.geometry.specs.Numbers.{head_slots, span_slots, page_count}
use Rattle.geometry.proofs.Bounds.{few_pages}
use Rattle.nor_core.specs.Flash.{word_at}
use Rattle.table_model.specs.Table.{File}
use Rattle.table_model.specs.Room.{data_pages, index_pages}
use Rattle.image_model.specs.Within.{sizes, page_number}
use Rattle.image_model.specs.Places.{IsImage, page_of}
use Rattle.image_model.specs.Headers.{names_index, span_of, size_of}
use Rattle.image_model.specs.Live.{Live, live_at, own}
use Rattle.image_model.specs.Files.{index_page, is_index, further, entry_number, data_of, data_page, first_missing}
use Rattle.image_model.specs.Tidy.{serves}
use Rattle.image_laws.proofs.Append.{find-all, some_page}
use Rattle.image_laws.proofs.Finish.{own-parts}
use Rattle.image_laws.proofs.Frames.{live_parts}
use Rattle.image_laws.proofs.Judge.{index_passes}
use Rattle.image_laws.proofs.Placing.{page_byte}
use Rattle.image_laws.proofs.TidySteps.{neat-but}
use Rattle.renew_laws.specs.Primed.{Primed}
use Rattle.renew_laws.proofs.LiveServes.{served-but}
use Rattle.renew_laws.proofs.PrimePlaces.{primed-places}
use Rattle.renew_laws.proofs.Serves.{data_parts, served_as}
use Rattle.renew_laws.proofs.Spans.{span_page}
use Rattle.trim_laws.specs.Trim.{IsTrimmed}
use Rattle.meta_tally.specs.Counted.{IsAlike}
use Rattle.meta_tally.proofs.Alike.{same_pages}
use Rattle.meta_laws.proofs.Numbers.{word, Plain, SameBy, no_other}

-- ---- entries and data pages, by any geometry

entry_near : (k : Geometry) (pages : Live) (head : List ℕ) (t : ℕ) → t < head_slots k → entry_number k pages head t ≡ Some (word_at head (45 + k.meta + 2 * t))
unfolding entry_number
entry_near k pages head t low = rw (lt-ltb t (head_slots k) low) refl

entry_far : (k : Geometry) (pages : Live) (head : List ℕ) (t : ℕ) → head_slots k ≤ t →
    entry_number k pages head t ≡ option_map (λ page. word_at page (8 + 2 * ((t - head_slots k) % span_slots k))) (option_and_then pages (index_page k pages (further k t)))
unfolding entry_number
entry_far k pages head t high = rw (le-ltb t (head_slots k) high) refl

-- where an entry is in a further index page
far_parts : (pages : Live) (at p : ℕ) (o : Option ℕ) → option_map (λ page. word_at page at) (option_and_then pages o) ≡ Some p → (w : ℕ) × (x : List ℕ) × (o ≡ Some w) × (pages w ≡ Some x) × (word_at x at ≡ p)
far_parts pages at p None e = absurd (none-some p e)
far_parts pages at p (Some w) e = by_page (pages w) refl
  where
    by_page : (o : Option (List ℕ)) → pages w ≡ o → (v : ℕ) × (x : List ℕ) × (Some w ≡ Some v) × (pages v ≡ Some x) × (word_at x at ≡ p)
    by_page None is = absurd (none-some p (ap (λ (o : Option (List ℕ)). option_map (λ page. word_at page at) o) (sym is) ∙ e))
    by_page (Some x) is = (w, x, refl, is, same_Some _ p (ap (λ (o : Option (List ℕ)). option_map (λ page. word_at page at) o) (sym is) ∙ e))

-- the live data page of a span that is there
named_by : (pages : Live) (t : ℕ) (o : Option ℕ) (x : List ℕ) → option_and_then (λ p. data_of (pages p) t) o ≡ Some x → (p : ℕ) × (o ≡ Some p) × (data_of (pages p) t ≡ Some x)
named_by pages t None x e = absurd (none-some x e)
named_by pages t (Some p) x e = (p, refl, e)

-- a data page is the page itself
data_is : (o : Option (List ℕ)) (t : ℕ) (x : List ℕ) → data_of o t ≡ Some x → (o ≡ Some x) × (names_index x ≡ false) × (span_of x ≡ t)
data_is None t x e = absurd (none-some x e)
data_is (Some y) t x e =
    let some : is_some (data_of (Some y) t) ≡ true = ap is_some e in
    let v = data_parts y t some in
    let same : y ≡ x = same_Some y x (sym (kept v.0 v.1) ∙ e) in
    (ap (λ (z : List ℕ). Some z) same, rw same at v.0, rw same at v.1)
  where
    kept : names_index y ≡ false → span_of y ≡ t → data_of (Some y) t ≡ Some y
    kept kind span = rw (kind, eq-eqb (span_of y) t span) refl

-- an entry that names the data page of a span
pub record NamesData (k : Geometry) (pages : Live) (head : List ℕ) (t : ℕ) : Type 0 where
  pub p : ℕ
  pub page : List ℕ
  pub entry : entry_number k pages head t ≡ Some p
  pub there : pages p ≡ Some page
  pub kind : names_index page ≡ false
  pub span : span_of page ≡ t

data_named : (k : Geometry) (pages : Live) (head : List ℕ) (t : ℕ) (x : List ℕ) → data_page k pages head t ≡ Some x → NamesData k pages head t
unfolding data_page
data_named k pages head t x e =
    let v = named_by pages t (entry_number k pages head t) x e in
    let w = data_is (pages v.0) t x v.2 in
    record { p = v.0; page = x; entry = v.1; there = w.0; kind = w.1; span = w.2 }

same_index_page : (g h : Geometry) → IsAlike g h → (pages : Live) (j : ℕ) → index_page h pages j ≡ index_page g pages j
unfolding index_page
same_index_page g h alike pages j = rw (same_pages g h alike) refl

more_index : (g : Geometry) (size : ℕ) → 1 < index_pages g size → head_slots g < data_pages g size
more_index g size e = ⊎_elim
    (λ (more : head_slots g < data_pages g size). more)
    (λ (few : data_pages g size ≤ head_slots g). let one : index_pages g size ≡ 1 = rw (le-ltb (head_slots g) (data_pages g size) few) refl in absurd (omega (arith, one, e)))
    (cases_lt (head_slots g) (data_pages g size))

-- ---- a file with bytes

module _ (g h : Geometry) (image : List ℕ) (alike : IsAlike g h) (small : (k : ℕ) → slice_index image k < 256)
    (id q : ℕ) (head : List ℕ) (f : File) (prime : Primed g id q head f (λ r. false) image image) (trim : IsTrimmed g head)
    (meta : slice_range head 45 (45 + g.meta) ≡ replicate g.meta 0xFF) (some : 0 < data_pages g (size_of head))
    (whole : first_missing h (own (live_at g image) id) head ≡ None) where
  abbrev pages : Live
  pages = own (live_at g image) id

  abbrev n : ℕ
  n = data_pages g (size_of head)

  abbrev w : ℕ → ℕ
  w i = slice_index head i

  same_size : data_pages h (size_of head) ≡ n
  same_size = rw alike.page_is refl

  slots_h : head_slots h ≡ (g.page - 45 - h.meta) / 2
  slots_h = rw alike.page_is refl

  -- by the volume's own number
  own_named : (t : ℕ) → t < n → NamesData g pages head t
  own_named t below = let x = span_page g pages id head f prime.file t below in data_named g pages head t x.0 x.1

  -- by the other one
  other_named : (t : ℕ) → t < n → NamesData h pages head t
  other_named t below =
      let there : is_none (data_page h pages head t) ≡ false = find-all (λ (span : ℕ). is_none (data_page h pages head span)) 0 (data_pages h (size_of head)) whole t (omega arith) (omega (arith, below, same_size)) in
      let x = some_page (data_page h pages head t) there in
      data_named h pages head t x.0 x.1

  -- a live data page of the file is named by its entry
  one_entry : (p t : ℕ) (x : List ℕ) → pages p ≡ Some x → names_index x ≡ false → span_of x ≡ t → entry_number g pages head t ≡ Some p
  one_entry p t x there kind span =
      ⊎_elim
      (λ (v : (names_index x ≡ true) × (span_of x < index_pages g (size_of head)) × (index_page g pages (span_of x) ≡ Some p)). absurd (false≢true (sym kind ∙ v.0)))
      (λ (v : (names_index x ≡ false) × (span_of x < data_pages g (size_of head)) × (entry_number g pages head (span_of x) ≡ Some p) × (is_some (data_of (pages p) (span_of x)) ≡ true)). ap (entry_number g pages head) (sym span) ∙ v.2)
      (served_as g pages head p x there (served-but g image (λ r. false) (neat-but prime.tidy) id q head prime.at prime.header p x refl there))

  same_words : (t : ℕ) → t < n → t < (g.page - 45 - h.meta) / 2 → t < (g.page - 45 - g.meta) / 2 → word w (45 + h.meta + 2 * t) ≡ word w (45 + g.meta + 2 * t)
  same_words t below near here =
      let v = other_named t below in
      let mine : entry_number g pages head t ≡ Some v.p = one_entry v.p t v.page v.there v.kind v.span in
      let by_h : word_at head (45 + h.meta + 2 * t) ≡ v.p = same_Some _ v.p (sym (entry_near h pages head t (omega (arith, near, slots_h))) ∙ v.entry) in
      let by_g : word_at head (45 + g.meta + 2 * t) ≡ v.p = same_Some _ v.p (sym (entry_near g pages head t here) ∙ mine) in
      by_h ∙ sym by_g

  -- page 1's first number is that of two spans
  far_apart : (g.page - 45 - h.meta) / 2 < n → (g.page - 45 - h.meta) / 2 < (g.page - 45 - g.meta) / 2 → ⊥
  far_apart over less =
      let t = (g.page - 45 - h.meta) / 2 in
      let v = other_named t over in
      let at_h : head_slots h ≡ t = slots_h in
      let span_h : further h t ≡ 1 = ap (λ (x : ℕ). x / span_slots h + 1) (let e : t - head_slots h ≡ 0 = omega (arith, at_h) in e) ∙ zero_div (span_slots h) in
      let slot_h : 8 + 2 * ((t - head_slots h) % span_slots h) ≡ 8 = ap (λ (x : ℕ). 8 + 2 * (x % span_slots h)) (let e : t - head_slots h ≡ 0 = omega (arith, at_h) in e) ∙ zero_mod (span_slots h) in
      let one = far_parts pages (8 + 2 * ((t - head_slots h) % span_slots h)) v.p (index_page h pages (further h t)) (sym (entry_far h pages head t (omega (arith, at_h))) ∙ v.entry) in
      let at_one : index_page g pages 1 ≡ Some one.0 = sym (same_index_page g h alike pages 1) ∙ ap (index_page h pages) (sym span_h) ∙ one.2 in
      let first : word_at one.1 8 ≡ v.p = ap (word_at one.1) (sym slot_h) ∙ one.4 in
      let more : head_slots g < n = more_index g (size_of head) (⊎_elim
      (λ (none : false ≡ true). absurd (false≢true none))
      (λ (y : (index_page g pages 1 ≡ Some one.0) × (1 < index_pages g (size_of head))). y.1)
      ((primed-places g image image id q head f (λ (r : ℕ). false) prime).1 one.0 1 (index_passes g pages 1 one.0 at_one))) in
      let u = own_named (head_slots g) more in
      let span_g : further g (head_slots g) ≡ 1 = ap (λ (x : ℕ). x / span_slots g + 1) (let e : head_slots g - head_slots g ≡ 0 = omega arith in e) ∙ zero_div (span_slots g) in
      let slot_g : 8 + 2 * ((head_slots g - head_slots g) % span_slots g) ≡ 8 = ap (λ (x : ℕ). 8 + 2 * (x % span_slots g)) (let e : head_slots g - head_slots g ≡ 0 = omega arith in e) ∙ zero_mod (span_slots g) in
      let two = far_parts pages (8 + 2 * ((head_slots g - head_slots g) % span_slots g)) u.p (index_page g pages (further g (head_slots g))) (sym (entry_far g pages head (head_slots g) (omega arith)) ∙ u.entry) in
      let same_at : two.0 ≡ one.0 = same_Some two.0 one.0 (sym two.2 ∙ ap (index_page g pages) span_g ∙ at_one) in
      let same_page : two.1 ≡ one.1 = same_Some two.1 one.1 (sym two.3 ∙ ap pages same_at ∙ one.3) in
      let second : word_at one.1 8 ≡ u.p = ap (λ (x : List ℕ). word_at x 8) (sym same_page) ∙ ap (word_at two.1) (sym slot_g) ∙ two.4 in
      let same_number : v.p ≡ u.p = sym first ∙ second in
      let same_data : v.page ≡ u.page = same_Some v.page u.page (sym v.there ∙ ap pages same_number ∙ u.there) in
      let same_span : t ≡ head_slots g = sym v.span ∙ ap span_of same_data ∙ u.span in
      omega (arith, same_span, less)
    where
      zero_div : (s : ℕ) → 0 / s + 1 ≡ 1
      zero_div s = grind arith

      zero_mod : (s : ℕ) → 8 + 2 * (0 % s) ≡ 8
      zero_mod s = grind arith

  plain : Plain w g.page g.meta n
  plain = record {
    small = λ i low.
        let here : head ≡ page_of g image q = sym (live_parts g image q head (own-parts (live_at g image) id q head prime.header).0).bytes in
        rw here (rw (page_byte g image q i low) (small (q * g.page + i)));
    meta = λ i from below.
        let k = i - 45 in
        let at : 45 + k ≡ i = omega (arith, from) in
        let inner : k < g.meta = omega (arith, below, from) in
        let cut : slice_index (slice_range head 45 (45 + g.meta)) k ≡ slice_index head (45 + k) = ranged head g.meta k inner in
        ap (λ (x : ℕ). slice_index head x) (sym at) ∙ sym cut ∙ ap (λ (l : List ℕ). slice_index l k) meta ∙ get_or-replicate g.meta k 255 0 inner;
    free = λ t from below. trim.free t from below;
    real = λ t below here.
        let v = own_named t below in
        let e : word_at head (45 + g.meta + 2 * t) ≡ v.p = same_Some _ v.p (sym (entry_near g pages head t here) ∙ v.entry) in
        let live = live_parts g image v.p v.page (own-parts (live_at g image) id v.p v.page v.there).0 in
        let low : v.p < page_count g = page_number g v.p live.entry_page in
        omega (arith, e, low, few_pages g);
    apart = λ s t s_below t_below s_here t_here same.
        let u = own_named s s_below in
        let v = own_named t t_below in
        let a : word_at head (45 + g.meta + 2 * s) ≡ u.p = same_Some _ u.p (sym (entry_near g pages head s s_here) ∙ u.entry) in
        let b : word_at head (45 + g.meta + 2 * t) ≡ v.p = same_Some _ v.p (sym (entry_near g pages head t t_here) ∙ v.entry) in
        let number : u.p ≡ v.p = sym a ∙ same ∙ b in
        let page : u.page ≡ v.page = same_Some u.page v.page (sym u.there ∙ ap pages number ∙ v.there) in
        sym u.span ∙ ap span_of page ∙ v.span;
  }
    where
      ranged : (xs : List ℕ) (m k : ℕ) → k < m → slice_index (slice_range xs 45 (45 + m)) k ≡ slice_index xs (45 + k)
      ranged xs m k low = let near : k < 45 + m - 45 = omega (arith, low) in rw (get_or-take, get_or-drop) refl

  -- it isn't whole by another
  pub not_whole : h.meta ≢ g.meta → ⊥
  not_whole differ = no_other w g.page g.meta n h.meta (sizes g).page g.valid.meta_most h.valid.meta_most some plain (record { same = same_words; far = far_apart }) differ
