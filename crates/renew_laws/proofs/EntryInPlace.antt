-- An entry past the page count, in place.
use Rattle.std.proofs.Common.{◌≡◌, ◌≢◌, ℕ, ◌+◌, ◌-◌, ◌*◌, ◌/◌, ◌%◌, ◌<◌, ◌≤◌, ◌⊎◌, List, length, slice_index, slice_range, Bool, true, ◌&&◌, Option, Some, None, Result, ap, refl, sym, ◌∙◌, arith, ⊎_elim, subst, inl, inr}
use Rattle.std.proofs.Math.Path.{fun_ext}
use Rattle.std.proofs.Math.Nat.{div-add-mod}
use Rattle.std.specs.Prelude.{option_and_then, find, is_some}
use Rattle.std.specs.Option.{option_map}
use Rattle.std.specs.List.{range_with_len, list_any}
use Rattle.std.proofs.lemmas.Bool.{cases_eq, cases_lt, lt-ltb, le-ltb}
use Rattle.std.proofs.lemmas.Option.{same_Some}
use Rattle.geometry.specs.declared.geometry.Geometry.{Geometry}
use Rattle.image_model.specs.Within.{sizes, Sizes, page_length}
use Rattle.image_model.specs.declared.damage.Damage.{Damage}
use Rattle.nor_core.specs.Flash.{SameOutside, word_at}
use Rattle.geometry.specs.Numbers.{page_count, head_slots, span_slots}
use Rattle.table_model.specs.Room.{data_pages, index_pages}
use Rattle.image_model.specs.Live.{live_at, Live, own}
use Rattle.image_model.specs.Headers.{obj_id, span_of, names_index, size_of, name_of}
use Rattle.image_model.specs.Places.{page_of, block_of, IsImage}
use Rattle.image_model.specs.Tables.{Found, has_of, records, damages, table_of, damaged_of}
use Rattle.image_model.specs.Files.{is_index, index_page, further, entry_number, data_of, data_page, found, index_span, slot_at}
use Rattle.image_model.specs.Sound.{HasMagics, IsMixed, Keeps}
use Rattle.image_laws.specs.Reindex.{slot_word}
use Rattle.image_laws.specs.InPlace.{EntryInPlaceKeeps, EntryInPlaceTidies}
use Rattle.image_laws.specs.TidySteps.{IsTidyBut}
use Rattle.image_model.specs.Tidy.{is_number, serves}
use Rattle.renew_laws.proofs.Leading.{any-range}
use Rattle.renew_laws.proofs.StayTidy.{stays-tidy}
use Rattle.image_laws.proofs.Frames.{LivePage, live_parts, live_from, live-page_other, magic-same_page, entry-same_page, range-same}
use Rattle.image_laws.proofs.Placing.{page_byte, wider}
use Rattle.image_laws.proofs.Judge.{judged-alike, found_from, index_passes}
use Rattle.image_laws.proofs.Finish.{own-parts}
use Rattle.image_laws.proofs.Doubled.{index-span_is}
use Rattle.image_laws.proofs.Sounding.{sound-by}
use Rattle.image_laws.proofs.Append.{finished-same, id-same, span-same, index-same, own-some, own-other, own-live}
use Rattle.image_laws.proofs.Reindexed.{entry-slot}

-- ---- the pages of the id

module _ (g : Geometry) (p h id : ℕ) (x y head : List ℕ) (one two : Live) (was : one p ≡ Some x) (is : two p ≡ Some y) (others : (r : ℕ) → r ≢ p → two r ≡ one r)
    (index_x : names_index x ≡ true) (index_y : names_index y ≡ true) (span : span_of y ≡ span_of x) (at : index_page g one 0 ≡ Some h) (header : one h ≡ Some head)
    (words : (s : ℕ) → s < data_pages g (size_of head) → index_span g s ≡ span_of x → slot_word g y s ≡ slot_word g x s)
    (same : h ≡ p → (size_of y ≡ size_of x) × (name_of y ≡ name_of x) × (slice_index y 12 ≡ slice_index x 12) × (slice_range y 45 (45 + g.meta) ≡ slice_range x 45 (45 + g.meta))) where
  index_same : (j : ℕ) → index_page g two j ≡ index_page g one j
  unfolding index_page
  index_same j =
      ap (λ (t : ℕ → Bool). find t (range_with_len 0 (page_count g)))
      (fun_ext (λ (r : ℕ). ⊎_elim
      (λ (here : r ≡ p). rw here (rw (is, was) (rw (index_x, index_y, span) refl)))
      (λ (there : r ≡ p → ⊥). rw (others r there) refl)
      (cases_eq r p)))

  data_same : (t r : ℕ) → data_of (two r) t ≡ data_of (one r) t
  data_same t r =
      ⊎_elim
      (λ (here : r ≡ p). rw here (rw (is, was) (rw (index_x, index_y) refl)))
      (λ (there : r ≡ p → ⊥). rw (others r there) refl)
      (cases_eq r p)

  word_same : (s : ℕ) → s < data_pages g (size_of head) → (o : Option ℕ) → index_page g one (index_span g s) ≡ o →
      option_map (λ page. slot_word g page s) (option_and_then two o) ≡ option_map (λ page. slot_word g page s) (option_and_then one o)
  word_same s below None e = refl
  word_same s below (Some r) e =
      ⊎_elim
      (λ (here : r ≡ p).
      let passes : is_index (Some x) (index_span g s) ≡ true = rw was at (subst (λ (k : ℕ). is_index (one k) (index_span g s) ≡ true) here (index_passes g one (index_span g s) r e)) in
      let span' : index_span g s ≡ span_of x = sym (index-span_is x (index_span g s) passes) in
      let new : two r ≡ Some y = ap two here ∙ is in
      let old : one r ≡ Some x = ap one here ∙ was in
      rw (new, old) (ap (λ (k : ℕ). Some k) (words s below span')))
      (λ (there : r ≡ p → ⊥). rw (others r there) refl)
      (cases_eq r p)

  module _ (head' : List ℕ) (now : two h ≡ Some head') (fields : (size_of head' ≡ size_of head) × (name_of head' ≡ name_of head) × (slice_index head' 12 ≡ slice_index head 12) × (slice_range head' 45 (45 + g.meta) ≡ slice_range head 45 (45 + g.meta))) where
    entry_same : (s : ℕ) → s < data_pages g (size_of head) → entry_number g two head' s ≡ entry_number g one head s
    entry_same s below = entry-slot g two h head' s (index_same 0 ∙ at) now ∙ (rw (index_same (index_span g s)) (word_same s below (index_page g one (index_span g s)) refl)) ∙ sym (entry-slot g one h head s at header)

    reads : (s : ℕ) → s < data_pages g (size_of head) → data_page g two head' s ≡ data_page g one head s
    unfolding data_page
    reads s below = rw (entry_same s below) (ap (λ (f : ℕ → Option (List ℕ)). option_and_then f (entry_number g one head s)) (fun_ext (data_same s)))

    found_by : found g two id ≡ found g one id
    found_by = found_from g two id h head' (index_same 0 ∙ at) now
        ∙ ap (λ (r : Result _ Damage). Some (h, r)) (judged-alike g one two id head head' (record { size = fields.0; name = fields.1; kind = fields.2; meta = fields.3; bytes = reads }))
        ∙ sym (found_from g one id h head at header)

    serves_by : (r : ℕ) → serves g two head' r ≡ serves g one head r
    unfolding serves
    serves_by r =
        let index : list_any (λ (j : ℕ). is_number (index_page g two j) r) (range_with_len 0 (index_pages g (size_of head'))) ≡ list_any (λ (j : ℕ). is_number (index_page g one j) r) (range_with_len 0 (index_pages g (size_of head))) =
        ap (λ (n : ℕ). list_any (λ (j : ℕ). is_number (index_page g two j) r) (range_with_len 0 (index_pages g n))) fields.0
        ∙ any-range (λ (j : ℕ). is_number (index_page g one j) r) (λ (j : ℕ). is_number (index_page g two j) r) 0 (index_pages g (size_of head)) (λ j low high. ap (λ (o : Option ℕ). is_number o r) (index_same j)) in
        let second : list_any (λ (s : ℕ). is_number (entry_number g two head' s) r && is_some (data_of (two r) s)) (range_with_len 0 (data_pages g (size_of head'))) ≡
        list_any (λ (s : ℕ). is_number (entry_number g one head s) r && is_some (data_of (one r) s)) (range_with_len 0 (data_pages g (size_of head))) =
        ap (λ (n : ℕ). list_any (λ (s : ℕ). is_number (entry_number g two head' s) r && is_some (data_of (two r) s)) (range_with_len 0 (data_pages g n))) fields.0
        ∙ any-range (λ (s : ℕ). is_number (entry_number g one head s) r && is_some (data_of (one r) s)) (λ (s : ℕ). is_number (entry_number g two head' s) r && is_some (data_of (two r) s)) 0 (data_pages g (size_of head))
        (λ s low high. rw (entry_same s (omega arith), data_same s r) refl) in
        rw (index, second) refl

  -- the header page is where it was, and the same pages serve the file
  pub header-in_place : (head' : List ℕ) × (two h ≡ Some head') × ((r : ℕ) → serves g two head' r ≡ serves g one head r)
  header-in_place =
      ⊎_elim
      (λ (here : h ≡ p).
      let mine : head ≡ x = same_Some head x (sym header ∙ ap one here ∙ was) in
      let now : two h ≡ Some y = ap two here ∙ is in
      (y, now, serves_by y now (rw mine (same here))))
      (λ (there : h ≡ p → ⊥). let now : two h ≡ Some head = others h there ∙ header in (head, now, serves_by head now (refl, refl, refl, refl)))
      (cases_eq h p)

  pub found-in_place : found g two id ≡ found g one id
  found-in_place =
      ⊎_elim
      (λ (here : h ≡ p).
      let mine : head ≡ x = same_Some head x (sym header ∙ ap one here ∙ was) in
      found_by y (ap two here ∙ is) (rw mine (same here)))
      (λ (there : h ≡ p → ⊥). found_by head (others h there ∙ header) (refl, refl, refl, refl))
      (cases_eq h p)

-- ---- places of entries

slot-apart : (g : Geometry) (s t : ℕ) → 0 < span_slots g → s < t → index_span g s ≡ index_span g t → slot_at g s + 2 ≤ slot_at g t ⊎ slot_at g t + 2 ≤ slot_at g s
slot-apart g s t pos less same =
    ⊎_elim
    (λ (low : t < head_slots g). inl (rw (lt-ltb t (head_slots g) low, lt-ltb s (head_slots g) (omega arith)) (omega arith)))
    (λ (high : head_slots g ≤ t).
    ⊎_elim
    (λ (below : s < head_slots g). let bad : 0 ≡ further g t = rw (lt-ltb s (head_slots g) below, le-ltb t (head_slots g) high) at same in absurd (omega (arith, bad)))
    (λ (above : head_slots g ≤ s).
    let e : further g s ≡ further g t = rw (le-ltb s (head_slots g) above, le-ltb t (head_slots g) high) at same in
    let q : (s - head_slots g) / span_slots g ≡ (t - head_slots g) / span_slots g = omega (arith, e) in
    let a : span_slots g * ((s - head_slots g) / span_slots g) + (s - head_slots g) % span_slots g ≡ s - head_slots g = div-add-mod (s - head_slots g) (span_slots g) in
    let b : span_slots g * ((t - head_slots g) / span_slots g) + (t - head_slots g) % span_slots g ≡ t - head_slots g = div-add-mod (t - head_slots g) (span_slots g) in
    let c : span_slots g * ((s - head_slots g) / span_slots g) ≡ span_slots g * ((t - head_slots g) / span_slots g) = ap (λ (k : ℕ). span_slots g * k) q in
    let order : (s - head_slots g) % span_slots g < (t - head_slots g) % span_slots g = omega (arith, a, b, c) in
    inl (rw (le-ltb s (head_slots g) above, le-ltb t (head_slots g) high) (omega (arith, order))))
    (cases_lt s (head_slots g)))
    (cases_lt t (head_slots g))

pub slot_word-at : (g : Geometry) (page : List ℕ) (t : ℕ) → slot_word g page t ≡ word_at page (slot_at g t)
slot_word-at g page t =
    ⊎_elim
    (λ (low : t < head_slots g). rw (lt-ltb t (head_slots g) low) refl)
    (λ (high : head_slots g ≤ t). rw (le-ltb t (head_slots g) high) refl)
    (cases_lt t (head_slots g))

pub slot-fits : (g : Geometry) (t : ℕ) → 128 ≤ g.page → slot_at g t + 2 ≤ g.page
slot-fits g t big =
    ⊎_elim
    (λ (low : t < head_slots g). rw (lt-ltb t (head_slots g) low) (omega arith))
    (λ (high : head_slots g ≤ t).
    let pos : 0 < span_slots g = omega arith in
    let small : (t - head_slots g) % span_slots g < span_slots g = omega arith in
    rw (le-ltb t (head_slots g) high) (omega (arith, small)))
    (cases_lt t (head_slots g))

slot-behind : (g : Geometry) (t : ℕ) → 8 ≤ slot_at g t
slot-behind g t =
    ⊎_elim
    (λ (low : t < head_slots g). rw (lt-ltb t (head_slots g) low) (omega arith))
    (λ (high : head_slots g ≤ t). rw (le-ltb t (head_slots g) high) (omega arith))
    (cases_lt t (head_slots g))

slot-head : (g : Geometry) (t : ℕ) → index_span g t ≡ 0 → 45 + g.meta ≤ slot_at g t
slot-head g t e =
    ⊎_elim
    (λ (low : t < head_slots g). rw (lt-ltb t (head_slots g) low) (omega arith))
    (λ (high : head_slots g ≤ t). let bad : further g t ≡ 0 = rw (le-ltb t (head_slots g) high) at e in absurd (omega (arith, bad)))
    (cases_lt t (head_slots g))

-- ---- the image

module _ (g : Geometry) (a b : List ℕ) (p h t id : ℕ) (x head : List ℕ) (is : IsImage g a) (mine : own (live_at g a) id p ≡ Some x) (index : names_index x ≡ true)
    (at : index_page g (own (live_at g a) id) 0 ≡ Some h) (header : own (live_at g a) id h ≡ Some head) (past : data_pages g (size_of head) ≤ t) (here : index_span g t ≡ span_of x)
    (same : SameOutside (p * g.page + slot_at g t) 2 a b) where
  geo : Sizes g
  geo = (sizes g)

  big : 128 ≤ g.page
  big = geo.page

  was : (live_at g a p ≡ Some x) × (obj_id x % 0x8000 ≡ id)
  was = own-parts (live_at g a) id p x mine

  parts : LivePage g a p x
  parts = live_parts g a p x was.0

  wide : SameOutside (p * g.page) g.page a b
  wide = wider (p * g.page + slot_at g t) 2 (p * g.page) g.page a b (omega arith) (omega (arith, slot-fits g t big)) same

  len_x : length x ≡ g.page
  len_x = ap length (sym parts.bytes) ∙ page_length g a p is parts.entry_page

  len_y : length (page_of g b p) ≡ g.page
  len_y = page_length g b p (record { len = omega (arith, same.size, is.len) }) parts.entry_page

  kept : (i : ℕ) → i < g.page → (i < slot_at g t) ⊎ (slot_at g t + 2 ≤ i) → slice_index (page_of g b p) i ≡ slice_index x i
  kept i small out =
      page_byte g b p i small
      ∙ ⊎_elim (λ (low : i < slot_at g t). same.before (p * g.page + i) (omega arith)) (λ (high : slot_at g t + 2 ≤ i). same.after (p * g.page + i) (omega arith)) out
      ∙ sym (page_byte g a p i small) ∙ ap (λ (z : List ℕ). slice_index z i) parts.bytes

  front : (i : ℕ) → i < 5 → slice_index (page_of g b p) i ≡ slice_index x i
  front i small = kept i (omega (arith, big)) (inl (omega (arith, slot-behind g t)))

  now : live_at g b p ≡ Some (page_of g b p)
  now = live_from g b p (page_of g b p) (record {
    entry_page = parts.entry_page;
    magic = magic-same_page g geo a b p parts.entry_page wide (block_of g p) ∙ parts.magic;
    entry = entry-same_page g geo a b p parts.entry_page wide p ∙ parts.entry ∙ sym (id-same x (page_of g b p) front);
    finished = finished-same x (page_of g b p) front ∙ parts.finished;
    bytes = refl;
  })

  of : obj_id (page_of g b p) % 0x8000 ≡ id
  of = ap (λ (k : ℕ). k % 0x8000) (id-same x (page_of g b p) front) ∙ was.1

  other : (q : ℕ) → q ≢ p → live_at g b q ≡ live_at g a q
  other q there = live-page_other g geo a b p parts.entry_page wide q there

  words : (s : ℕ) → s < data_pages g (size_of head) → index_span g s ≡ span_of x → slot_word g (page_of g b p) s ≡ slot_word g x s
  words s below e =
      let less : s < t = omega arith in
      let pos : 0 < span_slots g = omega (arith, big) in
      let apart = slot-apart g s t pos less (e ∙ sym here) in
      let fits = slot-fits g s big in
      let lo : slice_index (page_of g b p) (slot_at g s) ≡ slice_index x (slot_at g s) = kept (slot_at g s) (omega (arith, fits))
      (⊎_elim (λ (u : slot_at g s + 2 ≤ slot_at g t). inl (omega arith)) (λ (u : slot_at g t + 2 ≤ slot_at g s). inr u) apart) in
      let hi : slice_index (page_of g b p) (slot_at g s + 1) ≡ slice_index x (slot_at g s + 1) = kept (slot_at g s + 1) (omega (arith, fits))
      (⊎_elim (λ (u : slot_at g s + 2 ≤ slot_at g t). inl (omega arith)) (λ (u : slot_at g t + 2 ≤ slot_at g s). inr (omega arith)) apart) in
      let word : word_at (page_of g b p) (slot_at g s) ≡ word_at x (slot_at g s) = Rattle.image_laws.proofs.Frames.word_at-same x (page_of g b p) (slot_at g s) lo hi in
      slot_word-at g (page_of g b p) s ∙ word ∙ sym (slot_word-at g x s)

  fields : h ≡ p → (size_of (page_of g b p) ≡ size_of x) × (name_of (page_of g b p) ≡ name_of x) × (slice_index (page_of g b p) 12 ≡ slice_index x 12) × (slice_range (page_of g b p) 45 (45 + g.meta) ≡ slice_range x 45 (45 + g.meta))
  fields e =
      let passes : is_index (Some x) 0 ≡ true = rw mine at (subst (λ (k : ℕ). is_index (own (live_at g a) id k) 0 ≡ true) e (index_passes g (own (live_at g a) id) 0 h at)) in
      let first : span_of x ≡ 0 = index-span_is x 0 passes in
      let behind : 45 + g.meta ≤ slot_at g t = slot-head g t (here ∙ first) in
      let fits = slot-fits g t big in
      let low : (i : ℕ) → i < 45 + g.meta → slice_index (page_of g b p) i ≡ slice_index x i = λ i small. kept i (omega (arith, fits)) (inl (omega arith)) in
      let w8 : word_at (page_of g b p) 8 ≡ word_at x 8 = Rattle.image_laws.proofs.Frames.word_at-same x (page_of g b p) 8 (low 8 (omega arith)) (low 9 (omega arith)) in
      let w10 : word_at (page_of g b p) 10 ≡ word_at x 10 = Rattle.image_laws.proofs.Frames.word_at-same x (page_of g b p) 10 (low 10 (omega arith)) (low 11 (omega arith)) in
      let name : slice_range (page_of g b p) 13 45 ≡ slice_range x 13 45 = range-same x (page_of g b p) 13 32 (len_y ∙ sym len_x) (λ i u v. low i (omega arith)) in
      let meta : slice_range (page_of g b p) 45 (45 + g.meta) ≡ slice_range x 45 (45 + g.meta) = range-same x (page_of g b p) 45 g.meta (len_y ∙ sym len_x) (λ i u v. low i (omega arith)) in
      (rw (w8, w10) refl, rw name refl, low 12 (omega arith), meta)

  found_mine : found g (own (live_at g b) id) id ≡ found g (own (live_at g a) id) id
  found_mine = found-in_place g p h id x (page_of g b p) head (own (live_at g a) id) (own (live_at g b) id) mine (own-some (live_at g b) id p (page_of g b p) now of)
      (λ r there. own-live (live_at g a) (live_at g b) id r (other r there)) index (index-same x (page_of g b p) front ∙ index) (span-same x (page_of g b p) front) at header words fields

  pub entry_has : has_of g (live_at g b) ≡ has_of g (live_at g a)
  unfolding has_of
  entry_has = fun_ext (λ (j : ℕ). ⊎_elim
      (λ (e : id ≡ j). subst (λ (k : ℕ). found g (own (live_at g b) k) k ≡ found g (own (live_at g a) k) k) e found_mine)
      (λ (differ : id ≡ j → ⊥). ap (λ (pages : Live). found g pages j)
      (fun_ext (λ (q : ℕ). ⊎_elim
      (λ (k : q ≡ p). rw k (own-other (live_at g b) j p (page_of g b p) now (λ e. differ (sym of ∙ e)) ∙ sym (own-other (live_at g a) j p x was.0 (λ e. differ (sym was.1 ∙ e)))))
      (λ (k : q ≡ p → ⊥). own-live (live_at g a) (live_at g b) j q (other q k))
      (cases_eq q p))))
      (cases_eq id j))

  -- the page is there, and so are all others and each index page in its place
  pub entry_now : own (live_at g b) id p ≡ Some (page_of g b p)
  entry_now = own-some (live_at g b) id p (page_of g b p) now of

  pub entry_others : (r : ℕ) → r ≢ p → own (live_at g b) id r ≡ own (live_at g a) id r
  entry_others r there = own-live (live_at g a) (live_at g b) id r (other r there)

  pub entry_index : (j : ℕ) → index_page g (own (live_at g b) id) j ≡ index_page g (own (live_at g a) id) j
  entry_index =
      index_same g p h id x (page_of g b p) head (own (live_at g a) id) (own (live_at g b) id) mine entry_now entry_others index (index-same x (page_of g b p) front ∙ index) (span-same x (page_of g b p) front) at header words fields

  pub entry_span : span_of (page_of g b p) ≡ span_of x
  entry_span = span-same x (page_of g b p) front

  pub entry_wide : SameOutside (p * g.page) g.page a b
  entry_wide = wide

  pub stays_tidy : (spare : ℕ → Bool) → IsTidyBut g a spare → IsTidyBut g b spare × (table_of g b ≡ table_of g a)
  stays_tidy spare t =
      let kind : names_index (page_of g b p) ≡ names_index x = index-same x (page_of g b p) front in
      let w = header-in_place g p h id x (page_of g b p) head (own (live_at g a) id) (own (live_at g b) id) mine entry_now entry_others index (kind ∙ index) (span-same x (page_of g b p) front) at header words fields in
      stays-tidy g a b p id h x (page_of g b p) head w.0 wide mine entry_now kind at header (entry_index 0 ∙ at) w.1 entry_has w.2 spare t

  back : (q : ℕ) (z : List ℕ) → live_at g b q ≡ Some z → (w : List ℕ) × (live_at g a q ≡ Some w) × (names_index w ≡ names_index z)
  back q z e =
      ⊎_elim
      (λ (k : q ≡ p).
      let new : z ≡ page_of g b p = same_Some z (page_of g b p) (sym e ∙ ap (live_at g b) k ∙ now) in
      (x, ap (live_at g a) k ∙ was.0, sym (index-same x (page_of g b p) front) ∙ ap names_index (sym new)))
      (λ (k : q ≡ p → ⊥). (z, sym (other q k) ∙ e, refl))
      (cases_eq q p)

  mixed : (c : ℕ) → IsMixed g (live_at g b) c → IsMixed g (live_at g a) c
  mixed c i =
      let u = back i.p i.x i.p_is in
      let v = back i.q i.y i.q_is in
      record { p = i.p; q = i.q; x = u.0; y = v.0; p_at = i.p_at; q_at = i.q_at; p_is = u.1; q_is = v.1; names = u.2 ∙ i.names; holds = v.2 ∙ i.holds }

  keeps : HasMagics g a → Keeps g a b
  unfolding table_of damaged_of
  keeps m = record {
    sound = sound-by g a b m (magic-same_page g geo a b p parts.entry_page wide) mixed (ap (λ (l : Found). damages l 0x7FFF) entry_has);
    table = ap (λ (l : Found). records l 0x7FFF) entry_has;
  }

pub entry-in_place : (g : Geometry) → EntryInPlaceKeeps g
entry-in_place g a b p h t id asked x head is m mine index at header past here two torn =
    keeps g a b p h t id x head is mine index at header past here (subst (λ (n : ℕ). SameOutside (p * g.page + slot_at g t) n a b) two torn.outside) m

pub entry-in_place-tidies : (g : Geometry) → EntryInPlaceTidies g
entry-in_place-tidies g a b p h t id asked x head spare is tidy mine index at header past here two torn =
    stays_tidy g a b p h t id x head is mine index at header past here (subst (λ (n : ℕ). SameOutside (p * g.page + slot_at g t) n a b) two torn.outside) spare tidy
