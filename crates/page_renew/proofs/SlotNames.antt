-- An index page that names a copy of a data page in the place of the data page leads to the same file.
use Rattle.std.proofs.Common.{◌≡◌, ◌≢◌, ℕ, ◌+◌, ◌-◌, ◌*◌, ◌/◌, ◌%◌, ◌<◌, ◌≤◌, List, [], slice_index, slice_range, true, false, ◌==◌, Option, Some, ap, refl, sym, ◌∙◌, arith, ⊎_elim, inl, inr, subst}
use Rattle.std.specs.Prelude.{is_some, unwrap_or}
use Rattle.std.proofs.Math.Nat.{div-add-mod}
use Rattle.std.proofs.lemmas.Bool.{cases_lt, cases_eq, lt-ltb, le-ltb, ne_eqb, eq-eqb}
use Rattle.geometry.specs.declared.geometry.Geometry.{Geometry}
use Rattle.geometry.specs.Numbers.{head_slots, span_slots}
use Rattle.table_model.specs.Table.{File}
use Rattle.table_model.specs.Room.{data_pages}
use Rattle.page_layout.specs.Layout.{IsApart}
use Rattle.nor_core.specs.Flash.{SameOutside, word_at}
use Rattle.page_layout.proofs.Stays.{word_stays, range_stays, name_stays}
use Rattle.image_model.specs.Headers.{obj_id, span_of, size_of, name_of}
use Rattle.image_model.specs.Live.{Live}
use Rattle.image_model.specs.Files.{further, data_of, data_page, span_bytes, slot_at, index_span}
use Rattle.image_laws.specs.Reindex.{Reindexes, slot_word, now_data, now_bytes}
use Rattle.renew_laws.proofs.Leading.{copies-same}
use Rattle.image_laws.proofs.Places.{same_page}

-- ---- where entries stand

pub slot_word_at : (g : Geometry) (page : List ℕ) (t : ℕ) → slot_word g page t ≡ word_at page (slot_at g t)
slot_word_at g page t =
    ⊎_elim
    (λ (low : t < head_slots g). rw (lt-ltb t (head_slots g) low) refl)
    (λ (high : head_slots g ≤ t). rw (le-ltb t (head_slots g) high) refl)
    (cases_lt t (head_slots g))

pub slot_behind : (g : Geometry) (t : ℕ) → 8 ≤ slot_at g t
slot_behind g t =
    ⊎_elim
    (λ (low : t < head_slots g). rw (lt-ltb t (head_slots g) low) (omega arith))
    (λ (high : head_slots g ≤ t). rw (le-ltb t (head_slots g) high) (omega arith))
    (cases_lt t (head_slots g))

-- those of spans behind one another, in a further index page
rests_rise : (each x y : ℕ) → x ≤ y → x / each ≡ y / each → y - x + x % each ≡ y % each
rests_rise each x y up same =
    let one : each * (x / each) + x % each ≡ x = div-add-mod x each in
    let two : each * (y / each) + y % each ≡ y = div-add-mod y each in
    let product : each * (x / each) ≡ each * (y / each) = ap (λ (n : ℕ). each * n) same in
    omega (arith, one, two, product, up)

pub slots_rise : (g : Geometry) (t u : ℕ) → head_slots g ≤ t → t ≤ u → further g t ≡ further g u → slot_at g u ≡ slot_at g t + 2 * (u - t)
slots_rise g t u high up same =
    let quotient : (t - head_slots g) / span_slots g ≡ (u - head_slots g) / span_slots g = omega (arith, same) in
    let rest = rests_rise (span_slots g) (t - head_slots g) (u - head_slots g) (omega (arith, up)) quotient in
    rw (le-ltb t (head_slots g) high) (rw (le-ltb u (head_slots g) (omega (arith, high, up))) (omega (arith, rest, high, up)))

-- in a header page behind the meta bytes
pub slot_far : (g : Geometry) (t : ℕ) → index_span g t ≡ 0 → 45 + g.meta ≤ slot_at g t
slot_far g t zero =
    ⊎_elim
    (λ (low : t < head_slots g). rw (lt-ltb t (head_slots g) low) (omega arith))
    (λ (high : head_slots g ≤ t). let bad : (t - head_slots g) / span_slots g + 1 ≡ 0 = rw (le-ltb t (head_slots g) high) at zero in absurd (omega arith))
    (cases_lt t (head_slots g))

apart_by : (near each t u : ℕ) → near ≤ t → near ≤ u → t ≢ u → (t - near) / each + 1 ≡ (u - near) / each + 1 → IsApart (8 + 2 * ((u - near) % each)) 2 (8 + 2 * ((t - near) % each)) 2
apart_by near each t u low high differ same =
    ⊎_elim
    (λ (one : (u - near) % each < (t - near) % each). inl (omega arith))
    (λ (le : (t - near) % each ≤ (u - near) % each). ⊎_elim
    (λ (two : (t - near) % each < (u - near) % each). inr (omega arith))
    (λ (ge : (u - near) % each ≤ (t - near) % each).
    let quotient : (t - near) / each ≡ (u - near) / each = omega arith in
    let rest : (t - near) % each ≡ (u - near) % each = omega arith in
    let e : t - near ≡ u - near = same_page each (t - near) (u - near) quotient rest in
    absurd (differ (omega arith)))
    (cases_lt ((t - near) % each) ((u - near) % each)))
    (cases_lt ((u - near) % each) ((t - near) % each))

-- those of two spans in one index page have no byte in common
pub slots_apart : (g : Geometry) (t u : ℕ) → t ≢ u → index_span g t ≡ index_span g u → IsApart (slot_at g u) 2 (slot_at g t) 2
slots_apart g t u differ same =
    ⊎_elim
    (λ (low : t < head_slots g). ⊎_elim
    (λ (low' : u < head_slots g). rw (lt-ltb t (head_slots g) low, lt-ltb u (head_slots g) low') (⊎_elim
    (λ (less : t < u). inr (omega arith))
    (λ (more : u ≤ t). inl (omega (arith, more, differ)))
    (cases_lt t u)))
    (λ (high' : head_slots g ≤ u). let bad : 0 ≡ (u - head_slots g) / span_slots g + 1 = rw (lt-ltb t (head_slots g) low, le-ltb u (head_slots g) high') at same in absurd (omega arith))
    (cases_lt u (head_slots g)))
    (λ (high : head_slots g ≤ t). ⊎_elim
    (λ (low' : u < head_slots g). let bad : (t - head_slots g) / span_slots g + 1 ≡ 0 = rw (le-ltb t (head_slots g) high, lt-ltb u (head_slots g) low') at same in absurd (omega arith))
    (λ (high' : head_slots g ≤ u).
    let spans : (t - head_slots g) / span_slots g + 1 ≡ (u - head_slots g) / span_slots g + 1 = rw (le-ltb t (head_slots g) high, le-ltb u (head_slots g) high') at same in
    rw (le-ltb t (head_slots g) high, le-ltb u (head_slots g) high') (apart_by (head_slots g) (span_slots g) t u high high' differ spans))
    (cases_lt u (head_slots g)))
    (cases_lt t (head_slots g))

-- ---- the copy is named

module _ (g : Geometry) (pages : Live) (id w h : ℕ) (old plain new head head0 : List ℕ) (f0 : File) (start : Reindexes g pages id w h old plain head head0 f0 f0)
    (same : (t : ℕ) → t < data_pages g (size_of head) → slice_range (unwrap_or (now_data g pages head plain t) []) 5 g.page ≡ span_bytes g pages head t)
    (s to : ℕ) (x y : List ℕ) (at : index_span g s ≡ span_of old) (was : data_page g pages head s ≡ Some x) (is : data_of (pages to) s ≡ Some y) (body : slice_range y 5 g.page ≡ slice_range x 5 g.page)
    (entry : slot_word g new s ≡ to) (others : SameOutside (slot_at g s) 2 plain new) where
  low : 8 ≤ slot_at g s
  low = slot_behind g s

  pub named_id : obj_id new ≡ obj_id plain
  named_id = let from = low in word_stays (slot_at g s) 2 0 plain new others (inr (omega arith))

  pub named_span : span_of new ≡ span_of plain
  named_span = let from = low in word_stays (slot_at g s) 2 2 plain new others (inr (omega arith))

  pub other_word : (t : ℕ) → t ≢ s → index_span g t ≡ span_of old → slot_word g new t ≡ slot_word g plain t
  other_word t differ e =
      slot_word_at g new t ∙ word_stays (slot_at g s) 2 (slot_at g t) plain new others (slots_apart g t s differ (e ∙ sym at)) ∙ sym (slot_word_at g plain t)

  now_other : (t : ℕ) → t ≢ s → now_data g pages head new t ≡ now_data g pages head plain t
  unfolding now_data
  now_other t differ =
      ⊎_elim
      (λ (here : index_span g t ≡ span_of old).
      let a : (index_span g t == span_of new) ≡ true = eq-eqb (index_span g t) (span_of new) (here ∙ sym start.new_span ∙ sym named_span) in
      let b : (index_span g t == span_of plain) ≡ true = eq-eqb (index_span g t) (span_of plain) (here ∙ sym start.new_span) in
      rw (a, b, other_word t differ here) refl)
      (λ (there : index_span g t ≡ span_of old → ⊥).
      let a : (index_span g t == span_of new) ≡ false = ne_eqb (index_span g t) (span_of new) (λ e. there (e ∙ named_span ∙ start.new_span)) in
      let b : (index_span g t == span_of plain) ≡ false = ne_eqb (index_span g t) (span_of plain) (λ e. there (e ∙ start.new_span)) in
      rw (a, b) refl)
      (cases_eq (index_span g t) (span_of old))

  now_here : now_data g pages head new s ≡ Some y
  unfolding now_data
  now_here = rw (eq-eqb (index_span g s) (span_of new) (at ∙ sym start.new_span ∙ sym named_span)) (rw (entry, is) refl)

  pub named_spans : (t : ℕ) → t < data_pages g (size_of head) → slice_range (unwrap_or (now_data g pages head new t) []) 5 g.page ≡ span_bytes g pages head t
  named_spans t below =
      ⊎_elim
      (λ (here : t ≡ s). rw here (rw (now_here, was) body))
      (λ (there : t ≡ s → ⊥). ap (λ (o : Option (List ℕ)). slice_range (unwrap_or o []) 5 g.page) (now_other t there) ∙ same t below)
      (cases_eq t s)

  bytes_same : now_bytes g pages head new ≡ f0.bytes
  bytes_same = copies-same g pages id head new f0 start.file named_spans

  whole_now : (t : ℕ) → t < data_pages g (size_of head) → is_some (now_data g pages head new t) ≡ true
  whole_now t below =
      ⊎_elim
      (λ (here : t ≡ s). rw here (rw now_here refl))
      (λ (there : t ≡ s → ⊥). rw (now_other t there) (start.whole t below))
      (cases_eq t s)

  reindexed : (head' : List ℕ) → (span_of old ≡ 0 → head' ≡ new) → (span_of old ≢ 0 → head' ≡ head) → size_of head' ≡ size_of head → name_of head' ≡ name_of head →
      slice_index head' 12 ≡ slice_index head 12 → slice_range head' 45 (45 + g.meta) ≡ slice_range head 45 (45 + g.meta) → Reindexes g pages id w h old new head head' f0 f0
  reindexed head' renewed stays size name kind meta = record {
    was = start.was;
    index = start.index;
    first = start.first;
    alone = start.alone;
    new_index = rw named_id start.new_index;
    new_of = rw named_id start.new_of;
    new_span = named_span ∙ start.new_span;
    at = start.at;
    header = start.header;
    file = start.file;
    renewed = renewed;
    stays = stays;
    size = size;
    name = name;
    kind = kind;
    meta = meta;
    whole = whole_now;
    result = subst (λ (bs : List ℕ). f0 ≡ record { id = f0.id; name = f0.name; kind = f0.kind; meta = f0.meta; bytes = bs }) (sym bytes_same) refl;
  }

  module _ (zero : span_of old ≡ 0) where
    far : 45 + g.meta ≤ slot_at g s
    far = slot_far g s (at ∙ zero)

    size_same : size_of new ≡ size_of plain
    size_same =
        let from = far in
        let one : word_at new 8 ≡ word_at plain 8 = word_stays (slot_at g s) 2 8 plain new others (inr (omega arith)) in
        let two : word_at new 10 ≡ word_at plain 10 = word_stays (slot_at g s) 2 10 plain new others (inr (omega arith)) in
        rw (one, two) refl

    name_same : name_of new ≡ name_of plain
    name_same = let from = far in name_stays (slot_at g s) 2 plain new others (inr (omega arith))

    kind_same : slice_index new 12 ≡ slice_index plain 12
    kind_same = let from = far in others.before 12 (omega arith)

    meta_same : slice_range new 45 (45 + g.meta) ≡ slice_range plain 45 (45 + g.meta)
    meta_same = let from = far in range_stays (slot_at g s) 2 45 g.meta plain new others (inr (omega arith))

  pub named_leads : (head' : List ℕ) × Reindexes g pages id w h old new head head' f0 f0
  named_leads =
      ⊎_elim
      (λ (zero : span_of old ≡ 0).
      let plain_head : head0 ≡ plain = start.renewed zero in
      let size = start.size in let name = start.name in let kind = start.kind in let meta = start.meta in (
        new,
        reindexed new (λ z. refl) (λ more. absurd (more zero))
            (size_same zero ∙ ap size_of (sym plain_head) ∙ size) (name_same zero ∙ ap name_of (sym plain_head) ∙ name)
            (kind_same zero ∙ ap (λ (l : List ℕ). slice_index l 12) (sym plain_head) ∙ kind) (meta_same zero ∙ ap (λ (l : List ℕ). slice_range l 45 (45 + g.meta)) (sym plain_head) ∙ meta),
      ))
      (λ (more : span_of old ≡ 0 → ⊥). (head, reindexed head (λ zero. absurd (more zero)) (λ m. refl) refl refl refl refl))
      (cases_eq (span_of old) 0)
