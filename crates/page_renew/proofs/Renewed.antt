-- The finished copy of an index page leads to what the page leads to.
use Rattle.std.proofs.Common.{◌≡◌, ◌≢◌, ℕ, ◌+◌, ◌-◌, ◌*◌, ◌/◌, ◌%◌, ◌<◌, ◌≤◌, ◌⊎◌, List, [], length, min, set, slice_index, slice_range, Bool, true, false, not, ◌==◌, Option, Some, None, Ok, ap, refl, sym, ◌∙◌, arith, ⊎_elim, inl, inr, subst, length-set, get_or-set_same, get_or-set_other}
use Rattle.std.specs.Prelude.{is_some, is_none, unwrap_or, nat_lt}
use Rattle.std.proofs.Math.Nat.{div-add-mod}
use Rattle.std.proofs.lemmas.Bool.{cases_lt, cases_eq, lt-ltb, le-ltb, ne_eqb, eq-eqb}
use Rattle.std.proofs.lemmas.Option.{same_Some}
use Rattle.geometry.specs.declared.geometry.Geometry.{Geometry}
use Rattle.geometry.specs.Numbers.{head_slots, span_slots}
use Rattle.table_model.specs.Table.{File}
use Rattle.table_model.specs.Room.{data_pages}
use Rattle.page_layout.specs.Layout.{slot_place}
use Rattle.nor_core.specs.Flash.{SameOutside, word_at}
use Rattle.page_layout.proofs.Stays.{name_stays}
use Rattle.image_model.specs.Within.{sizes}
use Rattle.image_model.specs.Headers.{obj_id, span_of, names_index, is_finished, size_of, name_of}
use Rattle.image_model.specs.Live.{Live}
use Rattle.image_model.specs.Files.{is_index, index_page, further, entry_number, data_page, judged, index_span}
use Rattle.image_laws.specs.Reindex.{Reindexes, slot_word, now_data, now_bytes}
use Rattle.image_laws.proofs.Append.{find-all}
use Rattle.image_laws.proofs.Finish.{is_finished-zero}
use Rattle.image_laws.proofs.Tally.{is_finished-ones}
use Rattle.image_laws.proofs.Frames.{word_at-same, range-same}
use Rattle.renew_laws.proofs.Leading.{copies-same}
use Rattle.image_laws.proofs.Reindexed.{entry-slot}
use Rattle.image_laws.proofs.Wanted.{judged-whole}
use Rattle.page_renew.specs.Copies.{kept_of, IsCopy}

not-true : (b : Bool) → not b ≡ true → b ≡ false
not-true true e = absurd (cc)
not-true false e = refl

-- a page number below the count is kept
kept_head : (g : Geometry) (t count : ℕ) → t < count → t < head_slots g → t < min count (head_slots g)
kept_head g t count below low = omega arith

kept_further : (near each t count span : ℕ) → 0 < each → t < count → near ≤ t → (t - near) / each + 1 ≡ span → (t - near) % each < min (count - (near + (span - 1) * each)) each
kept_further near each t count span some below high at =
    let whole : each * ((t - near) / each) + (t - near) % each ≡ t - near = div-add-mod (t - near) each in
    let less : (t - near) % each < each = omega arith in
    let same : span - 1 ≡ (t - near) / each = omega (arith, at) in
    rw same (omega (arith, whole, less))

module _ (g : Geometry) (old y new : List ℕ) (count : ℕ) (copy : IsCopy g (span_of old) (kept_of g (span_of old) count) old y) (sets : new ≡ set y 4 0xF8) (len : length old ≡ g.page) where
  big : 128 ≤ g.page
  big = (sizes g).page

  byte : (k : ℕ) → k ≢ 4 → slice_index new k ≡ slice_index y k
  byte k there = rw sets (get_or-set_other y 4 k 0xF8 0 there)

  flags : slice_index new 4 ≡ 0xF8
  flags = let size : 128 ≤ g.page = big in let long : 4 < length y = omega (arith, copy.size, len) in rw sets (get_or-set_same y 4 0xF8 0 long)

  pub new_len : length new ≡ g.page
  new_len = rw sets (length-set y 4 0xF8) ∙ copy.size ∙ len

  head_byte : (k : ℕ) → k < 4 → slice_index new k ≡ slice_index old k
  head_byte k below = byte k (λ e. omega (arith, e, below)) ∙ copy.head k (omega arith)

  pub same_id : obj_id new ≡ obj_id old
  same_id = word_at-same old new 0 (head_byte 0 (omega arith)) (head_byte 1 (omega arith))

  pub same_span : span_of new ≡ span_of old
  same_span = word_at-same old new 2 (head_byte 2 (omega arith)) (head_byte 3 (omega arith))

  -- it says itself that it is live
  pub finished : names_index old ≡ true → is_finished old ≡ true → is_finished new ≡ true
  unfolding is_finished
  finished index live =
      let some_id : (obj_id old % 0x8000 == 0) ≡ false = ne_eqb (obj_id old % 0x8000) 0 (λ z. let bad : false ≡ true = sym (is_finished-zero old z) ∙ live in absurd (cc)) in
      let not_free : (obj_id old == 0xFFFF) ≡ false = ne_eqb (obj_id old) 0xFFFF (λ z. let bad : false ≡ true = sym (is_finished-ones old z) ∙ live in absurd (cc)) in
      let high : nat_lt (obj_id old) 0x8000 ≡ false = not-true (nat_lt (obj_id old) 0x8000) index in
      rw (same_id, flags) (rw (some_id, not_free, high) refl)

  -- ---- what is kept

  field_byte : (k : ℕ) → 8 ≤ k → k < slot_place g (span_of old) (kept_of g (span_of old) count) → (span_of old ≡ 0 → (k < 13) ⊎ (45 ≤ k)) → slice_index new k ≡ slice_index old k
  field_byte k low high field = byte k (λ e. omega (arith, e, low)) ∙ copy.fields k low high field

  kept_word : (k : ℕ) → 8 ≤ k → k + 2 ≤ slot_place g (span_of old) (kept_of g (span_of old) count) → (span_of old ≡ 0 → 45 ≤ k) → word_at new k ≡ word_at old k
  kept_word k low high field = word_at-same old new k (field_byte k low (omega arith) (λ z. inr (field z))) (field_byte (k + 1) (omega arith) (omega arith) (λ z. let w = field z in inr (omega arith)))

  -- the page numbers below the count
  pub slot_same : (t : ℕ) → t < count → index_span g t ≡ span_of old → slot_word g new t ≡ slot_word g old t
  slot_same t below at =
      ⊎_elim
      (λ (low : t < head_slots g).
      let zero : span_of old ≡ 0 = sym (rw (lt-ltb t (head_slots g) low) at at) in
      let place : slot_place g (span_of old) (kept_of g (span_of old) count) ≡ 45 + g.meta + 2 * min count (head_slots g) = rw zero refl in
      let kept : t < min count (head_slots g) = kept_head g t count below low in
      rw (lt-ltb t (head_slots g) low) (kept_word (45 + g.meta + 2 * t) (omega arith) (omega (arith, kept, place)) (λ z. omega arith)))
      (λ (high : head_slots g ≤ t).
      let there : further g t ≡ span_of old = rw (le-ltb t (head_slots g) high) at at in
      let more : span_of old ≢ 0 = λ z. omega (arith, z, there) in
      let place : slot_place g (span_of old) (kept_of g (span_of old) count) ≡ 8 + 2 * min (count - (head_slots g + (span_of old - 1) * span_slots g)) (span_slots g) = rw (ne_eqb (span_of old) 0 more) refl in
      let size : 128 ≤ g.page = big in
      let kept : (t - head_slots g) % span_slots g < min (count - (head_slots g + (span_of old - 1) * span_slots g)) (span_slots g) =
      kept_further (head_slots g) (span_slots g) t count (span_of old) (omega (arith, size)) below high there in
      rw (le-ltb t (head_slots g) high) (kept_word (8 + 2 * ((t - head_slots g) % span_slots g)) (omega arith) (omega (arith, kept, place)) (λ z. absurd (more z))))
      (cases_lt t (head_slots g))

  -- the fields of a header page
  module _ (zero : span_of old ≡ 0) where
    place0 : slot_place g (span_of old) (kept_of g (span_of old) count) ≡ 45 + g.meta + 2 * min count (head_slots g)
    place0 = rw zero refl

    early : (k : ℕ) → 8 ≤ k → k < 13 → slice_index new k ≡ slice_index old k
    early k low high = let place = place0 in field_byte k low (omega (arith, place)) (λ z. inl high)

    pub same_size : size_of new ≡ size_of old
    same_size =
        let low : word_at new 8 ≡ word_at old 8 = word_at-same old new 8 (early 8 (omega arith) (omega arith)) (early 9 (omega arith) (omega arith)) in
        let high : word_at new 10 ≡ word_at old 10 = word_at-same old new 10 (early 10 (omega arith) (omega arith)) (early 11 (omega arith) (omega arith)) in
        rw (low, high) refl

    pub same_kind : slice_index new 12 ≡ slice_index old 12
    same_kind = early 12 (omega arith) (omega arith)

    pub same_meta : slice_range new 45 (45 + g.meta) ≡ slice_range old 45 (45 + g.meta)
    same_meta = range-same old new 45 g.meta (new_len ∙ sym len) (λ i low high. let place = place0 in field_byte i (omega arith) (omega (arith, place)) (λ z. inr low))

    pub same_name : name_of new ≡ name_of old
    same_name =
        let only : SameOutside 4 1 y new = record {
          size = rw sets (length-set y 4 0xF8);
          before = λ k below. byte k (λ e. omega (arith, e, below));
          after = λ k above. byte k (λ e. omega (arith, e, above));
        } in
        let still : name_of new ≡ name_of y = name_stays 4 1 y new only (inl (omega arith)) in
        still ∙ copy.name zero

  -- ---- among the pages of its id

  module _ (pages : Live) (id o h : ℕ) (head : List ℕ) (f0 : File) (was : pages o ≡ Some old) (first : index_page g pages (span_of old) ≡ Some o)
      (alone : (r : ℕ) → is_index (pages r) (span_of old) ≡ true → r ≡ o) (index : names_index old ≡ true) (of : obj_id old % 0x8000 ≡ id)
      (at : index_page g pages 0 ≡ Some h) (header : pages h ≡ Some head) (file : judged g pages id head ≡ Ok f0) (all : count ≡ data_pages g (size_of head)) where
    slot_now : (t : ℕ) → t < data_pages g (size_of head) → index_span g t ≡ span_of old → slot_word g new t ≡ slot_word g old t
    slot_now t below = slot_same t (omega (arith, below, all))

    pub now_same : (t : ℕ) → t < data_pages g (size_of head) → now_data g pages head new t ≡ data_page g pages head t
    unfolding now_data data_page
    now_same t below =
        ⊎_elim
        (λ (yes : index_span g t ≡ span_of new).
        let there : index_span g t ≡ span_of old = yes ∙ same_span in
        let span : index_page g pages (index_span g t) ≡ Some o = ap (index_page g pages) there ∙ first in
        let entry : entry_number g pages head t ≡ Some (slot_word g old t) = entry-slot g pages h head t at header ∙ (rw span (rw was refl)) in
        rw (eq-eqb (index_span g t) (span_of new) yes) (rw (entry, slot_now t below there) refl))
        (λ (no : index_span g t ≡ span_of new → ⊥). rw (ne_eqb (index_span g t) (span_of new) no) refl)
        (cases_eq (index_span g t) (span_of new))

    bytes_same : now_bytes g pages head new ≡ f0.bytes
    bytes_same = copies-same g pages id head new f0 file (λ t below. ap (λ (x : Option (List ℕ)). slice_range (unwrap_or x []) 5 g.page) (now_same t below))

    whole_now : (t : ℕ) → t < data_pages g (size_of head) → is_some (now_data g pages head new t) ≡ true
    whole_now t below = rw (now_same t below) (there (data_page g pages head t) (find-all (λ (span : ℕ). is_none (data_page g pages head span)) 0 (data_pages g (size_of head)) (judged-whole g pages id head f0 file) t (omega arith) (omega arith)))
      where
        there : (x : Option (List ℕ)) → is_none x ≡ false → is_some x ≡ true
        there None e = absurd (cc)
        there (Some x) e = refl

    reindexed : (head' : List ℕ) → (span_of old ≡ 0 → head' ≡ new) → (span_of old ≢ 0 → head' ≡ head) → size_of head' ≡ size_of head → name_of head' ≡ name_of head →
        slice_index head' 12 ≡ slice_index head 12 → slice_range head' 45 (45 + g.meta) ≡ slice_range head 45 (45 + g.meta) → Reindexes g pages id o h old new head head' f0 f0
    reindexed head' renewed stays size name kind meta = record {
      was = was;
      index = index;
      first = first;
      alone = alone;
      new_index = rw same_id index;
      new_of = rw same_id of;
      new_span = same_span;
      at = at;
      header = header;
      file = file;
      renewed = renewed;
      stays = stays;
      size = size;
      name = name;
      kind = kind;
      meta = meta;
      whole = whole_now;
      result = subst (λ (bs : List ℕ). f0 ≡ record { id = f0.id; name = f0.name; kind = f0.kind; meta = f0.meta; bytes = bs }) (sym bytes_same) refl;
    }

    pub renewed : (head' : List ℕ) × Reindexes g pages id o h old new head head' f0 f0
    renewed =
        ⊎_elim
        (λ (zero : span_of old ≡ 0).
        let place : o ≡ h = same_Some o h (sym first ∙ ap (index_page g pages) zero ∙ at) in
        let same : old ≡ head = same_Some old head (sym was ∙ ap pages place ∙ header) in (
          new,
          reindexed new (λ z. refl) (λ more. absurd (more zero)) (same_size zero ∙ ap size_of same) (same_name zero ∙ ap name_of same) (same_kind zero ∙ ap (λ (x : List ℕ). slice_index x 12) same)
              (same_meta zero ∙ ap (λ (x : List ℕ). slice_range x 45 (45 + g.meta)) same),
        ))
        (λ (more : span_of old ≡ 0 → ⊥). (head, reindexed head (λ zero. absurd (more zero)) (λ m. refl) refl refl refl refl))
        (cases_eq (span_of old) 0)
