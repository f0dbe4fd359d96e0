-- The copy of an index page in which the entry of one span is another.
use Rattle.std.proofs.Common.{◌≡◌, ◌≢◌, ℕ, ◌+◌, ◌%◌, ◌<◌, ◌≤◌, List, length, set, slice_index, slice_range, true, ap, refl, sym, ◌∙◌, arith, ⊎_elim, inl, inr, length-set, get_or-set_same, get_or-set_other}
use Rattle.std.proofs.lemmas.Bool.{cases_eq, cases_lt, lt-ltb, le-ltb}
use Rattle.geometry.specs.declared.geometry.Geometry.{Geometry}
use Rattle.geometry.specs.Numbers.{head_slots}
use Rattle.table_model.specs.Room.{data_pages}
use Rattle.nor_core.specs.Flash.{SameOutside, word_at}
use Rattle.page_layout.proofs.Stays.{word_stays, range_stays, name_stays}
use Rattle.image_model.specs.Within.{sizes}
use Rattle.image_model.specs.Headers.{obj_id, names_index, span_of, size_of, name_of}
use Rattle.image_model.specs.Files.{further, slot_at, index_span}
use Rattle.image_laws.specs.Reindex.{slot_word}
use Rattle.renew_laws.specs.Relink.{IsRelinked}
use Rattle.page_renew.specs.Copies.{kept_of, IsCopy}
use Rattle.page_renew.proofs.FreeEntries.{free_behind}
use Rattle.page_renew.proofs.Renewed.{same_id, same_span, slot_same, same_size, same_kind, same_meta, same_name}
use Rattle.page_renew.proofs.SlotNames.{slot_word_at, slot_behind, slot_far, slots_apart, slots_rise}

-- a byte of a page that both have makes no difference
set_outside : (at n v : ℕ) (y z : List ℕ) → 4 < length y → 4 < length z → SameOutside at n y z → SameOutside at n (set y 4 v) (set z 4 v)
set_outside at n v y z long far same = record {
  size = length-set z 4 v ∙ same.size ∙ sym (length-set y 4 v);
  before = λ k below. at_byte k (same.before k below);
  after = λ k above. at_byte k (same.after k above);
}
  where
    at_byte : (k : ℕ) → slice_index z k ≡ slice_index y k → slice_index (set z 4 v) k ≡ slice_index (set y 4 v) k
    at_byte k e =
        ⊎_elim
        (λ (here : k ≡ 4). rw here (get_or-set_same z 4 v 0 far ∙ sym (get_or-set_same y 4 v 0 long)))
        (λ (there : k ≡ 4 → ⊥). get_or-set_other z 4 k v 0 there ∙ e ∙ sym (get_or-set_other y 4 k v 0 there))
        (cases_eq k 4)

module _ (g : Geometry) (old y : List ℕ) (count : ℕ) (copy : IsCopy g (span_of old) (kept_of g (span_of old) count) old y) (len : length old ≡ g.page) where
  abbrev plain : List ℕ
  plain = set y 4 0xF8

  module _ (z new : List ℕ) (s to : ℕ) (names : slot_word g z s ≡ to) (around : SameOutside (slot_at g s) 2 y z) (sets : new ≡ set z 4 0xF8) where
    big : 128 ≤ g.page
    big = (sizes g).page

    y_long : 4 < length y
    y_long = omega (arith, copy.size, len, big)

    z_long : 4 < length z
    z_long = omega (arith, around.size, y_long)

    others : SameOutside (slot_at g s) 2 plain new
    others = rw sets (set_outside (slot_at g s) 2 0xF8 y z y_long z_long around)

    only : SameOutside 4 1 z new
    only = rw sets (record {
      size = length-set z 4 0xF8;
      before = λ k below. get_or-set_other z 4 k 0xF8 0 (λ e. omega (arith, e, below));
      after = λ k above. get_or-set_other z 4 k 0xF8 0 (λ e. omega (arith, e, above));
    })

    entry : slot_word g new s ≡ to
    entry = let from = slot_behind g s in slot_word_at g new s ∙ word_stays 4 1 (slot_at g s) z new only (inl (omega (arith, from))) ∙ sym (slot_word_at g z s) ∙ names

    other_slot : (t : ℕ) → t ≢ s → index_span g t ≡ index_span g s → slot_word g new t ≡ slot_word g plain t
    other_slot t differ at = slot_word_at g new t ∙ word_stays (slot_at g s) 2 (slot_at g t) plain new others (slots_apart g t s differ at) ∙ sym (slot_word_at g plain t)

    id_same : obj_id new ≡ obj_id old
    id_same = let from = slot_behind g s in word_stays (slot_at g s) 2 0 plain new others (inr (omega (arith, from))) ∙ same_id g old y plain count copy refl len

    span_same : span_of new ≡ span_of old
    span_same = let from = slot_behind g s in word_stays (slot_at g s) 2 2 plain new others (inr (omega (arith, from))) ∙ same_span g old y plain count copy refl len

    -- the entries behind the last one are free
    pub next_free : (at : index_span g s ≡ span_of old) → s < count → (t k : ℕ) → head_slots g ≤ t → count ≤ t → index_span g t ≡ span_of old → slot_at g t ≤ k → k < g.page → slice_index new k ≡ 0xFF
    next_free at below t k high past there low inside =
        let far_t : index_span g t ≡ further g t = rw (le-ltb t (head_slots g) high) refl in
        ⊎_elim
        (λ (near : s < head_slots g). let zero : index_span g s ≡ 0 = rw (lt-ltb s (head_slots g) near) refl in absurd (omega (arith, zero, at, there, far_t)))
        (λ (far : head_slots g ≤ s).
        let far_s : index_span g s ≡ further g s = rw (le-ltb s (head_slots g) far) refl in
        let step = slots_rise g s t far (omega (arith, below, past)) (sym far_s ∙ at ∙ sym there ∙ far_t) in
        others.after k (omega (arith, step, low, below, past)) ∙ free_behind g old y plain count copy refl t k high past there low inside)
        (cases_lt s (head_slots g))

    module _ (zero : span_of old ≡ 0) (at : index_span g s ≡ span_of old) where
      far : 45 + g.meta ≤ slot_at g s
      far = slot_far g s (at ∙ zero)

      size_same : size_of new ≡ size_of old
      size_same =
          let from = far in
          let one : word_at new 8 ≡ word_at plain 8 = word_stays (slot_at g s) 2 8 plain new others (inr (omega (arith, from))) in
          let two : word_at new 10 ≡ word_at plain 10 = word_stays (slot_at g s) 2 10 plain new others (inr (omega (arith, from))) in
          let now : size_of new ≡ size_of plain = rw (one, two) refl in
          now ∙ same_size g old y plain count copy refl len zero

      name_same : name_of new ≡ name_of old
      name_same = let from = far in name_stays (slot_at g s) 2 plain new others (inr (omega (arith, from))) ∙ same_name g old y plain count copy refl len zero

      kind_same : slice_index new 12 ≡ slice_index old 12
      kind_same = let from = far in others.before 12 (omega (arith, from)) ∙ same_kind g old y plain count copy refl len zero

      meta_same : slice_range new 45 (45 + g.meta) ≡ slice_range old 45 (45 + g.meta)
      meta_same = let from = far in range_stays (slot_at g s) 2 45 g.meta plain new others (inr (omega (arith, from))) ∙ same_meta g old y plain count copy refl len zero

    pub relinked : (id : ℕ) (head : List ℕ) → (at : index_span g s ≡ span_of old) → names_index old ≡ true → obj_id old % 0x8000 ≡ id → count ≡ data_pages g (size_of head) → (span_of old ≡ 0 → old ≡ head) →
        (head' : List ℕ) × IsRelinked g id s to old new head head'
    relinked id head at index of all is_head =
        ⊎_elim
        (λ (zero : span_of old ≡ 0).
        let same : old ≡ head = is_head zero in (
          new,
          whole new (λ z. refl) (λ more. absurd (more zero)) (size_same zero at ∙ ap size_of same) (name_same zero at ∙ ap name_of same) (kind_same zero at ∙ ap (λ (l : List ℕ). slice_index l 12) same)
              (meta_same zero at ∙ ap (λ (l : List ℕ). slice_range l 45 (45 + g.meta)) same),
        ))
        (λ (more : span_of old ≡ 0 → ⊥). (head, whole head (λ zero. absurd (more zero)) (λ m. refl) refl refl refl refl))
        (cases_eq (span_of old) 0)
      where
        whole : (head' : List ℕ) → (span_of old ≡ 0 → head' ≡ new) → (span_of old ≢ 0 → head' ≡ head) → size_of head' ≡ size_of head → name_of head' ≡ name_of head →
            slice_index head' 12 ≡ slice_index head 12 → slice_range head' 45 (45 + g.meta) ≡ slice_range head 45 (45 + g.meta) → IsRelinked g id s to old new head head'
        whole head' renewed stays size name kind meta = record {
          index = rw id_same index;
          of = rw id_same of;
          span = span_same;
          entry = entry;
          others = λ t below differ there. other_slot t differ (there ∙ sym at) ∙ slot_same g old y plain count copy refl len t (omega (arith, below, all)) there;
          renewed = renewed;
          stays = stays;
          size = size;
          name = name;
          kind = kind;
          meta = meta;
        }
