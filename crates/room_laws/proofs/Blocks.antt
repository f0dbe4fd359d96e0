-- What a block of a tidy image is, by its counts.
use Rattle.std.proofs.Common.{◌≡◌, ℕ, ◌+◌, ◌*◌, ◌<◌, ◌≤◌, ◌⊎◌, List, Bool, true, false, cond, nat_lt, ◌==◌, Option, Some, None, refl, sym, ◌∙◌, arith, ⊎_elim}
use Rattle.std.specs.Prelude.{Contains}
use Rattle.std.specs.List.{range_with_len}
use Rattle.std.proofs.lemmas.Bool.{cases_Bool, cases_lt, and_parts, eqb-true, lt-ltb, false_from_ne_true}
use Rattle.std.proofs.lemmas.List.FromFn.{length-range_with_len, length-map-range_with_len, get_or-map-range_with_len}
use Rattle.geometry.specs.declared.geometry.Geometry.{Geometry}
use Rattle.geometry.specs.Numbers.{per_block, lookups, entries}
use Rattle.image_model.specs.Headers.{obj_id, names_index, is_finished}
use Rattle.image_model.specs.Places.{entry_of, is_entry_page}
use Rattle.image_model.specs.Live.{live_at}
use Rattle.image_model.specs.Tidy.{IsTidy, is_free_entry, is_free_block, is_wanted}
use Rattle.image_model.specs.Kinds.{is_index_page, is_data_page, is_index_block, is_data_block, is_mixed}
use Rattle.image_model.specs.Collect.{index_in, data_in, deleted_in, free_in, is_deleted_entry}
use Rattle.image_model.specs.Within.{entry_in}
use Rattle.image_laws.proofs.Frames.{live_parts}
use Rattle.image_laws.proofs.Finish.{is_finished-zero}
use Rattle.image_laws.proofs.Tally.{is_finished-ones}
use Rattle.image_laws.proofs.Wants.{wanted_parts}
use Rattle.image_laws.proofs.MixedBlocks.{mixed-tested}
use Rattle.room_laws.specs.Counts.{IsBlock, kind_of, unused, for_index, for_data}
use Rattle.room_laws.specs.Counting.{block_counts, counts_of}
use Rattle.room_laws.proofs.Ranges.{four_kinds, any_counted, all_counted, not_all_counted}

-- the three sorts of a block of a tidy image
pub data Told (g : Geometry) (image : List ℕ) (block : ℕ) : Type 0 where
  told_free : is_free_block g image block ≡ true → is_data_block g image block ≡ false → is_index_block g image block ≡ false → kind_of (block_counts g image block) ≡ unused →
      index_in g image block ≡ 0 → data_in g image block ≡ 0 → deleted_in g image block ≡ 0 → Told g image block
  told_index : is_free_block g image block ≡ false → is_data_block g image block ≡ false → kind_of (block_counts g image block) ≡ for_index → data_in g image block ≡ 0 → Told g image block
  told_data : is_free_block g image block ≡ false → is_data_block g image block ≡ true → is_index_block g image block ≡ false → kind_of (block_counts g image block) ≡ for_data →
      index_in g image block ≡ 0 → Told g image block

-- how an entry counts, with a live page, deleted or free
abbrev one_of : Geometry → List ℕ → ℕ → Type 0
one_of g image p =
    cond (is_index_page (live_at g image p)) 1 0 + cond (is_data_page (live_at g image p)) 1 0 + cond (is_deleted_entry g image p) 1 0 + cond (is_free_entry g image p) 1 0 ≡ 1

module _ (g : Geometry) (image : List ℕ) (p : ℕ) where
  live_one : (x : List ℕ) → live_at g image p ≡ Some x → one_of g image p
  live_one x e =
      let w = live_parts g image p x e in
      let used : (entry_of g image p == 0xFFFF) ≡ false = false_from_ne_true _ (λ ones.
      let bad : false ≡ true = sym (is_finished-ones x (sym w.entry ∙ eqb-true _ 0xFFFF ones)) ∙ w.finished in absurd (cc)) in
      rw (e, used) (⊎_elim
      (λ (yes : names_index x ≡ true). rw yes refl)
      (λ (none : names_index x ≡ false). rw none refl)
      (cases_Bool (names_index x)))

  pub unlive : (n : ℕ) → entry_of g image p ≡ n → ((x : List ℕ) → obj_id x ≡ n → is_finished x ≡ false) → live_at g image p ≡ None
  unlive n at dead = either (live_at g image p) refl
    where
      either : (o : Option (List ℕ)) → live_at g image p ≡ o → live_at g image p ≡ None
      either None e = e
      either (Some x) e =
          let w = live_parts g image p x e in
          let bad : false ≡ true = sym (dead x (sym w.entry ∙ at)) ∙ w.finished in absurd (cc)

  zero_one : entry_of g image p ≡ 0 → one_of g image p
  zero_one at = rw (unlive 0 at (λ x id. is_finished-zero x (rw id refl)), at) refl

  free_one : is_free_entry g image p ≡ true → one_of g image p
  free_one free =
      let at : entry_of g image p ≡ 0xFFFF = eqb-true _ 0xFFFF (and_parts _ _ free).0 in
      rw (unlive 0xFFFF at (λ x id. is_finished-ones x id), free, at) refl

module _ (g : Geometry) (image : List ℕ) (t : IsTidy g image) where
  each_one : (p : ℕ) → is_entry_page g p ≡ true → one_of g image p
  unfolding is_wanted
  each_one p page = ⊎_elim
      (λ (zero : entry_of g image p ≡ 0). zero_one g image p zero)
      (λ (more : (is_free_entry g image p ≡ true) ⊎ (is_wanted g image p ≡ true)). ⊎_elim
      (λ (free : is_free_entry g image p ≡ true). free_one g image p free)
      (λ (wanted : is_wanted g image p ≡ true). let v = wanted_parts g (live_at g image) p wanted in live_one g image p v.page v.is)
      more)
      (t.entries p page)

  module _ (block : ℕ) (low : block < g.blocks) where
    whole : index_in g image block + data_in g image block + deleted_in g image block + free_in g image block ≡ entries g
    unfolding index_in data_in deleted_in free_in
    whole = four_kinds (λ p. is_index_page (live_at g image p)) (λ p. is_data_page (live_at g image p)) (λ p. is_deleted_entry g image p) (λ p. is_free_entry g image p)
        (block * per_block g + lookups g) (entries g) (λ q from to. each_one q (entry_in g block q low from to).1)

    pub data_is : nat_lt 0 (data_in g image block) ≡ is_data_block g image block
    unfolding data_in is_data_block
    data_is = any_counted (λ p. is_data_page (live_at g image p)) (range_with_len (block * per_block g + lookups g) (entries g))

    pub index_is : nat_lt 0 (index_in g image block) ≡ is_index_block g image block
    unfolding index_in is_index_block
    index_is = any_counted (λ p. is_index_page (live_at g image p)) (range_with_len (block * per_block g + lookups g) (entries g))

    unmixed : is_data_block g image block ≡ true → is_index_block g image block ≡ false
    unfolding is_mixed
    unmixed pages = false_from_ne_true _ (λ index.
        let m = (mixed-tested g image block low).0 (rw (index, pages) refl) in
        let same : names_index m.x ≡ names_index m.y = t.unmixed m.p m.q m.x m.y m.p_is m.q_is (m.p_at ∙ sym m.q_at) in
        let bad : true ≡ false = sym m.names ∙ same ∙ m.holds in absurd (cc))

    pub free_all : is_free_block g image block ≡ true → free_in g image block ≡ entries g
    unfolding free_in is_free_block
    free_all free =
        all_counted (λ p. is_free_entry g image p) (range_with_len (block * per_block g + lookups g) (entries g)) (and_parts _ _ free).1
        ∙ length-range_with_len (block * per_block g + lookups g) (entries g)

    free_less : is_free_block g image block ≡ false → free_in g image block < entries g
    unfolding free_in is_free_block
    free_less none =
        let rest = rw (t.magic block low) at none in
        let few = not_all_counted (λ p. is_free_entry g image p) (range_with_len (block * per_block g + lookups g) (entries g)) rest in
        omega (arith, few, length-range_with_len (block * per_block g + lookups g) (entries g))

    none_in : (n : ℕ) (b : Bool) → nat_lt 0 n ≡ b → b ≡ false → n ≡ 0
    none_in n b is none = ⊎_elim
        (λ (some : 0 < n). let bad : true ≡ false = sym (lt-ltb 0 n some) ∙ is ∙ none in absurd (cc))
        (λ (few : n ≤ 0). omega arith)
        (cases_lt 0 n)

    no_index : is_index_block g image block ≡ false → index_in g image block ≡ 0
    no_index none = none_in (index_in g image block) (is_index_block g image block) index_is none

    no_data : is_data_block g image block ≡ false → data_in g image block ≡ 0
    no_data none = none_in (data_in g image block) (is_data_block g image block) data_is none

    pub counts_are : IsBlock (entries g) (block_counts g image block)
    unfolding block_counts
    counts_are = record {
      whole = whole;
      apart = λ some. no_index (unmixed (sym data_is ∙ lt-ltb 0 (data_in g image block) some));
    }

    pub told : Told g image block
    unfolding block_counts kind_of
    told = ⊎_elim
        (λ (free : is_free_block g image block ≡ true).
        let all = free_all free in
        let i : index_in g image block ≡ 0 = omega (arith, whole, all) in
        let d : data_in g image block ≡ 0 = omega (arith, whole, all) in
        let x : deleted_in g image block ≡ 0 = omega (arith, whole, all) in
        told_free free (sym data_is ∙ (rw d refl)) (sym index_is ∙ (rw i refl)) (rw (i, d, x) refl) i d x)
        (λ (used : is_free_block g image block ≡ false).
        let few = free_less used in
        ⊎_elim
        (λ (pages : is_data_block g image block ≡ true).
        let i = no_index (unmixed pages) in
        told_data used pages (unmixed pages) (rw (data_is, pages) refl) i)
        (λ (none : is_data_block g image block ≡ false).
        let d = no_data none in
        told_index used none (rw (data_is, none, lt-ltb 0 (index_in g image block + deleted_in g image block) (omega (arith, whole, few, d))) refl) d)
        (cases_Bool (is_data_block g image block)))
        (cases_Bool (is_free_block g image block))

-- a free block holds no data page and no deleted entry
pub free_told : (g : Geometry) (image : List ℕ) (block : ℕ) → Told g image block → is_free_block g image block ≡ true → (is_data_block g image block ≡ false) × (deleted_in g image block ≡ 0)
free_told g image block (told_free f d j k i p x) free = (d, x)
free_told g image block (told_index f d k p) free = let bad : true ≡ false = sym free ∙ f in absurd (cc)
free_told g image block (told_data f d j k i) free = let bad : true ≡ false = sym free ∙ f in absurd (cc)

-- a block's counts are among those of the image
pub block_in : (g : Geometry) (image : List ℕ) (block : ℕ) → block < g.blocks → Contains (counts_of g image) (block_counts g image block)
unfolding counts_of
block_in g image block low =
    let size = length-map-range_with_len (block_counts g image) 0 g.blocks in
    (block, omega (arith, size, low), get_or-map-range_with_len (block_counts g image) 0 g.blocks block block (block_counts g image block) low (omega arith))
