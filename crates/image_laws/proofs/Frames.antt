-- Changes of an image that leave its live pages.
use Rattle.std.proofs.Common.{◌≡◌, ℕ, ◌+◌, ◌-◌, ◌*◌, ◌<◌, ◌≤◌, List, length, take, drop, slice_index, slice_range, true, false, ◌==◌, Some, None, ap, refl, sym, ◌∙◌, arith, ⊎_elim, min, add_assoc, add-zero, length-take, length-drop, get_or-take, get_or-drop}
use Rattle.std.proofs.lemmas.Option.{cond_some}
use Rattle.std.proofs.lemmas.List.{ext_get_or}
use Rattle.std.proofs.Math.Path.{fun_ext}
use Rattle.geometry.specs.declared.geometry.Geometry.{Geometry}
use Rattle.geometry.specs.Numbers.{lookups, per_block, slots, entries}
use Rattle.nor_core.specs.Flash.{SameOutside, word_at}
use Rattle.image_model.specs.Within.{Sizes}
use Rattle.image_laws.proofs.Places.{pages_apart, lookups_apart, blocks_disjoint, same_page}
use Rattle.std.proofs.Math.Nat.{mul-le-mul_right}
use Rattle.std.proofs.lemmas.Bool.{cases_lt, cases_eq, cases_Bool, and_parts, eqb-true, eq-eqb}
use Rattle.image_model.specs.Live.{live_at, is_live, Live}
use Rattle.image_model.specs.Headers.{is_finished, is_flag_set, obj_id}
use Rattle.image_model.specs.Places.{has_magic, entry_of, page_of, block_of, place_of, slot_of, is_entry_page}
use Rattle.image_model.specs.Tables.{table_of, damaged_of, records, damages, has_of}

-- the table depends on the live pages alone
pub table_of-same : (g : Geometry) (a b : List ℕ) → ((p : ℕ) → live_at g a p ≡ live_at g b p) → table_of g a ≡ table_of g b
unfolding table_of
table_of-same g a b h = ap (λ (live : Live). records (has_of g live) 0x7FFF) (fun_ext h)

pub damaged_of-same : (g : Geometry) (a b : List ℕ) → ((p : ℕ) → live_at g a p ≡ live_at g b p) → damaged_of g a ≡ damaged_of g b
unfolding damaged_of
damaged_of-same g a b h = ap (λ (live : Live). damages (has_of g live) 0x7FFF) (fun_ext h)

-- a page is as live as before where its block's magic, its entry and its bytes are as before
pub live_at-same : (g : Geometry) (a b : List ℕ) (p : ℕ) →
    has_magic g a (block_of g p) ≡ has_magic g b (block_of g p) → entry_of g a p ≡ entry_of g b p →
    page_of g a p ≡ page_of g b p → live_at g a p ≡ live_at g b p
unfolding live_at is_live
live_at-same g a b p m e h = cc

-- a page that is not finished is not live
pub finished_from_flag : (page : List ℕ) → is_flag_set page 1 ≡ true → is_finished page ≡ false
unfolding is_finished
finished_from_flag page h = grind arith

pub live_at-unfinished : (g : Geometry) (a : List ℕ) (p : ℕ) → is_finished (page_of g a p) ≡ false → live_at g a p ≡ None
unfolding live_at is_live
live_at-unfinished g a p h = grind arith

-- what a live page is
pub record LivePage (g : Geometry) (image : List ℕ) (p : ℕ) (page : List ℕ) : Type 0 where
  pub entry_page : is_entry_page g p ≡ true
  pub magic : has_magic g image (block_of g p) ≡ true
  pub entry : entry_of g image p ≡ obj_id page
  pub finished : is_finished page ≡ true
  pub bytes : page_of g image p ≡ page

pub live_parts : (g : Geometry) (image : List ℕ) (p : ℕ) (page : List ℕ) → live_at g image p ≡ Some page → LivePage g image p page
unfolding live_at is_live
live_parts g image p page h =
    let w = cond_some _ (page_of g image p) page h in
    let x = and_parts _ _ w.0 in
    let y = and_parts _ _ x.0 in
    let z = and_parts _ _ y.0 in
    let same : page_of g image p ≡ page = w.1 in
    record {
      entry_page = z.0;
      magic = z.1;
      entry = eqb-true _ _ y.1 ∙ ap obj_id same;
      finished = rw same at x.1;
      bytes = same;
    }

pub live_from : (g : Geometry) (image : List ℕ) (p : ℕ) (page : List ℕ) → LivePage g image p page → live_at g image p ≡ Some page
unfolding live_at is_live
live_from g image p page h =
    let entry : (entry_of g image p == obj_id page) ≡ true = eq-eqb _ _ h.entry in
    rw h.bytes (rw (h.entry_page, h.magic, entry, h.finished) refl)

-- ---- changes of bytes

pub word_at-same : (a b : List ℕ) (i : ℕ) → slice_index b i ≡ slice_index a i → slice_index b (i + 1) ≡ slice_index a (i + 1) → word_at b i ≡ word_at a i
word_at-same a b i h k = cc

-- the n bytes from a place on
pub range-same : (a b : List ℕ) (at n : ℕ) → length b ≡ length a →
    ((i : ℕ) → at ≤ i → i < at + n → slice_index b i ≡ slice_index a i) → slice_range b at (at + n) ≡ slice_range a at (at + n)
range-same a b at n len h =
    let size : (xs : List ℕ) → length (take (at + n - at) (drop at xs)) ≡ min n (length xs - at) = λ (xs : List ℕ). simp (length-take, length-drop) (omega arith) in
    let same_len : length (take (at + n - at) (drop at b)) ≡ length (take (at + n - at) (drop at a)) = omega (arith, size a, size b) in
    ext_get_or 0 _ _ same_len
    (λ i small. let near : i < at + n - at = omega (arith, size b) in
    let here : slice_index b (at + i) ≡ slice_index a (at + i) = h (at + i) (omega arith) (omega arith) in
    rw (get_or-take, get_or-take, get_or-drop, get_or-drop) here)

-- a page is as live as before where, if it is an entry page, its block's magic, its entry and its bytes are as before
pub live_at-kept : (g : Geometry) (a b : List ℕ) (p : ℕ) →
    (is_entry_page g p ≡ true → (has_magic g b (block_of g p) ≡ has_magic g a (block_of g p)) × (entry_of g b p ≡ entry_of g a p) × (page_of g b p ≡ page_of g a p)) →
    live_at g b p ≡ live_at g a p
unfolding live_at is_live
live_at-kept g a b p h =
    ⊎_elim
    (λ (yes : is_entry_page g p ≡ true). let same = h yes in cc)
    (λ (no : is_entry_page g p ≡ false). simp no)
    (cases_Bool (is_entry_page g p))

-- an entry page lies behind the lookup pages of its block
pub entry_place-at : (g : Geometry) (p : ℕ) → is_entry_page g p ≡ true → lookups g ≤ place_of g p
unfolding is_entry_page
entry_place-at g p h = grind arith

-- its entry is one of the first slots
entry_slot-small : (g : Geometry) → Sizes g → (p : ℕ) → place_of g p - lookups g < entries g
unfolding entries
entry_slot-small g geo p = let fits : lookups g < per_block g = geo.lookups_fit in omega arith

module _ (g : Geometry) (geo : Sizes g) (a b : List ℕ) (p : ℕ) (entry_page : is_entry_page g p ≡ true) where
  -- a byte of the lookup pages of block c
  byte-same_page : SameOutside (p * g.page) g.page a b → (c j : ℕ) → j < lookups g * g.page → slice_index b (c * g.block + j) ≡ slice_index a (c * g.block + j)
  byte-same_page h c j small =
      let behind : lookups g ≤ place_of g p = entry_place-at g p entry_page in
      let block : c * g.block ≡ c * (per_block g * g.page) = ap (λ (x : ℕ). c * x) geo.block in
      let fits : lookups g < per_block g = geo.lookups_fit in
      ⊎_elim
      (λ (x : c * (per_block g * g.page) + j < p * g.page). h.before (c * g.block + j) (omega arith))
      (λ (x : p * g.page + g.page ≤ c * (per_block g * g.page) + j). h.after (c * g.block + j) (omega arith))
      (lookups_apart (per_block g) (lookups g) g.page c p j (omega arith) (omega arith) behind small)

  -- in the lookup pages, and not in page p
  slot-same_page : SameOutside (p * g.page) g.page a b → (c s : ℕ) → s < slots g → slot_of g b c s ≡ slot_of g a c s
  unfolding slot_of
  slot-same_page h c s small =
      word_at-same a b (c * g.block + 2 * s) (byte-same_page h c (2 * s) (omega arith))
      (let next : slice_index b (c * g.block + (2 * s + 1)) ≡ slice_index a (c * g.block + (2 * s + 1)) = byte-same_page h c (2 * s + 1) (omega arith) in
      rw (add_assoc) next)

  pub magic-same_page : SameOutside (p * g.page) g.page a b → (c : ℕ) → has_magic g b c ≡ has_magic g a c
  unfolding has_magic
  magic-same_page h c = let slot = slot-same_page h c (slots g - 2) (omega (arith, geo.slots_fit)) in cc

  pub entry-same_page : SameOutside (p * g.page) g.page a b → (q : ℕ) → entry_of g b q ≡ entry_of g a q
  unfolding entry_of
  entry-same_page h q = slot-same_page h (block_of g q) (place_of g q - lookups g) (omega (arith, geo.slots_fit, entry_slot-small g geo q))

  pub other-same_page : SameOutside (p * g.page) g.page a b → (q : ℕ) → (q ≡ p → ⊥) → page_of g b q ≡ page_of g a q
  unfolding page_of
  other-same_page h q differ =
      range-same a b (q * g.page) g.page h.size
      (λ i from to. ⊎_elim
      (λ (x : q < p). h.before i (omega (arith, pages_apart g.page q p x)))
      (λ (x : p ≤ q). let more : p < q = omega (arith, differ) in h.after i (omega (arith, pages_apart g.page p q more)))
      (cases_lt q p))

  -- a change inside an entry page leaves every other page as live as before
  pub live-page_other : SameOutside (p * g.page) g.page a b → (q : ℕ) → (q ≡ p → ⊥) → live_at g b q ≡ live_at g a q
  live-page_other h q there = live_at-kept g a b q (λ (page : is_entry_page g q ≡ true). (magic-same_page h (block_of g q), entry-same_page h q, other-same_page h q there))

  -- a change inside an entry page that is unfinished before and after leaves the live pages
  pub live-page_changed : SameOutside (p * g.page) g.page a b → is_finished (page_of g a p) ≡ false → is_finished (page_of g b p) ≡ false →
      (q : ℕ) → live_at g b q ≡ live_at g a q
  live-page_changed h before after q =
      ⊎_elim
      (λ (here : q ≡ p). rw here (live_at-unfinished g b p after ∙ sym (live_at-unfinished g a p before)))
      (λ (there : q ≡ p → ⊥). live-page_other h q there)
      (cases_eq q p)

  -- in a lookup page, outside of the entry of p
  byte-same_entry : SameOutside (block_of g p * g.block + 2 * (place_of g p - lookups g)) 2 a b → (c s j : ℕ) → s < slots g → j < 2 →
      (c ≡ block_of g p → s ≡ place_of g p - lookups g → ⊥) → slice_index b (c * g.block + (2 * s + j)) ≡ slice_index a (c * g.block + (2 * s + j))
  byte-same_entry h c s j small low other =
      let size : 2 * slots g ≤ lookups g * g.page = omega arith in
      let fewer : lookups g ≤ per_block g = omega (arith, geo.lookups_fit) in
      let rows : lookups g * g.page ≤ per_block g * g.page = mul-le-mul_right g.page fewer in
      let fits : lookups g * g.page ≤ g.block = omega (arith, geo.block) in
      let slot : place_of g p - lookups g < entries g = entry_slot-small g geo p in
      let room : entries g + 2 ≤ slots g = geo.slots_fit in
      ⊎_elim
      (λ (same : c ≡ block_of g p).
      let apart : s ≡ place_of g p - lookups g → ⊥ = other same in
      let at : c * g.block ≡ block_of g p * g.block = ap (λ (x : ℕ). x * g.block) same in
      ⊎_elim
      (λ (x : s < place_of g p - lookups g). h.before (c * g.block + (2 * s + j)) (omega arith))
      (λ (x : place_of g p - lookups g ≤ s). h.after (c * g.block + (2 * s + j)) (omega (arith, apart)))
      (cases_lt s (place_of g p - lookups g)))
      (λ (differ : c ≡ block_of g p → ⊥).
      ⊎_elim
      (λ (x : c < block_of g p). h.before (c * g.block + (2 * s + j)) (omega (arith, blocks_disjoint g.block c (block_of g p) (2 * s + j) 0 x (omega arith))))
      (λ (x : block_of g p ≤ c). h.after (c * g.block + (2 * s + j)) (let more : block_of g p < c = omega (arith, differ) in omega (arith, blocks_disjoint g.block (block_of g p) c (2 * (place_of g p - lookups g) + 1) 0 more (omega arith))))
      (cases_lt c (block_of g p)))
      (cases_eq c (block_of g p))

  slot-same_entry : SameOutside (block_of g p * g.block + 2 * (place_of g p - lookups g)) 2 a b → (c s : ℕ) → s < slots g →
      (c ≡ block_of g p → s ≡ place_of g p - lookups g → ⊥) → slot_of g b c s ≡ slot_of g a c s
  unfolding slot_of
  slot-same_entry h c s small other =
      word_at-same a b (c * g.block + 2 * s)
      (let first : slice_index b (c * g.block + (2 * s + 0)) ≡ slice_index a (c * g.block + (2 * s + 0)) = byte-same_entry h c s 0 small (omega arith) other in rw add-zero at first)
      (let next : slice_index b (c * g.block + (2 * s + 1)) ≡ slice_index a (c * g.block + (2 * s + 1)) = byte-same_entry h c s 1 small (omega arith) other in rw (add_assoc) next)

  pub magic-same_entry : SameOutside (block_of g p * g.block + 2 * (place_of g p - lookups g)) 2 a b → (c : ℕ) → has_magic g b c ≡ has_magic g a c
  unfolding has_magic
  magic-same_entry h c =
      let slot : place_of g p - lookups g < entries g = entry_slot-small g geo p in
      let same = slot-same_entry h c (slots g - 2) (omega (arith, geo.slots_fit)) (λ e s. omega (arith, geo.slots_fit)) in cc

  pub entry-same_entry : SameOutside (block_of g p * g.block + 2 * (place_of g p - lookups g)) 2 a b → (q : ℕ) → lookups g ≤ place_of g q → (q ≡ p → ⊥) → entry_of g b q ≡ entry_of g a q
  unfolding entry_of
  entry-same_entry h q behind differ =
      let here : lookups g ≤ place_of g p = entry_place-at g p entry_page in
      slot-same_entry h (block_of g q) (place_of g q - lookups g) (omega (arith, geo.slots_fit, entry_slot-small g geo q))
      (λ e s. differ (same_page (per_block g) q p e (omega arith)))

  pub page-same_entry : SameOutside (block_of g p * g.block + 2 * (place_of g p - lookups g)) 2 a b → (q : ℕ) → is_entry_page g q ≡ true → page_of g b q ≡ page_of g a q
  unfolding page_of
  page-same_entry h q page =
      let fits : lookups g < per_block g = geo.lookups_fit in
      let behind : lookups g ≤ place_of g q = entry_place-at g q page in
      let slot : place_of g p - lookups g < entries g = entry_slot-small g geo p in
      let room : 2 * (place_of g p - lookups g) + 1 < lookups g * g.page = omega (arith, geo.slots_fit) in
      let block : block_of g p * g.block ≡ block_of g p * (per_block g * g.page) = ap (λ (x : ℕ). block_of g p * x) geo.block in
      let first = lookups_apart (per_block g) (lookups g) g.page (block_of g p) q (2 * (place_of g p - lookups g)) (omega arith) (omega arith) behind (omega arith) in
      let last = lookups_apart (per_block g) (lookups g) g.page (block_of g p) q (2 * (place_of g p - lookups g) + 1) (omega arith) (omega arith) behind room in
      range-same a b (q * g.page) g.page h.size
      (λ i from to. ⊎_elim
      (λ (x : i < block_of g p * g.block + 2 * (place_of g p - lookups g)). h.before i x)
      (λ (x : block_of g p * g.block + 2 * (place_of g p - lookups g) ≤ i). h.after i (grind arith))
      (cases_lt i (block_of g p * g.block + 2 * (place_of g p - lookups g))))

  -- a change of the entry of such a page too
  pub live-entry_changed : SameOutside (block_of g p * g.block + 2 * (place_of g p - lookups g)) 2 a b → is_finished (page_of g a p) ≡ false →
      (q : ℕ) → live_at g b q ≡ live_at g a q
  live-entry_changed h before q =
      let page_same : page_of g b p ≡ page_of g a p = page-same_entry h p entry_page in
      let after : is_finished (page_of g b p) ≡ false = rw page_same before in
      ⊎_elim
      (λ (here : q ≡ p). rw here (live_at-unfinished g b p after ∙ sym (live_at-unfinished g a p before)))
      (λ (there : q ≡ p → ⊥). live_at-kept g a b q (λ (page : is_entry_page g q ≡ true).
      (magic-same_entry h (block_of g q), entry-same_entry h q (entry_place-at g q page) there, page-same_entry h q page)))
      (cases_eq q p)
