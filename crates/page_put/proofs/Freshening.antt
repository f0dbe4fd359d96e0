-- A block that is being made fresh, over plain images.
use Rattle.std.proofs.Common.{◌≡◌, ℕ, zero, suc, ◌+◌, ◌-◌, ◌*◌, ◌/◌, ◌%◌, ◌^◌, ◌<◌, ◌≤◌, ◌⊎◌, inl, inr, ⊎_elim, List, [], ◌∷◌, length, take, drop, ◌++◌, replicate, slice_index, Bool, true, false, Some, None, ap, refl, sym, ◌∙◌, subst, arith, lit<, add_assoc, add-zero, length-append}
use Rattle.std.specs.Prelude.{Option, bit_and}
use Rattle.std.specs.Int.{to_le_bytes, w16}
use Rattle.std.specs.List.{range_with_len, list_all}
use Rattle.std.proofs.Math.Nat.{mul-le-mul_right, div-add-mod}
use Rattle.std.proofs.lemmas.Nat.{xor_lt}
use Rattle.std.proofs.lemmas.Bool.{cases_lt, cases_eq, cases_Bool, ne_eqb, eq-eqb, lt-ltb}
use Rattle.std.proofs.lemmas.List.{length-take, length-drop, length-replicate}
use Rattle.std.proofs.lemmas.Grind.{same_number_lists}
use Rattle.geometry.proofs.Bounds.{lookups_fit}
use Rattle.geometry.specs.declared.geometry.Geometry.{Geometry}
use Rattle.geometry.specs.declared.magic.MagicKind.{MagicKind}
use Rattle.geometry.specs.declared.magic.MagicKind.TheVariants.{Plain, Length}
use Rattle.geometry.specs.Numbers.{length_mark, right_magic, per_block, lookups, slots, entries}
use Rattle.nor_core.specs.Flash.{SameOutside, Scrambled, HalfErased, HalfProgrammed, erased, programmed}
use Rattle.page_cache.proofs.Copies.{erased_before, erased_after, erased_inside}
use Rattle.page_cache.proofs.Keeping.{half_outside}
use Rattle.flash_view.proofs.Behind.{erased_size, erased_outside, outside_on, same_all}
use Rattle.image_model.specs.Headers.{is_finished}
use Rattle.image_model.specs.Live.{live_at}
use Rattle.image_model.specs.Places.{has_magic, erase_count, entry_of, page_of, slot_of, block_of, place_of, is_entry_page, IsImage}
use Rattle.image_model.specs.Tidy.{is_erased, is_free_entry, is_free_block}
use Rattle.image_model.specs.Within.{Sizes, sizes, entry_in, behind, page_length}
use Rattle.image_laws.specs.Flash.{Programmed}
use Rattle.image_laws.specs.Blocks.{magic_mark}
use Rattle.image_laws.proofs.Finished.{finished-programmed}
use Rattle.image_laws.proofs.Frames.{live_parts}
use Rattle.image_laws.proofs.Tally.{is_finished-ones}
use Rattle.image_laws.proofs.Erase.{spoiled-is_dead}
use Rattle.image_laws.proofs.MixedBlocks.{scrambled-lacks}
use Rattle.image_laws.proofs.Bits.{and_comm_255}
use Rattle.image_laws.proofs.Placing.{page_byte, wider}
use Rattle.page_put.specs.Fresh.{Freshens, IsFresh, UnitCut, InErasing, UnitErased, ErasedTo, MarkCut, FreshCut, mark_of, with_front_erased, blank, with_magic}

-- ---- the right magic is never 0xFFFF

mark_small : (kind : MagicKind) (blocks b : ℕ) → blocks ≤ 32767 → length_mark kind blocks b < 2 ^ 15
mark_small Plain blocks b few = lit< tt
mark_small Length blocks b few = omega arith

pub magic_small : (g : Geometry) (b : ℕ) → right_magic g b < 2 ^ 15
magic_small g b =
    let page : g.page < 2 ^ 15 = omega (arith, g.valid.page_most) in
    xor_lt 15 _ _ (xor_lt 15 0x0529 g.page (lit< tt) page) (mark_small g.magic g.blocks b g.valid.few_blocks)

-- the slots lie in the first unit, and this in the block
pub record Lies (g : Geometry) : Type 0 where
  pub units : g.phys * (g.block / g.phys) ≡ g.block
  pub first : 2 * slots g ≤ g.phys
  pub pages : 2 * slots g ≤ lookups g * g.page
  pub some : 3 ≤ slots g
  pub inside : lookups g * g.page ≤ g.block

pub lies : (g : Geometry) → Lies g
unfolding lookups entries
lies g =
    let geo : Sizes g = sizes g in
    let fewer : lookups g ≤ per_block g = omega (arith, geo.lookups_fit) in
    let rows : lookups g * g.page ≤ per_block g * g.page = mul-le-mul_right g.page fewer in
    record {
      units = omega (arith, div-add-mod g.block g.phys, g.valid.whole_units);
      first = omega (arith, lookups_fit g);
      pages = omega arith;
      some = omega (arith, geo.slots_fit, geo.lookups_fit);
      inside = omega (arith, geo.block);
    }

-- unit i lies in the block
pub unit_inside : (g : Geometry) (i : ℕ) → i < g.block / g.phys → i * g.phys + g.phys ≤ g.block
unit_inside g i low =
    let step : (i + 1) * g.phys ≤ (g.block / g.phys) * g.phys = mul-le-mul_right g.phys (omega arith) in
    omega (arith, (lies g).units)

-- a block has a unit
pub some_units : (g : Geometry) → 0 < g.block / g.phys
some_units g = ⊎_elim
    (λ (none : g.block / g.phys < 1).
    let zero_is : g.phys * (g.block / g.phys) ≡ g.phys * 0 = ap (λ (n : ℕ). g.phys * n) (omega (arith, none)) in
    absurd (omega (arith, zero_is, (lies g).units, (lies g).some, (lies g).pages, (lies g).inside)))
    (λ (some : 1 ≤ g.block / g.phys). some)
    (cases_lt (g.block / g.phys) 1)

-- ---- no page is live

module _ (g : Geometry) (image : List ℕ) (block : ℕ) where
  -- an erased slot isn't the magic
  pub erased_lacks : slice_index image (block * g.block + 2 * (slots g - 2)) ≡ 255 → slice_index image (block * g.block + 2 * (slots g - 2) + 1) ≡ 255 → has_magic g image block ≡ false
  unfolding has_magic slot_of
  erased_lacks low high = ne_eqb _ _ (λ e. let small = magic_small g block in omega (arith, low, high, e, small))

  ones_dead : (p : ℕ) → entry_of g image p ≡ 0xFFFF → live_at g image p ≡ None
  ones_dead p ones = dead (live_at g image p) refl
    where
      dead : (o : Option (List ℕ)) → live_at g image p ≡ o → o ≡ None
      dead None e = refl
      dead (Some page) e =
          let w = live_parts g image p page e in
          let no : is_finished page ≡ false = is_finished-ones page (sym w.entry ∙ ones) in
          let yes : is_finished page ≡ true = w.finished in
          absurd (cc)

  -- where all entries are erased no page is live
  module _ (front : (k : ℕ) → k < 2 * (slots g - 2) → slice_index image (block * g.block + k) ≡ 255) where
    pub front_entry : (p : ℕ) → block_of g p ≡ block → entry_of g image p ≡ 0xFFFF
    unfolding entry_of slot_of entries
    front_entry p here =
        let geo : Sizes g = sizes g in
        let slot : place_of g p - lookups g < entries g = omega (arith, geo.lookups_fit) in
        let low : slice_index image (block * g.block + 2 * (place_of g p - lookups g)) ≡ 255 = front (2 * (place_of g p - lookups g)) (omega (arith, geo.slots_fit, slot)) in
        let next : slice_index image (block * g.block + (2 * (place_of g p - lookups g) + 1)) ≡ 255 = front (2 * (place_of g p - lookups g) + 1) (omega (arith, geo.slots_fit, slot)) in
        let high : slice_index image (block * g.block + 2 * (place_of g p - lookups g) + 1) ≡ 255 = rw add_assoc next in
        rw here (rw (low, high) refl)

    pub front_dead : (p : ℕ) → block_of g p ≡ block → live_at g image p ≡ None
    front_dead p here = ones_dead p (front_entry p here)

-- ---- the erase of a unit

module _ (g : Geometry) (block i start : ℕ) (was : List ℕ) (at : start ≡ block * g.block + i * g.phys) where
  pub unit_done : (now : List ℕ) → now ≡ erased was start g.phys → start + g.phys ≤ length was → UnitErased g block i was now
  unit_done now is fits = rw is (record {
    outside = record {
      size = erased_size was start g.phys fits;
      before = λ k low. erased_before was start g.phys k fits (omega (arith, low, at));
      after = λ k high. erased_after was start g.phys k fits (omega (arith, high, at));
    };
    ones = λ k low. erased_inside was start g.phys (block * g.block + i * g.phys + k) fits (omega arith) (omega arith);
  })

-- ---- bytes erased one range after the other

-- where no byte is erased nothing changes
pub erased_nothing : (was : List ℕ) (at : ℕ) → at ≤ length was → erased was at 0 ≡ was
erased_nothing was at fits = same_number_lists (erased was at 0) was (erased_size was at 0 (omega arith)) (λ k below. ⊎_elim
    (λ (before : k < at). erased_before was at 0 k (omega arith) before)
    (λ (behind : at ≤ k). erased_after was at 0 k (omega arith) (omega arith))
    (cases_lt k at))

-- an erase behind another is one of both ranges
module _ (was : List ℕ) (at n m : ℕ) (fits : at + (n + m) ≤ length was) where
  first_fits : at + n ≤ length was
  first_fits = omega arith

  next_fits : at + n + m ≤ length (erased was at n)
  next_fits = omega (arith, fits, erased_size was at n first_fits)

  pub erased_on : erased (erased was at n) (at + n) m ≡ erased was at (n + m)
  erased_on = same_number_lists (erased (erased was at n) (at + n) m) (erased was at (n + m))
      (erased_size (erased was at n) (at + n) m next_fits ∙ erased_size was at n first_fits ∙ sym (erased_size was at (n + m) fits))
      (λ k below. ⊎_elim
      (λ (before : k < at + n). erased_before (erased was at n) (at + n) m k next_fits before ∙ ⊎_elim
      (λ (outside : k < at). erased_before was at n k first_fits outside ∙ sym (erased_before was at (n + m) k fits outside))
      (λ (inside : at ≤ k). erased_inside was at n k first_fits inside before ∙ sym (erased_inside was at (n + m) k fits inside (omega (arith, before))))
      (cases_lt k at))
      (λ (behind : at + n ≤ k). ⊎_elim
      (λ (inside : k < at + n + m). erased_inside (erased was at n) (at + n) m k next_fits behind inside ∙ sym (erased_inside was at (n + m) k fits (omega (arith, behind)) (omega (arith, inside))))
      (λ (outside : at + n + m ≤ k). erased_after (erased was at n) (at + n) m k next_fits outside ∙ erased_after was at n k first_fits behind ∙ sym (erased_after was at (n + m) k fits (omega (arith, outside))))
      (cases_lt k (at + n + m)))
      (cases_lt k (at + n)))

-- ---- unit after unit

pub freshens_none : (g : Geometry) (block erases : ℕ) (was : List ℕ) → Freshens g block erases was was
freshens_none g block erases was = record { outside = same_all _ _ was; dead = inl refl; state = inl refl; counts = λ has. inl refl }

pub erased_none : (g : Geometry) (block : ℕ) (was : List ℕ) → ErasedTo g block (0 * g.phys) was was
erased_none g block was = record { outside = same_all _ _ was; ones = λ k low. absurd (omega arith) }

module _ (g : Geometry) (block i : ℕ) (was now : List ℕ) (low : i < g.block / g.phys) (so_far : ErasedTo g block (i * g.phys) was now) where
  pub erased_more : (image : List ℕ) → UnitErased g block i now image → ErasedTo g block ((i + 1) * g.phys) was image
  erased_more image done =
      let inside = unit_inside g i low in
      record {
        outside = outside_on (block * g.block) g.block was now image so_far.outside (wider (block * g.block + i * g.phys) g.phys (block * g.block) g.block now image (omega arith) (omega arith) done.outside);
        ones = λ k small. ⊎_elim
            (λ (before : k < i * g.phys). done.outside.before (block * g.block + k) (omega arith) ∙ so_far.ones k before)
            (λ (here : i * g.phys ≤ k).
            let place : block * g.block + i * g.phys + (k - i * g.phys) ≡ block * g.block + k = omega arith in
            rw place at (done.ones (k - i * g.phys) (omega arith)))
            (cases_lt k (i * g.phys));
      }

pub erased_all : (g : Geometry) (block i : ℕ) (was now : List ℕ) → g.block / g.phys ≤ i → ErasedTo g block (i * g.phys) was now → ErasedTo g block g.block was now
erased_all g block i was now all so_far =
    let most : (g.block / g.phys) * g.phys ≤ i * g.phys = mul-le-mul_right g.phys all in
    record { outside = so_far.outside; ones = λ k low. so_far.ones k (omega (arith, (lies g).units)) }

-- ---- a block in its erases

module _ (g : Geometry) (block : ℕ) (was : List ℕ) (low : block < g.blocks) (is : IsImage g was) where
  pub block_fits : block * g.block + g.block ≤ length was
  block_fits =
      let next : (block + 1) * g.block ≤ g.blocks * g.block = mul-le-mul_right g.block (omega arith) in
      omega (arith, next, is.len)

  -- the front of a block is erased
  pub front_erased : (n : ℕ) → n ≤ g.block → ErasedTo g block n was (with_front_erased g block n was)
  front_erased n small =
      let fits : block * g.block + n ≤ length was = omega (arith, block_fits, small) in
      record {
        outside = wider (block * g.block) n (block * g.block) g.block was (with_front_erased g block n was) (omega arith) (omega (arith, small)) (erased_outside was (block * g.block) n fits);
        ones = λ k below. erased_inside was (block * g.block) n (block * g.block + k) fits (omega arith) (omega (arith, below));
      }

  pub none_erased : with_front_erased g block (0 * g.phys) was ≡ was
  none_erased =
      let none : 0 * g.phys ≡ 0 = omega arith in
      ap (λ (n : ℕ). erased was (block * g.block) n) none ∙ erased_nothing was (block * g.block) (omega (arith, block_fits))

  -- before any erase
  pub erasing_none : InErasing g block was was
  erasing_none = record {
    unit = 0;
    below = some_units g;
    cut = inl (inl (sym none_erased));
  }

  -- a unit more
  pub front_more : (i : ℕ) → i < g.block / g.phys → erased (with_front_erased g block (i * g.phys) was) (block * g.block + i * g.phys) g.phys ≡ with_front_erased g block ((i + 1) * g.phys) was
  front_more i small =
      let inside = unit_inside g i small in
      let next : i * g.phys + g.phys ≡ (i + 1) * g.phys = omega arith in
      erased_on was (block * g.block) (i * g.phys) g.phys (omega (arith, inside, block_fits)) ∙ ap (λ (n : ℕ). erased was (block * g.block) n) next

  module _ (i : ℕ) (small : i < g.block / g.phys) (image : List ℕ) where
    so_far : ErasedTo g block (i * g.phys) was (with_front_erased g block (i * g.phys) was)
    so_far = front_erased (i * g.phys) (let inside = unit_inside g i small in omega (arith, inside))

    unit_fits : block * g.block + i * g.phys + g.phys ≤ length (with_front_erased g block (i * g.phys) was)
    unit_fits = let inside = unit_inside g i small in omega (arith, inside, block_fits, so_far.outside.size)

    -- all outside the unit stays
    cut_outside : UnitCut g block i (with_front_erased g block (i * g.phys) was) image → SameOutside (block * g.block + i * g.phys) g.phys (with_front_erased g block (i * g.phys) was) image
    cut_outside cut = ⊎_elim
        (λ (half : HalfErased (block * g.block + i * g.phys) g.phys (mark_of g block i) (with_front_erased g block (i * g.phys) was) image). half_outside _ _ _ _ _ half)
        (λ (done : image ≡ erased (with_front_erased g block (i * g.phys) was) (block * g.block + i * g.phys) g.phys).
        subst (λ (l : List ℕ). SameOutside (block * g.block + i * g.phys) g.phys (with_front_erased g block (i * g.phys) was) l) (sym done) (erased_outside _ _ _ unit_fits))
        cut

    -- behind the first unit the slot of the magic is erased
    later_lacks : (i ≡ 0 → ⊥) → UnitCut g block i (with_front_erased g block (i * g.phys) was) image → has_magic g image block ≡ false
    later_lacks later cut =
        let one : 1 * g.phys ≤ i * g.phys = mul-le-mul_right g.phys (omega (arith, later)) in
        let high_low : 2 * (slots g - 2) + 1 < i * g.phys = omega (arith, (lies g).first, (lies g).some) in
        let same = cut_outside cut in
        let l : slice_index image (block * g.block + 2 * (slots g - 2)) ≡ 255 = same.before (block * g.block + 2 * (slots g - 2)) (omega arith) ∙ so_far.ones (2 * (slots g - 2)) (omega arith) in
        let h : slice_index image (block * g.block + (2 * (slots g - 2) + 1)) ≡ 255 = same.before (block * g.block + (2 * (slots g - 2) + 1)) (omega arith) ∙ so_far.ones (2 * (slots g - 2) + 1) high_low in
        erased_lacks g image block l (rw add_assoc h)

  -- in the first unit an erase that did anything leaves no magic
  first_spoils : (image : List ℕ) → UnitCut g block 0 (with_front_erased g block (0 * g.phys) was) image → (image ≡ was) ⊎ (has_magic g image block ≡ false)
  first_spoils image cut =
      let start : block * g.block + 0 * g.phys ≡ block * g.block = omega arith in
      ⊎_elim
      (λ (half : HalfErased (block * g.block + 0 * g.phys) g.phys (Some (magic_mark g block)) (with_front_erased g block (0 * g.phys) was) image). ⊎_elim
      (λ (same : image ≡ with_front_erased g block (0 * g.phys) was). inl (same ∙ none_erased))
      (λ (s : Scrambled (block * g.block + 0 * g.phys) g.phys (Some (magic_mark g block)) (with_front_erased g block (0 * g.phys) was) image).
      inr (scrambled-lacks g (with_front_erased g block (0 * g.phys) was) image block g.phys (subst (λ (x : ℕ). Scrambled x g.phys (Some (magic_mark g block)) (with_front_erased g block (0 * g.phys) was) image) start s)))
      half)
      (λ (done : image ≡ erased (with_front_erased g block (0 * g.phys) was) (block * g.block + 0 * g.phys) g.phys).
      let fits = unit_fits 0 (some_units g) image in
      let byte : (k : ℕ) → k < g.phys → slice_index image (block * g.block + k) ≡ 255 = λ k below.
      ap (λ (l : List ℕ). slice_index l (block * g.block + k)) done ∙ erased_inside (with_front_erased g block (0 * g.phys) was) (block * g.block + 0 * g.phys) g.phys (block * g.block + k) fits (omega arith) (omega (arith, below)) in
      let h = byte (2 * (slots g - 2) + 1) (omega (arith, (lies g).first, (lies g).some)) in
      inr (erased_lacks g image block (byte (2 * (slots g - 2)) (omega (arith, (lies g).first, (lies g).some))) (rw add_assoc h)))
      cut

  spoils : (i : ℕ) → i < g.block / g.phys → (image : List ℕ) → UnitCut g block i (with_front_erased g block (i * g.phys) was) image → (image ≡ was) ⊎ (has_magic g image block ≡ false)
  spoils i small image cut = ⊎_elim
      (λ (zero_is : i ≡ 0). first_spoils image (subst (λ (n : ℕ). UnitCut g block n (with_front_erased g block (n * g.phys) was) image) zero_is cut))
      (λ (later : i ≡ 0 → ⊥). inr (later_lacks i small image later cut))
      (cases_eq i 0)

  -- the block is as it was, or no page of it is live
  erasing_freshens : (erases : ℕ) (image : List ℕ) → InErasing g block was image → Freshens g block erases was image
  erasing_freshens erases image e =
      let inside = unit_inside g e.unit e.below in
      let there = with_front_erased g block (e.unit * g.phys) was in
      let changed = spoils e.unit e.below image e.cut in
      record {
        outside = outside_on (block * g.block) g.block was there image (so_far e.unit e.below image).outside (wider (block * g.block + e.unit * g.phys) g.phys (block * g.block) g.block there image (omega arith) (omega (arith, inside)) (cut_outside e.unit e.below image e.cut));
        dead = ⊎_elim (λ (same : image ≡ was). inl same) (λ (lacks : has_magic g image block ≡ false). inr (spoiled-is_dead g image block lacks)) changed;
        state = ⊎_elim (λ (same : image ≡ was). inl same) (λ (lacks : has_magic g image block ≡ false). inr (inl lacks)) changed;
        counts = λ has. ⊎_elim (λ (same : image ≡ was). inl same) (λ (lacks : has_magic g image block ≡ false). let bad : true ≡ false = sym has ∙ lacks in absurd (cc)) changed;
      }

-- ---- the programs of the erase count and the magic

pub slots_wide : (g : Geometry) (block : ℕ) (a b : List ℕ) → SameOutside (block * g.block + 2 * (slots g - 2)) 4 a b → SameOutside (block * g.block) g.block a b
slots_wide g block a b same = let in_block = lies g in wider (block * g.block + 2 * (slots g - 2)) 4 (block * g.block) g.block a b (omega arith) (omega (arith, in_block.pages, in_block.some, in_block.inside)) same

-- ---- the block at the end

all_in : (test : ℕ → Bool) (a n : ℕ) → ((q : ℕ) → a ≤ q → q < a + n → test q ≡ true) → list_all test (range_with_len a n) ≡ true
all_in test a zero h = refl
all_in test a (suc n) h = rw (h a (omega arith) (omega arith)) (all_in test (a + 1) n (λ q low high. h q (omega arith) (omega arith)))

all_ones : (bytes : List ℕ) → ((k : ℕ) → k < length bytes → slice_index bytes k ≡ 255) → is_erased bytes ≡ true
all_ones [] h = refl
all_ones (b ∷ bytes) h = let first : b ≡ 255 = h 0 (omega arith) in rw first (all_ones bytes (λ k low. h (suc k) (omega arith)))

-- two numbers programmed into four erased bytes, the second of them first
abbrev pub counted : List ℕ → ℕ → ℕ → List ℕ
counted mid at count = programmed mid (at + 2) (to_le_bytes w16 count)

abbrev pub both : List ℕ → ℕ → ℕ → ℕ → List ℕ
both mid at count magic = programmed (counted mid at count) at (to_le_bytes w16 magic)

module _ (mid : List ℕ) (at count magic : ℕ) (small : count < 65536) (small' : magic < 65536) (fresh : (k : ℕ) → k < 4 → slice_index mid (at + k) ≡ 255) where
  first : Programmed (at + 2) (to_le_bytes w16 count) mid (counted mid at count)
  first = finished-programmed (at + 2) (to_le_bytes w16 count) mid

  second : Programmed at (to_le_bytes w16 magic) (counted mid at count) (both mid at count magic)
  second = finished-programmed at (to_le_bytes w16 magic) (counted mid at count)

  pub both_outside : SameOutside at 4 mid (both mid at count magic)
  both_outside = outside_on at 4 mid (counted mid at count) (both mid at count magic) (wider (at + 2) 2 at 4 mid (counted mid at count) (omega arith) (omega arith) first.outside) (wider at 2 at 4 (counted mid at count) (both mid at count magic) (omega arith) (omega arith) second.outside)

  -- a change of the first number leaves the second one
  pub count_left : (image : List ℕ) → SameOutside at 2 (counted mid at count) image → slice_index image (at + 2) + 256 * slice_index image (at + 2 + 1) ≡ count
  count_left image same =
      let a0 : slice_index image (at + 2) ≡ slice_index (counted mid at count) (at + 2) = same.after (at + 2) (omega arith) in
      let a1 : slice_index image (at + 2 + 1) ≡ slice_index (counted mid at count) (at + 2 + 1) = same.after (at + 2 + 1) (omega arith) in
      let b0 : slice_index (counted mid at count) (at + 2) ≡ bit_and (slice_index mid (at + 2)) (count % 256) = rw add-zero at (first.bytes 0 (omega arith)) in
      let b1 : slice_index (counted mid at count) (at + 2 + 1) ≡ bit_and (slice_index mid (at + 2 + 1)) (count / 256 % 256) = first.bytes 1 (omega arith) in
      let m0 : slice_index mid (at + 2) ≡ 255 = fresh 2 (omega arith) in
      let m1 : slice_index mid (at + 3) ≡ 255 = fresh 3 (omega arith) in
      let three : at + 2 + 1 ≡ at + 3 = omega arith in
      let m1' : slice_index mid (at + 2 + 1) ≡ 255 = rw three m1 in
      let c0 : bit_and 255 (count % 256) ≡ count % 256 = and_comm_255 (count % 256) (omega arith) in
      let c1 : bit_and 255 (count / 256 % 256) ≡ count / 256 % 256 = and_comm_255 (count / 256 % 256) (omega arith) in
      let d0 : slice_index image (at + 2) ≡ count % 256 = a0 ∙ b0 ∙ rw m0 c0 in
      let d1 : slice_index image (at + 2 + 1) ≡ count / 256 % 256 = a1 ∙ b1 ∙ rw m1' c1 in
      rw (d0, d1) (omega (arith, small))

  pub count_stands : slice_index (both mid at count magic) (at + 2) + 256 * slice_index (both mid at count magic) (at + 2 + 1) ≡ count
  count_stands = count_left (both mid at count magic) second.outside

  pub magic_stands : slice_index (both mid at count magic) at + 256 * slice_index (both mid at count magic) (at + 1) ≡ magic
  magic_stands =
      let b0 : slice_index (both mid at count magic) at ≡ bit_and (slice_index (counted mid at count) at) (magic % 256) = rw add-zero at (second.bytes 0 (omega arith)) in
      let b1 : slice_index (both mid at count magic) (at + 1) ≡ bit_and (slice_index (counted mid at count) (at + 1)) (magic / 256 % 256) = second.bytes 1 (omega arith) in
      let a0 : slice_index (counted mid at count) at ≡ slice_index mid at = first.outside.before at (omega arith) in
      let a1 : slice_index (counted mid at count) (at + 1) ≡ slice_index mid (at + 1) = first.outside.before (at + 1) (omega arith) in
      let m0 : slice_index mid at ≡ 255 = rw add-zero at (fresh 0 (omega arith)) in
      let m1 : slice_index mid (at + 1) ≡ 255 = fresh 1 (omega arith) in
      let c0 : bit_and 255 (magic % 256) ≡ magic % 256 = and_comm_255 (magic % 256) (omega arith) in
      let c1 : bit_and 255 (magic / 256 % 256) ≡ magic / 256 % 256 = and_comm_255 (magic / 256 % 256) (omega arith) in
      let d0 : slice_index (both mid at count magic) at ≡ magic % 256 = b0 ∙ rw (a0, m0) c0 in
      let d1 : slice_index (both mid at count magic) (at + 1) ≡ magic / 256 % 256 = b1 ∙ rw (a1, m1) c1 in
      rw (d0, d1) (omega (arith, small'))

-- all of the block is erased but for the last two slots, which hold the magic and the erase count
pub record Stands (g : Geometry) (block erases : ℕ) (image : List ℕ) : Type 0 where
  pub front : (k : ℕ) → k < 2 * (slots g - 2) → slice_index image (block * g.block + k) ≡ 255
  pub rest : (k : ℕ) → 2 * slots g ≤ k → k < g.block → slice_index image (block * g.block + k) ≡ 255
  pub magic : slot_of g image block (slots g - 2) ≡ right_magic g block
  pub count : slot_of g image block (slots g - 1) ≡ erases

pub stands : (g : Geometry) (block erases : ℕ) (was mid now : List ℕ) → ErasedTo g block g.block was mid → erases < 65536 → now ≡ with_magic g block erases mid →
    SameOutside (block * g.block + 2 * (slots g - 2)) 4 mid now × Stands g block erases now
unfolding lookups per_block slot_of
stands g block erases was mid now blank small is =
    let in_block = lies g in
    let at : ℕ = block * g.block + 2 * (slots g - 2) in
    let place : block * g.block + 2 * (slots g - 1) ≡ block * g.block + 2 * (slots g - 2) + 2 = omega (arith, in_block.some) in
    let as_both : now ≡ both mid (block * g.block + 2 * (slots g - 2)) erases (right_magic g block) =
    is ∙ ap (λ (n : ℕ). programmed (programmed mid n (to_le_bytes w16 erases)) (block * g.block + 2 * (slots g - 2)) (to_le_bytes w16 (right_magic g block))) place in
    let low_magic : right_magic g block < 65536 = let s = magic_small g block in omega (arith, s) in
    let fresh : (k : ℕ) → k < 4 → slice_index mid (block * g.block + 2 * (slots g - 2) + k) ≡ 255 = λ k low.
    let there : block * g.block + 2 * (slots g - 2) + k ≡ block * g.block + (2 * (slots g - 2) + k) = omega arith in
    rw there (blank.ones (2 * (slots g - 2) + k) (omega (arith, low, in_block.some, in_block.pages, in_block.inside))) in
    let same = both_outside mid (block * g.block + 2 * (slots g - 2)) erases (right_magic g block) small low_magic fresh in
    let w = count_stands mid (block * g.block + 2 * (slots g - 2)) erases (right_magic g block) small low_magic fresh in
    let v = magic_stands mid (block * g.block + 2 * (slots g - 2)) erases (right_magic g block) small low_magic fresh in
    rw as_both (
      same,
      record {
        front = λ k low. same.before (block * g.block + k) (omega arith) ∙ blank.ones k (omega (arith, low, in_block.pages, in_block.inside));
        rest = λ k high low. same.after (block * g.block + k) (omega (arith, high, in_block.some)) ∙ blank.ones k low;
        magic = v;
        count = rw place w;
      },
    )

place_at : (g : Geometry) → Sizes g → (p : ℕ) → p * g.page ≡ (p / per_block g) * g.block + (p % per_block g) * g.page
place_at g geo p =
    let whole : per_block g * (p / per_block g) + p % per_block g ≡ p = div-add-mod p (per_block g) in
    let times : (per_block g * (p / per_block g) + p % per_block g) * g.page ≡ p * g.page = ap (λ (x : ℕ). x * g.page) whole in
    let block : (p / per_block g) * g.block ≡ (p / per_block g) * (per_block g * g.page) = ap (λ (x : ℕ). (p / per_block g) * x) geo.block in
    omega arith

-- all of the block but its last two slots is erased
module _ (g : Geometry) (block : ℕ) (now : List ℕ) (low : block < g.blocks) (is : IsImage g now) (front : (k : ℕ) → k < 2 * (slots g - 2) → slice_index now (block * g.block + k) ≡ 255)
    (rest : (k : ℕ) → 2 * slots g ≤ k → k < g.block → slice_index now (block * g.block + k) ≡ 255) where
  blank_page : (p : ℕ) → block_of g p ≡ block → is_entry_page g p ≡ true → is_erased (page_of g now p) ≡ true
  blank_page p here page =
      let geo : Sizes g = sizes g in
      let in_block = lies g in
      let behind_them : lookups g ≤ place_of g p = behind g p page in
      let size = page_length g now p is page in
      all_ones (page_of g now p) (λ k small.
      let fits : k < g.page = omega (arith, size) in
      let start : lookups g * g.page ≤ place_of g p * g.page = mul-le-mul_right g.page behind_them in
      let row : (p % per_block g + 1) * g.page ≤ per_block g * g.page = mul-le-mul_right g.page (omega (arith, geo.lookups_fit)) in
      let there : (p / per_block g) * g.block ≡ block * g.block = ap (λ (x : ℕ). x * g.block) here in
      let place : p * g.page + k ≡ block * g.block + (place_of g p * g.page + k) = omega (arith, place_at g geo p, there) in
      page_byte g now p k fits ∙ rw place (rest (place_of g p * g.page + k) (omega (arith, in_block.pages, start)) (omega (arith, row, geo.block, fits))))

  -- with its magic it is free
  pub blank_free : has_magic g now block ≡ true → is_free_block g now block ≡ true
  unfolding is_free_block
  blank_free magic =
      let entries_free = all_in (λ (q : ℕ). is_free_entry g now q) (block * per_block g + lookups g) (entries g) (λ q from to.
      let w = entry_in g block q low from to in
      let ones = front_entry g now block front q w.0 in
      rw (ones, blank_page q w.0 w.1) refl) in
      rw (magic, entries_free) refl

module _ (g : Geometry) (block erases : ℕ) (now : List ℕ) (low : block < g.blocks) (is : IsImage g now) (s : Stands g block erases now) where
  pub is_free : is_free_block g now block ≡ true
  unfolding has_magic
  is_free = blank_free g block now low is s.front s.rest (eq-eqb _ _ s.magic)

  pub count_is : erases < 0x8000 → erase_count g now block ≡ erases
  unfolding erase_count
  count_is small = rw (s.count, lt-ltb erases 0x8000 small) refl

pub freshens_slots : (g : Geometry) (block : ℕ) (was mid image : List ℕ) → block < g.blocks → IsImage g was → ErasedTo g block g.block was mid → SameOutside (block * g.block + 2 * (slots g - 2)) 4 mid image →
    (erases : ℕ) → (has_magic g image block ≡ true → erase_count g image block ≡ erases) → Freshens g block erases was image
freshens_slots g block was mid image low is blank same erases count =
    let in_block = lies g in
    let outside = outside_on (block * g.block) g.block was mid image blank.outside (slots_wide g block mid image same) in
    let now : IsImage g image = record { len = omega (arith, outside.size, is.len) } in
    let front : (k : ℕ) → k < 2 * (slots g - 2) → slice_index image (block * g.block + k) ≡ 255 =
    λ k below. same.before (block * g.block + k) (omega arith) ∙ blank.ones k (omega (arith, in_block.pages, in_block.inside)) in
    let rest : (k : ℕ) → 2 * slots g ≤ k → k < g.block → slice_index image (block * g.block + k) ≡ 255 =
    λ k high below. same.after (block * g.block + k) (omega (arith, high, in_block.some)) ∙ blank.ones k below in
    record {
      outside = outside;
      dead = inr (front_dead g image block front);
      state = inr (⊎_elim
          (λ (magic : has_magic g image block ≡ true). inr (blank_free g block image low now front rest magic))
          (λ (none : has_magic g image block ≡ false). inl none)
          (cases_Bool (has_magic g image block)));
      counts = λ has. inr (count has);
    }

-- the last two programs change no byte but those of the count and the magic
mark_outside : (g : Geometry) (block count : ℕ) (mid image : List ℕ) → MarkCut g block count mid image → SameOutside (block * g.block + 2 * (slots g - 2)) 4 mid image
unfolding lookups per_block
mark_outside g block count mid image cut =
    let in_block = lies g in
    ⊎_elim
    (λ (half : HalfProgrammed (block * g.block + 2 * (slots g - 1)) (to_le_bytes w16 count) mid image).
    wider (block * g.block + 2 * (slots g - 1)) 2 (block * g.block + 2 * (slots g - 2)) 4 mid image (omega (arith, in_block.some)) (omega (arith, in_block.some)) half.outside)
    (λ (half : HalfProgrammed (block * g.block + 2 * (slots g - 2)) (to_le_bytes w16 (right_magic g block)) (programmed mid (block * g.block + 2 * (slots g - 1)) (to_le_bytes w16 count)) image).
    outside_on (block * g.block + 2 * (slots g - 2)) 4 mid (programmed mid (block * g.block + 2 * (slots g - 1)) (to_le_bytes w16 count)) image
    (wider (block * g.block + 2 * (slots g - 1)) 2 (block * g.block + 2 * (slots g - 2)) 4 mid _ (omega (arith, in_block.some)) (omega (arith, in_block.some)) (finished-programmed (block * g.block + 2 * (slots g - 1)) (to_le_bytes w16 count) mid).outside)
    (wider (block * g.block + 2 * (slots g - 2)) 2 (block * g.block + 2 * (slots g - 2)) 4 _ image (omega arith) (omega arith) half.outside))
    cut

-- while the magic is programmed the count stands
half_count : (g : Geometry) (block count : ℕ) (was mid image : List ℕ) → ErasedTo g block g.block was mid → count < 65536 →
    HalfProgrammed (block * g.block + 2 * (slots g - 2)) (to_le_bytes w16 (right_magic g block)) (programmed mid (block * g.block + 2 * (slots g - 1)) (to_le_bytes w16 count)) image →
    slot_of g image block (slots g - 1) ≡ count
unfolding lookups per_block slot_of
half_count g block count was mid image blank small half =
    let in_block = lies g in
    let place : block * g.block + 2 * (slots g - 1) ≡ block * g.block + 2 * (slots g - 2) + 2 = omega (arith, in_block.some) in
    let low_magic : right_magic g block < 65536 = let s = magic_small g block in omega (arith, s) in
    let fresh : (k : ℕ) → k < 4 → slice_index mid (block * g.block + 2 * (slots g - 2) + k) ≡ 255 = λ k low.
    let there : block * g.block + 2 * (slots g - 2) + k ≡ block * g.block + (2 * (slots g - 2) + k) = omega arith in
    rw there (blank.ones (2 * (slots g - 2) + k) (omega (arith, low, in_block.some, in_block.pages, in_block.inside))) in
    let same : SameOutside (block * g.block + 2 * (slots g - 2)) 2 (counted mid (block * g.block + 2 * (slots g - 2)) count) image =
    subst (λ (n : ℕ). SameOutside (block * g.block + 2 * (slots g - 2)) 2 (programmed mid n (to_le_bytes w16 count)) image) place half.outside in
    let w = count_left mid (block * g.block + 2 * (slots g - 2)) count (right_magic g block) small low_magic fresh image same in
    rw place w

slot_counts : (g : Geometry) (image : List ℕ) (block count : ℕ) → count < 0x8000 → slot_of g image block (slots g - 1) ≡ count → erase_count g image block ≡ count
unfolding erase_count
slot_counts g image block count small is = rw (is, lt-ltb count 0x8000 small) refl

-- before that the block lacks its magic
half_lacks : (g : Geometry) (block count : ℕ) (was mid image : List ℕ) → ErasedTo g block g.block was mid → HalfProgrammed (block * g.block + 2 * (slots g - 1)) (to_le_bytes w16 count) mid image → has_magic g image block ≡ false
unfolding lookups per_block
half_lacks g block count was mid image blank half =
    let in_block = lies g in
    let l : slice_index image (block * g.block + 2 * (slots g - 2)) ≡ 255 = half.outside.before (block * g.block + 2 * (slots g - 2)) (omega (arith, in_block.some)) ∙ blank.ones (2 * (slots g - 2)) (omega (arith, in_block.some, in_block.pages, in_block.inside)) in
    let h : slice_index image (block * g.block + (2 * (slots g - 2) + 1)) ≡ 255 =
    half.outside.before (block * g.block + (2 * (slots g - 2) + 1)) (omega (arith, in_block.some)) ∙ blank.ones (2 * (slots g - 2) + 1) (omega (arith, in_block.some, in_block.pages, in_block.inside)) in
    erased_lacks g image block l (rw add_assoc h)

mark_counts : (g : Geometry) (block count : ℕ) (was mid image : List ℕ) → ErasedTo g block g.block was mid → count ≤ 0x7FFF → MarkCut g block count mid image → has_magic g image block ≡ true → erase_count g image block ≡ count
unfolding lookups per_block
mark_counts g block count was mid image blank small cut has = ⊎_elim
    (λ (half : HalfProgrammed (block * g.block + 2 * (slots g - 1)) (to_le_bytes w16 count) mid image). let bad : true ≡ false = sym has ∙ half_lacks g block count was mid image blank half in absurd (cc))
    (λ (half : HalfProgrammed (block * g.block + 2 * (slots g - 2)) (to_le_bytes w16 (right_magic g block)) (programmed mid (block * g.block + 2 * (slots g - 1)) (to_le_bytes w16 count)) image).
    slot_counts g image block count (omega (arith, small)) (half_count g block count was mid image blank (omega (arith, small)) half))
    cut

-- a cut of the calls in their order leaves the block as it was, or without any live page
pub cut_freshens : (g : Geometry) (block count : ℕ) (was image : List ℕ) → block < g.blocks → count ≤ 0x7FFF → IsImage g was → FreshCut g block count was image → Freshens g block count was image
cut_freshens g block count was image low small is cut = ⊎_elim
    (λ (erasing : InErasing g block was image). erasing_freshens g block was low is count image erasing)
    (λ (marking : MarkCut g block count (blank g block was) image).
    let erased_all = front_erased g block was low is g.block (omega arith) in
    freshens_slots g block was (blank g block was) image low is erased_all (mark_outside g block count (blank g block was) image marking) count
    (mark_counts g block count was (blank g block was) image erased_all small marking))
    cut

pub is_fresh : (g : Geometry) (block erases : ℕ) (was mid now : List ℕ) → block < g.blocks → IsImage g was → erases ≤ 0x7FFF → ErasedTo g block g.block was mid → now ≡ with_magic g block erases mid → IsFresh g block erases was now
is_fresh g block erases was mid now low is small blank done =
    let w = stands g block erases was mid now blank (omega (arith, small)) done in
    let outside = outside_on (block * g.block) g.block was mid now blank.outside (slots_wide g block mid now w.0) in
    let image : IsImage g now = record { len = omega (arith, outside.size, is.len) } in
    record { outside = outside; free = is_free g block erases now low image w.1; count = count_is g block erases now low image w.1 (omega (arith, small)) }
