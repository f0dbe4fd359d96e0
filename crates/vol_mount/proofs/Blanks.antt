-- Blocks that a format has made blank, over plain images.
use Rattle.std.proofs.Common.{◌≡◌, ℕ, zero, suc, ◌+◌, ◌-◌, ◌*◌, ◌/◌, ◌%◌, ◌<◌, ◌≤◌, inl, inr, ⊎_elim, List, [], ◌∷◌, length, Bool, true, Some, None, slice_index, refl, ap, ◌∙◌, subst, arith, add-zero}
use Rattle.std.specs.Prelude.{Option, Result, OnOk, bit_and, filter}
use Rattle.std.specs.Int.{to_le_bytes, w16}
use Rattle.std.specs.List.{range_with_len}
use Rattle.std.proofs.Math.Nat.{mul-le-mul_right}
use Rattle.std.proofs.lemmas.Result.{on_ok_weaker}
use Rattle.std.proofs.lemmas.Bool.{cases_lt, eq-eqb, and_parts}
use Rattle.geometry.specs.declared.geometry.Geometry.{Geometry}
use Rattle.geometry.specs.Numbers.{right_magic, slots, lookups, per_block}
use Rattle.nor_core.specs.declared.device.Failed.{Failed}
use Rattle.nor_core.specs.Flash.{erased, programmed}
use Rattle.image_model.specs.Live.{live_at}
use Rattle.image_model.specs.Places.{IsImage, has_magic, erase_count, slot_of, block_of, is_entry_page}
use Rattle.image_model.specs.Tables.{table_of}
use Rattle.image_model.specs.Tidy.{IsTidy, is_free_block, is_free_entry, free_blocks}
use Rattle.image_model.specs.Within.{page_number, block_number, entry_of_block}
use Rattle.image_laws.specs.Flash.{Programmed}
use Rattle.image_laws.proofs.Finished.{finished-programmed}
use Rattle.image_laws.proofs.Frames.{live_parts}
use Rattle.image_laws.proofs.FreeBlocks.{all-at}
use Rattle.image_laws.proofs.Bits.{and_comm_255}
use Rattle.page_put.specs.Fresh.{ErasedTo}
use Rattle.flash_view.proofs.Behind.{outside_on}
use Rattle.page_put.proofs.Freshening.{magic_small, lies, unit_done, erased_more, counted, both, Stands, stands, slots_wide, front_dead, is_free, count_is}
use Rattle.page_put.proofs.Erasures.{unit_start, unit_fits}
use Rattle.vol_mount.specs.Formatted.{IsBlank, MakesBlank, BlankTo, IsFormatted}
use Rattle.vol_mount.proofs.Empty.{table_none, damaged_none}

-- ---- the erase of a unit after others

pub unit_more : (g : Geometry) (block i n unit : ℕ) (was now image : List ℕ) → block < g.blocks → i < g.block / g.phys → n ≡ block * (g.block / g.phys) + i → unit ≡ g.phys → g.blocks * g.block ≤ length was → ErasedTo g block (i * g.phys) was now → image ≡ erased now (n * unit) unit →
    ErasedTo g block ((i + 1) * g.phys) was image
unit_more g block i n unit was now image low small is same whole so_far done =
    let all : image ≡ erased now (n * g.phys) g.phys = subst (λ (u : ℕ). image ≡ erased now (n * u) u) same done in
    let fits = unit_fits g block i n low small is in
    erased_more g block i was now small so_far image (unit_done g block i (n * g.phys) now (unit_start g block i n is) image all (omega (arith, fits, whole, so_far.outside.size)))

-- ---- the programs of the erase count and the magic

module _ (mid : List ℕ) (at magic : ℕ) (small : magic < 65536) (fresh : (k : ℕ) → k < 4 → slice_index mid (at + k) ≡ 255) where
  counts : Programmed (at + 2) (to_le_bytes w16 0) mid (counted mid at 0)
  counts = finished-programmed (at + 2) (to_le_bytes w16 0) mid

  marks : Programmed at (to_le_bytes w16 magic) (counted mid at 0) (both mid at 0 magic)
  marks = finished-programmed at (to_le_bytes w16 magic) (counted mid at 0)

  low_byte : slice_index (both mid at 0 magic) at ≡ magic % 256
  low_byte =
      let b : slice_index (both mid at 0 magic) at ≡ bit_and (slice_index (counted mid at 0) at) (magic % 256) = rw add-zero at (marks.bytes 0 (omega arith)) in
      let a : slice_index (counted mid at 0) at ≡ slice_index mid at = counts.outside.before at (omega arith) in
      let m : slice_index mid at ≡ 255 = rw add-zero at (fresh 0 (omega arith)) in
      b ∙ rw (a, m) (and_comm_255 (magic % 256) (omega arith))

  high_byte : slice_index (both mid at 0 magic) (at + 1) ≡ magic / 256
  high_byte =
      let b : slice_index (both mid at 0 magic) (at + 1) ≡ bit_and (slice_index (counted mid at 0) (at + 1)) (magic / 256 % 256) = marks.bytes 1 (omega arith) in
      let a : slice_index (counted mid at 0) (at + 1) ≡ slice_index mid (at + 1) = counts.outside.before (at + 1) (omega arith) in
      let m : slice_index mid (at + 1) ≡ 255 = fresh 1 (omega arith) in
      let all : bit_and 255 (magic / 256 % 256) ≡ magic / 256 % 256 = and_comm_255 (magic / 256 % 256) (omega arith) in
      let d : slice_index (both mid at 0 magic) (at + 1) ≡ magic / 256 % 256 = b ∙ rw (a, m) all in
      omega (arith, d, small)

pub blank_done : (g : Geometry) (block count_at magic_at : ℕ) (was mid marked now : List ℕ) → count_at ≡ block * g.block + 2 * (slots g - 1) → magic_at ≡ block * g.block + 2 * (slots g - 2) → ErasedTo g block g.block was mid → marked ≡ programmed mid count_at (0 ∷ 0 ∷ []) →
    now ≡ programmed marked magic_at (to_le_bytes w16 (right_magic g block)) → MakesBlank g block was now
unfolding slot_of lookups per_block
blank_done g block count_at magic_at was mid marked now count_is magic_is blank first second =
    let in_block = lies g in
    let first_at : marked ≡ programmed mid (block * g.block + 2 * (slots g - 1)) (to_le_bytes w16 0) = first ∙ ap (λ (n : ℕ). programmed mid n (0 ∷ 0 ∷ [])) count_is in
    let second_at : now ≡ programmed marked (block * g.block + 2 * (slots g - 2)) (to_le_bytes w16 (right_magic g block)) = second ∙ ap (λ (n : ℕ). programmed marked n (to_le_bytes w16 (right_magic g block))) magic_is in
    let done : now ≡ programmed (programmed mid (block * g.block + 2 * (slots g - 1)) (to_le_bytes w16 0)) (block * g.block + 2 * (slots g - 2)) (to_le_bytes w16 (right_magic g block)) =
    second_at ∙ ap (λ (l : List ℕ). programmed l (block * g.block + 2 * (slots g - 2)) (to_le_bytes w16 (right_magic g block))) first_at in
    let place : block * g.block + 2 * (slots g - 1) ≡ block * g.block + 2 * (slots g - 2) + 2 = omega (arith, in_block.some) in
    let as_both : now ≡ both mid (block * g.block + 2 * (slots g - 2)) 0 (right_magic g block) =
    done ∙ ap (λ (n : ℕ). programmed (programmed mid n (to_le_bytes w16 0)) (block * g.block + 2 * (slots g - 2)) (to_le_bytes w16 (right_magic g block))) place in
    let small : right_magic g block < 65536 = let s = magic_small g block in omega (arith, s) in
    let fresh : (k : ℕ) → k < 4 → slice_index mid (block * g.block + 2 * (slots g - 2) + k) ≡ 255 = λ k low.
    let there : block * g.block + 2 * (slots g - 2) + k ≡ block * g.block + (2 * (slots g - 2) + k) = omega arith in
    rw there (blank.ones (2 * (slots g - 2) + k) (omega (arith, low, in_block.some, in_block.pages, in_block.inside))) in
    let w = stands g block 0 was mid now blank (omega arith) done in
    let low = low_byte mid (block * g.block + 2 * (slots g - 2)) (right_magic g block) small fresh in
    let high = high_byte mid (block * g.block + 2 * (slots g - 2)) (right_magic g block) small fresh in
    let magic_next : block * g.block + (2 * (slots g - 2) + 1) ≡ block * g.block + 2 * (slots g - 2) + 1 = omega arith in
    let count_next : block * g.block + (2 * (slots g - 1) + 1) ≡ block * g.block + 2 * (slots g - 1) + 1 = omega arith in
    let none : slice_index now (block * g.block + 2 * (slots g - 1)) + 256 * slice_index now (block * g.block + 2 * (slots g - 1) + 1) ≡ 0 = w.1.count in
    record {
      outside = outside_on (block * g.block) g.block was mid now blank.outside (slots_wide g block mid now w.0);
      blank = record {
        front = w.1.front;
        magic_low = rw as_both low;
        magic_high = rw (magic_next, as_both) high;
        count_low = omega (arith, none);
        count_high = rw count_next (omega (arith, none));
        rest = w.1.rest;
      };
    }

-- where the last program was done
pub block_done : (g : Geometry) (block count_at magic_at : ℕ) (word : List ℕ) (result : Result (Unit {0}) Failed) (was mid marked now : List ℕ) → count_at ≡ block * g.block + 2 * (slots g - 1) → magic_at ≡ block * g.block + 2 * (slots g - 2) → word ≡ to_le_bytes w16 (right_magic g block) → ErasedTo g block g.block was mid → marked ≡ programmed mid count_at (0 ∷ 0 ∷ []) →
    OnOk result (now ≡ programmed marked magic_at word) → OnOk result (MakesBlank g block was now)
block_done g block count_at magic_at word result was mid marked now count_is magic_is word_is blank first second =
    on_ok_weaker result (λ done. blank_done g block count_at magic_at was mid marked now count_is magic_is blank first (rw (← word_is) done)) second

-- ---- block after block

-- a blank block whose bytes stay is blank
blank_stays : (g : Geometry) (block : ℕ) (was now : List ℕ) → ((k : ℕ) → k < g.block → slice_index now (block * g.block + k) ≡ slice_index was (block * g.block + k)) → IsBlank g block was → IsBlank g block now
blank_stays g block was now same blank =
    let in_block = lies g in
    record {
      front = λ k low. same k (omega (arith, low, in_block.pages, in_block.inside)) ∙ blank.front k low;
      magic_low = same _ (omega (arith, in_block.some, in_block.pages, in_block.inside)) ∙ blank.magic_low;
      magic_high = same _ (omega (arith, in_block.some, in_block.pages, in_block.inside)) ∙ blank.magic_high;
      count_low = same _ (omega (arith, in_block.some, in_block.pages, in_block.inside)) ∙ blank.count_low;
      count_high = same _ (omega (arith, in_block.some, in_block.pages, in_block.inside)) ∙ blank.count_high;
      rest = λ k high low. same k low ∙ blank.rest k high low;
    }

pub blank_more : (g : Geometry) (n : ℕ) (was now image : List ℕ) → BlankTo g n was now → MakesBlank g n now image → BlankTo g (n + 1) was image
blank_more g n was now image so_far step = record {
  size = step.outside.size ∙ so_far.size;
  blank = λ block below. ⊎_elim
      (λ (before : block < n).
      let next : (block + 1) * g.block ≤ n * g.block = mul-le-mul_right g.block (omega arith) in
      blank_stays g block now image (λ k low. step.outside.before (block * g.block + k) (omega (arith, next, low))) (so_far.blank block before))
      (λ (here : n ≤ block). let is : block ≡ n = omega arith in rw is step.blank)
      (cases_lt block n);
  behind = λ k high. step.outside.after k (omega (arith, high)) ∙ so_far.behind k (omega (arith, high));
}

-- ---- the volume at the end

stands_blank : (g : Geometry) (block : ℕ) (image : List ℕ) → IsBlank g block image → Stands g block 0 image
unfolding slot_of
stands_blank g block image blank =
    let magic_next : block * g.block + (2 * (slots g - 2) + 1) ≡ block * g.block + 2 * (slots g - 2) + 1 = omega arith in
    let count_next : block * g.block + (2 * (slots g - 1) + 1) ≡ block * g.block + 2 * (slots g - 1) + 1 = omega arith in
    let magic_high = rw magic_next at blank.magic_high in
    let count_high = rw count_next at blank.count_high in
    record { front = blank.front; rest = blank.rest; magic = rw (blank.magic_low, magic_high) (omega arith); count = rw (blank.count_low, count_high) refl }

all_pass : (test : ℕ → Bool) (a n : ℕ) → ((q : ℕ) → a ≤ q → q < a + n → test q ≡ true) → length (filter test (range_with_len a n)) ≡ n
all_pass test a zero h = refl
all_pass test a (suc n) h = rw (h a (omega arith) (omega arith)) (ap suc (all_pass test (a + 1) n (λ q low high. h q (omega arith) (omega arith))))

module _ (g : Geometry) (image : List ℕ) (blank : (block : ℕ) → block < g.blocks → IsBlank g block image) (is : IsImage g image) where
  all_free : (block : ℕ) → block < g.blocks → is_free_block g image block ≡ true
  all_free block low = is_free g block 0 image low is (stands_blank g block image (blank block low))

  all_counts : (block : ℕ) → block < g.blocks → erase_count g image block ≡ 0
  all_counts block low = count_is g block 0 image low is (stands_blank g block image (blank block low)) (omega arith)

  none_live : (p : ℕ) → live_at g image p ≡ None
  none_live p = dead (live_at g image p) refl
    where
      dead : (o : Option (List ℕ)) → live_at g image p ≡ o → live_at g image p ≡ None
      dead None e = e
      dead (Some page) e =
          let low = block_number g p (page_number g p (live_parts g image p page e).entry_page) in
          front_dead g image (block_of g p) (blank (block_of g p) low).front p refl

  magic : (block : ℕ) → block < g.blocks → has_magic g image block ≡ true
  unfolding has_magic
  magic block low = eq-eqb _ _ (stands_blank g block image (blank block low)).magic

  free_entry : (p : ℕ) → is_entry_page g p ≡ true → is_free_entry g image p ≡ true
  unfolding is_free_block
  free_entry p page =
      let low = block_number g p (page_number g p page) in
      let w = entry_of_block g p page in
      let all = (and_parts _ _ (all_free (block_of g p) low)).1 in
      all-at (λ (q : ℕ). is_free_entry g image q) _ _ all p w.0 w.1

  tidy : IsTidy g image
  tidy = record {
    magic = magic;
    entries = λ p page. inr (inl (free_entry p page));
    undamaged = damaged_none g image none_live;
    unmixed = λ p q x y live other same. let none = none_live p in absurd (cc);
  }

  reserve : 2 ≤ free_blocks g image
  unfolding free_blocks
  reserve =
      let all = all_pass (λ (block : ℕ). is_free_block g image block) 0 g.blocks (λ q low high. all_free q (omega (arith, high))) in
      omega (arith, all, g.valid.some_blocks)

  pub table : table_of g image ≡ []
  table = table_none g image none_live

pub formatted : (g : Geometry) (was now : List ℕ) → g.blocks * g.block ≤ length was → BlankTo g g.blocks was now → IsFormatted g was now
formatted g was now fits all =
    let is : IsImage g now = record { len = omega (arith, fits, all.size) } in
    record {
      size = all.size;
      blank = all.blank;
      beyond = all.behind;
      free = all_free g now all.blank is;
      counts = all_counts g now all.blank is;
      table = table g now all.blank is;
      tidy = tidy g now all.blank is;
      reserve = reserve g now all.blank is;
    }
