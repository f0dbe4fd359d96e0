-- Where collection stops, by the counts of an image.
use Rattle.std.proofs.Common.{◌≡◌, ℕ, ◌+◌, ◌-◌, ◌*◌, ◌<◌, ◌≤◌, ◌^◌, List, length, Bool, true, false, not, ◌&&◌, refl, sym, ◌∙◌, subst, arith, ⊎_elim}
use Rattle.std.specs.Prelude.{Contains}
use Rattle.std.specs.List.{range_with_len, list_any}
use Rattle.std.proofs.Math.Nat.{mul-le-mul, mul-le-mul_left, mul-le-mul_right}
use Rattle.std.proofs.lemmas.Bool.{cases_Bool, cases_lt, and_from, and_parts, or_left, lt-ltb, le-ltb, false_from_ne_true}
use Rattle.std.proofs.lemmas.List.FromFn.{length-map-range_with_len, get_or-map-range_with_len}
use Rattle.geometry.proofs.Bounds.{few_pages, some_entries}
use Rattle.geometry.specs.declared.geometry.Geometry.{Geometry}
use Rattle.table_model.specs.Room.{index_count, data_count}
use Rattle.geometry.specs.Numbers.{per_block, lookups, entries}
use Rattle.image_model.specs.Places.{IsImage}
use Rattle.image_model.specs.Tables.{table_of}
use Rattle.image_model.specs.Tidy.{IsTidy, free_blocks, HasReserve}
use Rattle.image_model.specs.Kinds.{is_data_block}
use Rattle.image_model.specs.Collect.{deleted_in, is_worth, is_fitting, is_stuck}
use Rattle.image_laws.proofs.BlockCounts.{reserve-room}
use Rattle.image_laws.proofs.Damaged.{any_at, any_from}
use Rattle.image_laws.proofs.Serving.{ceil-mono}
use Rattle.image_laws.proofs.Tally.{tidy-counts}
use Rattle.room_laws.specs.Counts.{Counts, unused, for_index, for_data, kind_of}
use Rattle.room_laws.specs.Volume.{blocks_of, deleted_of, index_total, pages_total, Worth, Fits}
use Rattle.room_laws.specs.Bounds.{Bound}
use Rattle.room_laws.specs.Packing.{NoneWorth, Packed, RoomFor}
use Rattle.room_laws.specs.Measure.{digits, measure}
use Rattle.room_laws.specs.Counting.{block_counts, counts_of}
use Rattle.room_laws.specs.Choosing.{IsCandidate}
use Rattle.room_laws.specs.Stopping.{HasBound, HasRoomFor, gc_measure, CanClean, ReserveCanClean, MeasureIsSmall, ReserveFitsEach, LastFreeIsPlain, StoppedHasReserve, StoppedHasNoWorth, NeverStuck, StoppedHasPages, HadNeedsRoom, NoWorthIsPacked, UnstuckHasNoWorth, UnstuckHasPages}
use Rattle.room_laws.proofs.Totals.{sums}
use Rattle.room_laws.proofs.Bounding.{reserve_fits, last_free_fits}
use Rattle.room_laws.proofs.Packings.{none_worth_packed, had_room, stopped_had}
use Rattle.room_laws.proofs.Blocks.{Told, told_free, told_index, told_data, told}
use Rattle.room_laws.proofs.Tallies.{entries_pos, tidy_counts_tell, tidy_is_volume}
use Rattle.room_laws.proofs.Judged.{worth_is_tested, fits_is_tested, had_is_tested}
use Rattle.room_laws.proofs.Chosen.{none_is_candidate, chosen_is_plain}
use Rattle.room_laws.proofs.Blocks.{block_in}

-- a block for index pages by its counts holds no data page
plain_kind : (g : Geometry) (image : List ℕ) (block : ℕ) → Told g image block → kind_of (block_counts g image block) ≡ for_index → is_data_block g image block ≡ false
plain_kind g image block (told_free f d j k i p x) kind = d
plain_kind g image block (told_index f d k p) kind = d
plain_kind g image block (told_data f d j k i) kind = absurd (let bad : for_data ≡ for_index = sym k ∙ kind in cc)

-- counts among those of an image are those of a block
pub block_of_counts : (g : Geometry) (image : List ℕ) (c : Counts) → Contains (counts_of g image) c → (block : ℕ) × (block < g.blocks) × (block_counts g image block ≡ c)
unfolding counts_of
block_of_counts g image c (k, low, is) =
    let size = length-map-range_with_len (block_counts g image) 0 g.blocks in
    let within : k < g.blocks = omega (arith, size, low) in
    (k, within, sym (get_or-map-range_with_len (block_counts g image) 0 g.blocks k k c within (omega arith)) ∙ is)

module _ (g : Geometry) (image : List ℕ) (t : IsTidy g image) where
  -- a candidate by the counts is one of the image
  pub candidate_of : (c : Counts) → Contains (counts_of g image) c → Worth (counts_of g image) c → Fits (entries g) (counts_of g image) c → (block : ℕ) × IsCandidate g image block × (block_counts g image block ≡ c)
  candidate_of c at worth fits =
      let b = block_of_counts g image c at in
      let w = (worth_is_tested g image b.0 t b.1).1 (subst (λ (d : Counts). Worth (counts_of g image) d) (sym b.2) worth) in
      let f = (fits_is_tested g image b.0 t b.1).1 (subst (λ (d : Counts). Fits (entries g) (counts_of g image) d) (sym b.2) fits) in
      (b.0, record { within = b.1; worth = w; fits = f }, b.2)

  module _ (is : IsImage g image) where
    index_are : index_total (counts_of g image) ≡ index_count g (table_of g image)
    index_are = (tidy_counts_tell g image t).index ∙ (tidy-counts g image is t).0

    pages_are : pages_total (counts_of g image) ≡ data_count g (table_of g image)
    pages_are = (tidy_counts_tell g image t).pages ∙ (tidy-counts g image is t).1

    pub bound_to : HasBound g image → Bound (entries g) (counts_of g image)
    bound_to bound = rw index_are (omega (arith, bound, (tidy_counts_tell g image t).data_blocks_are, (tidy_counts_tell g image t).blocks))

    pub bound_from : Bound (entries g) (counts_of g image) → HasBound g image
    bound_from bound = let b = rw index_are at bound in omega (arith, b, (tidy_counts_tell g image t).data_blocks_are, (tidy_counts_tell g image t).blocks)

    room_to : (i d : ℕ) → HasRoomFor g image i d → RoomFor (entries g) (counts_of g image) i d
    room_to i d room = rw (index_are, pages_are) (omega (arith, room, (tidy_counts_tell g image t).blocks))

    room_from : (i d : ℕ) → RoomFor (entries g) (counts_of g image) i d → HasRoomFor g image i d
    room_from i d room = let r = rw (index_are, pages_are) at room in omega (arith, r, (tidy_counts_tell g image t).blocks)

pub reserve_can_clean : (g : Geometry) → ReserveCanClean g
reserve_can_clean g image is t two = record { image_is = is; tidy = t; some = omega (arith, two); bound = reserve-room g image is t two }

pub reserve_fits_each : (g : Geometry) → ReserveFitsEach g
reserve_fits_each g image block t two low =
    (fits_is_tested g image block t low).1
    (reserve_fits (entries g) (counts_of g image) (tidy_is_volume g image t) (omega (arith, two, (tidy_counts_tell g image t).unused_blocks)) (block_counts g image block) (block_in g image block low))

-- with one free block a block without live data pages is worth cleaning and fits
last_plain : (g : Geometry) (image : List ℕ) → CanClean g image → free_blocks g image < 2 → (block : ℕ) × IsCandidate g image block × (is_data_block g image block ≡ false)
last_plain g image can few =
    let r = last_free_fits (entries g) (counts_of g image) (tidy_is_volume g image can.tidy) (omega (arith, few, can.some, (tidy_counts_tell g image can.tidy).unused_blocks)) (bound_to g image can.tidy can.image_is can.bound) in
    let b = candidate_of g image can.tidy r.0 r.1 r.3 r.4 in
    (b.0, b.1, plain_kind g image b.0 (told g image can.tidy b.0 b.1.within) (rw b.2 r.2))

pub last_free_is_plain : (g : Geometry) → LastFreeIsPlain g
last_free_is_plain g image block can few chosen = let r = last_plain g image can few in chosen_is_plain g image block r.0 chosen few r.1 r.2

pub stopped_has_reserve : (g : Geometry) → StoppedHasReserve g
stopped_has_reserve g image can none = ⊎_elim
    (λ (few : free_blocks g image < 2). let r = last_plain g image can few in absurd (none_is_candidate g image r.0 none r.1))
    (λ (enough : 2 ≤ free_blocks g image). enough)
    (cases_lt (free_blocks g image) 2)

pub stopped_has_no_worth : (g : Geometry) → StoppedHasNoWorth g
stopped_has_no_worth g image block can none low = false_from_ne_true _ (λ worth.
    none_is_candidate g image block none (record { within = low; worth = worth; fits = reserve_fits_each g image block can.tidy (stopped_has_reserve g image can none) low }))

pub never_stuck : (g : Geometry) → NeverStuck g
unfolding is_stuck
never_stuck g image can = ⊎_elim
    (λ (few : free_blocks g image < 2).
    let r = last_plain g image can few in
    let some = any_from (λ block. is_worth g image block && is_fitting g image block) 0 g.blocks r.0 (omega arith) (omega (arith, r.1.within)) (and_from _ _ r.1.worth r.1.fits) in
    rw (some, lt-ltb (free_blocks g image) 2 few) (and_false (list_any (λ block. is_worth g image block) (range_with_len 0 g.blocks))))
    (λ (enough : 2 ≤ free_blocks g image). rw (le-ltb (free_blocks g image) 2 enough) refl)
    (cases_lt (free_blocks g image) 2)
  where
    and_false : (b : Bool) → (true && b && not true) ≡ false
    and_false true = refl
    and_false false = refl

pub stopped_has_pages : (g : Geometry) → StoppedHasPages g
stopped_has_pages g image i d can room none =
    (had_is_tested g image i d can.tidy).1
    (stopped_had (entries g) (counts_of g image) i d (tidy_is_volume g image can.tidy) (omega (arith, can.some, (tidy_counts_tell g image can.tidy).unused_blocks)) (bound_to g image can.tidy can.image_is can.bound) (room_to g image can.tidy can.image_is i d room)
    (λ c at worth fits. let b = candidate_of g image can.tidy c at worth fits in none_is_candidate g image b.0 none b.1)).1

pub had_needs_room : (g : Geometry) → HadNeedsRoom g
had_needs_room g image i d is t two had =
    room_from g image t is i d
    (had_room (entries g) (counts_of g image) i d (tidy_is_volume g image t) (omega (arith, two, (tidy_counts_tell g image t).unused_blocks)) ((had_is_tested g image i d t).0 had))

-- ---- whatever is free

module _ (g : Geometry) (image : List ℕ) (t : IsTidy g image) (none : (block : ℕ) → block < g.blocks → is_worth g image block ≡ false) where
  none_worth : NoneWorth (counts_of g image)
  none_worth c at worth =
      let b = block_of_counts g image c at in
      let w = (worth_is_tested g image b.0 t b.1).1 (subst (λ (d : Counts). Worth (counts_of g image) d) (sym b.2) worth) in
      let bad : true ≡ false = sym w ∙ none b.0 b.1 in absurd (cc)

  packed : Packed (entries g) (counts_of g image)
  packed = none_worth_packed (entries g) (counts_of g image) (tidy_is_volume g image t) none_worth

  -- a block with a deleted entry is worth cleaning
  none_deleted : (block : ℕ) → block < g.blocks → deleted_in g image block ≡ 0
  unfolding is_worth
  none_deleted block low = ⊎_elim
      (λ (some : 0 < deleted_in g image block). let worth = or_left _ _ (lt-ltb 0 (deleted_in g image block) some) in let bad : true ≡ false = sym worth ∙ none block low in absurd (cc))
      (λ (few : deleted_in g image block ≤ 0). omega arith)
      (cases_lt 0 (deleted_in g image block))

pub no_worth_is_packed : (g : Geometry) → NoWorthIsPacked g
no_worth_is_packed g image is t none =
    let p = packed g image t none in
    let s = tidy_counts_tell g image t in
    record {
      deleted = none_deleted g image t none;
      index = sym s.index_blocks ∙ p.index ∙ (rw (index_are g image t is) refl);
      pages = sym s.data_blocks_are ∙ p.pages ∙ (rw (pages_are g image t is) refl);
    }

pub unstuck_has_no_worth : (g : Geometry) → UnstuckHasNoWorth g
unfolding is_stuck
unstuck_has_no_worth g image block t none free low = ⊎_elim
    (λ (few : free_blocks g image < 2). false_from_ne_true _ (λ worth.
    let some = any_from (λ block. is_worth g image block) 0 g.blocks block (omega arith) (omega (arith, low)) worth in
    let stuck = rw (lt-ltb (free_blocks g image) 2 few, some) at free in
    let found : list_any (λ block. is_worth g image block && is_fitting g image block) (range_with_len 0 g.blocks) ≡ true = ⊎_elim
    (λ (yes : list_any (λ block. is_worth g image block && is_fitting g image block) (range_with_len 0 g.blocks) ≡ true). yes)
    (λ (no : list_any (λ block. is_worth g image block && is_fitting g image block) (range_with_len 0 g.blocks) ≡ false). let bad : true ≡ false = rw no at stuck in absurd (cc))
    (cases_Bool (list_any (λ block. is_worth g image block && is_fitting g image block) (range_with_len 0 g.blocks))) in
    let w = any_at (λ block. is_worth g image block && is_fitting g image block) 0 g.blocks found in
    let both = and_parts _ _ w.3 in
    none_is_candidate g image w.0 none (record { within = omega (arith, w.2); worth = both.0; fits = both.1 })))
    (λ (enough : 2 ≤ free_blocks g image). false_from_ne_true _ (λ worth.
    none_is_candidate g image block none (record { within = low; worth = worth; fits = reserve_fits_each g image block t enough low })))
    (cases_lt (free_blocks g image) 2)

pub unstuck_has_pages : (g : Geometry) → UnstuckHasPages g
unstuck_has_pages g image i d is t none free room =
    let p = packed g image t (λ block low. unstuck_has_no_worth g image block t none free low) in
    let s = sums (entries g) (counts_of g image) (tidy_is_volume g image t).blocks in
    let r = room_to g image t is i d room in
    let index = ceil-mono (index_total (counts_of g image)) (index_total (counts_of g image) + i) (entries g) (entries_pos g) (omega arith) in
    let pages = ceil-mono (pages_total (counts_of g image)) (pages_total (counts_of g image) + d) (entries g) (entries_pos g) (omega arith) in
    let two : 2 ≤ blocks_of unused (counts_of g image) = omega (arith, s.all, p.index, p.pages, r, index, pages) in
    let reserve : HasReserve g image = omega (arith, two, (tidy_counts_tell g image t).unused_blocks) in
    (reserve, stopped_has_pages g image i d (reserve_can_clean g image is t reserve) room none)

-- ---- the measure is below the greatest number of 64 bits

digits_less : (m x y z w : ℕ) → x < m → y < m → z < m → w < m → digits m x y z w < m * m * m * m
digits_less m x y z w a b c d =
    let p : (x + 1) * m ≤ m * m = mul-le-mul_right m (omega arith) in
    let q : (x * m + y + 1) * m ≤ m * m * m = mul-le-mul_right m (omega (arith, p)) in
    let r : ((x * m + y) * m + z + 1) * m ≤ m * m * m * m = mul-le-mul_right m (omega (arith, q)) in
    omega (arith, r)

power_most : (m : ℕ) → m ≤ 65533 → m * m * m * m < 2 ^ 64 - 1
power_most m le =
    let a : m * m ≤ 65533 * 65533 = mul-le-mul le le in
    let b : m * m * m ≤ 65533 * 65533 * 65533 = mul-le-mul a le in
    let c : m * m * m * m ≤ 65533 * 65533 * 65533 * 65533 = mul-le-mul b le in
    omega (arith, c)

-- each block has a lookup page, and there are three blocks
entries_most : (g : Geometry) → g.blocks * entries g ≤ 65532
unfolding entries per_block lookups
entries_most g =
    let m : g.blocks * (per_block g - lookups g + 1) ≤ g.blocks * per_block g = mul-le-mul_left g.blocks (omega (arith, some_entries g)) in
    omega (arith, m, few_pages g, g.valid.some_blocks)

pub measure_is_small : (g : Geometry) → MeasureIsSmall g
unfolding gc_measure measure
measure_is_small g image t =
    let v = tidy_is_volume g image t in
    let s = sums (entries g) (counts_of g image) v.blocks in
    let tell = tidy_counts_tell g image t in
    let few = entries_most g in
    let same : length (counts_of g image) * entries g ≡ g.blocks * entries g = rw tell.blocks refl in
    let pages : blocks_of for_data (counts_of g image) * entries g ≤ length (counts_of g image) * entries g = mul-le-mul_right (entries g) (omega (arith, s.all)) in
    let index : blocks_of for_index (counts_of g image) * entries g ≤ length (counts_of g image) * entries g = mul-le-mul_right (entries g) (omega (arith, s.all)) in
    let long : length (counts_of g image) * 1 ≤ length (counts_of g image) * entries g = mul-le-mul_left (length (counts_of g image)) v.entries in
    let less = digits_less (length (counts_of g image) * entries g + 1) (deleted_of for_data (counts_of g image)) (blocks_of for_data (counts_of g image)) (deleted_of for_index (counts_of g image)) (blocks_of for_index (counts_of g image))
    (omega (arith, s.pages, pages)) (omega (arith, s.all, long)) (omega (arith, s.index, index)) (omega (arith, s.all, long)) in
    let most = power_most (length (counts_of g image) * entries g + 1) (omega (arith, same, few)) in
    omega (arith, less, most)
