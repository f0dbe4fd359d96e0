-- Images that cleanings give back their reserve.
use Rattle.std.proofs.Common.{◌≡◌, ◌≢◌, ℕ, zero, suc, ◌<◌, ◌≤◌, ◌⊎◌, List, [], ◌∷◌, length, true, false, slice_index_or, refl, sym, ◌∙◌, ap, arith, ⊎_elim}
use Rattle.std.specs.Prelude.{Contains}
use Rattle.std.proofs.lemmas.List.FromFn.{length-map-range_with_len, get_or-map-range_with_len}
use Rattle.geometry.specs.declared.geometry.Geometry.{Geometry}
use Rattle.geometry.specs.Numbers.{entries}
use Rattle.image_model.specs.Places.{IsImage}
use Rattle.image_model.specs.Tables.{table_of}
use Rattle.image_model.specs.Tidy.{IsTidy, is_free_block, free_blocks}
use Rattle.image_model.specs.Collect.{is_worth}
use Rattle.image_model.specs.Kinds.{is_data_block}
use Rattle.room_laws.specs.Counts.{Counts, Kind, unused, for_index, for_data, kind_of}
use Rattle.room_laws.specs.Volume.{WorthAs, Worth}
use Rattle.room_laws.specs.Bounds.{Bound}
use Rattle.room_laws.specs.Mending.{strong}
use Rattle.room_laws.specs.Cut.{CutIndex, CutData}
use Rattle.room_laws.specs.Order.{without, Rearranged}
use Rattle.room_laws.specs.Counting.{block_counts, counts_of}
use Rattle.room_laws.specs.Stopping.{CanClean}
use Rattle.room_laws.specs.Mends.{CanMend, CleanMends, MendedHasReserve}
use Rattle.room_laws.proofs.Cuts.{cut_mends, own_kind-free, other_kind-free}
use Rattle.room_laws.proofs.TwosFree.{two_cut_mends}
use Rattle.room_laws.specs.TwoFree.{HasSpare}
use Rattle.room_laws.specs.Recovery.{HasSpareEntries}
use Rattle.room_laws.proofs.ThreesFree.{three_cut_mends}
use Rattle.room_laws.proofs.Orders.{stopped_mended, mending_rearranged, blocks-same, free-same, beside-same, index-same}
use Rattle.room_laws.proofs.Blocks.{Told, told_free, told_index, told_data, told}
use Rattle.room_laws.proofs.Tallies.{tidy_counts_tell, tidy_is_volume, deleted_counted, free_counted}
use Rattle.room_laws.proofs.Judged.{worth_is_tested}
use Rattle.room_laws.proofs.Chosen.{none_is_candidate}
use Rattle.room_laws.proofs.Stops.{bound_to, candidate_of}
use Rattle.room_laws.proofs.Besides.{others_of, front, front_volume, OthersTell, others_tell}

-- ---- sorts of blocks

pub data_kind : (g : Geometry) (image : List ℕ) (block : ℕ) → Told g image block → kind_of (block_counts g image block) ≡ for_data → is_data_block g image block ≡ true
data_kind g image block (told_free f d j k i p x) kind = absurd (let bad : unused ≡ for_data = sym k ∙ kind in cc)
data_kind g image block (told_index f d k p) kind = absurd (let bad : for_index ≡ for_data = sym k ∙ kind in cc)
data_kind g image block (told_data f d j k i) kind = d

-- ---- images that mend

pub clean_mends : (g : Geometry) → CleanMends g
clean_mends g image c = record {
  image_is = c.image_is;
  tidy = c.tidy;
  mending = strong (bound_to g image c.tidy c.image_is c.bound) (omega (arith, c.some, (tidy_counts_tell g image c.tidy).unused_blocks));
}

pub mended_has_reserve : (g : Geometry) → MendedHasReserve g
mended_has_reserve g image m none =
    let two = stopped_mended (entries g) (counts_of g image) (tidy_is_volume g image m.tidy) m.mending
    (λ c at worth fits. let b = candidate_of g image m.tidy c at worth fits in none_is_candidate g image b.0 none b.1) in
    omega (arith, two, (tidy_counts_tell g image m.tidy).unused_blocks)

-- ---- cuts

-- a block that is worth cleaning is so in any order
worth_back : (a b : List Counts) (c : Counts) → Rearranged a b → Worth b c → Worth a c
worth_back a b c r = by_kind (kind_of c)
  where
    by_kind : (k : Kind) → WorthAs k b c → WorthAs k a c
    by_kind unused w = w
    by_kind for_index w = rw (beside-same a b r) w
    by_kind for_data w = rw (free-same for_data a b r) w

-- another block is among the others
without_has : (v : List Counts) (i k : ℕ) (c : Counts) → k < length v → (k ≡ i → ⊥) → slice_index_or v k c ≡ c → Contains (without i v) c
without_has [] i k c low out at = absurd (omega (arith, low))
without_has (x ∷ v) zero zero c low out at = absurd (out refl)
without_has (x ∷ v) zero (suc k) c low out at = (k, omega (arith, low), at)
without_has (x ∷ v) (suc i) zero c low out at = (0, omega arith, at)
without_has (x ∷ v) (suc i) (suc k) c low out at = let w = without_has v i k c (omega (arith, low)) (λ e. out (ap suc e)) at in (suc w.0, omega (arith, w.1), w.2)

pub other_has : (g : Geometry) (image : List ℕ) (block other : ℕ) → other < g.blocks → other ≢ block → Contains (others_of g image block) (block_counts g image other)
unfolding counts_of
other_has g image block other low out =
    let size = length-map-range_with_len (block_counts g image) 0 g.blocks in
    without_has (counts_of g image) block other (block_counts g image other) (omega (arith, size, low)) out
    (get_or-map-range_with_len (block_counts g image) 0 g.blocks other other (block_counts g image other) low (omega arith))

module _ (g : Geometry) (was now : List ℕ) (block : ℕ) (can : CanClean g was) (is : IsImage g now) (low : block < g.blocks) (t : IsTidy g now) (table : table_of g now ≡ table_of g was) where
  o : OthersTell g was block
  o = others_tell g was block can.tidy low

  o' : OthersTell g now block
  o' = others_tell g now block t low

  pub front_bound : Bound (entries g) (block_counts g was block ∷ others_of g was block)
  front_bound =
      let f = front g was block low in
      let bound = bound_to g was can.tidy can.image_is can.bound in
      rw (index-same (block_counts g was block ∷ others_of g was block) (counts_of g was) f) (omega (arith, bound, blocks-same for_data (block_counts g was block ∷ others_of g was block) (counts_of g was) f, f.long))

  front_worth : is_worth g was block ≡ true → Worth (block_counts g was block ∷ others_of g was block) (block_counts g was block)
  front_worth worth = worth_back (block_counts g was block ∷ others_of g was block) (counts_of g was) (block_counts g was block) (front g was block low) ((worth_is_tested g was block can.tidy low).0 worth)

  -- entries to spare are so by the counts
  front_spare : kind_of (block_counts g was block) ≡ for_data → HasSpareEntries g was block → HasSpare (block_counts g was block) (others_of g was block)
  front_spare kind some =
      let f = front g was block low in
      let tell = tidy_counts_tell g was can.tidy in
      let pages = own_kind-free for_data (block_counts g was block) (others_of g was block) (rw kind refl) in
      let index = other_kind-free for_index (block_counts g was block) (others_of g was block) (rw kind refl) in
      let p = free-same for_data (block_counts g was block ∷ others_of g was block) (counts_of g was) f in
      let i = free-same for_index (block_counts g was block ∷ others_of g was block) (counts_of g was) f in
      record {
        pages = omega (arith, pages, p, tell.data_free, some.pages, deleted_counted g was block);
        index = omega (arith, index, i, tell.index_free, some.index, deleted_counted g was block, free_counted g was block);
      }

  -- what is cut to mends, whatever was cleaned
  pub mends : is_free_block g was block ≡ false → (kind_of (block_counts g was block) ≡ for_data → 2 ≤ free_blocks g was) →
      (is_worth g was block ≡ true) ⊎ (3 ≤ free_blocks g was) ⊎ ((2 ≤ free_blocks g was) × (is_data_block g was block ≡ true → HasSpareEntries g was block)) →
      CutIndex (entries g) (block_counts g was block) (others_of g was block) (block_counts g now block) (others_of g now block)
      ⊎ CutData (entries g) (block_counts g was block) (others_of g was block) (block_counts g now block) (others_of g now block) → CanMend g now
  mends used two gains cut =
      let free = rw used at o.unused_blocks in
      let m = ⊎_elim
      (λ (worth : is_worth g was block ≡ true). cut_mends (entries g) (block_counts g was block) (others_of g was block) (block_counts g now block) (others_of g now block)
      (front_volume g was block low can.tidy) (front_volume g now block low t) (omega (arith, o.long, o'.long)) front_bound (omega (arith, free, can.some)) (λ kind. omega (arith, free, two kind)) (front_worth worth) cut)
      (⊎_elim
      (λ (three : 3 ≤ free_blocks g was). three_cut_mends (entries g) (block_counts g was block) (others_of g was block) (block_counts g now block) (others_of g now block)
      (front_volume g was block low can.tidy) (front_volume g now block low t) (omega (arith, o.long, o'.long)) (omega (arith, free, three)) cut)
      (λ (pair : (2 ≤ free_blocks g was) × (is_data_block g was block ≡ true → HasSpareEntries g was block)).
      two_cut_mends (entries g) (block_counts g was block) (others_of g was block) (block_counts g now block) (others_of g now block)
      (front_volume g was block low can.tidy) (front_volume g now block low t) (omega (arith, o.long, o'.long)) (omega (arith, free, pair.0))
      (λ kind. front_spare kind (pair.1 (data_kind g was block (told g was can.tidy block low) kind))) cut))
      gains in
      record { image_is = is; tidy = t; mending = mending_rearranged (entries g) (block_counts g now block ∷ others_of g now block) (counts_of g now) (front g now block low) m }
