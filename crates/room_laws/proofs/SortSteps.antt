-- Steps out of a block, by what entries count as.
use Rattle.std.proofs.Common.{◌≡◌, ◌≢◌, ℕ, ◌+◌, ◌<◌, List, true, sym, ◌∙◌, ap, subst, arith, slice_set}
use Rattle.std.specs.Prelude.{All}
use Rattle.geometry.specs.declared.geometry.Geometry.{Geometry}
use Rattle.geometry.specs.Numbers.{entries}
use Rattle.image_model.specs.Places.{block_of, is_entry_page}
use Rattle.image_model.specs.Within.{page_number, block_number}
use Rattle.room_laws.specs.Counts.{Counts, IsBlock, Kind, for_index, for_data, kind_of}
use Rattle.room_laws.specs.Steps.{placed, killed}
use Rattle.room_laws.specs.Order.{without}
use Rattle.room_laws.specs.Leaving.{Emptying, page_killed}
use Rattle.room_laws.specs.Losing.{spoiled}
use Rattle.room_laws.specs.Sorts.{Sort, Index, Data, Deleted, Free, sort_at, counts_by, all_by, others_by, beside, with_sort, StandsBeside, IsPlaceBy}
use Rattle.room_laws.specs.Recovery.{EmptyingTo}
use Rattle.room_laws.proofs.Totals.{Seen, is_unused, is_index, is_data, seen}
use Rattle.room_laws.proofs.Moves.{block-of, reached_start, reached_index}
use Rattle.room_laws.proofs.Tallies.{entries_pos}
use Rattle.room_laws.proofs.Leaves.{index_leaves, page_leaves, index_renewed}
use Rattle.room_laws.proofs.Sorted.{same-block, map-set, set-out, with-there, sorts_change, sorts_are_counted, other_sorts_stay, sorts_at_block, sorts_beside, blocks_beside, place_can_put}

pub emptying_at : (e : ℕ) (c : Counts) (r : List Counts) (d d' : Counts) (s s' : List Counts) (n : ℕ) → d ≡ d' → s ≡ s' → Emptying e c r d' s' n → Emptying e c r d s n
emptying_at e c r d d' s s' n x y was = rw (x, y) was

module _ (g : Geometry) (block : ℕ) (low : block < g.blocks) where
  -- ---- what sorts outside the block tell

  pub others_alike : (a b : ℕ → Sort) → ((p : ℕ) → is_entry_page g p ≡ true → block_of g p ≢ block → b p ≡ a p) → others_by g b block ≡ others_by g a block
  unfolding all_by
  others_alike a b same =
      ap (without block) (map-set (counts_by g a) (counts_by g b) 0 g.blocks block low (λ c from to out. same-block g a b c (omega arith) (λ p page at. same p page (λ e.
      let here : c ≡ block = sym at ∙ e in out (omega (arith, here))))))
      ∙ set-out (all_by g a) block (counts_by g b (0 + block))

  pub other_alike : (a b : ℕ → Sort) (other : ℕ) → other < g.blocks → other ≢ block → ((p : ℕ) → is_entry_page g p ≡ true → block_of g p ≢ block → b p ≡ a p) → counts_by g b other ≡ counts_by g a other
  other_alike a b other there out same = same-block g a b other there (λ p page at. same p page (λ e. out (sym at ∙ e)))

  pub place_alike : (a b : ℕ → Sort) (k : Kind) (to : ℕ) → ((p : ℕ) → is_entry_page g p ≡ true → block_of g p ≢ block → b p ≡ a p) → IsPlaceBy g a block k to → IsPlaceBy g b block k to
  place_alike a b k to same place =
      let there = other_alike a b (block_of g to) (block_number g to (page_number g to place.entry)) place.apart same in
      let others = others_alike a b same in
      record { entry = place.entry; apart = place.apart; free = same to place.entry place.apart ∙ place.free; rule = rw (there, others) place.rule }

  -- ---- one changed sort

  pub own_stays : (sorts : ℕ → Sort) (x : Sort) (to : ℕ) → is_entry_page g to ≡ true → block_of g to ≢ block → counts_by g (with_sort to x sorts) block ≡ counts_by g sorts block
  own_stays sorts x to page out = other_sorts_stay g sorts x to block page low out

  pub others_stay : (sorts : ℕ → Sort) (x : Sort) (from : ℕ) → is_entry_page g from ≡ true → block_of g from ≡ block → others_by g (with_sort from x sorts) block ≡ others_by g sorts block
  others_stay sorts x from page at = subst (λ (b : ℕ). others_by g (with_sort from x sorts) b ≡ others_by g sorts b) at (sorts_at_block g sorts x from page)

  pub index_killed : (sorts : ℕ → Sort) (from : ℕ) → is_entry_page g from ≡ true → block_of g from ≡ block → sorts from ≡ Index → counts_by g (with_sort from Deleted sorts) block ≡ killed (counts_by g sorts block)
  index_killed sorts from page at was = subst (λ (b : ℕ). counts_by g (with_sort from Deleted sorts) b ≡ killed (counts_by g sorts b)) at ((sorts_change g sorts from page).kill_index was)

  pub data_killed : (sorts : ℕ → Sort) (from : ℕ) → is_entry_page g from ≡ true → block_of g from ≡ block → sorts from ≡ Data → counts_by g (with_sort from Deleted sorts) block ≡ page_killed (counts_by g sorts block)
  data_killed sorts from page at was = subst (λ (b : ℕ). counts_by g (with_sort from Deleted sorts) b ≡ page_killed (counts_by g sorts b)) at ((sorts_change g sorts from page).kill_data was)

  pub index_put : (sorts : ℕ → Sort) (to : ℕ) → is_entry_page g to ≡ true → block_of g to ≢ block → sorts to ≡ Free →
      others_by g (with_sort to Index sorts) block ≡ slice_set (others_by g sorts block) (beside block (block_of g to)) (placed for_index (counts_by g sorts (block_of g to)))
  index_put sorts to page out free = sorts_beside g sorts Index to block page low out ∙ ap (slice_set (others_by g sorts block) (beside block (block_of g to))) ((sorts_change g sorts to page).put_index free)

  pub data_put : (sorts : ℕ → Sort) (to : ℕ) → is_entry_page g to ≡ true → block_of g to ≢ block → sorts to ≡ Free →
      others_by g (with_sort to Data sorts) block ≡ slice_set (others_by g sorts block) (beside block (block_of g to)) (placed for_data (counts_by g sorts (block_of g to)))
  data_put sorts to page out free = sorts_beside g sorts Data to block page low out ∙ ap (slice_set (others_by g sorts block) (beside block (block_of g to))) ((sorts_change g sorts to page).put_data free)

  pub entry_spoiled : (sorts : ℕ → Sort) (to : ℕ) → is_entry_page g to ≡ true → block_of g to ≢ block → sorts to ≡ Free →
      others_by g (with_sort to Deleted sorts) block ≡ slice_set (others_by g sorts block) (beside block (block_of g to)) (spoiled (counts_by g sorts (block_of g to)))
  entry_spoiled sorts to page out free = sorts_beside g sorts Deleted to block page low out ∙ ap (slice_set (others_by g sorts block) (beside block (block_of g to))) ((sorts_change g sorts to page).spoil free)

  -- a page leaves the block for one outside
  leaves_apart : (from to : ℕ) → block_of g from ≡ block → block_of g to ≢ block → from ≡ to → ⊥
  leaves_apart from to at out same = out (ap (λ (p : ℕ). block_of g p) (sym same) ∙ at)

  -- ---- what a page that leaves the block leaves of the counts

  pub index_out_is : (sorts : ℕ → Sort) (from to : ℕ) → is_entry_page g from ≡ true → block_of g from ≡ block → sorts from ≡ Index → IsPlaceBy g sorts block for_index to →
      (counts_by g (with_sort from Deleted (with_sort to Index sorts)) block ≡ killed (counts_by g sorts block))
      × (others_by g (with_sort from Deleted (with_sort to Index sorts)) block ≡ slice_set (others_by g sorts block) (beside block (block_of g to)) (placed for_index (counts_by g sorts (block_of g to))))
  index_out_is sorts from to page at sort place =
      let there : with_sort to Index sorts from ≡ Index = with-there sorts to from Index (leaves_apart from to at place.apart) ∙ sort in (
        index_killed (with_sort to Index sorts) from page at there ∙ ap killed (own_stays sorts Index to place.entry place.apart),
        others_stay (with_sort to Index sorts) Deleted from page at ∙ index_put sorts to place.entry place.apart place.free,
      )

  pub data_out_is : (sorts : ℕ → Sort) (from to : ℕ) → is_entry_page g from ≡ true → block_of g from ≡ block → sorts from ≡ Data → IsPlaceBy g sorts block for_data to →
      (counts_by g (with_sort from Deleted (with_sort to Data sorts)) block ≡ page_killed (counts_by g sorts block))
      × (others_by g (with_sort from Deleted (with_sort to Data sorts)) block ≡ slice_set (others_by g sorts block) (beside block (block_of g to)) (placed for_data (counts_by g sorts (block_of g to))))
  data_out_is sorts from to page at sort place =
      let there : with_sort to Data sorts from ≡ Data = with-there sorts to from Data (leaves_apart from to at place.apart) ∙ sort in (
        data_killed (with_sort to Data sorts) from page at there ∙ ap page_killed (own_stays sorts Data to place.entry place.apart),
        others_stay (with_sort to Data sorts) Deleted from page at ∙ data_put sorts to place.entry place.apart place.free,
      )

  pub index_in_own : (sorts : ℕ → Sort) (from : ℕ) → is_entry_page g from ≡ true → block_of g from ≡ block → sorts from ≡ Index → 0 < (counts_by g sorts block).index
  index_in_own sorts from page at sort = subst (λ (b : ℕ). 0 < (counts_by g sorts b).index) at ((sorts_are_counted g sorts from page).index sort)

  pub data_in_own : (sorts : ℕ → Sort) (from : ℕ) → is_entry_page g from ≡ true → block_of g from ≡ block → sorts from ≡ Data → 0 < (counts_by g sorts block).pages
  data_in_own sorts from page at sort = subst (λ (b : ℕ). 0 < (counts_by g sorts b).pages) at ((sorts_are_counted g sorts from page).pages sort)

  -- the kind of a block with an index page
  index_kind : (e : ℕ) (c : Counts) → 0 < c.index → Seen e c → kind_of c ≡ for_index
  index_kind e c some (is_unused k i p x) = absurd (omega (arith, some, i))
  index_kind e c some (is_index k p x w) = k
  index_kind e c some (is_data k i x w) = absurd (omega (arith, some, i))

  -- an index page of another block that is renewed
  pub record RenewedIs (sorts : ℕ → Sort) (from to : ℕ) : Type 0 where
    pub own : counts_by g (with_sort from Deleted (with_sort to Index sorts)) block ≡ counts_by g sorts block
    pub put : others_by g (with_sort to Index sorts) block ≡ slice_set (others_by g sorts block) (beside block (block_of g to)) (placed for_index (counts_by g sorts (block_of g to)))
    pub blocks : All (IsBlock (entries g)) (others_by g (with_sort to Index sorts) block)
    pub stands : StandsBeside g (with_sort to Index sorts) block (block_of g from)
    pub live : 0 < (counts_by g (with_sort to Index sorts) (block_of g from)).index
    pub kind : kind_of (counts_by g (with_sort to Index sorts) (block_of g from)) ≡ for_index
    pub others : others_by g (with_sort from Deleted (with_sort to Index sorts)) block
        ≡ slice_set (others_by g (with_sort to Index sorts) block) (beside block (block_of g from)) (killed (counts_by g (with_sort to Index sorts) (block_of g from)))

  pub renewed_is : (sorts : ℕ → Sort) (from to : ℕ) → All (IsBlock (entries g)) (others_by g sorts block) → is_entry_page g from ≡ true → block_of g from ≢ block → sorts from ≡ Index →
      IsPlaceBy g sorts block for_index to → RenewedIs sorts from to
  renewed_is sorts from to blocks page out sort place =
      let mid = with_sort to Index sorts in
      let apart : from ≡ to → ⊥ = λ e. let bad : Index ≡ Free = sym sort ∙ ap sorts e ∙ place.free in absurd (cc) in
      let there : mid from ≡ Index = with-there sorts to from Index apart ∙ sort in
      let stands = blocks_beside g mid block (block_of g from) low (block_number g from (page_number g from page)) out in
      let put = index_put sorts to place.entry place.apart place.free in
      let can = place_can_put g sorts block for_index to low place in
      let after = reached_index (entries g) (others_by g sorts block) (others_by g sorts block) 0 (beside block (block_of g to)) (counts_by g sorts (block_of g to)) (reached_start (entries g) (others_by g sorts block) blocks) can in
      let blocks' : All (IsBlock (entries g)) (others_by g mid block) = subst (λ (s : List Counts). All (IsBlock (entries g)) s) (sym put) after.blocks in
      let live = (sorts_are_counted g mid from page).index there in
      record {
        own = own_stays mid Deleted from page out ∙ own_stays sorts Index to place.entry place.apart;
        put = put;
        blocks = blocks';
        stands = stands;
        live = live;
        kind = index_kind (entries g) (counts_by g mid (block_of g from)) live
            (seen (entries g) (counts_by g mid (block_of g from)) (block-of (entries g) (others_by g mid block) (beside block (block_of g from)) (counts_by g mid (block_of g from)) blocks' stands.within stands.at));
        others = sorts_beside g mid Deleted from block page low out ∙ ap (slice_set (others_by g mid block) (beside block (block_of g from))) ((sorts_change g mid from page).kill_index there);
      }

  -- ---- pages that leave it

  module _ (first : List ℕ) where
    pub index_out : (sorts : ℕ → Sort) (carried from to : ℕ) → EmptyingTo g first block sorts carried → is_entry_page g from ≡ true → block_of g from ≡ block → sorts from ≡ Index →
        IsPlaceBy g sorts block for_index to → EmptyingTo g first block (with_sort from Deleted (with_sort to Index sorts)) carried
    index_out sorts carried from to was page at sort place =
        let is = index_out_is sorts from to page at sort place in
        emptying_at (entries g) (counts_by g (sort_at g first) block) (others_by g (sort_at g first) block)
        (counts_by g (with_sort from Deleted (with_sort to Index sorts)) block) (killed (counts_by g sorts block))
        (others_by g (with_sort from Deleted (with_sort to Index sorts)) block) (slice_set (others_by g sorts block) (beside block (block_of g to)) (placed for_index (counts_by g sorts (block_of g to)))) carried
        is.0 is.1
        (index_leaves (entries g) (counts_by g (sort_at g first) block) (others_by g (sort_at g first) block) (counts_by g sorts block) (others_by g sorts block) carried
        (beside block (block_of g to)) (counts_by g sorts (block_of g to)) (place_can_put g sorts block for_index to low place) (index_in_own sorts from page at sort) was)

    pub data_out : (sorts : ℕ → Sort) (carried from to : ℕ) → EmptyingTo g first block sorts carried → is_entry_page g from ≡ true → block_of g from ≡ block → sorts from ≡ Data →
        IsPlaceBy g sorts block for_data to → EmptyingTo g first block (with_sort from Deleted (with_sort to Data sorts)) (carried + 1)
    data_out sorts carried from to was page at sort place =
        let is = data_out_is sorts from to page at sort place in
        emptying_at (entries g) (counts_by g (sort_at g first) block) (others_by g (sort_at g first) block)
        (counts_by g (with_sort from Deleted (with_sort to Data sorts)) block) (page_killed (counts_by g sorts block))
        (others_by g (with_sort from Deleted (with_sort to Data sorts)) block) (slice_set (others_by g sorts block) (beside block (block_of g to)) (placed for_data (counts_by g sorts (block_of g to)))) (carried + 1)
        is.0 is.1
        (page_leaves (entries g) (counts_by g (sort_at g first) block) (others_by g (sort_at g first) block) (counts_by g sorts block) (others_by g sorts block) carried
        (beside block (block_of g to)) (counts_by g sorts (block_of g to)) (entries_pos g) (place_can_put g sorts block for_data to low place) (data_in_own sorts from page at sort) was)

    pub renewed_out : (sorts : ℕ → Sort) (carried from to : ℕ) → 0 < carried → EmptyingTo g first block sorts carried → is_entry_page g from ≡ true → block_of g from ≢ block → sorts from ≡ Index →
        IsPlaceBy g sorts block for_index to → EmptyingTo g first block (with_sort from Deleted (with_sort to Index sorts)) 0
    renewed_out sorts carried from to some was page out sort place =
        let is = renewed_is sorts from to was.reached.blocks page out sort place in
        emptying_at (entries g) (counts_by g (sort_at g first) block) (others_by g (sort_at g first) block)
        (counts_by g (with_sort from Deleted (with_sort to Index sorts)) block) (counts_by g sorts block)
        (others_by g (with_sort from Deleted (with_sort to Index sorts)) block)
        (slice_set (others_by g (with_sort to Index sorts) block) (beside block (block_of g from)) (killed (counts_by g (with_sort to Index sorts) (block_of g from)))) 0
        is.own is.others
        (index_renewed (entries g) (counts_by g (sort_at g first) block) (others_by g (sort_at g first) block) (counts_by g sorts block) (others_by g sorts block) (others_by g (with_sort to Index sorts) block) carried
        (beside block (block_of g to)) (beside block (block_of g from)) (counts_by g sorts (block_of g to)) (counts_by g (with_sort to Index sorts) (block_of g from)) some
        (place_can_put g sorts block for_index to low place) is.put is.stands.within is.stands.at is.kind is.live was)
