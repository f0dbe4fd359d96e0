-- Images with a batch on its way recover.
use Rattle.std.proofs.Common.{◌≡◌, ◌≢◌, ℕ, ◌+◌, ◌<◌, ◌≤◌, ◌⊎◌, List, [], ◌∷◌, length, max, true, Some, refl, sym, ◌∙◌, ap, subst, arith, ⊎_elim, inl, inr}
use Rattle.std.specs.Prelude.{All, Contains}
use Rattle.std.proofs.lemmas.Bool.{cases_eq}
use Rattle.geometry.specs.declared.geometry.Geometry.{Geometry}
use Rattle.geometry.specs.Numbers.{entries}
use Rattle.image_model.specs.Headers.{names_index}
use Rattle.image_model.specs.Places.{IsImage, block_of, is_entry_page}
use Rattle.image_model.specs.Live.{live_at}
use Rattle.image_model.specs.Tables.{table_of}
use Rattle.image_model.specs.Tidy.{IsTidy}
use Rattle.image_model.specs.Collect.{deleted_in, free_in}
use Rattle.image_model.specs.Within.{page_number, block_number}
use Rattle.image_laws.proofs.Frames.{live_parts}
use Rattle.room_laws.specs.Counts.{Counts, IsBlock, unused, for_index, for_data, kind_of}
use Rattle.room_laws.specs.Volume.{free_of}
use Rattle.room_laws.specs.Cut.{CutData}
use Rattle.room_laws.specs.Order.{without}
use Rattle.room_laws.specs.Losing.{LosesIndex}
use Rattle.room_laws.specs.Mends.{CanMend}
use Rattle.room_laws.specs.Sorts.{Sort, Index, Data, Deleted, Free, sort_at, counts_by, others_by, beside, with_sort, IsPlaceBy}
use Rattle.room_laws.specs.Staged.{IsStaged}
use Rattle.room_laws.specs.Ways.{Move, IsMove, AreMoves, IsNoPlace, IsAside, Came, Stayed, Resolves, IsNamedBy, IsBatch}
use Rattle.room_laws.specs.Recovery.{Recovers, MayCut, EmptyingTo, IsBetween, IsOnWay, with_data, ArePagesWay, batch_most, PagesWayMend, BatchWayMends}
use Rattle.room_laws.proofs.Moves.{kind-data}
use Rattle.room_laws.proofs.Tallies.{deleted_counted, free_counted}
use Rattle.room_laws.proofs.Loses.{StillData, still-data, reached-spoiled, pages_lost_are_cut, dead_is_cut}
use Rattle.room_laws.proofs.Sorted.{with-here, with-there, same-block, same_sorts, other_sorts_stay, place_can_put}
use Rattle.room_laws.proofs.SortSteps.{own_stays, place_alike, entry_spoiled, renewed_out}
use Rattle.room_laws.proofs.OnTheWay.{all_nil, all_cons, all_head, all_at, all_from, in_head, in_tail}
use Rattle.room_laws.proofs.Resolved.{way_resolves, batch_resolves, batch_stays, live_sort}
use Rattle.room_laws.proofs.Recovering.{own_by, volume_by, totals_by, low, cut_recovers, whole_recovers, same_emptying, still_mends}
use Rattle.room_laws.proofs.Batches.{IsOut, outs, moved, moved_aside, moved_same, moved_outside, all_out, Opening, inside, opened, opening, index_place_back, kinds_of}
use Rattle.room_laws.proofs.Spoiling.{staying, stay_same, free_same, others_equal, IsSpare, StayTells, stay_tells, lost, IsLostInData, HasDead, lost_or_dead, leaves_dead}

-- a page is one from which a move begins, or none begins at it
from_or : (ms : List Move) (p : ℕ) → ((m : Move) × Contains ms m × (p ≡ m.from)) ⊎ All (λ (m : Move). p ≢ m.from) ms
from_or [] p = inr (all_nil (λ (m : Move). p ≢ m.from))
from_or (m ∷ ms) p = ⊎_elim
    (λ (here : p ≡ m.from). inl (m, in_head m ms, here))
    (λ (away : p ≡ m.from → ⊥). ⊎_elim
    (λ (there : (n : Move) × Contains ms n × (p ≡ n.from)). inl (there.0, in_tail m there.0 ms there.1, there.2))
    (λ (none : All (λ (n : Move). p ≢ n.from) ms). inr (all_cons (λ (n : Move). p ≢ n.from) m ms away none))
    (from_or ms p))
    (cases_eq p m.from)

aside_by : (ms : List Move) (p : ℕ) → All (λ (m : Move). p ≢ m.from) ms → IsNoPlace ms p → IsAside ms p
aside_by ms p from to k m low = (from k m low, to k m low)

module _ (g : Geometry) (first was : List ℕ) (block : ℕ) (ms : List Move) (may : MayCut g first block) (between : IsBetween g first block was) (ways : ArePagesWay g block (sort_at g was) ms) (are : AreMoves g was ms)
    (some : 0 < length ms) (few : length ms ≤ batch_most g first block) (now : List ℕ) (is : IsImage g now) (t : IsTidy g now) (table : table_of g now ≡ table_of g first) where
  at : block < g.blocks
  at = low g first block may

  -- enough data pages are in the block for them
  pages_in : length ms ≤ (counts_by g (sort_at g was) block).pages
  pages_in = let o = all_out g block at was first ms are ways between.emptying in omega (arith, o.pages)

  kind : kind_of (counts_by g (sort_at g first) block) ≡ for_data
  kind = kind-data (counts_by g (sort_at g first) block) (omega (arith, pages_in, some, between.emptying.few))

  -- where all have stayed, from what entries count as without them
  module _ (base : ℕ → Sort) (own : counts_by g base block ≡ counts_by g (sort_at g was) block)
      (loses : (others_by g base block ≡ others_by g (sort_at g was) block) ⊎ LosesIndex (others_by g (sort_at g was) block) (others_by g base block))
      (still : StillData (others_by g (sort_at g was) block) (others_by g base block)) (blocks : All (IsBlock (entries g)) (others_by g base block))
      (there : (m : Move) → Contains ms m → counts_by g base (block_of g m.to) ≡ counts_by g (sort_at g was) (block_of g m.to))
      (spare : All (IsSpare g block (sort_at g now) base) ms) (same : (p : ℕ) → is_entry_page g p ≡ true → sort_at g now p ≡ staying (sort_at g now) ms base p) where
    tells : StayTells g block at base (staying (sort_at g now) ms base)
    tells = stay_tells g block at (sort_at g now) base was ms are spare blocks

    own_now : counts_by g (sort_at g now) block ≡ counts_by g (sort_at g was) block
    own_now = same-block g (staying (sort_at g now) ms base) (sort_at g now) block at (λ p page here. same p page) ∙ tells.own ∙ own

    others_now : others_by g (sort_at g now) block ≡ others_by g (staying (sort_at g now) ms base) block
    others_now = ap (without block) (same_sorts g (staying (sort_at g now) ms base) (sort_at g now) same)

    most : batch_most g first block ≡ max 1 ((counts_by g (sort_at g first) block).deleted + (counts_by g (sort_at g first) block).free)
    most =
        let c = own_by g block at first may.can.tidy in
        let x : deleted_in g first block ≡ (counts_by g (sort_at g first) block).deleted = sym (deleted_counted g first block) ∙ ap (λ (z : Counts). z.deleted) c in
        let y : free_in g first block ≡ (counts_by g (sort_at g first) block).free = sym (free_counted g first block) ∙ ap (λ (z : Counts). z.free) c in
        rw (x, y) refl

    finish : CutData (entries g) (counts_by g (sort_at g first) block) (others_by g (sort_at g first) block) (counts_by g (sort_at g was) block) (others_by g (staying (sort_at g now) ms base) block) → CanMend g now
    finish cut = cut_recovers g first block may now is t table (inr (rw (own_now, others_now) cut))

    in_data : All (IsLostInData g block at (sort_at g now) base was) ms → CanMend g now
    in_data kinds =
        let l = lost g block at (sort_at g now) base was ms are spare blocks kinds in
        finish (pages_lost_are_cut (entries g) (counts_by g (sort_at g first) block) (others_by g (sort_at g first) block) (counts_by g (sort_at g was) block) (others_by g (sort_at g was) block)
        (others_by g base block) (others_by g (staying (sort_at g now) ms base) block) 0 l.n (volume_by g block at first may.can.tidy) kind between.emptying
        (totals_by g block at first was may.can.image_is between.image_is may.can.tidy between.tidy between.table) loses l.spoils (omega (arith, l.few, pages_in)) (omega (arith, l.few, few, most)))

    too_few : HasDead g block at (sort_at g now) base was ms → Opening g block at was ms → free_of for_data (others_by g (sort_at g was) block) < length ms
    too_few d (opened less) = less
    too_few d (inside all kinds free) =
        let data_kind = all_at (λ (m : Move). kind_of (counts_by g (sort_at g was) (block_of g m.to)) ≡ for_data) ms d.move all d.one in
        let bad : for_data ≡ unused = sym data_kind ∙ sym (ap kind_of (there d.move d.one)) ∙ d.kind in absurd (cc)

    dead : HasDead g block at (sort_at g now) base was ms → CanMend g now
    dead d =
        let here = all_at (IsSpare g block (sort_at g now) base) ms d.move spare d.one in
        let less = too_few d (opening g block at was first between.emptying ms are ways) in
        finish (dead_is_cut (entries g) (counts_by g (sort_at g first) block) (others_by g (sort_at g first) block) (counts_by g (sort_at g was) block) (others_by g (sort_at g was) block)
        (others_by g (staying (sort_at g now) ms base) block) 0 (volume_by g block at first may.can.tidy) kind between.emptying
        (totals_by g block at first was may.can.image_is between.image_is may.can.tidy between.tidy between.table) (omega (arith, less, pages_in))
        (leaves_dead g block at (sort_at g now) base was ms (others_by g (sort_at g was) block) d here tells still (same d.move.to here.entry)))

    pub stayed_mends : CanMend g now
    stayed_mends =
        let kinds = all_from (λ (m : Move). (kind_of (counts_by g base (block_of g m.to)) ≡ for_data) ⊎ (kind_of (counts_by g base (block_of g m.to)) ≡ unused)) ms (λ m has. ⊎_elim
        (λ (k : kind_of (counts_by g (sort_at g was) (block_of g m.to)) ≡ for_data). inl (ap kind_of (there m has) ∙ k))
        (λ (k : kind_of (counts_by g (sort_at g was) (block_of g m.to)) ≡ unused). inr (ap kind_of (there m has) ∙ k))
        (kinds_of g block at was ms ways m has)) in
        ⊎_elim in_data dead (lost_or_dead g block at (sort_at g now) base was ms kinds spare)

-- ---- before the index page is put

no_index : (g : Geometry) (first was image : List ℕ) (block at : ℕ) (page : List ℕ) (m : Move) (ms : List Move) → MayCut g first block → IsBetween g first block was →
    ArePagesWay g block (sort_at g was) (m ∷ ms) → length (m ∷ ms) ≤ batch_most g first block → live_at g was at ≡ Some page → names_index page ≡ true → All (IsNamedBy g was page) (m ∷ ms) →
    IsOnWay g (m ∷ ms) was image → Recovers g image
no_index g first was image block at page m ms may between ways few live index named way = record {
  mends = λ now is s.
      let all = m ∷ ms in
      let r = way_resolves g all was image now between.image_is between.tidy way.moves_are way.way way.table is s in
      let stays = batch_stays g at page all was image now between.image_is between.tidy way.moves_are way.way way.table live index named is s in
      let out = outs g block (sort_at g was) all ways in
      stayed_mends g first was block all may between ways way.moves_are (omega arith) few now is s.tidy (s.table ∙ way.table ∙ between.table)
      (sort_at g was) refl (inl refl) (record { blocks = refl; index_live = refl; pages_live = refl }) between.emptying.reached.blocks (λ n has. refl)
      (all_from (IsSpare g block (sort_at g now) (sort_at g was)) all (λ n has.
      let o = all_at (IsOut g block (sort_at g was)) all n out has in
      record { entry = o.entry; apart = o.apart; free = o.free; ended = (all_at (Stayed (sort_at g was) (sort_at g now)) all n stays has).1 }))
      (λ p entry. stay_same (sort_at g now) (sort_at g was) all p (λ none. ⊎_elim
      (λ (f : (n : Move) × Contains all n × (p ≡ n.from)). ap (sort_at g now) f.2 ∙ (all_at (Stayed (sort_at g was) (sort_at g now)) all f.0 stays f.1).0 ∙ ap (sort_at g was) (sym f.2))
      (λ (away : All (λ (n : Move). p ≢ n.from) all). r.others p entry (aside_by all p away none))
      (from_or all p)));
}

pub pages_way_mend : (g : Geometry) → PagesWayMend g
pages_way_mend g first was image block at page [] may between ways few live index named way = still_mends g first was image block may between way
pages_way_mend g first was image block at page (m ∷ ms) may between ways few live index named way = no_index g first was image block at page m ms may between ways few live index named way

-- ---- with the index page

pub moves_tail : (g : Geometry) (was : List ℕ) (m : Move) (ms : List Move) → AreMoves g was (m ∷ ms) → IsMove g was m × AreMoves g was ms
unfolding AreMoves
moves_tail g was m ms are = (are.0, are.2)

module _ (g : Geometry) (first was image : List ℕ) (block : ℕ) (here : block < g.blocks) (ix : Move) (ms : List Move) (between : IsBetween g first block was) (ways : ArePagesWay g block (sort_at g was) ms)
    (some : 0 < length ms) (apart : block_of g ix.from ≢ block) (place : IsPlaceBy g (with_data ms (sort_at g was)) block for_index ix.to)
    (batch : IsBatch g was image ix ms) (way : IsOnWay g (ix ∷ ms) was image) (now : List ℕ) (is : IsImage g now) (s : IsStaged g image now) where
  tail : IsMove g was ix × AreMoves g was ms
  tail = moves_tail g was ix ms way.moves_are

  out : All (IsOut g block (sort_at g was)) ms
  out = outs g block (sort_at g was) ms ways

  pub from_page : is_entry_page g ix.from ≡ true
  from_page = (live_parts g was ix.from batch.page batch.live).entry_page

  pub index_sort : sort_at g was ix.from ≡ Index
  index_sort = live_sort g was ix.from batch.page batch.live ∙ (rw batch.kind refl)

  resolves : Resolves g (ix ∷ ms) (sort_at g was) (sort_at g now)
  resolves = way_resolves g (ix ∷ ms) was image now between.image_is between.tidy way.moves_are way.way way.table is s

  table_now : table_of g now ≡ table_of g first
  table_now = s.table ∙ way.table ∙ between.table

  -- all have come
  module _ (came : All (Came (sort_at g was) (sort_at g now)) (ix ∷ ms)) where
    abbrev pub after : ℕ → Sort
    after = with_sort ix.from Deleted (with_sort ix.to Index (moved ms (sort_at g was)))

    pub came_same : (p : ℕ) → is_entry_page g p ≡ true → sort_at g now p ≡ after p
    came_same p page =
        let c = all_head (Came (sort_at g was) (sort_at g now)) ix ms came in
        ⊎_elim
        (λ (from : p ≡ ix.from). ap (sort_at g now) from ∙ c.0 ∙ sym (ap (with_sort ix.from Deleted (with_sort ix.to Index (moved ms (sort_at g was)))) from ∙ with-here (with_sort ix.to Index (moved ms (sort_at g was))) ix.from Deleted))
        (λ (there : p ≡ ix.from → ⊥). ⊎_elim
        (λ (to : p ≡ ix.to). ap (sort_at g now) to ∙ c.1 ∙ index_sort
        ∙ sym (with-there (with_sort ix.to Index (moved ms (sort_at g was))) ix.from p Deleted there ∙ ap (with_sort ix.to Index (moved ms (sort_at g was))) to ∙ with-here (moved ms (sort_at g was)) ix.to Index))
        (λ (away : p ≡ ix.to → ⊥).
        moved_same (sort_at g was) (sort_at g now) ms p
        (all_from (λ (m : Move). (sort_at g now m.from ≡ Deleted) × (sort_at g now m.to ≡ Data)) ms (λ m has.
        let d = all_at (Came (sort_at g was) (sort_at g now)) (ix ∷ ms) m came (in_tail ix m ms has) in (d.0, d.1 ∙ (all_at (IsOut g block (sort_at g was)) ms m out has).sort)))
        (λ aside. resolves.others p page (all_cons (λ (m : Move). (p ≢ m.from) × (p ≢ m.to)) ix ms (there, away) aside))
        ∙ sym (with-there (with_sort ix.to Index (moved ms (sort_at g was))) ix.from p Deleted there ∙ with-there (moved ms (sort_at g was)) ix.to p Index away))
        (cases_eq p ix.to))
        (cases_eq p ix.from)

    pub index_there : moved ms (sort_at g was) ix.from ≡ Index
    index_there =
        moved_aside (sort_at g was) ms ix.from (all_from (λ (m : Move). (ix.from ≢ m.from) × (ix.from ≢ m.to)) ms (λ m has.
        let o = all_at (IsOut g block (sort_at g was)) ms m out has in
        (λ e. apart (ap (λ (q : ℕ). block_of g q) e ∙ o.from), λ e. let bad : Index ≡ Free = sym index_sort ∙ ap (sort_at g was) e ∙ o.free in absurd (cc))))
        ∙ index_sort

    emptied_after : EmptyingTo g first block after 0
    emptied_after =
        renewed_out g block here first (moved ms (sort_at g was)) (length ms) ix.from ix.to some (all_out g block here was first ms tail.1 ways between.emptying).emptying from_page apart index_there
        (place_alike g block here (with_data ms (sort_at g was)) (moved ms (sort_at g was)) for_index ix.to (moved_outside g block here was ms ways) place)

    pub came_empties : EmptyingTo g first block (sort_at g now) 0
    came_empties = same_emptying g first block here after (sort_at g now) 0 came_same emptied_after

  -- all have stayed
  module _ (stays : All (Stayed (sort_at g was) (sort_at g now)) (ix ∷ ms)) where
    base : ℕ → Sort
    base = with_sort ix.to (sort_at g now ix.to) (sort_at g was)

    back : IsPlaceBy g (sort_at g was) block for_index ix.to × All (λ (m : Move). block_of g m.to ≢ block_of g ix.to) ms × All (λ (m : Move). ix.to ≢ m.to) ms
    back = index_place_back g block here was first between.emptying ms tail.1 ways ix.to place

    -- the place of the index page is lost, or as it was
    record Based : Type 0 where
      loses : (others_by g base block ≡ others_by g (sort_at g was) block) ⊎ LosesIndex (others_by g (sort_at g was) block) (others_by g base block)
      still : StillData (others_by g (sort_at g was) block) (others_by g base block)
      blocks : All (IsBlock (entries g)) (others_by g base block)

    based_same : others_by g base block ≡ others_by g (sort_at g was) block → Based
    based_same same = record {
      loses = inl same;
      still = subst (λ (l : List Counts). StillData (others_by g (sort_at g was) block) l) (sym same) (record { blocks = refl; index_live = refl; pages_live = refl });
      blocks = subst (λ (l : List Counts). All (IsBlock (entries g)) l) (sym same) between.emptying.reached.blocks;
    }

    based_lost : others_by g base block ≡ others_by g (with_sort ix.to Deleted (sort_at g was)) block → Based
    based_lost same =
        let can = place_can_put g (sort_at g was) block for_index ix.to here back.0 in
        let spoil = same ∙ entry_spoiled g block here (sort_at g was) ix.to back.0.entry back.0.apart back.0.free in
        let loses : LosesIndex (others_by g (sort_at g was) block) (others_by g base block) = (beside block (block_of g ix.to), counts_by g (sort_at g was) (block_of g ix.to), can, spoil) in
        record {
          loses = inr loses;
          still = still-data (entries g) (others_by g (sort_at g was) block) (others_by g base block) between.emptying.reached.blocks loses;
          blocks = subst (λ (l : List Counts). All (IsBlock (entries g)) l) (sym spoil)
              (reached-spoiled (entries g) (others_by g (sort_at g first) block) (others_by g (sort_at g was) block) between.emptying.renewed (beside block (block_of g ix.to)) (counts_by g (sort_at g was) (block_of g ix.to)) between.emptying.reached can).blocks;
        }

    based : Based
    unfolding base
    based = ⊎_elim
        (λ (gone : sort_at g now ix.to ≡ Deleted). based_lost (ap (λ (x : Sort). others_by g (with_sort ix.to x (sort_at g was)) block) gone))
        (λ (as_was : sort_at g now ix.to ≡ Free). based_same (others_equal g block here (sort_at g was) (with_sort ix.to (sort_at g now ix.to) (sort_at g was)) (free_same g block here (sort_at g was) ix.to (sort_at g now ix.to) back.0.free as_was)))
        (all_head (Stayed (sort_at g was) (sort_at g now)) ix ms stays).1

    spare : All (IsSpare g block (sort_at g now) base) ms
    unfolding base
    spare = all_from (IsSpare g block (sort_at g now) base) ms (λ m has.
        let o = all_at (IsOut g block (sort_at g was)) ms m out has in
        let away : m.to ≡ ix.to → ⊥ = λ e. all_at (λ (n : Move). ix.to ≢ n.to) ms m back.2 has (sym e) in
        record {
          entry = o.entry;
          apart = o.apart;
          free = with-there (sort_at g was) ix.to m.to (sort_at g now ix.to) away ∙ o.free;
          ended = (all_at (Stayed (sort_at g was) (sort_at g now)) (ix ∷ ms) m stays (in_tail ix m ms has)).1;
        })

    base_same : (p : ℕ) → is_entry_page g p ≡ true → IsNoPlace ms p → sort_at g now p ≡ base p
    unfolding base
    base_same p page none = ⊎_elim
        (λ (to : p ≡ ix.to). ap (sort_at g now) to ∙ sym (ap (with_sort ix.to (sort_at g now ix.to) (sort_at g was)) to ∙ with-here (sort_at g was) ix.to (sort_at g now ix.to)))
        (λ (away : p ≡ ix.to → ⊥).
        let kept : sort_at g now p ≡ sort_at g was p = ⊎_elim
        (λ (from : p ≡ ix.from). ap (sort_at g now) from ∙ (all_head (Stayed (sort_at g was) (sort_at g now)) ix ms stays).0 ∙ ap (sort_at g was) (sym from))
        (λ (there : p ≡ ix.from → ⊥). ⊎_elim
        (λ (f : (n : Move) × Contains ms n × (p ≡ n.from)). ap (sort_at g now) f.2 ∙ (all_at (Stayed (sort_at g was) (sort_at g now)) (ix ∷ ms) f.0 stays (in_tail ix f.0 ms f.1)).0 ∙ ap (sort_at g was) (sym f.2))
        (λ (far : All (λ (n : Move). p ≢ n.from) ms). resolves.others p page (all_cons (λ (m : Move). (p ≢ m.from) × (p ≢ m.to)) ix ms (there, away) (aside_by ms p far none)))
        (from_or ms p))
        (cases_eq p ix.from) in
        kept ∙ sym (with-there (sort_at g was) ix.to p (sort_at g now ix.to) away))
        (cases_eq p ix.to)

    base_own : counts_by g base block ≡ counts_by g (sort_at g was) block
    unfolding base
    base_own = own_stays g block here (sort_at g was) (sort_at g now ix.to) ix.to back.0.entry back.0.apart

    base_there : (m : Move) → Contains ms m → counts_by g base (block_of g m.to) ≡ counts_by g (sort_at g was) (block_of g m.to)
    unfolding base
    base_there m has =
        let o = all_at (IsOut g block (sort_at g was)) ms m out has in
        other_sorts_stay g (sort_at g was) (sort_at g now ix.to) ix.to (block_of g m.to) back.0.entry (block_number g m.to (page_number g m.to o.entry))
        (λ e. all_at (λ (n : Move). block_of g n.to ≢ block_of g ix.to) ms m back.1 has (sym e))

    stays_mends : (may : MayCut g first block) → length ms ≤ batch_most g first block → CanMend g now
    stays_mends may few =
        stayed_mends g first was block ms may between ways tail.1 some few now is s.tidy table_now base base_own based.loses based.still based.blocks base_there spare
        (λ p page. stay_same (sort_at g now) base ms p (λ none. base_same p page none))

  pub batch_or : All (Came (sort_at g was) (sort_at g now)) (ix ∷ ms) ⊎ All (Stayed (sort_at g was) (sort_at g now)) (ix ∷ ms)
  batch_or = batch_resolves g ix ms was image now between.image_is between.tidy way.moves_are way.way way.table batch is s

  pub batch_mends : (may : MayCut g first block) → length ms ≤ batch_most g first block → CanMend g now
  batch_mends may few = ⊎_elim
      (λ (came : All (Came (sort_at g was) (sort_at g now)) (ix ∷ ms)). whole_recovers g first block may now is s.tidy table_now (came_empties came))
      (λ (stays : All (Stayed (sort_at g was) (sort_at g now)) (ix ∷ ms)). stays_mends stays may few)
      batch_or

pub batch_way_mends : (g : Geometry) → BatchWayMends g
batch_way_mends g first was image block ix ms may between ways some few apart place batch way = record {
  mends = λ now is s. batch_mends g first was image block (low g first block may) ix ms between ways some apart place batch way now is s may few;
}
