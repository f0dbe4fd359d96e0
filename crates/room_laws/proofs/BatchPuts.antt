-- A batch of data pages while it is put.
use Rattle.std.proofs.Common.{◌≡◌, ◌≢◌, ℕ, ◌+◌, ◌-◌, ◌<◌, List, ◌∷◌, length, true, false, ◌==◌, Option, Some, None, refl, sym, ◌∙◌, ap, subst, arith, ⊎_elim}
use Rattle.std.specs.Prelude.{All}
use Rattle.std.proofs.lemmas.Bool.{cases_eq, eqb-true, cases_Bool}
use Rattle.std.proofs.lemmas.Option.{same_Some, none-some}
use Rattle.geometry.specs.declared.geometry.Geometry.{Geometry}
use Rattle.geometry.specs.Numbers.{entries}
use Rattle.image_model.specs.Headers.{span_of, names_index}
use Rattle.image_model.specs.Places.{entry_of, is_entry_page}
use Rattle.image_model.specs.Live.{live_at}
use Rattle.image_model.specs.Tidy.{is_free_entry, TellsFree}
use Rattle.image_laws.specs.LiveSteps.{PutLeaves, PutDone, KillLeaves}
use Rattle.image_laws.specs.Changes.{Gains, Loses}
use Rattle.image_laws.specs.Reindex.{slot_word}
use Rattle.room_laws.specs.Counts.{Counts, IsBlock, Kind, for_index, for_data}
use Rattle.room_laws.specs.Order.{without}
use Rattle.room_laws.specs.Sorts.{Index, Data, Deleted, Free, sort_of_page, sort_at, counts_by, others_by, with_sort, IsPlaceBy}
use Rattle.room_laws.specs.Tags.{SameTag}
use Rattle.room_laws.specs.Ways.{Move, IsMove, AreApart, AreMoves, OnWay, IsRenamed}
use Rattle.room_laws.specs.Recovery.{with_data, ArePagesWay}
use Rattle.room_laws.specs.Batching.{IsCarrying, CarryingStarts, CarryingTells, CarryingIsCounted, CarryingPlaces, IsNextOut, CarryingPuts, CarryingLeaves, CarryingIsCut, RenewingLeaves, IsNamedThere, RenewedIsBatch, KilledIsBatch}
use Rattle.room_laws.proofs.Sorted.{tidy_tells_free, with-here, with-there, same_sorts}
use Rattle.room_laws.proofs.SortSteps.{place_alike}
use Rattle.room_laws.proofs.OnTheWay.{all_at, all_from, way_none, way_put, done_leaves}
use Rattle.room_laws.proofs.Resolved.{live_sort, free_dead}
use Rattle.room_laws.proofs.Batches.{IsOut, outs, free_back, all_out, blocks_with}
use Rattle.room_laws.proofs.Carried.{put_sorts, had_at, batch_has_places}

-- an entry that counts as free is free
sort_free : (g : Geometry) (a : List ℕ) (p : ℕ) → TellsFree g a → is_entry_page g p ≡ true → sort_at g a p ≡ Free → is_free_entry g a p ≡ true
unfolding sort_at
sort_free g a p t page free = ⊎_elim
    (λ (ones : (entry_of g a p == 0xFFFF) ≡ true). t.free p page (eqb-true _ 0xFFFF ones))
    (λ (none : (entry_of g a p == 0xFFFF) ≡ false). absurd (no_free (live_at g a p) (rw none at free)))
    (cases_Bool (entry_of g a p == 0xFFFF))
  where
    no_free : (o : Option (List ℕ)) → sort_of_page o ≡ Free → ⊥
    no_free None e = let bad : Deleted ≡ Free = e in cc
    no_free (Some x) e = ⊎_elim
        (λ (yes : names_index x ≡ true). let bad : Index ≡ Free = rw yes at e in cc)
        (λ (no : names_index x ≡ false). let bad : Data ≡ Free = rw no at e in cc)
        (cases_Bool (names_index x))

pub carrying_starts : (g : Geometry) → CarryingStarts g
unfolding AreMoves ArePagesWay
carrying_starts g first was block between places = record {
  between = between;
  places = places;
  are = tt;
  ways = tt;
  way = way_none g was between.image_is;
  tells = tidy_tells_free g was between.tidy;
  sorts = λ p page. refl;
}

module _ (g : Geometry) (first was image : List ℕ) (block : ℕ) (moves : List Move) (low : block < g.blocks) (c : IsCarrying g first block was moves image) where
  others : others_by g (sort_at g image) block ≡ others_by g (with_data moves (sort_at g was)) block
  others = ap (without block) (same_sorts g (with_data moves (sort_at g was)) (sort_at g image) c.sorts)

  tells : CarryingTells g block was moves image
  tells =
      let o = all_out g block low was first moves c.are c.ways c.between.emptying in
      record {
        blocks = subst (λ (v : List Counts). All (IsBlock (entries g)) v) (sym others) (blocks_with g block low was first c.between.emptying moves c.are c.ways);
        few = omega (arith, o.pages);
        had = had_at (entries g) (others_by g (sort_at g image) block) (others_by g (with_data moves (sort_at g was)) block)
            ((counts_by g (sort_at g was) block).index + (counts_by g (sort_at g was) block).pages) ((counts_by g (sort_at g was) block).index + (counts_by g (sort_at g was) block).pages)
            ((counts_by g (sort_at g was) block).pages - length moves) ((counts_by g (sort_at g was) block).pages - length moves)
            others refl refl (batch_has_places g first was block moves low c.between c.places c.are c.ways);
      }

  place_back : (k : Kind) (to : ℕ) → IsPlaceBy g (sort_at g image) block k to → IsPlaceBy g (with_data moves (sort_at g was)) block k to
  place_back k to place = place_alike g block low (sort_at g image) (with_data moves (sort_at g was)) k to (λ p page out. sym (c.sorts p page)) place

  -- a page with a place is a move, apart from the others
  is_move : (k : Kind) (m : Move) (page : List ℕ) → live_at g was m.from ≡ Some page → IsPlaceBy g (sort_at g image) block k m.to → IsMove g was m
  is_move k m page live place =
      let back = place_back k m.to place in
      record { page = page; live = live; entry = place.entry; free = sort_free g was m.to (tidy_tells_free g was c.between.tidy) place.entry (free_back (sort_at g was) moves m.to back.free).0 }

  are_apart : (k : Kind) (m : Move) → All (λ (n : Move). m.from ≢ n.from) moves → IsPlaceBy g (sort_at g image) block k m.to → All (AreApart m) moves
  are_apart k m from place =
      let free = free_back (sort_at g was) moves m.to (place_back k m.to place).free in
      all_from (AreApart m) moves (λ n has. record { from = all_at (λ (z : Move). m.from ≢ z.from) moves n from has; to = all_at (λ (z : Move). m.to ≢ z.to) moves n free.1 has })

  module _ (m : Move) (copy : List ℕ) (next : IsNextOut g block was moves image m copy) where
    data_sort : sort_at g was m.from ≡ Data
    data_sort = live_sort g was m.from next.old next.live ∙ (rw next.kind refl)

    are_more : AreMoves g was (m ∷ moves)
    unfolding AreMoves
    are_more = (is_move for_data m next.old next.live next.place, are_apart for_data m next.apart next.place, c.are)

    ways_more : ArePagesWay g block (sort_at g was) (m ∷ moves)
    unfolding ArePagesWay
    ways_more = (next.from, data_sort, place_back for_data m.to next.place, c.ways)

    leaves : (cut : List ℕ) → PutLeaves g m.to copy image cut → CarryingLeaves g block was (m ∷ moves) cut
    leaves cut put = record { are = are_more; ways = ways_more; way = way_put g moves was image cut m next.old copy c.way put next.live next.tag }

    puts : (b : List ℕ) → PutDone g m.to copy image b → IsCarrying g first block was (m ∷ moves) b
    puts b done =
        let s = put_sorts g image b m.to copy c.tells done in
        let is_data : sort_of_page (Some copy) ≡ Data = let k : names_index copy ≡ false = next.tag.kind ∙ next.kind in rw k refl in
        record {
          between = c.between;
          places = c.places;
          are = are_more;
          ways = ways_more;
          way = way_put g moves was image b m next.old copy c.way ((done_leaves g image b m.to copy).0 done) next.live next.tag;
          tells = s.0;
          sorts = λ p page. ⊎_elim
              (λ (here : p ≡ m.to).
              s.1 p page ∙ ap (with_sort m.to (sort_of_page (Some copy)) (sort_at g image)) here ∙ with-here (sort_at g image) m.to (sort_of_page (Some copy)) ∙ is_data
              ∙ sym (ap (with_sort m.to Data (with_data moves (sort_at g was))) here ∙ with-here (with_data moves (sort_at g was)) m.to Data))
              (λ (away : p ≡ m.to → ⊥).
              s.1 p page ∙ with-there (sort_at g image) m.to p (sort_of_page (Some copy)) away ∙ c.sorts p page ∙ sym (with-there (with_data moves (sort_at g was)) m.to p Data away))
              (cases_eq p m.to);
        }

  -- the index page
  module _ (ix : Move) (page copy : List ℕ) (live : live_at g was ix.from ≡ Some page) (kind : names_index page ≡ true) (place : IsPlaceBy g (sort_at g image) block for_index ix.to) (tag : SameTag page copy) where
    index_apart : All (λ (n : Move). ix.from ≢ n.from) moves
    index_apart = all_from (λ (n : Move). ix.from ≢ n.from) moves (λ n has e.
        let o = all_at (IsOut g block (sort_at g was)) moves n (outs g block (sort_at g was) moves c.ways) has in
        let index : sort_at g was ix.from ≡ Index = live_sort g was ix.from page live ∙ (rw kind refl) in
        let bad : Index ≡ Data = sym index ∙ ap (sort_at g was) e ∙ o.sort in absurd (cc))

    index_more : AreMoves g was (ix ∷ moves)
    unfolding AreMoves
    index_more = (is_move for_index ix page live place, are_apart for_index ix index_apart place, c.are)

    renewing : (cut : List ℕ) → PutLeaves g ix.to copy image cut → AreMoves g was (ix ∷ moves) × OnWay g (ix ∷ moves) was cut
    renewing cut put = (index_more, way_put g moves was image cut ix page copy c.way put live tag)

pub carrying_is_counted : (g : Geometry) → CarryingIsCounted g
carrying_is_counted g first was image block moves low c = tells g first was image block moves low c

pub carrying_places : (g : Geometry) → CarryingPlaces g
carrying_places g first was image block moves k to low c place = place_back g first was image block moves low c k to place

pub carrying_puts : (g : Geometry) → CarryingPuts g
carrying_puts g first was image b block moves m copy low c next done = puts g first was image block moves low c m copy next b done

pub carrying_is_cut : (g : Geometry) → CarryingIsCut g
carrying_is_cut g first was image cut block moves m copy low c next put = leaves g first was image block moves low c m copy next cut put

pub renewing_leaves : (g : Geometry) → RenewingLeaves g
renewing_leaves g first was image cut block moves ix page copy low c live kind place tag put = renewing g first was image block moves low c ix page copy live kind place tag cut put

-- what is live at the place of the index page is its copy
copy_there : (g : Geometry) (a cut : List ℕ) (p : ℕ) (copy y : List ℕ) → live_at g a p ≡ None → PutLeaves g p copy a cut → live_at g cut p ≡ Some y → y ≡ copy
copy_there g a cut p copy y none put live = ⊎_elim
    (λ (same : live_at g cut ≡ live_at g a). absurd (none-some y (sym none ∙ sym (ap (λ (l : ℕ → Option (List ℕ)). l p) same) ∙ live)))
    (λ (gains : Gains p copy (live_at g a) (live_at g cut)). same_Some y copy (sym live ∙ gains.after))
    put.live

pub renewed_is_batch : (g : Geometry) → RenewedIsBatch g
renewed_is_batch g first was image cut block moves ix page copy low c live kind place put named there = record {
  page = page;
  live = live;
  kind = kind;
  named = named;
  renamed = all_from (IsRenamed g was cut ix.to) moves (λ m has x y at here.
      let none = free_dead g image ix.to (sort_free g image ix.to c.tells place.entry place.free) in
      ap (λ (z : List ℕ). slot_word g z (span_of x)) (copy_there g image cut ix.to copy y none put here) ∙ all_at (IsNamedThere g was copy) moves m there has x at);
}

-- what is live after a kill was so
live_before : (g : Geometry) (a cut : List ℕ) (p q : ℕ) (y : List ℕ) → KillLeaves g p a cut → live_at g cut q ≡ Some y → live_at g a q ≡ Some y
live_before g a cut p q y kill live = ⊎_elim
    (λ (same : live_at g cut ≡ live_at g a). sym (ap (λ (l : ℕ → Option (List ℕ)). l q) same) ∙ live)
    (λ (loses : Loses p (live_at g a) (live_at g cut)). ⊎_elim
    (λ (here : q ≡ p). absurd (none-some y (sym loses.after ∙ ap (live_at g cut) (sym here) ∙ live)))
    (λ (other : q ≡ p → ⊥). sym (loses.others q other) ∙ live)
    (cases_eq q p))
    kill.live

pub killed_is_batch : (g : Geometry) → KilledIsBatch g
killed_is_batch g was image cut moves ix p batch kill = record {
  page = batch.page;
  live = batch.live;
  kind = batch.kind;
  named = batch.named;
  renamed = all_from (IsRenamed g was cut ix.to) moves (λ m has x y at here. all_at (IsRenamed g was image ix.to) moves m batch.renamed has x y at (live_before g image cut p ix.to y kill here));
}
