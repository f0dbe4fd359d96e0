-- A data page of a batch, and its index page, find places outside the block.
use Rattle.std.proofs.Common.{◌≡◌, ◌≢◌, ℕ, ◌+◌, ◌-◌, ◌<◌, List, [], ◌∷◌, length, true, Some, refl, sym, ◌∙◌, ap, subst, arith}
use Rattle.std.proofs.lemmas.List.{length-map}
use Rattle.std.proofs.lemmas.List.Elements.{All-map}
use Rattle.geometry.specs.declared.geometry.Geometry.{Geometry}
use Rattle.image_model.specs.Places.{block_of, IsImage}
use Rattle.image_laws.proofs.Frames.{live_parts}
use Rattle.flash_view.specs.declared.kinds.Kind.TheVariants.{Index as IndexPage, Data as DataPage}
use Rattle.free_search.specs.Free.{IsFreeFor, HasNone}
use Rattle.free_search.proofs.FoundPage.{free_of}
use Rattle.room_laws.specs.Sorts.{Data, sort_at, counts_by}
use Rattle.room_laws.specs.Ways.{Move, IsAside}
use Rattle.room_laws.specs.Batching.{CarryingTells}
use Rattle.room_laws.proofs.Batches.{IsOut, outs, moved, moved_aside, all_out}
use Rattle.room_laws.proofs.BatchPuts.{carrying_is_counted}
use Rattle.room_laws.proofs.OnTheWay.{all_from, all_at}
use Rattle.room_laws.proofs.Resolved.{live_sort}
use Rattle.room_laws.proofs.Sorted.{sorts_are_counted}
use Rattle.block_gc.specs.declared.batch.Batch.{Batch}
use Rattle.block_gc.specs.Batches.{Carried}
use Rattle.block_gc.specs.Batches.{move_of, moves_of, are_from, Carries, CanCarry, CanCarryTo, CarriesAll, CanRenameTo}
use Rattle.block_gc.proofs.PlacesBy.{found_place, place_is_found}

-- a list with a page that was carried has one
pub some_carried : (cs : List Carried) (page : ℕ) → are_from cs page ≡ true → 0 < length cs
some_carried [] page e = absurd (cc)
some_carried (c ∷ cs) page e = omega arith

module _ (g : Geometry) (was image : List ℕ) (block most : ℕ) (batch : Batch) (cs : List Carried) (c : Carries g was block most batch cs image) where
  is : IsImage g image
  is = c.carrying.way.image_is

  told : CarryingTells g block was (moves_of cs) image
  told = carrying_is_counted g was was image block (moves_of cs) c.low c.carrying

  -- ---- a data page

  module _ (q span : ℕ) (can : CanCarry g was block most batch cs q span image) where
    sort_q : sort_at g was q ≡ Data
    sort_q = live_sort g was q can.of.page can.of.live ∙ (rw can.of.kind refl)

    aside : IsAside (moves_of cs) q
    aside = all_from (λ (m : Move). (q ≢ m.from) × (q ≢ m.to)) (moves_of cs) (λ m has. (
      all_at (λ (n : Move). q ≢ n.from) (moves_of cs) m (All-map (λ (n : Move). q ≢ n.from) move_of cs can.apart) has,
      λ e. (all_at (IsOut g block (sort_at g was)) (moves_of cs) m (outs g block (sort_at g was) (moves_of cs) c.carrying.ways) has).apart (ap (λ (p : ℕ). block_of g p) (sym e) ∙ can.from),
    ))

    left : 0 < (counts_by g (sort_at g was) block).pages - length (moves_of cs)
    left =
        let still : moved (moves_of cs) (sort_at g was) q ≡ Data = moved_aside (sort_at g was) (moves_of cs) q aside ∙ sort_q in
        let page = (live_parts g was q can.of.page can.of.live).entry_page in
        let some : 0 < (counts_by g (moved (moves_of cs) (sort_at g was)) block).pages =
        subst (λ (b : ℕ). 0 < (counts_by g (moved (moves_of cs) (sort_at g was)) b).pages) can.from ((sorts_are_counted g (moved (moves_of cs) (sort_at g was)) q page).pages still) in
        let out = all_out g block c.low was was (moves_of cs) c.carrying.are c.carrying.ways c.carrying.between.emptying in
        omega (arith, some, out.pages)

    pub carry_found : HasNone g image DataPage 0 (Some block) → ⊥
    carry_found none =
        let d = counts_by g (sort_at g was) block in
        place_is_found g image block c.carrying.tells c.low told.blocks DataPage (d.index + d.pages) (d.pages - length (moves_of cs)) told.had left none

    pub carry_place : (to : ℕ) → IsFreeFor g image DataPage 0 (Some block) to → CanCarryTo g was block most batch cs q to span image
    carry_place to found = record {
      can = can;
      free = free_of g image DataPage 0 to (Some block) is found;
      place = found_place g image block c.carrying.tells c.low told.blocks DataPage to found;
      kind = found.kind_is;
    }

  -- ---- the index page

  module _ (page : ℕ) (all : CarriesAll g was block most batch page cs image) where
    pub rename_found : HasNone g image IndexPage 0 (Some block) → ⊥
    rename_found none =
        let d = counts_by g (sort_at g was) block in
        let some : 0 < d.index + d.pages = (let one = some_carried cs page all.begun in let l = length-map cs move_of in let few = told.few in omega (arith, one, l, few)) in
        place_is_found g image block c.carrying.tells c.low told.blocks IndexPage (d.index + d.pages) (d.pages - length (moves_of cs)) told.had some none

    pub rename_place : (to : ℕ) → IsFreeFor g image IndexPage 0 (Some block) to → CanRenameTo g was block most batch page to cs image
    rename_place to found = record {
      all = all;
      free = free_of g image IndexPage 0 to (Some block) is found;
      place = found_place g image block c.carrying.tells c.low told.blocks IndexPage to found;
      kind = found.kind_is;
    }
