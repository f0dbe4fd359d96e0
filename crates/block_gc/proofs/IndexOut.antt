-- An index page is moved out of its block, over plain images.
use Rattle.std.proofs.Common.{◌≡◌, ◌≢◌, ℕ, ◌+◌, ◌<◌, List, [], ◌∷◌, true, Some, refl, ◌∙◌, ap, subst, arith, ⊎_elim}
use Rattle.std.specs.Prelude.{All}
use Rattle.geometry.specs.declared.geometry.Geometry.{Geometry}
use Rattle.geometry.specs.Numbers.{entries}
use Rattle.image_model.specs.Within.{page_number, block_number}
use Rattle.image_model.specs.Live.{live_at}
use Rattle.image_model.specs.Places.{block_of, is_entry_page, IsImage}
use Rattle.image_model.specs.Kinds.{is_index_page}
use Rattle.image_laws.proofs.TidySteps.{neat_of}
use Rattle.image_laws.proofs.Unshared.{sound-tidy}
use Rattle.flash_view.specs.declared.kinds.Kind.TheVariants.{Index as IndexPage}
use Rattle.flash_view.specs.Steps.{Finishes}
use Rattle.free_search.specs.Free.{IsFreeFor, HasNone}
use Rattle.free_search.proofs.FoundPage.{free_of}
use Rattle.room_laws.specs.Counts.{IsBlock, for_index}
use Rattle.room_laws.specs.Sorts.{Index, sort_at, counts_by, others_by, IsPlaceBy}
use Rattle.image_model.specs.Tidy.{TellsFree}
use Rattle.room_laws.specs.Ways.{Move, AreMoves, HasCome}
use Rattle.room_laws.specs.Recovery.{IsBetween, IsOnWay, IsIndexWay}
use Rattle.room_laws.proofs.Carried.{begins_between, index_goes_on}
use Rattle.room_laws.proofs.OnTheWay.{all_nil, all_cons, all_at, way_none}
use Rattle.room_laws.proofs.Recovering.{still_mends, index_way_mends}
use Rattle.room_laws.proofs.Resolved.{live_sort}
use Rattle.room_laws.proofs.Sorted.{tidy_tells_free, sorts_are_counted}
use Rattle.page_renew.proofs.Homes.{some_index}
use Rattle.block_gc.specs.Moves.{moving}
use Rattle.block_gc.specs.Turns.{CanEmpty, TurnCut, moving_index}
use Rattle.block_gc.proofs.PlacesBy.{found_place, place_is_found}
use Rattle.block_gc.proofs.Replacing.{tidy_keeps}

-- where nothing is changed nothing is on its way
pub still : (g : Geometry) (a : List ℕ) → IsImage g a → IsOnWay g [] a a
unfolding AreMoves
still g a is = record { moves_are = tt; way = way_none g a is; table = refl }

-- and a turn leaves an image that recovers
pub turn_stays : (g : Geometry) (a : List ℕ) (block most : ℕ) → IsImage g a → CanEmpty g a block → TurnCut g block most a a
turn_stays g a block most is can = record {
  keeps = tidy_keeps g a can.tidy;
  mends = λ first may few between. still_mends g first a a block may between (still g a is);
}

-- the block of an entry page is one of the volume
pub block_low : (g : Geometry) (block p : ℕ) → is_entry_page g p ≡ true → block_of g p ≡ block → block < g.blocks
block_low g block p page at = subst (λ (b : ℕ). b < g.blocks) at (block_number g p (page_number g p page))

module _ (g : Geometry) (a : List ℕ) (block : ℕ) (is : IsImage g a) (can : CanEmpty g a block) (low : block < g.blocks) where
  between : IsBetween g a block a
  between = begins_between g a block is can.tidy low

  tells : TellsFree g a
  tells = tidy_tells_free g a can.tidy

  blocks : All (IsBlock (entries g)) (others_by g (sort_at g a) block)
  blocks = between.emptying.reached.blocks

  module _ (o : ℕ) (page : is_entry_page g o ≡ true) (at : block_of g o ≡ block) (index : is_index_page (live_at g a o) ≡ true) where
    sort : sort_at g a o ≡ Index
    sort = let x = some_index (live_at g a o) index in live_sort g a o x.0 x.1 ∙ (rw x.2 refl)

    -- it finds a place
    pub index_found : HasNone g a IndexPage 0 (Some block) → ⊥
    index_found none =
        let d = counts_by g (sort_at g a) block in
        let some : 0 < (counts_by g (sort_at g a) block).index = subst (λ (b : ℕ). 0 < (counts_by g (sort_at g a) b).index) at ((sorts_are_counted g (sort_at g a) o page).index sort) in
        place_is_found g a block tells low blocks IndexPage (d.index + d.pages) d.pages can.places (omega (arith, some)) none

    module _ (to : ℕ) (found : IsFreeFor g a IndexPage 0 (Some block) to) where
      abbrev step : Move
      step = record { from = o; to = to }

      place : IsPlaceBy g (sort_at g a) block for_index to
      place = found_place g a block tells low blocks IndexPage to found

      out : IsIndexWay g block (sort_at g a) step
      out = record { from = at; sort = sort; place = place }

      -- a live page of the block was live before
      others_alive : (c : List ℕ) → IsOnWay g (step ∷ []) a c → (q : ℕ) (x : List ℕ) → block_of g q ≡ block → live_at g c q ≡ Some x → live_at g a q ≡ Some x
      others_alive c way q x here live = ⊎_elim
          (λ (was : live_at g a q ≡ Some x). was)
          (λ (come : HasCome g a (step ∷ []) q x).
          let apart : block_of g come.move.to ≢ block = all_at (λ (m : Move). block_of g m.to ≢ block) (step ∷ []) come.move (all_cons (λ (m : Move). block_of g m.to ≢ block) step [] place.apart (all_nil (λ (m : Move). block_of g m.to ≢ block))) come.one in
          absurd (apart (ap (block_of g) come.at ∙ here)))
          (way.way.live q x live)

      pub index_moves : Finishes g a a (moving o to) (moving_index block o)
      index_moves = record {
        needs = record { neat = neat_of can.tidy; index = index; free = free_of g a IndexPage 0 to (Some block) is found; entry = found.free; kind = found.kind_is };
        cut = λ c cut. record { keeps = cut.keeps; mends = λ first may few between. index_way_mends g first a c block step may between out cut.way };
        done = λ c ok done.
            let way = done.cut.way in
            let tidy = sound-tidy g a c can.tidy done.cut.keeps.sound done.neat in
            record {
              keeps = done.cut.keeps;
              can = record { tidy = tidy; places = (index_goes_on g a a c block step low between can.places out way tidy done.gone).1 };
              gone = done.gone;
              others = others_alive c way;
              between = λ first so_far. (index_goes_on g first a c block step low so_far can.places out way tidy done.gone).0;
              tails = done.tails;
              counts = done.counts;
            };
      }
