-- A batch of data pages while it is put.
use Rattle.std.specs.Prelude.{◌≡◌, ◌≢◌, ℕ, ◌+◌, ◌-◌, ◌<◌, ◌≤◌, List, [], ◌∷◌, length, true, false, Some, All}
use Rattle.geometry.specs.declared.geometry.Geometry.{Geometry}
use Rattle.geometry.specs.Numbers.{entries}
use Rattle.image_model.specs.Headers.{span_of, names_index}
use Rattle.image_model.specs.Places.{block_of, is_entry_page}
use Rattle.image_model.specs.Live.{live_at}
use Rattle.image_laws.specs.LiveSteps.{PutLeaves, PutDone, KillLeaves}
use Rattle.image_laws.specs.Reindex.{slot_word}
use Rattle.room_laws.specs.Counts.{IsBlock, Kind, for_index, for_data}
use Rattle.room_laws.specs.Places.{HadWith}
use Rattle.room_laws.specs.Sorts.{sort_at, counts_by, others_by, IsPlaceBy}
use Rattle.image_model.specs.Tidy.{TellsFree}
use Rattle.room_laws.specs.Tags.{SameTag}
use Rattle.room_laws.specs.Ways.{Move, AreMoves, OnWay, IsNamedBy, IsBatch}
use Rattle.room_laws.specs.Recovery.{HasPlaces, IsBetween, with_data, ArePagesWay}

-- Copies of some data pages of a block are at their places, and nothing else changed.
pub record IsCarrying (g : Geometry) (first : List ℕ) (block : ℕ) (was : List ℕ) (moves : List Move) (image : List ℕ) : Type 0 where
  pub between : IsBetween g first block was
  pub places : HasPlaces g block (sort_at g was)
  pub are : AreMoves g was moves
  pub ways : ArePagesWay g block (sort_at g was) moves
  pub way : OnWay g moves was image
  pub tells : TellsFree g image
  pub sorts : (p : ℕ) → is_entry_page g p ≡ true → sort_at g image p ≡ with_data moves (sort_at g was) p

-- At first none is.
abbrev pub CarryingStarts : Geometry → Type 0
CarryingStarts g = (first was : List ℕ) (block : ℕ) → IsBetween g first block was → HasPlaces g block (sort_at g was) → IsCarrying g first block was [] was

-- What the counts are then: blocks, with places for the pages that remain and for index pages.
pub record CarryingTells (g : Geometry) (block : ℕ) (was : List ℕ) (moves : List Move) (image : List ℕ) : Type 0 where
  pub blocks : All (IsBlock (entries g)) (others_by g (sort_at g image) block)
  pub few : length moves ≤ (counts_by g (sort_at g was) block).pages
  pub had : HadWith (entries g) (others_by g (sort_at g image) block) 0 ((counts_by g (sort_at g was) block).index + (counts_by g (sort_at g was) block).pages)
      ((counts_by g (sort_at g was) block).pages - length moves)

abbrev pub CarryingIsCounted : Geometry → Type 0
CarryingIsCounted g = (first was image : List ℕ) (block : ℕ) (moves : List Move) → block < g.blocks → IsCarrying g first block was moves image →
    CarryingTells g block was moves image

-- A place of the image is one by what its pages count as.
abbrev pub CarryingPlaces : Geometry → Type 0
CarryingPlaces g = (first was image : List ℕ) (block : ℕ) (moves : List Move) (k : Kind) (to : ℕ) → block < g.blocks →
    IsCarrying g first block was moves image → IsPlaceBy g (sort_at g image) block k to →
    IsPlaceBy g (with_data moves (sort_at g was)) block k to

-- One more data page of the block, which is not on its way, has a place for its copy.
pub record IsNextOut (g : Geometry) (block : ℕ) (was : List ℕ) (moves : List Move) (image : List ℕ) (move : Move) (copy : List ℕ) : Type 0 where
  pub old : List ℕ
  pub live : live_at g was move.from ≡ Some old
  pub kind : names_index old ≡ false
  pub from : block_of g move.from ≡ block
  pub apart : All (λ (m : Move). move.from ≢ m.from) moves
  pub place : IsPlaceBy g (sort_at g image) block for_data move.to
  pub tag : SameTag old copy

-- Its copy is put.
abbrev pub CarryingPuts : Geometry → Type 0
CarryingPuts g = (first was image next : List ℕ) (block : ℕ) (moves : List Move) (move : Move) (copy : List ℕ) → block < g.blocks →
    IsCarrying g first block was moves image →
    IsNextOut g block was moves image move copy → PutDone g move.to copy image next → IsCarrying g first block was (move ∷ moves) next

-- What a cut while it is put leaves.
pub record CarryingLeaves (g : Geometry) (block : ℕ) (was : List ℕ) (moves : List Move) (cut : List ℕ) : Type 0 where
  pub are : AreMoves g was moves
  pub ways : ArePagesWay g block (sort_at g was) moves
  pub way : OnWay g moves was cut

abbrev pub CarryingIsCut : Geometry → Type 0
CarryingIsCut g = (first was image cut : List ℕ) (block : ℕ) (moves : List Move) (move : Move) (copy : List ℕ) → block < g.blocks →
    IsCarrying g first block was moves image →
    IsNextOut g block was moves image move copy → PutLeaves g move.to copy image cut → CarryingLeaves g block was (move ∷ moves) cut

-- The index page of the batch is put, done or cut off.
abbrev pub RenewingLeaves : Geometry → Type 0
RenewingLeaves g = (first was image cut : List ℕ) (block : ℕ) (moves : List Move) (index : Move) (page copy : List ℕ) → block < g.blocks →
    IsCarrying g first block was moves image →
    live_at g was index.from ≡ Some page → names_index page ≡ true → IsPlaceBy g (sort_at g image) block for_index index.to → SameTag page copy →
    PutLeaves g index.to copy image cut →
    AreMoves g was (index ∷ moves) × OnWay g (index ∷ moves) was cut

-- The copy of the index page names the place of a move.
abbrev pub IsNamedThere : Geometry → (was copy : List ℕ) → Move → Type 0
IsNamedThere g was copy move = (page : List ℕ) → live_at g was move.from ≡ Some page → slot_word g copy (span_of page) ≡ move.to

-- Where it names them all, what the put leaves is a batch.
abbrev pub RenewedIsBatch : Geometry → Type 0
RenewedIsBatch g = (first was image cut : List ℕ) (block : ℕ) (moves : List Move) (index : Move) (page copy : List ℕ) → block < g.blocks →
    IsCarrying g first block was moves image →
    live_at g was index.from ≡ Some page → names_index page ≡ true → IsPlaceBy g (sort_at g image) block for_index index.to →
    PutLeaves g index.to copy image cut → All (IsNamedBy g was page) moves →
    All (IsNamedThere g was copy) moves → IsBatch g was cut index moves

-- It stays one while pages are killed.
abbrev pub KilledIsBatch : Geometry → Type 0
KilledIsBatch g = (was image cut : List ℕ) (moves : List Move) (index : Move) (p : ℕ) → IsBatch g was image index moves → KillLeaves g p image cut →
    IsBatch g was cut index moves
