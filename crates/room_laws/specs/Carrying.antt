-- Turns of a cleaning that are done.
use Rattle.std.specs.Prelude.{◌≡◌, ◌≢◌, ℕ, ◌+◌, ◌-◌, ◌<◌, List, [], ◌∷◌, length, true, Some, None}
use Rattle.geometry.specs.declared.geometry.Geometry.{Geometry}
use Rattle.geometry.specs.Numbers.{entries}
use Rattle.image_model.specs.Places.{IsImage, block_of, is_entry_page}
use Rattle.image_model.specs.Live.{live_at}
use Rattle.image_model.specs.Tidy.{IsTidy, TellsFree}
use Rattle.image_model.specs.Collect.{is_fitting}
use Rattle.image_laws.specs.LiveSteps.{PutDone, KillDone}
use Rattle.room_laws.specs.Counts.{for_index}
use Rattle.room_laws.specs.Places.{HadWith}
use Rattle.room_laws.specs.Sorts.{Deleted, sort_of_page, sort_at, counts_by, others_by, with_sort, IsPlaceBy}
use Rattle.room_laws.specs.Ways.{Move, AreMoves, IsBatch}
use Rattle.room_laws.specs.Recovery.{HasPlaces, IsBetween, IsOnWay, IsIndexWay, with_data, ArePagesWay}

-- A page that is put changes what its entry counts as, and lookup pages tell free entries still.
abbrev pub PutSorts : Geometry → Type 0
PutSorts g = (a b : List ℕ) (p : ℕ) (page : List ℕ) → TellsFree g a → PutDone g p page a b →
    TellsFree g b × ((q : ℕ) → is_entry_page g q ≡ true → sort_at g b q ≡ with_sort p (sort_of_page (Some page)) (sort_at g a) q)

-- So does a page that is killed.
abbrev pub KillSorts : Geometry → Type 0
KillSorts g = (a b : List ℕ) (p : ℕ) → TellsFree g a → KillDone g p a b →
    TellsFree g b × ((q : ℕ) → is_entry_page g q ≡ true → sort_at g b q ≡ with_sort p Deleted (sort_at g a) q)

-- A cleaning begins with nothing gone.
abbrev pub BeginsBetween : Geometry → Type 0
BeginsBetween g = (first : List ℕ) (block : ℕ) → IsImage g first → IsTidy g first → block < g.blocks → IsBetween g first block first

-- The live pages of a block that fits find places.
abbrev pub FitsHasPlaces : Geometry → Type 0
FitsHasPlaces g = (image : List ℕ) (block : ℕ) → IsTidy g image → block < g.blocks → is_fitting g image block ≡ true → HasPlaces g block (sort_at g image)

-- Within a batch those that remain find places, and so does the index page.
abbrev pub BatchHasPlaces : Geometry → Type 0
BatchHasPlaces g = (first was : List ℕ) (block : ℕ) (moves : List Move) → block < g.blocks → IsBetween g first block was →
    HasPlaces g block (sort_at g was) → AreMoves g was moves →
    ArePagesWay g block (sort_at g was) moves →
    HadWith (entries g) (others_by g (with_data moves (sort_at g was)) block) 0
    ((counts_by g (sort_at g was) block).index + (counts_by g (sort_at g was) block).pages) ((counts_by g (sort_at g was) block).pages - length moves)

-- An index page has gone out of the block, and the pages that remain find places.
abbrev pub IndexGoesOn : Geometry → Type 0
IndexGoesOn g = (first was now : List ℕ) (block : ℕ) (move : Move) → block < g.blocks → IsBetween g first block was → HasPlaces g block (sort_at g was) →
    IsIndexWay g block (sort_at g was) move →
    IsOnWay g (move ∷ []) was now → IsTidy g now → live_at g now move.from ≡ None → IsBetween g first block now × HasPlaces g block (sort_at g now)

-- So has a batch.
abbrev pub BatchGoesOn : Geometry → Type 0
BatchGoesOn g = (first was now : List ℕ) (block : ℕ) (index : Move) (moves : List Move) → block < g.blocks → IsBetween g first block was →
    HasPlaces g block (sort_at g was) →
    ArePagesWay g block (sort_at g was) moves → 0 < length moves → block_of g index.from ≢ block →
    IsPlaceBy g (with_data moves (sort_at g was)) block for_index index.to →
    IsBatch g was now index moves → IsOnWay g (index ∷ moves) was now → IsTidy g now → live_at g now index.from ≡ None →
    IsBetween g first block now × HasPlaces g block (sort_at g now)
