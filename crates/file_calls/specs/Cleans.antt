-- Which blocks a call cleans for the pages that it takes.
use Rattle.std.specs.Prelude.{◌≡◌, ℕ, ◌+◌, ◌-◌, ◌*◌, ◌≤◌, ◌⊎◌, List, [], ◌∷◌, length, replicate, Option, Some, Result, IsErr}
use Rattle.geometry.specs.declared.geometry.Geometry.{Geometry}
use Rattle.geometry.specs.Numbers.{body, usable}
use Rattle.nor_core.specs.declared.state.NorState.{Ghosts as NorOf}
use Rattle.nor_core.specs.Device.{Changes, OnlyReads}
use Rattle.table_model.specs.Table.{File, Open, State}
use Rattle.table_model.specs.Descriptors.{open_at}
use Rattle.table_model.specs.Files.{write_place}
use Rattle.table_model.specs.Ask.{Ask, Creates, Opens, Writes, Fills, Truncates, Removes, RemovesOpen, Renames, SetsMeta, SetsMetaOpen}
use Rattle.table_model.specs.Steps.{part_ends, open_file}
use Rattle.image_model.specs.Tidy.{HasReserve}
use Rattle.renew_laws.specs.Tails.{IsTailReady}
use Rattle.block_gc.specs.RoomMade.{SweptWhile, IsReady}
use Rattle.trim_laws.specs.Wear.{SameWear}
use Rattle.flash_view.specs.declared.view.View.{View}
use Rattle.flash_view.specs.Steps.{Step, Errors, Stepped}
use Rattle.file_calls.specs.Collecting.{RoomCut}

-- the index pages that a call takes which is no write: one for a header page that it puts
abbrev pub index_taken : Ask → ℕ
index_taken (Creates name) = 1
index_taken (Opens name flags) = 1
index_taken (Truncates fd size) = 1
index_taken (Renames old_name new_name) = 1
index_taken (SetsMeta name meta) = 1
index_taken (SetsMetaOpen fd meta) = 1
index_taken _ = 0

-- the most programs of a call that is no write, beside those of its cleanings: two for each page that it kills, six for a page that it renews,
-- and four for one that it puts
abbrev pub rest_taken : Geometry → Ask → ℕ
rest_taken g (Creates name) = 4
rest_taken g (Opens name flags) = 6 + 2 * usable g
rest_taken g (Truncates fd size) = 6 + 2 * usable g
rest_taken g (Removes name) = 3 + 2 * usable g
rest_taken g (RemovesOpen fd) = 3 + 2 * usable g
rest_taken g (Renames old_name new_name) = 6
rest_taken g (SetsMeta name meta) = 6
rest_taken g (SetsMetaOpen fd meta) = 6
rest_taken g _ = 0

-- Blocks were cleaned, one after the other, and each cleaning began where so many pages of each kind weren't had or fewer than two blocks
-- were free. By the counts of programs and erases before and after.
abbrev pub SweptFor : Geometry → (index pages : ℕ) → (was now : List ℕ) → (before after : ℕ) → Type 0
SweptFor g index pages was now before after = SweptWhile g (λ image. IsReady g image index pages) was now before after

-- Two free blocks stay free, and no block is made fresh.
pub record LeavesBlocks (g : Geometry) (was image : List ℕ) : Type 0 where
  pub reserve : HasReserve g was → HasReserve g image
  pub wear : SameWear g was image

-- A call, or a turn of one, has a first part in which it cleans blocks for so many pages of each kind: up to where the device is `mid`. From there
-- on it takes so many programs and erases at most.
pub record CleansFor {D : Type 0} (nor : NorOf D) (g : Geometry) (index pages rest : ℕ) (old new : D) (broken : Type 0) : Type 0 where
  pub mid : D
  -- a cut up to there keeps the image, and where two blocks were free it recovers
  pub first : Changes nor old mid (RoomCut g)
  -- where the pages are had and two blocks are free already, nothing is programmed or erased up to there
  pub idle : IsReady g (nor.bytes old) index pages → OnlyReads nor old mid
  -- each cleaning begins where that isn't so, where the call isn't broken off
  pub needed : ¬ broken → SweptFor g index pages (nor.bytes old) (nor.bytes mid) (nor.device_writes old) (nor.device_writes mid)
  pub few : nor.device_writes new ≤ nor.device_writes mid + rest
  -- from there on two blocks stay free where two are, and no block is made fresh, at each cut
  pub rest_cut : Changes nor mid new (LeavesBlocks g)
  -- where it takes no pages it cleans no block: from its beginning on two blocks stay free where two are, and no block is made fresh, at each cut
  pub none : index ≡ 0 → pages ≡ 0 → Changes nor old new (LeavesBlocks g)

-- A call over a view took that step, and cleaned blocks for so many pages of each kind before it.
pub record Taken {N T E : Type 0} {nor : NorOf N} (errors : Errors E) (index pages rest : ℕ) (old new : View N nor) (result : Result T E)
    (step : Step T) : Type 0 where
  pub steps : Stepped errors old new result step
  pub cleans : nor.tells old.nor.now → step.needs old.geometry (nor.bytes old.nor.now) →
      CleansFor nor old.geometry index pages rest old.nor.now new.nor.now (IsErr result)

-- ---- writes

-- the most programs of a turn of a write for so many data pages, beside those of its cleanings: fourteen, and four more for each page behind the first
abbrev pub turn_most : (pages : ℕ) → ℕ
turn_most pages = 14 + 4 * (pages - 1)

-- A turn of a write: where it began, and how many data pages its page step has at most, sixteen or fewer.
pub record WriteTurn (D : Type 0) : Type 0 where
  pub from : D
  pub pages : ℕ
  pub some : 1 ≤ pages
  pub short : pages ≤ 16

-- the data pages of turns, all together
unfoldable pub pages_in : {D : Type 0} → List (WriteTurn D) → ℕ
pages_in [] = 0
pages_in (turn ∷ more) = turn.pages + pages_in more

-- Only reads between two moments, or turns of cleaning, the last one first. A turn cleans for two index pages and its data pages at most, and one
-- that another follows wasn't broken off.
unfoldable pub TurnsAlong : {D : Type 0} → NorOf D → Geometry → (old new : D) → (broken : Type 0) → List (WriteTurn D) → Type 0
TurnsAlong nor g old new broken [] = OnlyReads nor old new
TurnsAlong nor g old new broken (turn ∷ more) =
    TurnsAlong nor g old turn.from ⊥ more × CleansFor nor g 2 turn.pages (turn_most turn.pages) turn.from new broken

-- So many data pages the turns of a write have, and there are no more turns than that: one for each of its parts at most, and one more where a tail is
-- to be made ready. `ready` says that none is.
pub record IsFew (ready : Type 0) (parts pages : ℕ) : Type 0 where
  pub most : pages ≤ parts + 1
  pub few : ready → pages ≤ parts

-- A write of so many parts cleans blocks in turns.
pub record CleansInTurns {D : Type 0} (nor : NorOf D) (g : Geometry) (ready : Type 0) (parts : ℕ) (old new : D) (broken : Type 0) : Type 0 where
  pub turns : List (WriteTurn D)
  pub along : TurnsAlong nor g old new broken turns
  pub few : IsFew ready parts (pages_in turns)

-- A call over a view took that step, and cleaned blocks in turns. `ready` says of which images no tail is to be made ready.
pub record Turned {N T E : Type 0} {nor : NorOf N} (errors : Errors E) (ready : Geometry → List ℕ → Type 0) (parts : ℕ) (old new : View N nor)
    (result : Result T E) (step : Step T) : Type 0 where
  pub steps : Stepped errors old new result step
  pub cleans : nor.tells old.nor.now → step.needs old.geometry (nor.bytes old.nor.now) →
      CleansInTurns nor old.geometry (ready old.geometry (nor.bytes old.nor.now)) parts old.nor.now new.nor.now (IsErr result)

-- how many parts a write of so many bytes has, at a place of a file of that size: they end where a data page ends, at the file's old end, and at
-- the end of the write
abbrev pub part_count : Geometry → (size at len : ℕ) → ℕ
part_count g size at len = length (part_ends (body g) size at len)

-- A write into the file of an id, of that size, needs no tail made ready: it ends inside the file, or the tail is ready.
abbrev pub NeedsNoTail : (id size end : ℕ) → Geometry → List ℕ → Type 0
NeedsNoTail id size end g image = (end ≤ size) ⊎ IsTailReady g image id

-- the same of a write through a descriptor on its file, if there are these
abbrev pub NeedsNoTailIn : Geometry → List ℕ → Option Open → Option File → List ℕ → Type 0
NeedsNoTailIn g image (Some d) (Some f) bytes = NeedsNoTail d.id (length f.bytes) (write_place d f + length bytes) g image
NeedsNoTailIn g image d f bytes = Unit {0}

-- .. and of a call
abbrev pub WritesNoTail : Geometry → List ℕ → State → Ask → Type 0
WritesNoTail g image s (Writes fd bytes) = NeedsNoTailIn g image (open_at s.slots fd) (open_file s (open_at s.slots fd)) bytes
WritesNoTail g image s (Fills fd count byte) = NeedsNoTailIn g image (open_at s.slots fd) (open_file s (open_at s.slots fd)) (replicate count byte)
WritesNoTail g image s ask = Unit {0}
