-- Index pages that go out of blocks that hold both kinds. By its counts such a block is one for data pages.
use Rattle.std.specs.Prelude.{◌≡◌, ℕ, ◌+◌, ◌-◌, ◌*◌, ◌<◌, ◌≤◌, ◌⊎◌, ◌↔◌, List, length, true, false, Some, slice_index_or, slice_set}
use Rattle.geometry.specs.declared.geometry.Geometry.{Geometry}
use Rattle.geometry.specs.Numbers.{entries}
use Rattle.image_model.specs.Places.{block_of, is_entry_page}
use Rattle.image_model.specs.Headers.{names_index}
use Rattle.image_model.specs.Live.{live_at}
use Rattle.image_model.specs.Tidy.{IsNeat, is_free_entry, is_free_block, free_blocks, HasReserve}
use Rattle.image_model.specs.Kinds.{is_data_block}
use Rattle.image_model.specs.Collect.{free_in, takes_index}
use Rattle.image_model.specs.Shared.{shared_index, open_entries, blocks_to_use, FitsWith}
use Rattle.image_laws.specs.LiveSteps.{PutDone, KillDone}
use Rattle.room_laws.specs.Counts.{Counts, unused, for_index, for_data, kind_of, if_any}
use Rattle.room_laws.specs.Volume.{total, blocks_of, free_of}
use Rattle.room_laws.specs.Steps.{placed, killed, CanPut}
use Rattle.room_laws.specs.Losing.{spoiled}
use Rattle.room_laws.specs.Sorts.{sort_at, all_by}

-- the index pages of blocks that hold data pages
unfoldable pub shared_total : List Counts → ℕ
shared_total = total (λ c. if_any c.pages c.index)

-- the entries that index pages may take while two free blocks stay
abbrev pub index_places : ℕ → List Counts → ℕ
index_places e v = free_of for_index v + (blocks_of unused v - 2) * e

-- A block by the counts of its e entries, which may hold both kinds.
abbrev pub IsWhole : ℕ → Counts → Type 0
IsWhole e c = c.index + c.pages + c.deleted + c.free ≡ e

-- An index page may go into block i by the rule, and two free blocks stay.
pub record CanPart (e : ℕ) (v : List Counts) (i : ℕ) (c : Counts) : Type 0 where
  pub whole : IsWhole e c
  pub put : CanPut v for_index i c
  pub keeps : kind_of c ≡ unused → 2 < blocks_of unused v

-- While such a page is left, and all of them have places, the rule finds one.
abbrev pub PartFinds : Type 0
PartFinds = (e : ℕ) (v : List Counts) → 0 < shared_total v → shared_total v ≤ index_places e v → (0 < free_of for_index v) ⊎ (2 < blocks_of unused v)

-- What one entry less for index pages leaves.
pub record TakesOne (e : ℕ) (v w : List Counts) : Type 0 where
  pub places : index_places e w + 1 ≡ index_places e v
  pub shared : shared_total w ≡ shared_total v
  pub reserve : 2 ≤ blocks_of unused v → 2 ≤ blocks_of unused w

-- A page that is put takes one, and so does an entry that is spoiled.
abbrev pub PartPuts : Type 0
PartPuts = (e : ℕ) (v : List Counts) (i : ℕ) (c : Counts) → CanPart e v i c →
    TakesOne e v (slice_set v i (placed for_index c)) × TakesOne e v (slice_set v i (spoiled c))

-- The old page is killed in a block that holds data pages: one less is shared.
pub record PartsOne (e : ℕ) (v w : List Counts) : Type 0 where
  pub places : index_places e w ≡ index_places e v
  pub shared : shared_total w + 1 ≡ shared_total v
  pub free : blocks_of unused w ≡ blocks_of unused v

abbrev pub PartKills : Type 0
PartKills = (e : ℕ) (v : List Counts) (i : ℕ) (c : Counts) → i < length v → slice_index_or v i c ≡ c → kind_of c ≡ for_data → 0 < c.index →
    PartsOne e v (slice_set v i (killed c))

-- By the counts of its blocks an image fits over with so many entries to spare.
abbrev pub FitsBy : ℕ → List Counts → (spare : ℕ) → Type 0
FitsBy e v spare = (shared_total v ≡ 0) ⊎ (shared_total v + spare ≤ index_places e v)

-- The index pages of an image's shared blocks, and the places for them, are those of its counts.
pub record PartsAreCounted (g : Geometry) (image : List ℕ) : Type 0 where
  pub shared : shared_index g image ≡ shared_total (all_by g (sort_at g image))
  pub places : open_entries g image ≡ free_of for_index (all_by g (sort_at g image))
  pub unused_blocks : blocks_to_use g image ≡ blocks_of unused (all_by g (sort_at g image))
  pub free : free_blocks g image ≡ blocks_of unused (all_by g (sort_at g image))
  pub fits : (spare : ℕ) → FitsWith g image spare ↔ FitsBy (entries g) (all_by g (sort_at g image)) spare

-- That is so in a neat image.
abbrev pub NeatPartsAreCounted : Geometry → Type 0
NeatPartsAreCounted g = (image : List ℕ) → IsNeat g image → PartsAreCounted g image

-- A free page where an index page may go: its block takes index pages, or it is free where all blocks that take them are full, and two
-- free blocks stay.
pub record IsPartPlace (g : Geometry) (image : List ℕ) (to : ℕ) : Type 0 where
  pub entry : is_entry_page g to ≡ true
  pub free : is_free_entry g image to ≡ true
  pub opened : is_free_block g image (block_of g to) ≡ false → takes_index g image (block_of g to) ≡ true
  pub last : is_free_block g image (block_of g to) ≡ true → (block : ℕ) → block < g.blocks → takes_index g image block ≡ true → free_in g image block ≡ 0
  pub keeps : is_free_block g image (block_of g to) ≡ true → 2 < free_blocks g image

-- An index page was moved out of a block that holds data pages: the image fits over as before, and two free blocks stay.
pub record PartedOne (g : Geometry) (was now : List ℕ) : Type 0 where
  pub fits : (spare : ℕ) → FitsWith g was spare → FitsWith g now spare
  pub reserve : HasReserve g was → HasReserve g now

-- A copy is put to such a place, and the page is killed.
abbrev pub MovePartsOne : Geometry → Type 0
MovePartsOne g = (was middle now : List ℕ) (page to : ℕ) (old copy : List ℕ) → IsNeat g was → IsNeat g now → IsPartPlace g was to →
    live_at g was page ≡ Some old → names_index old ≡ true →
    is_data_block g was (block_of g page) ≡ true → names_index copy ≡ true → PutDone g to copy was middle → KillDone g page middle now → PartedOne g was now

-- While an index page of such a block is left, and the image fits over, there is a place for it: a free entry of a block that takes index pages,
-- or three free blocks.
abbrev pub PartPlaceIsFound : Geometry → Type 0
PartPlaceIsFound g = (image : List ℕ) (page : ℕ) (old : List ℕ) → IsNeat g image → FitsWith g image 0 → live_at g image page ≡ Some old →
    names_index old ≡ true → is_data_block g image (block_of g page) ≡ true →
    ((block : ℕ) → block < g.blocks → takes_index g image block ≡ true → free_in g image block ≡ 0) → 2 < free_blocks g image
