-- How many blocks a volume needs at least, so that an image can be made of a folder's files.
use Rattle.std.specs.Prelude.{◌≡◌, ◌≢◌, ℕ, ◌+◌, ◌*◌, ◌/◌, ◌<◌, ◌≤◌, min, List, nat_lt, Option, Some, None, if◌then◌else◌}
use Rattle.std.specs.Option.{option_or}
use Rattle.geometry.specs.declared.geometry.Geometry.{Geometry}
use Rattle.geometry.specs.declared.error.GeoErr.{GeoErr}
use Rattle.geometry.specs.declared.error.GeoErr.TheVariants.{TooManyUsable, TooFewToWrite}
use Rattle.geometry.specs.Rules.{entries_in}
use Rattle.geometry.specs.Numbers.{ceil, per_block, entries, refusal, write_refusal}
use Rattle.folder_core.specs.Files.{Entry}
use Rattle.folder_plan.specs.declared.refusing.Refusal.{Refusal}
use Rattle.folder_plan.specs.declared.refusing.Refusal.TheVariants.{BadNames, Full}
use Rattle.folder_plan.specs.Refusals.{index_sum, data_sum, make_refusal}
use Rattle.folder_size.specs.declared.told.Shape.{Shape}
use Rattle.folder_size.specs.declared.told.Need.{Need}
use Rattle.folder_size.specs.declared.told.Need.TheVariants.{Blocks, BadName, TooMany, NoVolume}

-- a volume of that shape: of any number of blocks and any magic
pub record HasShape (g : Geometry) (shape : Shape) : Type 0 where
  pub page_is : g.page ≡ shape.page
  pub block_is : g.block ≡ shape.block
  pub phys_is : g.phys ≡ shape.phys
  pub meta_is : g.meta ≡ shape.meta

-- why a volume of so many entry pages and blocks can't be written
abbrev pub usable_refusal : (usable blocks : ℕ) → Option GeoErr
usable_refusal usable blocks =
    if nat_lt 32766 usable then Some TooManyUsable
    else if nat_lt blocks 4 then Some TooFewToWrite
    else None

-- why so many blocks of a shape make no volume that can be written, if they make none
unfoldable pub written_refusal : Shape → (blocks : ℕ) → Option GeoErr
written_refusal shape blocks =
    option_or (refusal shape.page shape.block blocks shape.phys shape.meta) (usable_refusal (blocks * entries_in shape.page shape.block) blocks)

-- `n` blocks are the least: they make a volume that can be written; with so many or more an image is made of the files, and with fewer it is
-- refused for want of room.
pub record IsLeast (shape : Shape) (files : List Entry) (n : ℕ) : Type 0 where
  pub is_volume : written_refusal shape n ≡ None
  pub enough : (g : Geometry) → HasShape g shape → n ≤ g.blocks → make_refusal g files ≡ None
  pub fewer : (g : Geometry) → HasShape g shape → g.blocks < n → make_refusal g files ≡ Some (Full (index_sum g files) (data_sum g files))

-- Four blocks make a volume that can be written; with any number of blocks the name of that file is refused.
pub record IsBadName (shape : Shape) (files : List Entry) (at : ℕ) : Type 0 where
  pub is_volume : written_refusal shape 4 ≡ None
  pub refused : (g : Geometry) → HasShape g shape → make_refusal g files ≡ Some (BadNames at)

-- Four blocks make a volume that can be written; with any number of blocks that makes one the files are refused for want of room.
pub record IsNever (shape : Shape) (files : List Entry) (index pages : ℕ) : Type 0 where
  pub is_volume : written_refusal shape 4 ≡ None
  pub refused : (g : Geometry) → HasShape g shape → write_refusal g ≡ None → make_refusal g files ≡ Some (Full index pages)

-- no number of blocks makes a volume that can be written; four don't for that reason
pub record IsNoVolume (shape : Shape) (why : GeoErr) : Type 0 where
  pub why_is : written_refusal shape 4 ≡ Some why
  pub none : (n : ℕ) → written_refusal shape n ≢ None

-- what is told of a folder's files
abbrev pub IsNeed : Shape → List Entry → Need → Type 0
IsNeed shape files (Blocks n) = IsLeast shape files n
IsNeed shape files (BadName at) = IsBadName shape files at
IsNeed shape files (TooMany index pages) = IsNever shape files index pages
IsNeed shape files (NoVolume why) = IsNoVolume shape why

-- blocks that so many pages and one more of each kind need, each kind in blocks of its own, with two blocks free
abbrev pub blocks_needed : Geometry → (index pages : ℕ) → ℕ
blocks_needed g index pages = ceil (index + 1) (entries g) + ceil (pages + 1) (entries g) + 2

-- the most blocks of a volume of these pages and blocks that can be written
abbrev pub most_blocks : Geometry → ℕ
most_blocks g = min (65535 / per_block g) (32766 / entries g)

-- what is told of so many pages
unfoldable pub need_by : Geometry → (index pages : ℕ) → Need
need_by g index pages = if nat_lt (most_blocks g) (blocks_needed g index pages) then TooMany index pages else Blocks (blocks_needed g index pages)

-- what is told where the smallest volume of a shape refuses the files so
abbrev pub need_for : Geometry → Option Refusal → Need
need_for g None = Blocks 4
need_for g (Some (BadNames at)) = BadName at
need_for g (Some (Full index pages)) = need_by g index pages
