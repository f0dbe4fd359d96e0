-- The numbers of a volume, and which numbers are refused.
use Rattle.std.specs.Prelude.{◌≡◌, ℕ, ◌+◌, ◌-◌, ◌*◌, ◌/◌, not, nat_lt, Option, Some, None, if◌then◌else◌, bit_xor}
use Rattle.geometry.specs.declared.geometry.Geometry.{Geometry}
use Rattle.geometry.specs.declared.magic.MagicKind.{MagicKind}
use Rattle.geometry.specs.declared.magic.MagicKind.TheVariants.{Plain, Length}
use Rattle.geometry.specs.declared.error.GeoErr.{GeoErr}
use Rattle.geometry.specs.declared.error.GeoErr.TheVariants.{BadPage, BadBlock, TooFewBlocks, TooManyPages, NoRoomForMagic, BadMeta, TooManyUsable}
use Rattle.geometry.specs.declared.error.GeoErr.TheVariants.{TooFewToWrite}
use Rattle.geometry.specs.Rules.{pages_in, lookups_in, is_page, is_block, has_magic_room}

-- pages of a block
unfoldable pub per_block : Geometry → ℕ
per_block g = pages_in g.page g.block

-- lookup pages of a block, its first pages
unfoldable pub lookups : Geometry → ℕ
lookups g = lookups_in g.page g.block

-- entry pages of a block
unfoldable pub entries : Geometry → ℕ
entries g = per_block g - lookups g

-- file bytes of a data page: all but its header of five bytes
abbrev pub body : Geometry → ℕ
body g = g.page - 5

-- data pages that a header page names, behind 45 bytes of fields and the meta bytes
abbrev pub head_slots : Geometry → ℕ
head_slots g = (g.page - 45 - g.meta) / 2

-- data pages that a further index page names, behind 8 bytes of fields
abbrev pub span_slots : Geometry → ℕ
span_slots g = (g.page - 8) / 2

-- pages of the volume
unfoldable pub page_count : Geometry → ℕ
page_count g = g.blocks * per_block g

-- entry pages of the volume
abbrev pub usable : Geometry → ℕ
usable g = g.blocks * entries g

-- a / b, rounded up
abbrev pub ceil : ℕ → ℕ → ℕ
ceil a b = (a + b - 1) / b

-- slots of two bytes in the lookup pages of a block
abbrev pub slots : Geometry → ℕ
slots g = lookups g * g.page / 2

-- how far a block is from the volume's end, where the magic tells the length
abbrev pub length_mark : MagicKind → ℕ → ℕ → ℕ
length_mark Plain blocks b = 0
length_mark Length blocks b = blocks - b

-- The right magic of a block: the lower half of 0x20140529, the page size and the distance from the end, bit by bit.
-- The page size and the distance have no bits above that half.
abbrev pub right_magic : Geometry → ℕ → ℕ
right_magic g b = bit_xor (bit_xor 0x0529 g.page) (length_mark g.magic g.blocks b)

-- bytes of work for pages, notes on pages and the bits of ids
abbrev pub scratch_need : Geometry → ℕ
scratch_need g = 4 * g.page + 4 * per_block g + usable g / 8 + 1

-- bytes of work for the counts of all blocks: 16 a block
abbrev pub rows_need : Geometry → ℕ
rows_need g = 16 * g.blocks

-- bytes of work that a mounted volume needs
abbrev pub work_need : Geometry → ℕ
work_need g = scratch_need g + rows_need g

-- bytes of cache that a mounted volume needs: one frame
abbrev pub cache_need : Geometry → ℕ
cache_need g = g.page + 8

-- bytes of check that a mounted volume needs
abbrev pub check_need : Geometry → ℕ
check_need g = page_count g + 8192

-- the first rule that six numbers break, if they break one
abbrev pub refusal : ℕ → ℕ → ℕ → ℕ → ℕ → Option GeoErr
refusal page block blocks phys meta =
    if not (is_page page) then Some BadPage
    else if not (is_block page block phys) then Some BadBlock
    else if nat_lt blocks 3 then Some TooFewBlocks
    else if nat_lt 65535 (blocks * pages_in page block) then Some TooManyPages
    else if not (has_magic_room page block) then Some NoRoomForMagic
    else if nat_lt 64 meta then Some BadMeta
    else None

-- why a volume is read and never written
abbrev pub write_refusal : Geometry → Option GeoErr
write_refusal g =
    if nat_lt 32766 (usable g) then Some TooManyUsable
    else if nat_lt g.blocks 4 then Some TooFewToWrite
    else None

-- the geometry has these numbers
pub record IsOf (g : Geometry) (page block blocks phys meta : ℕ) (magic : MagicKind) : Type 0 where
  pub page_is : g.page ≡ page
  pub block_is : g.block ≡ block
  pub blocks_is : g.blocks ≡ blocks
  pub phys_is : g.phys ≡ phys
  pub meta_is : g.meta ≡ meta
  pub magic_is : g.magic ≡ magic
