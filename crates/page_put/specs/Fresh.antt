-- What making a block fresh leaves, done or cut off.
use Rattle.std.specs.Prelude.{◌≡◌, ℕ, ◌+◌, ◌*◌, ◌/◌, ◌<◌, ◌==◌, ◌⊎◌, List, true, false, Option, Some, None, if◌then◌else◌, slice_index}
use Rattle.std.specs.Int.{to_le_bytes, w16}
use Rattle.geometry.specs.declared.geometry.Geometry.{Geometry}
use Rattle.geometry.specs.Numbers.{right_magic}
use Rattle.nor_core.specs.declared.device.Mark.{Mark}
use Rattle.nor_core.specs.Flash.{SameOutside, HalfProgrammed, programmed, HalfErased, erased}
use Rattle.flash_view.specs.Places.{magic_start, count_start}
use Rattle.image_model.specs.Live.{live_at}
use Rattle.image_model.specs.Places.{has_magic, erase_count, block_of}
use Rattle.image_model.specs.Tidy.{is_free_block}
use Rattle.image_laws.specs.Blocks.{magic_mark}

-- At each cut all other blocks are as they were, and nothing happened, or no page of the block is live: it lacks its magic, or it is free, with
-- that erase count.
pub record Freshens (g : Geometry) (block erases : ℕ) (was image : List ℕ) : Type 0 where
  pub outside : SameOutside (block * g.block) g.block was image
  pub dead : (image ≡ was) ⊎ ((p : ℕ) → block_of g p ≡ block → live_at g image p ≡ None)
  pub state : (image ≡ was) ⊎ ((has_magic g image block ≡ false) ⊎ (is_free_block g image block ≡ true))
  pub counts : has_magic g image block ≡ true → (image ≡ was) ⊎ (erase_count g image block ≡ erases)

-- Afterwards all other blocks are as they were, and the block is free with that erase count.
pub record IsFresh (g : Geometry) (block erases : ℕ) (was now : List ℕ) : Type 0 where
  pub outside : SameOutside (block * g.block) g.block was now
  pub free : is_free_block g now block ≡ true
  pub count : erase_count g now block ≡ erases

-- the mark of the erase of unit i of a block: the block's magic, in its first unit alone
abbrev pub mark_of : Geometry → (block i : ℕ) → Option Mark
mark_of g block i = if i == 0 then Some (magic_mark g block) else None

-- the image once so many bytes at the front of a block are erased
abbrev pub with_front_erased : Geometry → (block size : ℕ) → List ℕ → List ℕ
with_front_erased g block size image = erased image (block * g.block) size

-- A cut of the erase of unit i of a block leaves it interrupted, with its mark, or done.
abbrev pub UnitCut : Geometry → (block i : ℕ) → List ℕ → List ℕ → Type 0
UnitCut g block i was image =
    HalfErased (block * g.block + i * g.phys) g.phys (mark_of g block i) was image ⊎ (image ≡ erased was (block * g.block + i * g.phys) g.phys)

-- A cut of the erases of a block, from its first unit upwards, leaves one unit in its erase: those below it are erased, and those above it are as they were.
pub record InErasing (g : Geometry) (block : ℕ) (was image : List ℕ) : Type 0 where
  pub unit : ℕ
  pub below : unit < g.block / g.phys
  pub cut : UnitCut g block unit (with_front_erased g block (unit * g.phys) was) image

-- After the erase of unit i of a block its bytes are 0xFF.
pub record UnitErased (g : Geometry) (block i : ℕ) (was now : List ℕ) : Type 0 where
  pub outside : SameOutside (block * g.block + i * g.phys) g.phys was now
  pub ones : (k : ℕ) → k < g.phys → slice_index now (block * g.block + i * g.phys + k) ≡ 255

-- All other blocks are as they were, and so many bytes at the front of a block are 0xFF.
pub record ErasedTo (g : Geometry) (block size : ℕ) (was now : List ℕ) : Type 0 where
  pub outside : SameOutside (block * g.block) g.block was now
  pub ones : (k : ℕ) → k < size → slice_index now (block * g.block + k) ≡ 255

-- the image once a block is erased
abbrev pub blank : Geometry → ℕ → List ℕ → List ℕ
blank g block image = with_front_erased g block g.block image

-- the image after the program of a block's erase count
abbrev pub with_count : Geometry → (block count : ℕ) → List ℕ → List ℕ
with_count g block count image = programmed image (count_start g block) (to_le_bytes w16 count)

-- after that of its magic
abbrev pub with_magic : Geometry → (block count : ℕ) → List ℕ → List ℕ
with_magic g block count image = programmed (with_count g block count image) (magic_start g block) (to_le_bytes w16 (right_magic g block))

-- A cut of the last two programs leaves the erase count half programmed, or, once it stands, the magic.
abbrev pub MarkCut : Geometry → (block count : ℕ) → List ℕ → List ℕ → Type 0
MarkCut g block count was image =
    HalfProgrammed (count_start g block) (to_le_bytes w16 count) was image
    ⊎ HalfProgrammed (magic_start g block) (to_le_bytes w16 (right_magic g block)) (with_count g block count was) image

-- A cut leaves the block in its erases, from the first unit upwards, or, once it is erased, in the program of its erase count, or, once this stands,
-- in that of its magic.
abbrev pub FreshCut : Geometry → (block count : ℕ) → List ℕ → List ℕ → Type 0
FreshCut g block count was image = InErasing g block was image ⊎ MarkCut g block count (blank g block was) image
