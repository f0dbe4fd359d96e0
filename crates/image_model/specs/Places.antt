-- What an image holds at a place: pages, lookup entries, magics and erase counts.
use Rattle.std.specs.Prelude.{◌≤◌, ℕ, ◌+◌, ◌-◌, ◌*◌, ◌/◌, ◌%◌, List, length, Bool, not, nat_lt, ◌==◌, ◌&&◌, if◌then◌else◌, max, map, filter, slice_range}
use Rattle.std.specs.List.{range_with_len, fold}
use Rattle.geometry.specs.declared.geometry.Geometry.{Geometry}
use Rattle.geometry.specs.Numbers.{right_magic, per_block, lookups, page_count, slots}
use Rattle.nor_core.specs.Flash.{word_at}

-- The bytes of a device that holds the volume, at its start.
pub record IsImage (g : Geometry) (image : List ℕ) : Type 0 where
  pub len : g.blocks * g.block ≤ length image

-- the bytes of a page
unfoldable pub page_of : Geometry → List ℕ → ℕ → List ℕ
page_of g image p = slice_range image (p * g.page) (p * g.page + g.page)

-- slot i of the lookup pages of a block, which are one array of numbers of two bytes (SPIFFS object lookup)
unfoldable pub slot_of : Geometry → List ℕ → ℕ → ℕ → ℕ
slot_of g image block i = word_at image (block * g.block + 2 * i)

-- the block that a page lies in
abbrev pub block_of : Geometry → ℕ → ℕ
block_of g p = p / per_block g

-- the place of a page among the pages of its block
abbrev pub place_of : Geometry → ℕ → ℕ
place_of g p = p % per_block g

-- a page of the volume that is no lookup page
unfoldable pub is_entry_page : Geometry → ℕ → Bool
is_entry_page g p = nat_lt p (page_count g) && not (nat_lt (place_of g p) (lookups g))

-- the byte at which the lookup entry of a page begins
abbrev pub entry_at : Geometry → ℕ → ℕ
entry_at g p = block_of g p * g.block + 2 * (place_of g p - lookups g)

-- the lookup entry of a page: the first slot is that of the first entry page of the block (SPIFFS object lookup)
unfoldable pub entry_of : Geometry → List ℕ → ℕ → ℕ
entry_of g image p = slot_of g image (block_of g p) (place_of g p - lookups g)

-- A block has its magic where the last slot but one holds the right one (SPIFFS magic).
unfoldable pub has_magic : Geometry → List ℕ → ℕ → Bool
has_magic g image block = slot_of g image block (slots g - 2) == right_magic g block

-- The erase count of a block is its last slot, and 0 where that is 0x8000 or more (SPIFFS erase count).
unfoldable pub erase_count : Geometry → List ℕ → ℕ → ℕ
erase_count g image block =
    let count = slot_of g image block (slots g - 1) in
    if nat_lt count 0x8000 then count else 0

-- The next erase count is one more than the greatest of any block with its magic, and 0 where that would be 0x8000.
unfoldable pub next_count : Geometry → List ℕ → ℕ
next_count g image = fold max 0 (map (λ block. erase_count g image block + 1) (filter (λ block. has_magic g image block) (range_with_len 0 g.blocks))) % 0x8000
