-- Wanted pages, free blocks, and tidy images.
use Rattle.std.specs.Prelude.{◌≡◌, ℕ, ◌+◌, ◌*◌, ◌%◌, ◌<◌, ◌≤◌, ◌⊎◌, List, [], length, Bool, true, false, ◌==◌, ◌&&◌, ◌||◌, Option, Some, None, is_some}
use Rattle.std.specs.Prelude.{option_and_then, filter, nat_le}
use Rattle.std.specs.List.{range_with_len, list_any, list_all}
use Rattle.geometry.specs.declared.geometry.Geometry.{Geometry}
use Rattle.table_model.specs.Room.{data_pages, index_pages}
use Rattle.geometry.specs.Numbers.{per_block, lookups, entries}
use Rattle.image_model.specs.Places.{has_magic, entry_of, page_of, block_of, is_entry_page}
use Rattle.image_model.specs.Headers.{obj_id, names_index, size_of}
use Rattle.image_model.specs.Live.{Live, live_at, own}
use Rattle.image_model.specs.Files.{index_page, entry_number, data_of}
use Rattle.image_model.specs.Tables.{has_of, counted, damaged_of}

-- that page's number
abbrev pub is_number : Option ℕ → ℕ → Bool
is_number None p = false
is_number (Some q) p = q == p

-- A page serves the file with this header page where it is its index page or its data page of a span below its page counts.
unfoldable pub serves : Geometry → Live → List ℕ → ℕ → Bool
serves g pages head p =
    list_any (λ j. is_number (index_page g pages j) p) (range_with_len 0 (index_pages g (size_of head)))
    || list_any (λ span. is_number (entry_number g pages head span) p && is_some (data_of (pages p) span)) (range_with_len 0 (data_pages g (size_of head)))

-- it serves the file, where there is a header page
abbrev pub serves_head : Geometry → Live → Option (List ℕ) → ℕ → Bool
serves_head g pages None p = false
serves_head g pages (Some head) p = serves g pages head p

-- it serves the file of its own id, and that file is in the table
abbrev pub is_wanted_as : Geometry → Live → Option (List ℕ) → ℕ → Bool
is_wanted_as g live None p = false
is_wanted_as g live (Some page) p =
    let id = obj_id page % 0x8000 in
    is_some (counted (has_of g live) 0x7FFF (has_of g live id))
    && serves_head g (own live id) (option_and_then (own live id) (index_page g (own live id) 0)) p

-- A wanted page is a live page that serves a file of the table.
unfoldable pub is_wanted : Geometry → List ℕ → ℕ → Bool
is_wanted g image p = is_wanted_as g (live_at g image) (live_at g image p) p

-- bytes of 0xFF alone, as an erase leaves them
abbrev pub is_erased : List ℕ → Bool
is_erased bytes = list_all (λ b. b == 0xFF) bytes

-- an entry of 0xFFFF over an erased page
abbrev pub is_free_entry : Geometry → List ℕ → ℕ → Bool
is_free_entry g image p = (entry_of g image p == 0xFFFF) && is_erased (page_of g image p)

-- An image is tidy where every block has its magic, every entry is deleted, free or that of a wanted page, nothing is
-- damaged, and no block holds live pages of both kinds.
pub record IsTidy (g : Geometry) (image : List ℕ) : Type 0 where
  pub magic : (block : ℕ) → block < g.blocks → has_magic g image block ≡ true
  pub entries : (p : ℕ) → is_entry_page g p ≡ true →
      (entry_of g image p ≡ 0) ⊎ ((is_free_entry g image p ≡ true) ⊎ (is_wanted g image p ≡ true))
  pub undamaged : damaged_of g image ≡ []
  pub unmixed : (p q : ℕ) (x y : List ℕ) → live_at g image p ≡ Some x → live_at g image q ≡ Some y → block_of g p ≡ block_of g q → names_index x ≡ names_index y

-- An image is neat where it is tidy but for blocks that hold live pages of both kinds.
pub record IsNeat (g : Geometry) (image : List ℕ) : Type 0 where
  pub magic : (block : ℕ) → block < g.blocks → has_magic g image block ≡ true
  pub entries : (p : ℕ) → is_entry_page g p ≡ true →
      (entry_of g image p ≡ 0) ⊎ ((is_free_entry g image p ≡ true) ⊎ (is_wanted g image p ≡ true))
  pub undamaged : damaged_of g image ≡ []

-- Free entries are told by the lookup pages alone: every block has its magic, and every entry of 0xFFFF lies over an erased page.
pub record TellsFree (g : Geometry) (image : List ℕ) : Type 0 where
  pub magic : (block : ℕ) → block < g.blocks → has_magic g image block ≡ true
  pub free : (p : ℕ) → is_entry_page g p ≡ true → entry_of g image p ≡ 0xFFFF → is_free_entry g image p ≡ true

-- A block is free where it has its magic and all its entries are free.
unfoldable pub is_free_block : Geometry → List ℕ → ℕ → Bool
is_free_block g image block =
    has_magic g image block && list_all (λ p. is_free_entry g image p) (range_with_len (block * per_block g + lookups g) (entries g))

-- how many blocks are free
unfoldable pub free_blocks : Geometry → List ℕ → ℕ
free_blocks g image = length (filter (λ block. is_free_block g image block) (range_with_len 0 g.blocks))

-- A volume has its reserve where at least two blocks are free.
abbrev pub HasReserve : Geometry → List ℕ → Type 0
HasReserve g image = 2 ≤ free_blocks g image

-- whether at least two blocks are free, as the flat table is told it
abbrev pub has_spare : Geometry → List ℕ → Bool
has_spare g image = nat_le 2 (free_blocks g image)
