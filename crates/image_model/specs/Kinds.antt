-- Live pages by their kind, and blocks by what they hold.
use Rattle.std.specs.Prelude.{ℕ, ◌+◌, ◌*◌, List, length, Bool, false, not, ◌&&◌, Option, Some, None, filter}
use Rattle.std.specs.List.{range_with_len, list_any}
use Rattle.geometry.specs.declared.geometry.Geometry.{Geometry}
use Rattle.geometry.specs.Numbers.{per_block, lookups, entries, page_count}
use Rattle.image_model.specs.Headers.{names_index}
use Rattle.image_model.specs.Places.{has_magic}
use Rattle.image_model.specs.Live.{live_at}
use Rattle.image_model.specs.Tidy.{is_free_block}

-- a live index page, header pages included
abbrev pub is_index_page : Option (List ℕ) → Bool
is_index_page None = false
is_index_page (Some page) = names_index page

-- a live data page
abbrev pub is_data_page : Option (List ℕ) → Bool
is_data_page None = false
is_data_page (Some page) = not (names_index page)

-- how many index pages, and how many data pages, of an image are live
unfoldable pub live_index : Geometry → List ℕ → ℕ
live_index g image = length (filter (λ p. is_index_page (live_at g image p)) (range_with_len 0 (page_count g)))

unfoldable pub live_data : Geometry → List ℕ → ℕ
live_data g image = length (filter (λ p. is_data_page (live_at g image p)) (range_with_len 0 (page_count g)))

-- a block with a live data page
unfoldable pub is_data_block : Geometry → List ℕ → ℕ → Bool
is_data_block g image block = list_any (λ p. is_data_page (live_at g image p)) (range_with_len (block * per_block g + lookups g) (entries g))

-- a block with a live index page
unfoldable pub is_index_block : Geometry → List ℕ → ℕ → Bool
is_index_block g image block = list_any (λ p. is_index_page (live_at g image p)) (range_with_len (block * per_block g + lookups g) (entries g))

-- A block is mixed where it holds live pages of both kinds.
unfoldable pub is_mixed : Geometry → List ℕ → ℕ → Bool
is_mixed g image block = is_index_block g image block && is_data_block g image block

-- how many blocks are mixed, and how many lack their magic
unfoldable pub mixed_blocks : Geometry → List ℕ → ℕ
mixed_blocks g image = length (filter (λ block. is_mixed g image block) (range_with_len 0 g.blocks))

unfoldable pub spoiled_blocks : Geometry → List ℕ → ℕ
spoiled_blocks g image = length (filter (λ block. not (has_magic g image block)) (range_with_len 0 g.blocks))

-- a block that is neither free nor a data block
abbrev pub is_other_block : Geometry → List ℕ → ℕ → Bool
is_other_block g image block = not (is_free_block g image block) && not (is_data_block g image block)

-- how many blocks of each of these kinds there are
unfoldable pub data_blocks : Geometry → List ℕ → ℕ
data_blocks g image = length (filter (λ block. is_data_block g image block) (range_with_len 0 g.blocks))

unfoldable pub other_blocks : Geometry → List ℕ → ℕ
other_blocks g image = length (filter (λ block. is_other_block g image block) (range_with_len 0 g.blocks))
