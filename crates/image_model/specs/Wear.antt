-- Which block a scrub step moves: the least worn one in use, where the free blocks are more worn.
use Rattle.std.specs.Prelude.{ℕ, ◌+◌, List, not, nat_le, ◌&&◌, Option, Some, None, if◌then◌else◌, max, map, filter, find, option_and_then}
use Rattle.std.specs.List.{range_with_len, list_all, fold}
use Rattle.geometry.specs.declared.geometry.Geometry.{Geometry}
use Rattle.image_model.specs.Tidy.{is_free_block}
use Rattle.image_model.specs.Collect.{is_fitting, age_of}

-- the greatest age of a free block
unfoldable pub young : Geometry → List ℕ → ℕ
young g image = fold max 0 (map (λ block. age_of g image block) (filter (λ block. is_free_block g image block) (range_with_len 0 g.blocks)))

-- the blocks in use that fit
unfoldable pub movable : Geometry → List ℕ → List ℕ
movable g image = filter (λ block. not (is_free_block g image block) && is_fitting g image block) (range_with_len 0 g.blocks)

-- the first of some blocks that has their greatest age
abbrev pub oldest_of : Geometry → List ℕ → List ℕ → Option ℕ
oldest_of g image blocks = find (λ block. list_all (λ other. nat_le (age_of g image other) (age_of g image block)) blocks) blocks

-- The victim of a scrub with a limit is the oldest of the blocks in use that fit, where it is so many counts older than each free block.
unfoldable pub scrub_victim : Geometry → List ℕ → (limit : ℕ) → Option ℕ
scrub_victim g image limit =
    option_and_then (λ block. if nat_le (young g image + limit) (age_of g image block) then Some block else None) (oldest_of g image (movable g image))
