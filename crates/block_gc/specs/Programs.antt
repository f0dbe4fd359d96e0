-- How many pages a cleaning moves, each by six programs.
use Rattle.std.specs.Prelude.{◌≡◌, ℕ, ◌+◌, ◌*◌, ◌/◌, ◌%◌, ◌<◌, ◌≤◌, List, [], ◌∷◌, Bool, false, not, nat_lt, ◌==◌, ◌&&◌, Option, Some, None, is_some, max}
use Rattle.geometry.specs.declared.geometry.Geometry.{Geometry}
use Rattle.image_model.specs.Collect.{count_in, deleted_in, free_in, chosen_block}
use Rattle.image_model.specs.Files.{index_span}
use Rattle.image_model.specs.Headers.{obj_id, span_of, names_index}
use Rattle.image_model.specs.Live.{live_at}
use Rattle.image_model.specs.Places.{block_of}

-- a live data page of a file that the index page of this span names
abbrev pub is_named : Geometry → (id span : ℕ) → Option (List ℕ) → Bool
is_named g id span None = false
is_named g id span (Some page) = not (names_index page) && (obj_id page % 0x8000 == id) && (index_span g (span_of page) == span)

-- how many of them a block holds before page p
unfoldable pub named_before : Geometry → List ℕ → (block id span p : ℕ) → ℕ
named_before g image block id span p = count_in g block (λ q. nat_lt q p && is_named g id span (live_at g image q))

-- A live data page begins a batch where the data pages before it in the block that its index page names fill whole batches.
abbrev pub begins_batch : Geometry → List ℕ → (block longest p : ℕ) → Option (List ℕ) → Bool
begins_batch g image block longest p None = false
begins_batch g image block longest p (Some page) =
    not (names_index page) && (named_before g image block (obj_id page % 0x8000) (index_span g (span_of page)) p % longest == 0)

-- the batches that the data pages of a block make: for each index page that names d of them, d over the longest one, rounded up
unfoldable pub batches_in : Geometry → List ℕ → (block longest : ℕ) → ℕ
batches_in g image block longest = count_in g block (λ p. begins_batch g image block longest p (live_at g image p))

-- the live pages of a block
unfoldable pub live_in : Geometry → List ℕ → (block : ℕ) → ℕ
live_in g image block = count_in g block (λ p. is_some (live_at g image p))

-- the pages that go out of a block: its live pages, and with each batch the index page that names it
abbrev pub moved_with : Geometry → List ℕ → (block longest : ℕ) → ℕ
moved_with g image block longest = live_in g image block + batches_in g image block longest

-- the longest batch of a cleaning: as many as the entries of the block that aren't live, at least one
abbrev pub longest_at : Geometry → List ℕ → (block : ℕ) → ℕ
longest_at g image block = max 1 (deleted_in g image block + free_in g image block)

-- the pages that a cleaning of a block moves
abbrev pub moved_in : Geometry → List ℕ → (block : ℕ) → ℕ
moved_in g image block = moved_with g image block (longest_at g image block)

-- the most programs and erases of a cleaning of a block: six for each page that it moves, an erase for each unit of the block, and two for its
-- count and its magic
abbrev pub block_cost : Geometry → List ℕ → (block : ℕ) → ℕ
block_cost g image block = 6 * moved_in g image block + g.block / g.phys + 2

-- .. of the block that is chosen, if one is
abbrev pub cost_if : Geometry → List ℕ → Option ℕ → ℕ
cost_if g image None = 0
cost_if g image (Some block) = block_cost g image block

-- .. of a chain of cleanings that began at these images
unfoldable pub cost_of : Geometry → List (List ℕ) → ℕ
cost_of g [] = 0
cost_of g (image ∷ images) = cost_if g image (chosen_block g image) + cost_of g images

-- Each page that went out of a block from one image to another cost six programs at most, by the counts of programs and erases before and after.
abbrev pub SixEach : Geometry → (block most : ℕ) → (was now : List ℕ) → (before after : ℕ) → Type 0
SixEach g block most was now before after = after + 6 * moved_with g now block most ≤ before + 6 * moved_with g was block most

-- no page of a block before this one is live
abbrev pub NoneBefore : Geometry → List ℕ → (block page : ℕ) → Type 0
NoneBefore g image block page = (q : ℕ) → block_of g q ≡ block → q < page → live_at g image q ≡ None
