-- How many cleanings an image asks for at most, and what each takes.
use Rattle.std.specs.Prelude.{ℕ, ◌+◌, ◌*◌, ◌/◌, List}
use Rattle.geometry.specs.declared.geometry.Geometry.{Geometry}
use Rattle.geometry.specs.Numbers.{ceil, entries}
use Rattle.table_model.specs.Table.{File}
use Rattle.table_model.specs.Room.{index_count, data_count}
use Rattle.room_laws.specs.Counts.{Counts, for_index, for_data}
use Rattle.room_laws.specs.Volume.{blocks_of, deleted_of}
use Rattle.room_laws.specs.Counting.{counts_of}

-- One for each deleted entry of the blocks for index pages and one for each of those blocks; and for each deleted entry of data blocks and for
-- each data block two more than a block has entries: its cleaning, and a cleaning for each index page that it renews and for a block that
-- these take.
unfoldable pub most_of : ℕ → List Counts → ℕ
most_of e v = (e + 2) * (deleted_of for_data v + blocks_of for_data v) + deleted_of for_index v + blocks_of for_index v

unfoldable pub most_cleanings : Geometry → List ℕ → ℕ
most_cleanings g image = most_of (entries g) (counts_of g image)

-- what of that number is there on each image with a table, however packed it is
abbrev pub least_left : Geometry → List File → ℕ
least_left g files = (entries g + 2) * ceil (data_count g files) (entries g) + ceil (index_count g files) (entries g)

-- the most programs and erases of one cleaning, of whichever block: each of its entries may go, with an index page each
abbrev pub one_cost : Geometry → ℕ
one_cost g = 12 * entries g + g.block / g.phys + 2
