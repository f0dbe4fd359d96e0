-- The id of a new file, and the room that it needs.
use Rattle.std.specs.Prelude.{◌≡◌, ℕ, ◌+◌, ◌<◌, ◌≤◌, List, [], length, true, false, not, nat_le, Some, find}
use Rattle.std.specs.List.{range_with_len}
use Rattle.geometry.specs.declared.geometry.Geometry.{Geometry}
use Rattle.geometry.specs.Numbers.{ceil, entries, usable}
use Rattle.table_model.specs.Table.{File, has_id, least_id}
use Rattle.table_model.specs.Room.{index_count, data_count, has_room}
use Rattle.table_model.specs.Files.{created}
use Rattle.image_model.specs.Tables.{table_of, damaged_of}
use Rattle.flash_view.specs.Found.{has_header}

-- the least id from 1 that none of these files has
pub record IsLeast (files : List File) (id : ℕ) : Type 0 where
  pub low : 1 ≤ id
  pub high : id ≤ length files + 1
  pub unused : has_id id files ≡ false
  pub least : (other : ℕ) → 1 ≤ other → other < id → has_id other files ≡ true

-- Every table has such an id.
abbrev pub LeastIsUnused : Type 0
LeastIsUnused = (files : List File) → IsLeast files (least_id files)

-- Whether a table has room after a create, by the pages that it has before.
abbrev pub CreateRoom : Geometry → Type 0
CreateRoom g = (name : List ℕ) (files : List File) →
    has_room g (created g name files) ≡ nat_le (ceil (index_count g files + 2) (entries g) + ceil (data_count g files + 1) (entries g) + 2) g.blocks

-- Where nothing is damaged and a create has room, the first id without a header page is the least unused one of the table,
-- and it is at most the number of entry pages.
abbrev pub LeastIsFirst : Geometry → Type 0
LeastIsFirst g = (a name : List ℕ) → damaged_of g a ≡ [] → has_room g (created g name (table_of g a)) ≡ true →
    (find (λ id. not (has_header g a id)) (range_with_len 1 (usable g)) ≡ Some (least_id (table_of g a))) × (least_id (table_of g a) ≤ usable g)
