-- How many pages a table takes, and whether it has room.
use Rattle.std.specs.Prelude.{ℕ, ◌+◌, ◌-◌, List, length, Bool, nat_lt, nat_le, if◌then◌else◌, sum_by}
use Rattle.geometry.specs.declared.geometry.Geometry.{Geometry}
use Rattle.geometry.specs.Numbers.{ceil, body, head_slots, span_slots, entries}
use Rattle.table_model.specs.Table.{File}

-- data pages of a file of that size
abbrev pub data_pages : Geometry → ℕ → ℕ
data_pages g size = ceil size (body g)

-- index pages of a file of that size: its header page, and further ones where that names too few data pages
abbrev pub index_pages : Geometry → ℕ → ℕ
index_pages g size =
    let n = data_pages g size in
    if nat_lt (head_slots g) n then 1 + ceil (n - head_slots g) (span_slots g) else 1

-- index pages and data pages of all files
unfoldable pub index_count : Geometry → List File → ℕ
index_count g files = sum_by (λ f. index_pages g (length f.bytes)) files

unfoldable pub data_count : Geometry → List File → ℕ
data_count g files = sum_by (λ f. data_pages g (length f.bytes)) files

-- A table has room where its pages and one more of each kind, each kind in blocks of its own, leave two blocks free.
unfoldable pub has_room : Geometry → List File → Bool
has_room g files = nat_le (ceil (index_count g files + 1) (entries g) + ceil (data_count g files + 1) (entries g) + 2) g.blocks
