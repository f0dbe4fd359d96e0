-- How many header pages there are, and what a file more adds to the pages of a table.
use Rattle.std.specs.Prelude.{◌≡◌, ℕ, ◌+◌, List, length, false, filter}
use Rattle.std.specs.List.{range_with_len}
use Rattle.geometry.specs.declared.geometry.Geometry.{Geometry}
use Rattle.table_model.specs.Table.{File, has_id, put_file}
use Rattle.table_model.specs.Room.{index_pages, data_pages, index_count, data_count}
use Rattle.table_model.specs.Files.{new_file}
use Rattle.geometry.specs.Numbers.{page_count}
use Rattle.image_model.specs.Places.{IsImage}
use Rattle.image_model.specs.Live.{live_at}
use Rattle.image_model.specs.Files.{is_index}
use Rattle.image_model.specs.Tables.{table_of}
use Rattle.image_model.specs.Tidy.{IsTidy}

-- how many header pages of an image are live: index pages of span 0
unfoldable pub live_heads : Geometry → List ℕ → ℕ
live_heads g image = length (filter (λ p. is_index (live_at g image p) 0) (range_with_len 0 (page_count g)))

-- A tidy image has as many of them as its table has files.
abbrev pub FileCount : Geometry → Type 0
FileCount g = (a : List ℕ) → IsImage g a → IsTidy g a → live_heads g a ≡ length (table_of g a)

-- what a table has with one file more
pub record Adds (g : Geometry) (files more : List File) (index pages : ℕ) : Type 0 where
  pub files_are : length more ≡ length files + 1
  pub index_are : index_count g more ≡ index_count g files + index
  pub data_are : data_count g more ≡ data_count g files + pages

-- A file of an unused id adds its own pages.
abbrev pub PutAdds : Geometry → Type 0
PutAdds g = (f : File) (files : List File) → has_id f.id files ≡ false →
    Adds g files (put_file f files) (index_pages g (length f.bytes)) (data_pages g (length f.bytes))

-- A new file adds one index page and no data page.
abbrev pub NewAdds : Geometry → Type 0
NewAdds g = (id : ℕ) (name : List ℕ) (files : List File) → has_id id files ≡ false → Adds g files (put_file (new_file g id name) files) 1 0
