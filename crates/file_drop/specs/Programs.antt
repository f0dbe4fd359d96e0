-- How many pages a remove and a truncation kill, each by two programs.
use Rattle.std.specs.Prelude.{ℕ, List, length, filter}
use Rattle.std.specs.List.{range_with_len}
use Rattle.geometry.specs.declared.geometry.Geometry.{Geometry}
use Rattle.geometry.specs.Numbers.{page_count}
use Rattle.table_model.specs.Room.{index_pages, data_pages}
use Rattle.image_model.specs.Live.{live_at, own}
use Rattle.page_renew.specs.EditLaws.{past_of}

-- how many live pages of an id are past so many index pages and so many data pages, by their spans
unfoldable pub past_in : Geometry → List ℕ → (id index pages : ℕ) → ℕ
past_in g image id index pages = length (filter (λ p. past_of index pages (own (live_at g image) id p)) (range_with_len 0 (page_count g)))

-- all live pages of an id
abbrev pub pages_of : Geometry → List ℕ → (id : ℕ) → ℕ
pages_of g image id = past_in g image id 0 0

-- those that a file of so many bytes has no need of
abbrev pub pages_past : Geometry → List ℕ → (id size : ℕ) → ℕ
pages_past g image id size = past_in g image id (index_pages g size) (data_pages g size)
