-- Ids with more than one header page (SPIFFS object index header). A volume at rest has none. In two volumes that lie end to end and are read as
-- one, most ids of the one are ids of the other too.
use Rattle.std.specs.Prelude.{ℕ, List, length, nat_lt, filter}
use Rattle.std.specs.List.{range_with_len}
use Rattle.geometry.specs.declared.geometry.Geometry.{Geometry}
use Rattle.geometry.specs.Numbers.{page_count}
use Rattle.image_model.specs.Live.{Live, live_at, own}
use Rattle.image_model.specs.Files.{is_index}

-- how many pages below p are live header pages of an id
unfoldable pub heads_to : Live → ℕ → ℕ → ℕ
heads_to live p id = length (filter (λ q. is_index (own live id q) 0) (range_with_len 0 p))

-- the ids from 1 to n that have two of these or more
unfoldable pub doubled_to : Live → ℕ → ℕ → List ℕ
doubled_to live p n = filter (λ id. nat_lt 1 (heads_to live p id)) (range_with_len 1 n)

-- the doubled ids of a volume: two live header pages of each, or more, stand in it
unfoldable pub doubled_of : Geometry → List ℕ → List ℕ
doubled_of g image = doubled_to (live_at g image) (page_count g) 0x7FFF
