-- Lists of header pages by id.
use Rattle.std.specs.Prelude.{◌≡◌, ℕ, ◌-◌, ◌<◌, ◌≤◌, List, length, get_or, Option, None, find}
use Rattle.std.specs.List.{range_with_len}
use Rattle.geometry.specs.declared.geometry.Geometry.{Geometry}
use Rattle.geometry.specs.Numbers.{page_count}
use Rattle.image_model.specs.Live.{Live, own}
use Rattle.image_model.specs.Files.{is_index, index_page}

-- the first header page of each id, of the pages from p on
pub record HeadsFrom (g : Geometry) (live : Live) (p : ℕ) (heads : List (Option ℕ)) : Type 0 where
  pub most : p ≤ page_count g
  pub len : length heads ≡ 0x8000
  pub each : (id : ℕ) → id < 0x8000 → get_or heads id None ≡ find (λ q. is_index (own live id q) 0) (range_with_len p (page_count g - p))

-- the header page of each id
pub record IsHeads (g : Geometry) (live : Live) (heads : List (Option ℕ)) : Type 0 where
  pub len : length heads ≡ 0x8000
  pub each : (id : ℕ) → id < 0x8000 → get_or heads id None ≡ index_page g (own live id) 0
