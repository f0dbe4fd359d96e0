-- Header pages that name no data page behind the last one of their file.
use Rattle.std.specs.Prelude.{◌≡◌, ℕ, ◌+◌, ◌*◌, ◌<◌, ◌≤◌, List, true, Some}
use Rattle.geometry.specs.declared.geometry.Geometry.{Geometry}
use Rattle.geometry.specs.Numbers.{head_slots}
use Rattle.nor_core.specs.Flash.{word_at}
use Rattle.table_model.specs.Room.{data_pages}
use Rattle.image_model.specs.Files.{is_index}
use Rattle.image_model.specs.Headers.{size_of}
use Rattle.image_model.specs.Live.{live_at}

-- Each page number in a header page behind those of its file is 0xFFFF.
pub record IsTrimmed (g : Geometry) (page : List ℕ) : Type 0 where
  pub free : (t : ℕ) → data_pages g (size_of page) ≤ t → t < head_slots g → word_at page (45 + g.meta + 2 * t) ≡ 0xFFFF

-- Each live header page of an image is so.
pub record IsTrim (g : Geometry) (image : List ℕ) : Type 0 where
  pub each : (p : ℕ) (page : List ℕ) → live_at g image p ≡ Some page → is_index (Some page) 0 ≡ true → IsTrimmed g page

-- Where each one was so in an image, each one is so in another.
abbrev pub Trims : Geometry → (was image : List ℕ) → Type 0
Trims g was image = IsTrim g was → IsTrim g image
