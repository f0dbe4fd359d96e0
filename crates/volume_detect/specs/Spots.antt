-- What the number of a place says of the words of a row.
use Rattle.std.specs.Prelude.{ℕ, ◌≡◌, ◌+◌, ◌-◌, ◌*◌, ◌/◌, ◌^◌, max}
use Rattle.volume_detect.specs.Places.{unit_of, block_power, page_power, block_bytes, page_bytes, kind_of}
use Rattle.volume_detect.specs.declared.spot.Spot.{Spot}

-- Which of the six words of a unit the magic is, by the powers of block and page: the lookup pages take 128 * 2 ^ that many bytes.
abbrev pub word_class : (block page : ℕ) → ℕ
word_class block page = max page (block - (1 + page))

pub record IsSpot (place units : ℕ) (s : Spot) : Type 0 where
  pub first : s.first ≡ 6 * unit_of place + word_class (block_power place) (page_power place)
  pub step : s.step ≡ 6 * 2 ^ block_power place
  pub room : s.room ≡ (units - unit_of place) / 2 ^ block_power place
  pub page : s.page ≡ page_bytes place
  pub block : s.block ≡ block_bytes place
  pub magic : s.magic ≡ kind_of place
