-- Lists that say of each page whether it is wanted, and of each id whether it has a file in the table.
use Rattle.std.specs.Prelude.{◌≡◌, ℕ, ◌<◌, List, length, get_or, Bool, false, is_some}
use Rattle.geometry.specs.declared.geometry.Geometry.{Geometry}
use Rattle.image_model.specs.Live.{live_at}
use Rattle.image_model.specs.Tables.{has_of, counted}
use Rattle.image_model.specs.Tidy.{is_wanted}

-- whether each page below n is wanted
pub record AreWanted (g : Geometry) (image : List ℕ) (n : ℕ) (wanted : List Bool) : Type 0 where
  pub len : length wanted ≡ n
  pub each : (p : ℕ) → p < n → get_or wanted p false ≡ is_wanted g image p

-- an id has a file in the table
abbrev pub is_whole : Geometry → List ℕ → ℕ → Bool
is_whole g image id = is_some (counted (has_of g (live_at g image)) 0x7FFF (has_of g (live_at g image) id))

-- whether each id below n has a file in the table
pub record AreWhole (g : Geometry) (image : List ℕ) (n : ℕ) (whole : List Bool) : Type 0 where
  pub len : length whole ≡ n
  pub each : (id : ℕ) → id < n → get_or whole id false ≡ is_whole g image id
