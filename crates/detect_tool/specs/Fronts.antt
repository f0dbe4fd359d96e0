-- What is found of a volume that a chip begins with.
use Rattle.std.specs.Prelude.{ℕ, ◌≡◌, ◌*◌, ◌^◌, ◌<◌, ◌≤◌, ◌⊎◌, List, length}
use Rattle.geometry.specs.declared.geometry.Geometry.{Geometry}
use Rattle.geometry.specs.declared.magic.MagicKind.TheVariants.{Length}
use Rattle.image_model.specs.Tables.{table_of}
use Rattle.meta_guess.specs.Guesses.{SameBut}
use Rattle.volume_detect.specs.Places.{byte_of}
use Rattle.volume_rank.specs.declared.found.Found.{Found}
use Rattle.volume_rank.specs.Finds.{IsFound}

-- A chip begins with a volume, and ends with it, or the volume's magic tells where it ends; its block has one of the sizes that are looked for,
-- and is an erase unit.
pub record BeginsWith (file : List ℕ) (g : Geometry) : Type 0 where
  pub block : (j : ℕ) × (j < 7) × (g.block ≡ 4096 * 2 ^ j)
  pub phys : g.phys ≡ g.block
  pub ends : (length file ≡ g.blocks * g.block) ⊎ ((g.magic ≡ Length) × (g.blocks * g.block ≤ length file))

-- what is found there, with the numbers of the volume but for the meta bytes
pub record IsFoundFor (file : List ℕ) (g : Geometry) (f : Found) : Type 0 where
  pub found : IsFound file f
  pub first : byte_of f.place ≡ 0
  pub same : SameBut f.volume g

-- Its line tells as many whole files as the volume has, or more, and no damaged id; no block lacks its magic, and no id is doubled.
pub record TellsFiles (file : List ℕ) (g : Geometry) (f : Found) : Type 0 where
  pub whole : length (table_of g file) ≤ f.counts.whole
  pub damaged : f.counts.damaged ≡ 0
  pub spoiled : f.spoiled ≡ 0
  pub doubled : f.doubled ≡ 0

-- Its line tells the volume's own number of meta bytes, and no range.
pub record TellsOwnMeta (g : Geometry) (f : Found) : Type 0 where
  pub first : f.volume.meta ≡ g.meta
  pub last : f.last_meta ≡ g.meta
