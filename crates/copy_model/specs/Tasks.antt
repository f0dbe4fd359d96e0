-- All that a copy begins with.
use Rattle.std.specs.Prelude.{ℕ, List, Bool, Option}
use Rattle.geometry.specs.declared.geometry.Geometry.{Geometry}
use Rattle.table_model.specs.Table.{File}
use Rattle.copy_model.specs.Copying.{working, without_name, copy_steps}
use Rattle.copy_model.specs.Stops.{first_full}

-- Whether the source tells its records, whether both volumes have as many meta bytes, the records, and the target's files, geometry and
-- number of descriptors.
pub record Task : Type 0 where
  pub known : Bool
  pub alike : Bool
  pub source : List File
  pub first : List File
  pub g : Geometry
  pub slots : ℕ

-- the target's files, without one of the working name
abbrev pub begins_with : Task → List File
begins_with t = without_name working t.first

-- the first table of the copy that has no room
abbrev pub stops_at : Task → Option (List File)
stops_at t = first_full t.g (copy_steps t.g t.alike t.source (begins_with t))
