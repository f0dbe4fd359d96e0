-- What a soak leaves and answers.
use Rattle.std.specs.Prelude.{ℕ, ◌≡◌, List}
use Rattle.geometry.specs.declared.geometry.Geometry.{Geometry}
use Rattle.nor_core.specs.declared.state.NorState.{Ghosts as NorOf}
use Rattle.flash_view.specs.Same.{StaysBehind}
use Rattle.table_model.specs.Table.{File}
use Rattle.volume_soak.specs.Turns.{empty, soaked, soak_text}
use Rattle.tool_parts.specs.declared.ending.Ending.{Ending}
use Rattle.tool_parts.specs.declared.ending.Ending.TheVariants.{Done}
use Rattle.tool_parts.specs.Endings.{Concludes}
use Rattle.tool_core.specs.Filling.{HoldsFiles, WasFormatted, SpeaksOf}

-- the files that so many turns from a seed leave on a volume that had none, with so many descriptors
abbrev pub soaked_files : Geometry → (slots seed turns : ℕ) → List File
soaked_files g slots seed turns = (soaked g (empty slots) seed turns).state.table

-- before its closing line: the summary of a soak
abbrev pub SoaksTo : {D : Type 0} (nor : NorOf D) (g : Geometry) (slots seed turns : ℕ) (old new : D) → Ending → Type 0
SoaksTo nor g slots seed turns old new result = SpeaksOf nor g old new (soak_text g slots seed turns) (soaked_files g slots seed turns) result

-- A soak formats the volume, makes turns of calls that are drawn from the seed, and says their summary.
pub record DoesSoak {D : Type 0} (nor : NorOf D) (g : Geometry) (slots seed turns : ℕ) (old new : D) (status : ℕ) : Type 0 where
  -- the summary of the flat table's turns is said, and the status is 0; or a front of it, and 7, where a fault of the board rose
  pub told : nor.tells old → Concludes nor old new (soak_text g slots seed turns) Done status
  -- with status 0 the image is tidy, has its reserve, and its table is that of the last state: all that was written is on the chip; and it
  -- came of a formatted one
  pub files : nor.tells old → status ≡ 0 → HoldsFiles g (nor.bytes new) (soaked_files g slots seed turns)
  pub formats : nor.tells old → status ≡ 0 → WasFormatted nor g old new
  -- whatever is told, time goes on, and the bytes behind the volume stay
  pub behind : StaysBehind nor g old new
