-- What a command leaves that formats a volume and writes files into it.
use Rattle.std.specs.Prelude.{ℕ, ◌≡◌, List}
use Rattle.geometry.specs.declared.geometry.Geometry.{Geometry}
use Rattle.nor_core.specs.declared.state.NorState.{Ghosts as NorOf}
use Rattle.nor_core.specs.Device.{Leaves}
use Rattle.table_model.specs.Table.{File}
use Rattle.table_model.specs.declared.error.FsErr.{FsErr}
use Rattle.table_model.specs.declared.error.FsErr.TheVariants.{DeviceFault, Damaged}
use Rattle.image_model.specs.Tables.{table_of}
use Rattle.image_model.specs.Tidy.{IsTidy, HasReserve}
use Rattle.vol_mount.specs.Formatted.{IsFormatted}
use Rattle.tool_parts.specs.declared.ending.Ending.{Ending}
use Rattle.tool_parts.specs.declared.ending.Ending.TheVariants.{Done, BoardFault, Tight, Differ}
use Rattle.tool_parts.specs.Endings.{Speaks}
use Rattle.trim_laws.specs.Trim.{IsTrim}

-- a tidy image with its reserve has these files, and names no page behind the last one of a file
pub record HoldsFiles (g : Geometry) (image : List ℕ) (files : List File) : Type 0 where
  pub tidy : IsTidy g image
  pub reserve : HasReserve g image
  pub table : table_of g image ≡ files
  pub trim : IsTrim g image

-- At a moment of the command the device held an empty volume, each byte as a format leaves it; what it holds in the end came of that.
pub record WasFormatted {D : Type 0} (nor : NorOf D) (g : Geometry) (old new : D) : Type 0 where
  pub empty : D
  pub formatted : IsFormatted g (nor.bytes old) (nor.bytes empty)
  pub later : Leaves nor empty new (λ image count. Unit {0})

-- Before its closing line a command said a text, and then the image has these files; or the board failed, and a front of it was said.
pub record SpeaksOf {D : Type 0} (nor : NorOf D) (g : Geometry) (old new : D) (text : List ℕ) (files : List File) (result : Ending) : Type 0 where
  pub speaks : Speaks nor old new text Done result
  pub left : result ≡ Done → HoldsFiles g (nor.bytes new) files

-- how a command ends whose written bytes can't be put onto the chip
abbrev pub unsettled_as : FsErr → Ending
unsettled_as DeviceFault = BoardFault
unsettled_as (Damaged differ) = Differ differ
unsettled_as _ = Tight 0
