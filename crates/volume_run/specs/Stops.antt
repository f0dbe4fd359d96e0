-- Why a tool makes no further call.
use Rattle.std.specs.Prelude.{◌≡◌, ◌≢◌, Option, Some, None}
use Rattle.geometry.specs.declared.geometry.Geometry.{Geometry}
use Rattle.nor_core.specs.declared.state.NorState.{Ghosts as NorOf}
use Rattle.table_model.specs.Table.{State}
use Rattle.table_model.specs.declared.error.FsErr.{FsErr}
use Rattle.table_model.specs.declared.error.FsErr.TheVariants.{DeviceFault, Damaged}
use Rattle.volume.specs.declared.volume.Volume.{Volume}
use Rattle.volume_run.specs.Ready.{IsReady}
use Rattle.volume_run.specs.declared.asking.Stop.{Stop}
use Rattle.volume_run.specs.declared.asking.Stop.TheVariants.{Fault, Differ}

-- after a refusal: where the device failed, or a page reads otherwise than it was written
abbrev pub stop_by : FsErr → Option Stop
stop_by DeviceFault = Some Fault
stop_by (Damaged differ) = Some (Differ differ)
stop_by _ = None

-- of a page that reads otherwise, what was wanted there and what was found differ
abbrev pub IsApart : Stop → Type 0
IsApart Fault = Unit {0}
IsApart (Differ differ) = differ.wanted ≢ differ.found

-- of calls of a volume that stood at a state, only where the device failed
abbrev pub StopsFrom : {N : Type 0} {nor : NorOf N} → Volume N nor → Stop → Type 0
StopsFrom old why = (g : Geometry) (s : State) → IsReady g old s → why ≡ Fault
