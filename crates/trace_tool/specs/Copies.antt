-- The copies of a volume and of a script, and why there are none.
use Rattle.std.specs.Prelude.{◌≡◌, ℕ, ◌*◌, ◌<◌, ◌≤◌, ◌⊎◌, List, length, slice_range}
use Rattle.geometry.specs.declared.geometry.Geometry.{Geometry}
use Rattle.nor_core.specs.Count.{Rose}
use Rattle.nor_core.specs.declared.state.NorState.{Ghosts as NorOf}
use Rattle.nor_core.specs.declared.source.Source.{Ghosts as SourceOf}
use Rattle.trace_tool.specs.declared.ending.TraceEnding.{TraceEnding}
use Rattle.trace_tool.specs.declared.ending.TraceEnding.TheVariants.{TooLarge, NoMemory, BoardFault, ScriptFault}

-- bytes of a volume
abbrev pub volume_size : Geometry → ℕ
volume_size g = g.blocks * g.block

-- the bytes of the volume on a device
abbrev pub volume_on : {D : Type 0} (nor : NorOf D) (g : Geometry) → D → List ℕ
volume_on nor g d = slice_range (nor.bytes d) 0 (volume_size g)

-- These are the bytes of the volume on a device, at most 131,072.
pub record IsVolumeOf {D : Type 0} (nor : NorOf D) (g : Geometry) (d : D) (image : List ℕ) : Type 0 where
  pub size : length image ≡ volume_size g
  pub small : volume_size g ≤ 131072
  pub told : nor.tells d → image ≡ volume_on nor g d

-- These are the bytes of a script, at most 16,384.
pub record IsScriptOf {X : Type 0} (source : SourceOf X) (script : X) (text : List ℕ) : Type 0 where
  pub short : length text ≤ 16384
  pub told : source.tells script → text ≡ source.left script

-- a script has more bytes
abbrev pub IsLongScript : {X : Type 0} (source : SourceOf X) (script : X) → Type 0
IsLongScript source script = source.tells script → 16384 < length (source.left script)

-- why a volume isn't copied
abbrev pub StopsVolume : {D : Type 0} (nor : NorOf D) (old new : D) → TraceEnding → Type 0
StopsVolume nor old new ending = (ending ≡ NoMemory) ⊎ ((ending ≡ BoardFault) × Rose (nor.faults old) (nor.faults new))

-- why a script isn't copied
abbrev pub StopsScript : {X : Type 0} (source : SourceOf X) (script after : X) → TraceEnding → Type 0
StopsScript source script after ending =
    (ending ≡ NoMemory) ⊎ (((ending ≡ ScriptFault) × Rose (source.faults script) (source.faults after)) ⊎ ((ending ≡ TooLarge) × IsLongScript source script))

-- the volume is too large, and nothing is read
pub record IsLargeVolume {D X : Type 0} (nor : NorOf D) (g : Geometry) (old new : D) (script after : X) (ending : TraceEnding) : Type 0 where
  pub ending_is : ending ≡ TooLarge
  pub large : 131072 < volume_size g
  pub unread : nor.device_reads new ≡ nor.device_reads old
  pub untaken : after ≡ script

-- Why a trace ends before its run: the volume is too large; or else it isn't copied, or the script isn't.
abbrev pub StopsCopy : {D X : Type 0} (nor : NorOf D) (source : SourceOf X) (g : Geometry) (old new : D) (script after : X) → TraceEnding → Type 0
StopsCopy nor source g old new script after ending =
    IsLargeVolume nor g old new script after ending ⊎ ((volume_size g ≤ 131072) × (StopsVolume nor old new ending ⊎ StopsScript source script after ending))
