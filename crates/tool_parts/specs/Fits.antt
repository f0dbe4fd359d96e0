-- What a run that isn't refused begins with.
use Rattle.std.specs.Prelude.{ℕ, ◌≡◌, ◌*◌, ◌≤◌, Bool, true, false, None}
use Rattle.geometry.specs.declared.geometry.Geometry.{Geometry}
use Rattle.geometry.specs.Numbers.{write_refusal, work_need, cache_need, check_need}
use Rattle.tool_parts.specs.declared.buffers.Lengths.{Lengths}

-- the device has the volume's erase unit and holds the volume, which may be written
pub record IsFitting (g : Geometry) (unit size : ℕ) : Type 0 where
  pub unit_is : unit ≡ g.phys
  pub holds : g.blocks * g.block ≤ size
  pub writable : write_refusal g ≡ None

-- the device has the volume's erase unit and holds the volume
pub record HoldsVolume (g : Geometry) (unit size : ℕ) : Type 0 where
  pub unit_is : unit ≡ g.phys
  pub holds : g.blocks * g.block ≤ size

-- what a command wants of the device that writes its volume, or only reads it
abbrev pub FitsFor : (writes : Bool) → Geometry → (unit size : ℕ) → Type 0
FitsFor true g unit size = IsFitting g unit size
FitsFor false g unit size = HoldsVolume g unit size

-- every part of the lent memory has its need
pub record HasLengths (g : Geometry) (lent : Lengths) : Type 0 where
  pub work : work_need g ≤ lent.work
  pub slots : 1 ≤ lent.slots
  pub cache : cache_need g ≤ lent.cache
  pub check : check_need g ≤ lent.check
  pub window : g.page ≤ lent.window
  pub line : 12288 ≤ lent.line
