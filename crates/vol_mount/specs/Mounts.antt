-- What mounting refuses, and what it leaves.
use Rattle.std.specs.Prelude.{ℕ, ◌≡◌, ◌*◌, ◌≤◌, List, length, Option}
use Rattle.geometry.specs.declared.geometry.Geometry.{Geometry}
use Rattle.geometry.specs.Numbers.{work_need, cache_need, check_need}
use Rattle.image_model.specs.Kinds.{spoiled_blocks}
use Rattle.vol_mount.specs.declared.lent.Lent.{Lent}
use Rattle.vol_mount.specs.declared.lent.ReaderLent.{ReaderLent}
use Rattle.vol_mount.specs.declared.lent.AcceptErr.{AcceptErr}
use Rattle.vol_mount.specs.declared.lent.MountErr.{MountErr}
use Rattle.vol_mount.specs.declared.lent.MountErr.TheVariants.{NotAFs, DeviceFault}
use Rattle.vol_mount.specs.Needs.{short_buffer, short_reader}

-- it names how many blocks of the image lack their magic, two or more
abbrev pub CountsSpoiled : Geometry → List ℕ → MountErr → Type 0
CountsSpoiled g image (NotAFs spoiled) = (spoiled ≡ spoiled_blocks g image) × (2 ≤ spoiled)
CountsSpoiled g image DeviceFault = Unit {0}

-- the first part of a volume's memory that is too short
abbrev pub short_of : Geometry → Lent → Option AcceptErr
short_of g lent = short_buffer g (length lent.work.now) (length lent.slots.now) (length lent.cache.now) (length lent.window.now)

-- the first part of a reader's memory that is too short
abbrev pub reader_short_of : Geometry → ReaderLent → Option AcceptErr
reader_short_of g lent = short_reader g (length lent.work.now) (length lent.cache.now) (length lent.check.now)

-- the device has the volume's erase unit and holds the volume, and every part of the volume's memory has its need
pub record Fits (g : Geometry) (unit size : ℕ) (lent : Lent) : Type 0 where
  pub unit_is : unit ≡ g.phys
  pub volume : g.blocks * g.block ≤ size
  pub work : work_need g ≤ length lent.work.now
  pub slots : 1 ≤ length lent.slots.now
  pub cache : cache_need g ≤ length lent.cache.now
  pub window : g.page ≤ length lent.window.now

-- the same of a reader's memory
pub record FitsReader (g : Geometry) (unit size : ℕ) (lent : ReaderLent) : Type 0 where
  pub unit_is : unit ≡ g.phys
  pub volume : g.blocks * g.block ≤ size
  pub work : work_need g ≤ length lent.work.now
  pub cache : cache_need g ≤ length lent.cache.now
  pub check : check_need g ≤ length lent.check.now
