-- Writes that go on with what waits.
use Rattle.std.specs.Prelude.{◌≡◌, ◌≤◌, ◌<◌, ℕ, ◌+◌, length, true, false, Some}
use Rattle.geometry.specs.Numbers.{body}
use Rattle.nor_core.specs.declared.state.NorState.{Ghosts as NorOf}
use Rattle.table_model.specs.Descriptors.{appends, may_write}
use Rattle.fd_table.specs.declared.slot.FdSlot.{FdSlot}
use Rattle.fd_table.specs.Slots.{descriptors, open_at, opened}
use Rattle.write_window.specs.Runs.{Run, accepted}
use Rattle.volume.specs.declared.volume.Volume.{Volume}
use Rattle.volume.specs.Holds.{memory}

-- A descriptor's slot is open and may write, and so many bytes through it go on with the run that waits, at its end: there it stands, or it
-- appends.
pub record GoesOnAt {N : Type 0} {nor : NorOf N} (v : Volume N nor) (fd len : ℕ) (slot : FdSlot) : Type 0 where
  pub from : 0 < fd
  pub within : fd ≤ length v.slots.now
  pub used : slot.used ≡ true
  pub opened : open_at (descriptors v.slots.now) fd ≡ Some (opened slot)
  pub writes : may_write slot.flags ≡ true
  pub run : Run
  pub waits : (memory v).run ≡ Some run
  pub goes_on : accepted (body v.geometry) (memory v).run fd (run.start + length run.bytes) len ≡ true
  pub place : appends slot.flags ≡ false → slot.offset ≡ run.start + length run.bytes
