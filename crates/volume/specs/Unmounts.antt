-- What is left of a volume that is unmounted.
use Rattle.std.specs.Prelude.{◌≡◌, ◌≢◌, ◌⊎◌, true, false, None, Result, Err, IsOk, [], IfErr}
use Rattle.nor_core.specs.declared.state.NorState.{Ghosts as NorOf}
use Rattle.nor_core.specs.Count.{Rose}
use Rattle.nor_core.specs.Device.{Changes}
use Rattle.table_model.specs.declared.error.FsErr.{FsErr}
use Rattle.table_model.specs.declared.error.FsErr.TheVariants.{Failed, DeviceFault, Damaged}
use Rattle.table_model.specs.declared.error.Differ.{Differ}
use Rattle.table_model.specs.Reply.{Refuses}
use Rattle.table_model.specs.Window.{Moment, from_settled, IsAmong}
use Rattle.image_model.specs.Tables.{table_of}
use Rattle.image_model.specs.Tidy.{IsTidy}
use Rattle.call_model.specs.Safe.{IsSafe, HoldsImage}
use Rattle.call_model.specs.Memory.{IsAt}
use Rattle.volume.specs.declared.volume.Volume.{Volume}
use Rattle.volume.specs.Stages.{takes_calls, has_failed}
use Rattle.volume.specs.Replies.{may_settle}
use Rattle.volume.specs.Holds.{memory, Holds}

-- all that was written is on the chip
pub record IsWhole {N : Type 0} (nor : NorOf N) (old : Volume N nor) (new : N) (m : Moment) : Type 0 where
  pub tells : nor.tells new
  pub tidy : IsTidy old.geometry (nor.bytes new)
  pub table : table_of old.geometry (nor.bytes new) ≡ m.state.table
  pub holds : HoldsImage old.geometry (nor.bytes old.nor.now) (nor.bytes new)

-- What unmounting leaves of a volume's device, and tells.
pub record UnmountsTo {N : Type 0} {nor : NorOf N} (old : Volume N nor) (new : N) (last : Result (Unit {0}) FsErr) : Type 0 where
  pub cuts : Changes nor old.nor.now new (λ was image. (m : Moment) → IsAt old.geometry was (memory old) m →
      IsSafe old.geometry was image × IsAmong (table_of old.geometry image) (from_settled m []))
  -- of a volume that takes calls and stands at a moment, all is on the chip, unless the device failed
  pub stands : (m : Moment) → takes_calls old ≡ true → Holds old m → (IsOk last × IsWhole nor old new m) ⊎ (last ≡ Err DeviceFault)
  pub cause : last ≡ Err DeviceFault → Rose (nor.faults old.nor.now) (nor.faults new)
  pub differs : (d : Differ) → last ≡ Err (Damaged d) → d.wanted ≢ d.found
  pub among : takes_calls old ≡ true → IfErr last (λ why. may_settle (Refuses why) ≡ true)
  -- where nothing waits nothing is asked of the device
  pub idle : takes_calls old ≡ true → (memory old).run ≡ None → IsOk last × (new ≡ old.nor.now)
  -- of one that takes none nothing is changed
  pub still : takes_calls old ≡ false → new ≡ old.nor.now
  pub failed : has_failed old ≡ true → last ≡ Err Failed
  pub whole : takes_calls old ≡ false → has_failed old ≡ false → IsOk last
