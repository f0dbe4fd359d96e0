-- Endings that one step may have are endings that a longer one may have.
use Rattle.std.proofs.Common.{ℕ, List}
use Rattle.nor_core.specs.declared.state.NorState.{Ghosts as NorOf}
use Rattle.nor_core.specs.Device.{Leaves}
use Rattle.nor_core.proofs.Cuts.{widened, started}
use Rattle.vol_mount.specs.declared.lent.MountErr.{MountErr}
use Rattle.vol_mount.specs.declared.lent.MountErr.TheVariants.{NotAFs as MountNotAFs, DeviceFault as MountFault}
use Rattle.vol_check.specs.declared.report.CheckErr.{CheckErr}
use Rattle.vol_check.specs.declared.report.CheckErr.TheVariants.{NotMounted as CheckOut, Wrong as CheckWrong, Mixed as CheckMixed, DeviceFault as CheckFault, Damaged as CheckDamaged}
use Rattle.vol_check.specs.Checks.{IsWritable}
use Rattle.volume.specs.Checking.{IsApart}
use Rattle.tool_parts.specs.declared.ending.Ending.{Ending}
use Rattle.tool_parts.specs.declared.ending.Ending.TheVariants.{NotAFs, Mixed, BoardFault, Tight, Differ}
use Rattle.tool_parts.specs.Endings.{OnlyCloses}
use Rattle.tool_parts.specs.Mounting.{mount_ends, check_ends}
use Rattle.tool_parts.specs.Among.{MayEndCheck, MayEndBegin, MayEndWork, EndsAmong}

-- a volume that isn't mounted
pub mount_among : (why : MountErr) → MayEndCheck (mount_ends why)
mount_among (MountNotAFs spoiled) = tt {0}
mount_among MountFault = tt {0}

-- one that isn't checked, though it may be written
pub check_among : (why : CheckErr) → IsWritable why → IsApart why → MayEndCheck (check_ends why)
check_among CheckOut writable apart = absurd writable
check_among (CheckWrong why) writable apart = absurd writable
check_among (CheckMixed blocks) writable apart = tt {0}
check_among CheckFault writable apart = tt {0}
check_among (CheckDamaged differ) writable apart = apart

pub check_in_begin : (ending : Ending) → MayEndCheck ending → MayEndBegin ending
check_in_begin (NotAFs spoiled) may = may
check_in_begin (Mixed blocks) may = may
check_in_begin BoardFault may = may
check_in_begin (Differ differ) may = may
check_in_begin _ may = absurd may

pub begin_in_work : (ending : Ending) → MayEndBegin ending → MayEndWork ending
begin_in_work (NotAFs spoiled) may = may
begin_in_work (Mixed blocks) may = may
begin_in_work BoardFault may = may
begin_in_work (Tight free) may = may
begin_in_work (Differ differ) may = may
begin_in_work _ may = absurd may

pub check_in_work : (ending : Ending) → MayEndCheck ending → MayEndWork ending
check_in_work ending may = begin_in_work ending (check_in_begin ending may)

module _ {D : Type 0} {nor : NorOf D} (May : Ending → Type 0) where
  -- the closing line of an ending was said
  pub ends_among : {old mid new : D} {P : List ℕ → ℕ → Type 0} (ending : Ending) (status : ℕ) → May ending → Leaves nor old mid P →
      OnlyCloses nor mid new ending status → EndsAmong nor May old new status
  ends_among {old} {mid} ending status may goes closes = record {
    ending = ending;
    may = may;
    before = mid;
    goes = widened goes (λ image count here. tt {0});
    closes = closes;
  }

  -- nothing was done before
  pub ends_at_once : {old new : D} (ending : Ending) (status : ℕ) → May ending → OnlyCloses nor old new ending status → EndsAmong nor May old new status
  ends_at_once {old} ending status may closes = record { ending = ending; may = may; before = old; goes = started old _; closes = closes }
