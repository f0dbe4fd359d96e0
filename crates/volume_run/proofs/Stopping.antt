-- Calls after which no further one is made.
use Rattle.std.proofs.Common.{◌≡◌, ℕ, List, refl, sym, subst, false, Option, Some, None, Result, Ok, Err}
use Rattle.std.specs.Prelude.{IfErr}
use Rattle.std.specs.Result.{IsErrAnd}
use Rattle.std.proofs.lemmas.Option.{same_Some, none-some}
use Rattle.geometry.specs.declared.geometry.Geometry.{Geometry}
use Rattle.nor_core.specs.declared.state.NorState.{Ghosts as NorOf}
use Rattle.nor_core.specs.Count.{Rose}
use Rattle.table_model.specs.declared.error.FsErr.{FsErr}
use Rattle.table_model.specs.declared.error.FsErr.TheVariants.{DeviceFault, Damaged}
use Rattle.table_model.specs.Table.{State}
use Rattle.table_model.specs.Ask.{Ask}
use Rattle.table_model.specs.Reply.{Answer, Refuses}
use Rattle.volume.specs.declared.volume.Volume.{Volume}
use Rattle.volume.specs.Replies.{breaks}
use Rattle.volume.specs.Calls.{Calls}
use Rattle.volume_run.specs.declared.asking.Stop.{Stop}
use Rattle.volume_run.specs.declared.asking.Stop.TheVariants.{Fault, Differ}
use Rattle.volume_run.specs.Ready.{IsReady, IsAnsweredFrom, IsOpenedFrom}
use Rattle.volume_run.specs.Stops.{stop_by, IsApart, StopsFrom}
use Rattle.volume_run.proofs.Answering.{undamaged}

-- after another refusal calls go on
pub goes_unbroken : (why : FsErr) → stop_by why ≡ None → breaks (Refuses why) ≡ false
goes_unbroken DeviceFault is = absurd (none-some Fault (sym is))
goes_unbroken (Damaged d) is = absurd (none-some (Differ d) (sym is))
goes_unbroken _ is = refl

module _ {N : Type 0} {nor : NorOf N} {old new : Volume N nor} {ask : Ask} where
  -- the device failed only where a fault was counted
  pub fault_rose : (why : FsErr) → stop_by why ≡ Some Fault → Calls ask old new (Refuses why) → Rose (nor.faults old.nor.now) (nor.faults new.nor.now)
  fault_rose DeviceFault is calls = calls.cause refl
  fault_rose (Damaged d) is calls = absurd (let no : Differ d ≡ Fault = same_Some (Differ d) Fault is in cc)
  fault_rose _ is calls = absurd (none-some Fault is)

  -- a page that reads otherwise is told by two tags that differ
  pub stops_apart : (why : FsErr) (stop : Stop) → stop_by why ≡ Some stop → Calls ask old new (Refuses why) → IsApart stop
  stops_apart DeviceFault stop is calls = subst (λ (s : Stop). IsApart s) (same_Some Fault stop is) (tt {0})
  stops_apart (Damaged d) stop is calls = subst (λ (s : Stop). IsApart s) (same_Some (Differ d) stop is) (calls.differs d refl)
  stops_apart _ stop is calls = absurd (none-some stop is)

  -- a volume that stands at a state stops only where the device failed
  pub stops_by_fault : {g : Geometry} {s : State} (why : FsErr) (stop : Stop) → stop_by why ≡ Some stop → IsReady g old s → Calls ask old new (Refuses why) → stop ≡ Fault
  stops_by_fault DeviceFault stop is ready calls = sym (same_Some Fault stop is)
  stops_by_fault (Damaged d) stop is ready calls = absurd (undamaged ready calls d refl)
  stops_by_fault _ stop is ready calls = absurd (none-some stop is)

module _ {N : Type 0} {nor : NorOf N} {old mid : Volume N nor} where
  -- so it does after calls that were answered
  pub stops_then : {ask : Ask} {reply : Answer} (why : Stop) → IsAnsweredFrom old ask mid reply → StopsFrom mid why → StopsFrom old why
  stops_then why answered stops = λ g s ready. stops g _ (answered g s ready).ready

  pub stops_opened : {name : List ℕ} {flags : ℕ} {fd : Option ℕ} (why : Stop) → IsOpenedFrom old name flags mid fd → StopsFrom mid why → StopsFrom old why
  stops_opened why opens stops = λ g s ready. stops g _ (opens g s ready).ready

module _ {N : Type 0} {nor : NorOf N} {old : Volume N nor} where
  -- a stop that `?` passes on
  pub stops_passed : {T : Type 0} (result : Result T Stop) (why : Stop) → IsErrAnd result (λ e. e ≡ why) → StopsFrom old why → IfErr result (StopsFrom old)
  stops_passed (Ok x) why same stops = absurd same
  stops_passed (Err e) why same stops = rw same stops
