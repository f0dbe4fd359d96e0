-- A call of the target never stops a copy for the source's fault.
use Rattle.std.proofs.Common.{◌≡◌, ℕ, length, Bool, true, false, Option, Some, None, Result, Ok, Err, cond, sym, ◌∙◌}
use Rattle.std.specs.Prelude.{nat_lt}
use Rattle.nor_core.specs.declared.state.NorState.{Ghosts as NorOf}
use Rattle.table_model.specs.declared.error.FsErr.{FsErr}
use Rattle.table_model.specs.declared.error.FsErr.TheVariants.{NotFound, Full as NoRoom, DeviceFault, Damaged}
use Rattle.table_model.specs.Ask.{Ask}
use Rattle.table_model.specs.Reply.{Answer, Fine, Tells, Gives, Shows, Counts, Refuses}
use Rattle.volume.specs.declared.volume.Volume.{Volume}
use Rattle.copy_model.specs.declared.err.CopyErr.{CopyErr}
use Rattle.copy_model.specs.declared.err.CopyErr.TheVariants.{FromFault, Refused}
use Rattle.vol_copy.specs.Went.{Went, stop_as, done_as, removed_as, stat_as, info_as, opened_as, wrote_as, read_stop}

-- such a reply doesn't say so
abbrev pub NeverFrom : {X : Type 0} → (Answer → Result X CopyErr) → Type 0
NeverFrom how = (a : Answer) → how a ≡ Err FromFault → ⊥

stop-never : (why : FsErr) → stop_as why ≡ FromFault → ⊥
stop-never DeviceFault is = cc
stop-never (Damaged d) is = cc
stop-never why is = cc

pub done-never : NeverFrom done_as
done-never Fine is = let e : Ok tt ≡ Err FromFault = is in cc
done-never (Refuses why) is = stop-never why (let e : Err (stop_as why) ≡ Err FromFault = is in cc)
done-never a is = let e : Err Refused ≡ Err FromFault = is in cc

pub removed-never : NeverFrom removed_as
removed-never Fine is = let e : Ok tt ≡ Err FromFault = is in cc
removed-never (Refuses NotFound) is = let e : Ok tt ≡ Err FromFault = is in cc
removed-never (Refuses DeviceFault) is = cc
removed-never (Refuses (Damaged d)) is = cc
removed-never a is = cc

pub stat-never : NeverFrom stat_as
stat-never (Shows stat) is = let e : Ok (Some stat) ≡ Err FromFault = is in cc
stat-never (Refuses NotFound) is = let e : Ok None ≡ Err FromFault = is in cc
stat-never (Refuses DeviceFault) is = cc
stat-never (Refuses (Damaged d)) is = cc
stat-never a is = cc

pub info-never : NeverFrom info_as
info-never (Counts info) is = let e : Ok info ≡ Err FromFault = is in cc
info-never (Refuses why) is = stop-never why (let e : Err (stop_as why) ≡ Err FromFault = is in cc)
info-never a is = let e : Err Refused ≡ Err FromFault = is in cc

number-never : (n : ℕ) (b : Bool) → cond {A = Result (Option ℕ) CopyErr} b (Ok (Some n)) (Err Refused) ≡ Err FromFault → ⊥
number-never n true is = cc
number-never n false is = cc

pub opened-never : NeverFrom opened_as
opened-never (Tells n) is = number-never n (nat_lt n 65536) is
opened-never (Refuses NoRoom) is = let e : Ok None ≡ Err FromFault = is in cc
opened-never (Refuses DeviceFault) is = cc
opened-never (Refuses (Damaged d)) is = cc
opened-never a is = cc

pub wrote-never : NeverFrom wrote_as
wrote-never (Tells n) is = let e : Ok true ≡ Err FromFault = is in cc
wrote-never (Refuses NoRoom) is = let e : Ok false ≡ Err FromFault = is in cc
wrote-never (Refuses DeviceFault) is = cc
wrote-never (Refuses (Damaged d)) is = cc
wrote-never a is = cc

pub went-never : {M X : Type 0} {nor : NorOf M} (how : Answer → Result X CopyErr) → NeverFrom how → (ask : Ask) (old new : Volume M nor) (result : Result X CopyErr) → Went how ask old new result → result ≡ Err FromFault → ⊥
went-never how never ask old new result went is = never went.0 (sym went.2 ∙ is)

short-never : (b : Bool) → cond {A = Option CopyErr} b (Some Refused) None ≡ Some FromFault → ⊥
short-never true is = cc
short-never false is = cc

pub read-never : (n : ℕ) (a : Answer) → read_stop n a ≡ Some FromFault → ⊥
read-never n (Gives bytes) is = short-never (nat_lt (length bytes) n) is
read-never n (Refuses why) is = stop-never why (let e : Some (stop_as why) ≡ Some FromFault = is in cc)
read-never n a is = let e : Some Refused ≡ Some FromFault = is in cc
