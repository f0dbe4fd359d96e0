-- Collections in calls, by what cleaning block after block tells.
use Rattle.std.proofs.Common.{◌≡◌, ℕ, ◌⊎◌, ⊎_elim, inl, List, length, Bool, true, false, refl, sym, ◌∙◌, ap, subst, arith}
use Rattle.std.specs.Prelude.{Result, Ok, Err, IsErrOf, Some, None}
use Rattle.geometry.specs.declared.geometry.Geometry.{Geometry}
use Rattle.nor_core.specs.declared.state.NorState.{Ghosts as NorOf}
use Rattle.nor_core.specs.Device.{Changes, OnlyReads}
use Rattle.nor_core.proofs.Cuts.{wider, unchanged, read_after}
use Rattle.table_model.specs.declared.error.FsErr.{FsErr}
use Rattle.table_model.specs.declared.error.FsErr.TheVariants.{Tight as FsTight, DeviceFault, Damaged}
use Rattle.table_model.specs.Table.{State}
use Rattle.table_model.specs.Outcome.{Outcome, gives}
use Rattle.table_model.specs.Reply.{Fine, Refuses}
use Rattle.table_model.specs.Ask.{Collects}
use Rattle.table_model.specs.Flat.{answer}
use Rattle.table_model.specs.Steps.{is_refusal, steps}
use Rattle.image_model.specs.Tables.{table_of}
use Rattle.image_model.specs.Tidy.{IsTidy, HasReserve, has_spare}
use Rattle.room_laws.specs.Stopping.{CanClean}
use Rattle.room_laws.proofs.Stops.{reserve_can_clean}
use Rattle.block_gc.specs.declared.room.RoomErr.TheVariants.{Step, Tight}
use Rattle.block_gc.specs.RoomMade.{CollectCut, IsReady}
use Rattle.block_gc.proofs.Cleanings.{reserve_ready}
use Rattle.trim_laws.specs.Upkeep.{Upkeep}
use Rattle.flash_view.specs.declared.kinds.StepErr.{StepErr}
use Rattle.flash_view.specs.declared.kinds.StepErr.TheVariants.{DeviceFault as StepFault, Damaged as StepDamaged}
use Rattle.flash_view.specs.declared.view.View.{View}
use Rattle.flash_view.specs.Steps.{Stepped, as_fs_err, stopped}
use Rattle.flash_view.proofs.Stepped.{view_image}
use Rattle.fd_table.specs.declared.slot.FdSlot.{FdSlot}
use Rattle.file_calls.specs.Collecting.{RoomCut, packing}
use Rattle.file_calls.specs.Cleans.{SweptFor, LeavesBlocks, CleansFor}
use Rattle.file_calls.specs.States.{IsImageOf}
use Rattle.file_calls.specs.Replies.{is_of_slots, may_answer}
use Rattle.file_calls.specs.Goes.{CallCut, IsDoable, IsCornerOn, Goes}
use Rattle.file_calls.proofs.CleansBy.{leaves_none}
use Rattle.file_calls.proofs.Numbered.{numbered_fine}
use Rattle.file_calls.proofs.Going.{IsFit, goes_by, is_first, no_gift, refuses_same, stop_slots, stop_apart, step_stops, step_among, fault_is}

-- ---- what is told of a collection

-- with two free blocks an image that a view holds can be cleaned
pub view_can : {N : Type 0} {nor : NorOf N} (v : View N nor) → (nor.tells v.nor.now → length (nor.bytes v.nor.now) ≡ nor.size v.nor.now) → nor.tells v.nor.now → IsTidy v.geometry (nor.bytes v.nor.now) → HasReserve v.geometry (nor.bytes v.nor.now) → CanClean v.geometry (nor.bytes v.nor.now)
view_can {nor = nor} v sized tells tidy reserve = reserve_can_clean v.geometry (nor.bytes v.nor.now) (view_image v sized tells) tidy reserve

-- so a cut in its cleaning recovers
pub room_cuts : {N : Type 0} {nor : NorOf N} {d : N} (old : View N nor) → (nor.tells old.nor.now → length (nor.bytes old.nor.now) ≡ nor.size old.nor.now) → Changes nor old.nor.now d (λ was image. IsTidy old.geometry was → CollectCut old.geometry was image) →
    Changes nor old.nor.now d (λ was image. IsTidy old.geometry was → RoomCut old.geometry was image)
room_cuts old sized changes = wider changes (λ tells image cut tidy. let w = cut tidy in record { keeps = w.keeps; mends = λ reserve. w.mends (view_can old sized tells tidy reserve) })

-- the blocks that it cleans, where each cleaning began without the pages that it is for; with two free blocks it cleans none for no pages
pub room_cleans : {N : Type 0} {nor : NorOf N} {d : N} {index pages rest : ℕ} {P : Type 0} (old : View N nor) → Changes nor old.nor.now d (λ was image. IsTidy old.geometry was → RoomCut old.geometry was image) → IsTidy old.geometry (nor.bytes old.nor.now) → HasReserve old.geometry (nor.bytes old.nor.now) →
    (IsReady old.geometry (nor.bytes old.nor.now) index pages → OnlyReads nor old.nor.now d) → ((P → ⊥) → SweptFor old.geometry index pages (nor.bytes old.nor.now) (nor.bytes d) (nor.device_writes old.nor.now) (nor.device_writes d)) → CleansFor nor old.geometry index pages rest old.nor.now d P
room_cleans {nor = nor} {d = d} {index = index} {pages = pages} old changes tidy reserve idle needed = record {
  mid = d;
  first = wider changes (λ tells image cut. cut tidy);
  idle = idle;
  needed = needed;
  few = omega arith;
  rest_cut = unchanged d (LeavesBlocks old.geometry) (λ tells. leaves_none old.geometry (nor.bytes d));
  none = λ no_index no_pages.
      let ready : IsReady old.geometry (nor.bytes old.nor.now) index pages = rw (no_index, no_pages) (reserve_ready old.geometry (nor.bytes old.nor.now) reserve) in
      read_after (unchanged old.nor.now (LeavesBlocks old.geometry) (λ tells. leaves_none old.geometry (nor.bytes old.nor.now))) (idle ready);
}

-- a step of it that was not done met a fault
pub step_fault : (why : StepErr) → (Step why ≡ Step StepFault) ⊎ (Step why ≡ Tight) → why ≡ StepFault
step_fault why told = ⊎_elim (λ (fault : Step why ≡ Step StepFault). let same : why ≡ StepFault = cc in same) (λ (tight : Step why ≡ Tight). absurd (cc)) told

pub step_same : {T : Type 0} (v w : StepErr) → IsErrOf {T = T} (Err v) w → v ≡ w
step_same v w e = cc

never_tight : (why : StepErr) → as_fs_err why ≡ FsTight → ⊥
never_tight StepFault e = cc
never_tight (StepDamaged d) e = cc

-- ---- the call

-- it leaves the flat table
flat_collects : (g : Geometry) (spare : Bool) (s : State) → answer g spare s Collects ≡ gives Fine s
unfolding answer
flat_collects g spare s = refl

flat_does : (g : Geometry) (image : List ℕ) (s : State) → IsDoable g image s Collects
flat_does g image s = record { done = ap (λ (o : Outcome). is_refusal o.answer) (flat_collects g (has_spare g image) s); publishes = inl refl }

-- it takes no bytes of a file
no_corner : (g : Geometry) (image : List ℕ) (s : State) → IsCornerOn g image s Collects → ⊥
no_corner g image s corner = let no : false ≡ true = corner.cuts in cc

gc_refused : (g : Geometry) (why : FsErr) (slots : List FdSlot) (wrote : Bool) → may_answer Collects (Refuses why) ≡ true → ((w : FsErr) → is_of_slots w ≡ true → Refuses why ≡ Refuses w → ⊥) → IsFit g Collects slots slots wrote (Refuses why)
gc_refused g why slots wrote may other = record {
  among = may;
  brief = λ bytes e. absurd (no_gift (Refuses why) bytes refl e);
  numbered = numbered_fine g slots Collects (Refuses why) wrote refl other;
  still = λ refusal. refl;
  keeps = λ k. refl;
}

module _ {N : Type 0} {nor : NorOf N} {old new : View N nor} (slots : List FdSlot) (fresh : old.wrote ≡ false) where
  gc_cuts : {r : Result Bool StepErr} → Stepped stopped old new r (packing (nor.device_writes old.nor.now) (nor.device_writes new.nor.now)) → Changes nor old.nor.now new.nor.now (λ was image. (s : State) → IsImageOf nor old.geometry old.nor.now slots s → CallCut old.geometry s Collects was image)
  gc_cuts call = wider call.cuts (λ tells image cut s here. let w = cut here.tidy in record {
    sound = w.keeps.sound;
    mends = w.mends;
    table = is_first (table_of old.geometry image) s.table (steps old.geometry (has_spare old.geometry (nor.bytes old.nor.now)) s Collects) (w.keeps.table ∙ sym here.table);
  })

  gc_upkeep : {r : Result Bool StepErr} → Stepped stopped old new r (packing (nor.device_writes old.nor.now) (nor.device_writes new.nor.now)) → Changes nor old.nor.now new.nor.now (λ was image. (s : State) → IsImageOf nor old.geometry old.nor.now slots s → Upkeep old.geometry was image)
  gc_upkeep call = wider call.upkeep (λ tells image kept s here. kept here.tidy)

  -- all is packed
  pub gc_done : Stepped stopped old new (Ok false) (packing (nor.device_writes old.nor.now) (nor.device_writes new.nor.now)) → Goes nor old.geometry Collects old.nor.now new.nor.now slots slots new.wrote Fine
  gc_done call = goes_by Collects Fine new.wrote
      (record { among = refl; brief = λ bytes e. absurd (cc); numbered = numbered_fine old.geometry slots Collects Fine new.wrote refl (λ why of e. cc); still = λ refusal. refl; keeps = λ k. refl })
      (gc_cuts call)
      (gc_upkeep call)
      (λ s here no_fault whole.
      let now = (call.ends here.tells here.tidy).0 in
      let flat = flat_collects old.geometry (has_spare old.geometry (nor.bytes old.nor.now)) s in
      record {
        reply_is = sym (ap (λ (o : Outcome). o.answer) flat);
        holds = subst (λ (n : State). IsImageOf nor old.geometry new.nor.now slots n) (sym (ap (λ (o : Outcome). o.next) flat))
            (record { tells = call.cuts.cuts.told here.tells; tidy = now.tidy; table = here.table ∙ sym now.table; slots = here.slots; opened = here.opened });
        reserve = now.reserve;
        reads = λ refusal. absurd (let no : false ≡ true = refusal in cc);
      })
      (λ s here is. record { packed = λ e. (call.ends here.tells here.tidy).0; stuck = λ e. absurd (cc); swept = λ whole. (call.ends here.tells here.tidy).1 })
      (λ s here corner tight. absurd (no_corner old.geometry (nor.bytes old.nor.now) s corner))
      (λ s here w. flat_does old.geometry (nor.bytes old.nor.now) s)
      (λ none. call.framed.untouched fresh none)
      (λ e. absurd (cc)) (λ d e. absurd (cc)) (λ look. absurd (let no : true ≡ false = look in cc))
      (λ w e. absurd (let no : None ≡ Some w = e in cc)) (λ s here write other. absurd (other refl)) (λ s here write. absurd (let no : false ≡ true = write in cc))

  -- collection is stuck
  pub gc_stuck : Stepped stopped old new (Ok true) (packing (nor.device_writes old.nor.now) (nor.device_writes new.nor.now)) → Goes nor old.geometry Collects old.nor.now new.nor.now slots slots new.wrote (Refuses FsTight)
  gc_stuck call = goes_by Collects (Refuses FsTight) new.wrote
      (gc_refused old.geometry FsTight slots new.wrote refl (stop_slots FsTight tt))
      (gc_cuts call)
      (gc_upkeep call)
      (λ s here no_fault whole. absurd (whole (record { why = inl refl; doable = flat_does old.geometry (nor.bytes old.nor.now) s; tight = refl })))
      (λ s here is. record { packed = λ e. absurd (cc); stuck = λ e. (call.ends here.tells here.tidy).0; swept = λ whole. (call.ends here.tells here.tidy).1 })
      (λ s here corner tight. absurd (no_corner old.geometry (nor.bytes old.nor.now) s corner))
      (λ s here w. flat_does old.geometry (nor.bytes old.nor.now) s)
      (λ none. call.framed.untouched fresh none)
      (λ e. absurd (let no : FsTight ≡ DeviceFault = refuses_same FsTight DeviceFault e in cc)) (λ d e. absurd (let no : FsTight ≡ Damaged d = refuses_same FsTight (Damaged d) e in cc))
      (λ look. absurd (let no : true ≡ false = look in cc))
      (λ w e. absurd (let no : None ≡ Some w = e in cc)) (λ s here write other. absurd (other refl)) (λ s here write. absurd (let no : false ≡ true = write in cc))

  -- the device failed, or a page read otherwise
  pub gc_broken : (why : StepErr) → Stepped stopped old new (Err why) (packing (nor.device_writes old.nor.now) (nor.device_writes new.nor.now)) → Goes nor old.geometry Collects old.nor.now new.nor.now slots slots new.wrote (Refuses (as_fs_err why))
  gc_broken why call =
      let means = step_stops why call.means in
      goes_by Collects (Refuses (as_fs_err why)) new.wrote
      (gc_refused old.geometry (as_fs_err why) slots new.wrote (step_among Collects why refl refl) (stop_slots (as_fs_err why) means))
      (gc_cuts call)
      (gc_upkeep call)
      (λ s here no_fault whole. absurd (no_fault (ap (λ (w : StepErr). Refuses (as_fs_err w)) (call.ends here.tells here.tidy))))
      (λ s here is. record { packed = λ e. absurd (cc); stuck = λ e. absurd (never_tight why (refuses_same (as_fs_err why) FsTight e)); swept = λ whole. absurd (whole (ap (λ (w : StepErr). Refuses (as_fs_err w)) (call.ends here.tells here.tidy))) })
      (λ s here corner tight. absurd (no_corner old.geometry (nor.bytes old.nor.now) s corner))
      (λ s here w. flat_does old.geometry (nor.bytes old.nor.now) s)
      (λ none. call.framed.untouched fresh none)
      (λ e. call.cause (ap (λ (w : StepErr). Err w) (fault_is why (refuses_same (as_fs_err why) DeviceFault e))))
      (λ d e.
      let is = refuses_same (as_fs_err why) (Damaged d) e in
      (stop_apart (as_fs_err why) d means is, λ s here. let no : Damaged d ≡ DeviceFault = sym is ∙ ap as_fs_err (call.ends here.tells here.tidy) in cc))
      (λ look. absurd (let no : true ≡ false = look in cc))
      (λ w e. absurd (let no : None ≡ Some w = e in cc)) (λ s here write other. absurd (other refl)) (λ s here write. absurd (let no : false ≡ true = write in cc))
