-- One call of a volume that stands at a state of the flat table.
use Rattle.std.proofs.Common.{◌≡◌, refl, sym, ◌∙◌, ap, subst, ⊎_elim, true, false, Option, Some, None}
use Rattle.geometry.specs.declared.geometry.Geometry.{Geometry}
use Rattle.nor_core.specs.declared.state.NorState.{Ghosts as NorOf}
use Rattle.table_model.specs.declared.error.FsErr.TheVariants.{DeviceFault, Damaged}
use Rattle.table_model.specs.declared.error.Differ.{Differ}
use Rattle.table_model.specs.Table.{State}
use Rattle.table_model.specs.Ask.{Ask}
use Rattle.table_model.specs.Reply.{Answer, Refuses}
use Rattle.table_model.specs.Flat.{answer}
use Rattle.table_model.specs.Window.{Moment, Waiting, after, settled_at, leaves_window, incoming_of, continues}
use Rattle.call_model.specs.Calls.{Stands}
use Rattle.call_model.proofs.After.{other-settles}
use Rattle.run_model.specs.Ran.{RunAnswers}
use Rattle.run_model.proofs.OneCall.{run_answers, after_state, room_after}
use Rattle.trim_laws.specs.Trim.{Trims}
use Rattle.volume.specs.declared.volume.Volume.{Volume}
use Rattle.volume.specs.Holds.{memory, Holds}
use Rattle.volume.specs.Opening.{is_open}
use Rattle.volume.specs.Stages.{takes_calls}
use Rattle.volume.specs.Replies.{breaks}
use Rattle.file_calls.specs.Goes.{StopsShort}
use Rattle.volume.specs.Calls.{Calls}
use Rattle.volume_run.specs.Ready.{IsReady, IsAnswered, HasTable}

-- a fault is one that breaks
no_fault : {reply : Answer} → breaks reply ≡ false → reply ≡ Refuses DeviceFault → ⊥
no_fault {reply} whole fault = let no : true ≡ false = sym (ap breaks fault) ∙ whole in cc

-- an answer that tells no fault breaks nothing
pub unbroken : (a : Answer) → ¬ (a ≡ Refuses DeviceFault) → ((d : Differ) → ¬ (a ≡ Refuses (Damaged d))) → breaks a ≡ false
unbroken (Refuses DeviceFault) fault damage = absurd (fault refl)
unbroken (Refuses (Damaged d)) fault damage = absurd (damage d refl)
unbroken (Refuses _) fault damage = refl
unbroken _ fault damage = refl

-- nothing goes on with what waits where nothing is written
no_window : (g : Geometry) (w : Option Waiting) → continues g w None ≡ false
no_window g None = refl
no_window g (Some w) = refl

module _ {N : Type 0} {nor : NorOf N} where
  -- the moment at which it stands
  holds_at : {g : Geometry} {v : Volume N nor} {s : State} (ready : IsReady g v s) → Holds v ready.moment
  holds_at {g} {v} {s} ready = subst (λ (h : Geometry). Stands nor h v.nor.now (memory v) ready.moment) (sym ready.geometry) ready.stands.stands

  -- no call stops garbage collection short but one for it, since two blocks are free and the table has room
  not_short : {g : Geometry} {old new : Volume N nor} {s : State} {ask : Ask} {reply : Answer} (ready : IsReady g old s) → Calls ask old new reply → StopsShort old.geometry (nor.bytes old.nor.now) ready.moment.state ask reply → ⊥
  not_short {g} {old} {new} {s} {ask} {reply} ready calls short = ⊎_elim
      (λ collects. calls.unstuck ready.moment ready.takes (holds_at ready) (rw ready.geometry ready.stands.reserve) collects short.tight)
      (λ corner. let no : false ≡ true = sym corner.full ∙ rw ready.geometry ready.room in cc)
      short.why

  -- a page that reads otherwise is told by no call
  pub undamaged : {g : Geometry} {old new : Volume N nor} {s : State} {ask : Ask} {reply : Answer} → IsReady g old s → Calls ask old new reply → (d : Differ) → reply ≡ Refuses (Damaged d) → ⊥
  undamaged ready calls d is = calls.undamaged ready.moment (holds_at ready) d is

  -- it still takes calls
  takes_on : {old new : Volume N nor} {ask : Ask} {reply : Answer} → takes_calls old ≡ true → Calls ask old new reply → breaks reply ≡ false → takes_calls new ≡ true
  takes_on takes calls whole = ⊎_elim (λ same. ap is_open same ∙ takes) (λ broken. absurd (let no : false ≡ true = sym whole ∙ broken.2 in cc)) calls.stays

  -- the call was answered
  pub answered : {g : Geometry} {old new : Volume N nor} {s : State} {ask : Ask} {reply : Answer} → IsReady g old s → Calls ask old new reply → breaks reply ≡ false → IsAnswered g s ask new reply
  answered {g} {old} {new} {s} {ask} {reply} ready calls whole =
      let m : Moment = ready.moment in
      let done = calls.answers m ready.takes (holds_at ready) (no_fault whole) (not_short ready calls) in
      let ran : RunAnswers nor g old.nor.now new.nor.now (memory new) m ask reply = run_answers ready.stands (rw ready.geometry at done) in
      record {
        reply_is = ran.reply_is ∙ ap (λ (t : State). (answer g true t ask).answer) ready.state_is;
        ready = record {
          geometry = calls.same.geometry ∙ ready.geometry;
          takes = takes_on ready.takes calls whole;
          moment = after g true m ask;
          stands = ran.stands;
          room = room_after g m ask ready.room;
          state_is = after_state g true m ask ∙ ap (λ (t : State). (answer g true t ask).next) ready.state_is;
          trim = subst (λ (h : Geometry). Trims h (nor.bytes old.nor.now) (nor.bytes new.nor.now)) ready.geometry (calls.upkeep.now (holds_at ready).tells m (holds_at ready).image).trims ready.trim;
        };
      }

  -- after one that neither writes nor tells an offset no bytes wait
  pub settled : {g : Geometry} {old new : Volume N nor} {s : State} {ask : Ask} {reply : Answer} → IsReady g old s → Calls ask old new reply → breaks reply ≡ false → leaves_window ask ≡ false → ((t : State) → incoming_of t ask ≡ None) → HasTable g new (answer g true s ask).next
  unfolding settled_at
  settled {g} {old} {new} {s} {ask} {reply} ready calls whole moves none =
      let m : Moment = ready.moment in
      let done = calls.answers m ready.takes (holds_at ready) (no_fault whole) (not_short ready calls) in
      let ran : RunAnswers nor g old.nor.now new.nor.now (memory new) m ask reply = run_answers ready.stands (rw ready.geometry at done) in
      let rests : after g true m ask ≡ settled_at (answer g true m.state ask).next = other-settles g true m ask moves (rw (none m.state) (no_window g m.window)) (rw (none m.state) refl) in
      ran.stands.stands.image.table ∙ ap (λ (n : Moment). n.settled) rests ∙ ap (λ (t : State). (answer g true t ask).next.table) ready.state_is
