-- The end of a run, where the bytes that wait are put onto the chip.
use Rattle.std.proofs.Common.{◌≡◌, ℕ, ◌⊎◌, List, [], refl, sym, ap, subst, inl, inr, ⊎_elim, Bool, true, false, Result, Ok, Err, Some}
use Rattle.geometry.specs.declared.geometry.Geometry.{Geometry}
use Rattle.nor_core.specs.declared.state.NorState.{Ghosts as NorOf}
use Rattle.nor_core.specs.Count.{Rose}
use Rattle.nor_core.specs.Device.{Leaves}
use Rattle.nor_core.proofs.Cuts.{andthen, widened, wider, started}
use Rattle.table_model.specs.declared.error.FsErr.{FsErr}
use Rattle.table_model.specs.declared.error.FsErr.TheVariants.{DeviceFault, Damaged, Tight as TooTight}
use Rattle.table_model.specs.declared.error.Differ.{Differ}
use Rattle.table_model.specs.Ask.{Ask}
use Rattle.table_model.specs.Window.{Moment, settled_at}
use Rattle.call_model.specs.Memory.{Memory}
use Rattle.call_model.specs.Calls.{Stands}
use Rattle.volume.specs.declared.volume.Volume.{Volume}
use Rattle.volume.specs.Holds.{memory, Holds}
use Rattle.volume.specs.Settles.{Settles, SettledOr, without_had}
use Rattle.tool_parts.specs.declared.ending.Ending.{Ending}
use Rattle.tool_parts.specs.declared.ending.Ending.TheVariants.{Done, BadLine, BoardFault, SourceFault, TooLong, Tight, Differ as EndsDiffer}
use Rattle.script_run.specs.Outcomes.{WhyEnds}
use Rattle.tool_parts.specs.Begins.{first_moment}
use Rattle.script_run.specs.Runs.{StandsBy, StandsNow, WorksTo, Works}
use Rattle.script_run.specs.Settling.{settled_as, IsSettled, SettlesTo, Settling}

-- a volume that is settled takes calls
pub takes_by : (ending : Ending) (takes : Bool) → ¬ (ending ≡ BoardFault) → ((d : Differ) → ¬ (ending ≡ EndsDiffer d)) → StandsBy (Some ending) takes → takes ≡ true
takes_by BoardFault takes fault damage stands = absurd (fault refl)
takes_by (EndsDiffer d) takes fault damage stands = absurd (damage d refl)
takes_by _ takes fault damage stands = stands

module _ {N : Type 0} {nor : NorOf N} where
  -- of a volume that stands it is told that all is on the chip, or that the device failed
  settle_stands : {old new : Volume N nor} (ending : Ending) (m : Moment) (had : Result Bool FsErr) → Settles old new had → Holds old m →
      ((settled_as ending (without_had had) ≡ ending) × IsSettled nor old.geometry old.nor.now new.nor.now (memory new) m) ⊎ (settled_as ending (without_had had) ≡ BoardFault)
  settle_stands {old} {new} ending m (Ok waited) settles holds =
      let here = settles.stands m holds in
      inl (refl, record { stands = subst (λ (g : Geometry). Stands nor g new.nor.now (memory new) (settled_at m.state)) settles.same.geometry here.0; holds = here.1 })
  settle_stands ending m (Err why) settles holds = inr (ap (λ (e : FsErr). settled_as ending (Err e)) (settles.stands m holds))

  settles_to : {old new : Volume N nor} (ending : Ending) {last : Result (Unit {0}) FsErr} → SettledOr old new last → SettlesTo nor old.geometry old.nor.now new.nor.now (memory old) (memory new) ending (settled_as ending last)
  settles_to {old} {new} ending {last} s = record {
    changes = λ m. wider s.settles.cuts (λ tells image here. here m);
    stands = λ m stands. subst (λ (r : Result (Unit {0}) FsErr). ((settled_as ending r ≡ ending) × IsSettled nor old.geometry old.nor.now new.nor.now (memory new) m) ⊎ (settled_as ending r ≡ BoardFault)) (sym s.is) (settle_stands ending m s.had s.settles stands);
  }

  -- a run that ended in no fault and with no page that reads otherwise settles its volume
  pub settles_run : {old new : Volume N nor} (ending : Ending) {last : Result (Unit {0}) FsErr} → ¬ (ending ≡ BoardFault) → ((d : Differ) → ¬ (ending ≡ EndsDiffer d)) → SettledOr old new last → Settling nor old.geometry old.nor.now new.nor.now (memory old) (memory new) ending (settled_as ending last)
  settles_run BoardFault fault damage s = absurd (fault refl)
  settles_run (EndsDiffer d) fault damage s = absurd (damage d refl)
  settles_run ending fault damage s = settles_to ending s

  stop_cause : {old new : Volume N nor} (ending : Ending) (had : Result Bool FsErr) → Settles old new had → settled_as ending (without_had had) ≡ BoardFault → (ending ≡ BoardFault) ⊎ Rose (nor.faults old.nor.now) (nor.faults new.nor.now)
  stop_cause ending (Ok waited) settles is = inl is
  stop_cause ending (Err DeviceFault) settles is = inr (settles.stops.cause refl)
  stop_cause ending (Err (Damaged d)) settles is = absurd (let no : EndsDiffer d ≡ BoardFault = is in cc)
  stop_cause ending (Err TooTight) settles is = absurd (let no : Tight 0 ≡ BoardFault = is in cc)
  stop_cause ending (Err _) settles is = absurd (let no : false ≡ true = settles.stops.among in cc)

  -- a fault of the board that is told then was counted
  pub settled_cause : {old new : Volume N nor} (ending : Ending) {last : Result (Unit {0}) FsErr} → SettledOr old new last → settled_as ending last ≡ BoardFault → (ending ≡ BoardFault) ⊎ Rose (nor.faults old.nor.now) (nor.faults new.nor.now)
  settled_cause ending s is = stop_cause ending s.had s.settles (subst (λ (r : Result (Unit {0}) FsErr). settled_as ending r ≡ BoardFault) s.is is)

module _ {D : Type 0} {nor : NorOf D} {g : Geometry} where
  settled_works : {old new : D} {was now : Memory} {ending result : Ending} → SettlesTo nor g old new was now ending result → StandsNow nor g old was → (StandsNow nor g new now → WorksTo nor g new now (Some ending)) → WorksTo nor g new now (Some result)
  settled_works {old} {new} {was} {now} {ending} {result} settles here works = ⊎_elim
      (λ fine. subst (λ (e : Ending). WorksTo nor g new now (Some e)) (sym fine.0) (works (record { moment = _; stands = fine.1.stands; reserve = fine.1.holds.reserve here.reserve })))
      (λ fault. subst (λ (e : Ending). WorksTo nor g new now (Some e)) (sym fault) (tt {0}))
      (settles.stands here.moment here.stands)

  settles_on : {old new : D} {was now : Memory} {ending result : Ending} → SettlesTo nor g old new was now ending result → Leaves nor old new (λ image count. Unit {0})
  settles_on settles = widened (settles.changes (first_moment g 0 [])).cuts (λ image count here. tt {0})

module _ {D : Type 0} (nor : NorOf D) (g : Geometry) where
  -- a run that came to an end settles its volume
  pub settles_of : (ending result : Ending) (old new : D) (was now : Memory) (script left : List ℕ) (front later : List Ask) → WhyEnds script left front later ending → Settling nor g old new was now ending result → SettlesTo nor g old new was now ending result
  settles_of Done result old new was now script left front later why settles = settles
  settles_of (BadLine n) result old new was now script left front later why settles = settles
  settles_of TooLong result old new was now script left front later why settles = settles
  settles_of SourceFault result old new was now script left front later why settles = settles
  settles_of _ result old new was now script left front later why settles = absurd why

  -- what stood at its end goes on standing
  settling_works : (ending result : Ending) (old new : D) (was now : Memory) → Settling nor g old new was now ending result → WorksTo nor g old was (Some ending) → WorksTo nor g new now (Some result)
  settling_works Done result old new was now settles here = settled_works settles here (λ stands. stands)
  settling_works (BadLine n) result old new was now settles here = settled_works settles here (λ stands. stands)
  settling_works SourceFault result old new was now settles here = settled_works settles here (λ stands. stands)
  settling_works TooLong result old new was now settles here = settled_works settles here (λ stands. stands)
  settling_works BoardFault result old new was now settles here = subst (λ (e : Ending). WorksTo nor g new now (Some e)) (sym settles.0) (tt {0})
  settling_works _ result old new was now settles here = absurd here

  -- time goes on as it is settled
  settling_on : (ending result : Ending) (old new : D) (was now : Memory) → Settling nor g old new was now ending result → Leaves nor old new (λ image count. Unit {0})
  settling_on BoardFault result old new was now settles = subst (λ (d : D). Leaves nor old d (λ image count. Unit {0})) (sym settles.1) (started old _)
  settling_on (EndsDiffer d) result old new was now settles = subst (λ (d : D). Leaves nor old d (λ image count. Unit {0})) (sym settles.1) (started old _)
  settling_on _ result old new was now settles = settles_on settles

module _ {D : Type 0} {nor : NorOf D} {g : Geometry} where
  -- the whole run of a script, with its end
  pub works_settled : {old ran new : D} {was between now : Memory} {result : Ending} (ending : Ending) (k : Geometry) → k ≡ g → Works nor g old ran was between (Some ending) → Settling nor k ran new between now ending result → Works nor g old new was now (Some result)
  works_settled {old} {ran} {new} {was} {between} {now} {result} ending k same works settles =
      let here : Settling nor g ran new between now ending result = subst (λ (i : Geometry). Settling nor i ran new between now ending result) same settles in
      record { goes = andthen works.goes (settling_on nor g ending result ran new between now here); stands = λ stands. settling_works nor g ending result ran new between now here (works.stands stands) }
