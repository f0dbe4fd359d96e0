-- A scrub on a volume: what waits is put onto the chip, and then one step is made where nothing waits.
use Rattle.std.proofs.Common.{◌≡◌, ℕ, ◌≤◌, ◌⊎◌, ⊎_elim, inl, inr, List, [], length, Bool, true, false, ◌||◌, refl, sym, ◌∙◌, ap, subst, arith}
use Rattle.std.specs.Prelude.{◌≢◌, None, Result, Ok, Err, IfErr, MatchResult}
use Rattle.std.proofs.lemmas.Bool.{cases_Bool}
use Rattle.geometry.specs.declared.geometry.Geometry.{Geometry}
use Rattle.nor_core.specs.declared.state.NorState.{Ghosts as NorOf}
use Rattle.nor_core.specs.Count.{Rose}
use Rattle.nor_core.specs.Device.{Changes, OnlyReads}
use Rattle.nor_core.proofs.Cuts.{wider, go_on, unchanged, read_after, reads_then}
use Rattle.table_model.specs.declared.error.FsErr.{FsErr}
use Rattle.table_model.specs.declared.error.FsErr.TheVariants.{Failed as FsFailed, DeviceFault as FsFault, Damaged as FsDamaged}
use Rattle.table_model.specs.declared.error.Differ.{Differ}
use Rattle.table_model.specs.Table.{File}
use Rattle.table_model.specs.Reply.{Fine, Refuses}
use Rattle.table_model.specs.Window.{Moment, settled_at, from_settled, IsAmong}
use Rattle.image_model.specs.Places.{IsImage}
use Rattle.image_model.specs.Tables.{table_of}
use Rattle.image_model.specs.Tidy.{IsTidy, HasReserve}
use Rattle.flash_view.specs.declared.kinds.StepErr.{StepErr}
use Rattle.flash_view.specs.declared.kinds.StepErr.TheVariants.{DeviceFault, Damaged}
use Rattle.flash_view.specs.declared.view.View.{View}
use Rattle.flash_view.specs.Steps.{Stepped, stopped, is_apart, as_fs_err}
use Rattle.call_model.specs.Safe.{IsSafe, HoldsImage}
use Rattle.call_model.specs.Memory.{IsAt}
use Rattle.call_model.proofs.Safety.{holds_safe, holds_then, holds_itself, safe_as, safe_of_tidy}
use Rattle.call_model.proofs.After.{settled-among}
use Rattle.wear_scrub.specs.declared.scrubs.Scrub.{Scrub}
use Rattle.wear_scrub.specs.declared.scrubs.Scrub.TheVariants.{NoRoom, Rested, Moved}
use Rattle.wear_scrub.specs.Scrubs.{IsLevel, ScrubCut, PickDone, ScrubDone, IsAtRest, scrubbing}
use Rattle.wear_scrub.proofs.Steps.{rest_is_quiet}
use Rattle.volume.specs.declared.stage.Stage.{Stage}
use Rattle.volume.specs.declared.stage.Stage.TheVariants.{Checked}
use Rattle.volume.specs.declared.volume.Volume.{Volume}
use Rattle.volume.specs.Opening.{stage_after, is_open, is_failed}
use Rattle.volume.specs.Stages.{takes_calls, has_failed}
use Rattle.volume.specs.Same.{IsSameVolume}
use Rattle.volume.specs.Replies.{told, breaks, may_settle}
use Rattle.volume.specs.Holds.{memory, Holds}
use Rattle.volume.specs.Settles.{Settles}
use Rattle.volume.specs.Unchanged.{Unchanged}
use Rattle.ix_map.specs.Maps.{no_map}
use Rattle.volume.specs.Mapping.{HasNoHeader, RefillsTo, KeepsMap}
use Rattle.volume.specs.Scrubs.{ScrubbedFrom, ScrubsOn, ScrubsSettled, Scrubs, told_as}
use Rattle.volume.proofs.Staying.{same_none, same_then}
use Rattle.volume.proofs.Calling.{settled_first, open_is, whole_still, none_is}
use Rattle.volume.proofs.RunSettling.{settled_now}
use Rattle.volume.proofs.KnownMaps.{never, refills, shut_breaks, keeps_broken, keeps_refilled}

-- ---- images

-- a step leaves a tidy image, and two free blocks that were there
picked_tidy : (g : Geometry) (limit before after : ℕ) (was now : List ℕ) (scrub : Scrub) → IsTidy g was → PickDone g limit before after was now scrub → IsTidy g now × (HasReserve g was → HasReserve g now)
picked_tidy g limit before after was now (NoRoom free) tidy done = (subst (λ (l : List ℕ). IsTidy g l) (sym done.1) tidy, λ reserve. subst (λ (l : List ℕ). HasReserve g l) (sym done.1) reserve)
picked_tidy g limit before after was now Rested tidy done = (subst (λ (l : List ℕ). IsTidy g l) (sym done.1) tidy, λ reserve. subst (λ (l : List ℕ). HasReserve g l) (sym done.1) reserve)
picked_tidy g limit before after was now (Moved block age) tidy done = (done.1.moved.freed.cleanings.tidy, λ reserve. done.1.reserve)

done_tidy : (g : Geometry) (limit before after : ℕ) (was now : List ℕ) (scrub : Scrub) → IsTidy g was → ScrubDone g limit before after was now scrub → IsTidy g now × (HasReserve g was → HasReserve g now)
done_tidy g limit before after was now scrub tidy done = ⊎_elim
    (λ none. (subst (λ (l : List ℕ). IsTidy g l) (sym none.2) tidy, λ reserve. subst (λ (l : List ℕ). HasReserve g l) (sym none.2) reserve))
    (λ made.
    let step = made.1 in
    let left = picked_tidy g limit step.between after step.middle now scrub step.freed.cleanings.tidy step.done in
    (left.0, λ reserve. left.1 (step.reserve reserve)))
    done

-- ---- answers

-- each way in which a step fails breaks the call, and may come where bytes wait
all_break : (why : StepErr) → breaks (Refuses (as_fs_err why)) ≡ true
all_break DeviceFault = refl
all_break (Damaged d) = refl

all_settle : (why : StepErr) → may_settle (Refuses (as_fs_err why)) ≡ true
all_settle DeviceFault = refl
all_settle (Damaged d) = refl

fault_is : (why : StepErr) → as_fs_err why ≡ FsFault → why ≡ DeviceFault
fault_is DeviceFault e = refl
fault_is (Damaged d) e = absurd (cc)

damage_is : (why : StepErr) (d : Differ) → as_fs_err why ≡ FsDamaged d → is_apart why → d.wanted ≢ d.found
damage_is DeviceFault d e means = absurd (cc)
damage_is (Damaged f) d e means = let same : f ≡ d = cc in subst (λ (x : Differ). x.wanted ≢ x.found) same means

same_err : (a b : FsErr) → ◌≡◌ {A = Result Scrub FsErr} (Err a) (Err b) → a ≡ b
same_err a b e = cc

-- a call that is done leads nowhere
stage_whole : (asked : Bool) → stage_after asked Fine ≡ Checked
stage_whole true = refl
stage_whole false = refl

-- where a failed call leads: nowhere, where it asked for no program and no erase
stage_by : (asked : Bool) (why : StepErr) (new : Stage) → new ≡ stage_after asked (Refuses (as_fs_err why)) → (is_failed new ≡ true) × (asked ≡ true) ⊎ (new ≡ Checked) × (asked ≡ false)
stage_by true DeviceFault new e = inl (ap is_failed e, refl)
stage_by true (Damaged d) new e = inl (ap is_failed e, refl)
stage_by false why new e = inr (e, refl)

module _ {N : Type 0} {nor : NorOf N} where
  -- a step over a view, as one on its device
  pub scrubs_on : {limit : ℕ} {old new : View N nor} {result : Result Scrub StepErr} → (nor.tells old.nor.now → IsImage old.geometry (nor.bytes old.nor.now)) →
      Stepped stopped old new result (scrubbing limit (nor.device_writes old.nor.now) (nor.device_writes new.nor.now)) → old.wrote ≡ false →
      (nor.tells old.nor.now → IsTidy old.geometry (nor.bytes old.nor.now) → IsLevel old.geometry (nor.bytes old.nor.now) limit → OnlyReads nor old.nor.now new.nor.now) →
      ScrubsOn nor old.geometry limit old.nor.now new.nor.now new.wrote result
  scrubs_on image step fresh idle = record {
    untouched = step.framed.untouched fresh;
    cause = step.cause;
    means = step.means;
    cuts = wider step.cuts (λ tells c cut tidy. cut (image tells, tidy));
    ends = λ tells tidy. step.ends tells (image tells, tidy);
    rest = idle;
  }

  -- a step after which the device is only read
  scrubs_looked : {g : Geometry} {limit : ℕ} {old mid new : N} {wrote : Bool} {result : Result Scrub StepErr} → ScrubsOn nor g limit old mid wrote result → OnlyReads nor mid new → ScrubsOn nor g limit old new wrote result
  scrubs_looked {g} {limit} {old} {mid} {new} {wrote} {result} was reads = record {
    untouched = λ idle. reads_then (was.untouched idle) reads;
    cause = λ e. let rose = was.cause e in omega (arith, rose, reads.faults);
    means = was.means;
    cuts = read_after was.cuts reads;
    ends = λ tells tidy.
        subst (λ (l : List ℕ). MatchResult result (ScrubDone g limit (nor.device_writes old) (nor.device_writes new) (nor.bytes old) l) (λ why. why ≡ DeviceFault)) (sym reads.bytes)
        (subst (λ (count : ℕ). MatchResult result (ScrubDone g limit (nor.device_writes old) count (nor.bytes old) (nor.bytes mid)) (λ why. why ≡ DeviceFault)) (sym reads.writes) (was.ends tells tidy));
    rest = λ tells tidy level. reads_then (was.rest tells tidy level) reads;
  }

  pub scrubs_read : {had : Bool} {limit : ℕ} {old mid new : Volume N nor} {result : Result Scrub FsErr} → ScrubsSettled had limit old mid result → OnlyReads nor mid.nor.now new.nor.now → new.slots.now ≡ mid.slots.now → (memory new).run ≡ (memory mid).run → new.stage ≡ mid.stage → ScrubsSettled had limit old new result
  scrubs_read {had} {limit} {old} {mid} {new} {result} did reads slots run stage = record {
    wrote = did.wrote;
    first = did.first;
    is = did.is;
    scrubs = scrubs_looked did.scrubs reads;
    asked = λ w. let rose = did.asked w in omega (arith, rose, reads.writes);
    slots = slots ∙ did.slots;
    run = run ∙ did.run;
    stage = stage ∙ did.stage;
  }

  -- a step that leads to where no call is taken broke
  scrub_broke : {had : Bool} {limit : ℕ} {old new : Volume N nor} {result : Result Scrub FsErr} → ScrubsSettled had limit old new result → takes_calls new ≡ false → breaks (told (λ scrub. Fine) result) ≡ true
  scrub_broke {had} {limit} {old} {new} {result} did shut = shut_breaks (had || did.wrote) (told (λ scrub. Fine) result) (sym (ap is_open did.stage) ∙ shut)

  -- faults are only counted
  pub faults_then : {a b d : Volume N nor} → IsSameVolume a b → IsSameVolume b d → nor.faults a.nor.now ≤ nor.faults d.nor.now
  faults_then first second = let low = first.faults in let high = second.faults in omega (arith, low, high)

  -- the map that such a step leaves, once it was read again
  pub scrub_keeps : {had : Bool} {limit : ℕ} {old mid made new : Volume N nor} {result : Result Scrub FsErr} → ScrubsSettled had limit mid made result → length mid.numbers.now ≡ length old.numbers.now → length made.numbers.now ≡ length mid.numbers.now → length new.numbers.now ≡ length made.numbers.now →
      (mid.map ≡ old.map) ⊎ (mid.map ≡ no_map) → (made.map ≡ mid.map) ⊎ (made.map ≡ no_map) → nor.faults old.nor.now ≤ nor.faults made.nor.now → (made.map.used ≡ true → new ≡ made) → (old.map.used ≡ false → new ≡ made) →
      (old.map.used ≡ true → new.map.used ≡ false → (takes_calls made ≡ false) ⊎ (Rose (nor.faults made.nor.now) (nor.faults new.nor.now) ⊎ HasNoHeader new old.map.id)) → (made.map.used ≡ false → new.map.used ≡ true → (new.map.id ≡ old.map.id) × (new.map.first ≡ old.map.first)) →
      KeepsMap old new (breaks (told (λ scrub. Fine) result))
  scrub_keeps {had} {limit} {old} {mid} {made} {new} {result} did room more rooms map known faults still none lost is =
      let broke = breaks (told (λ scrub. Fine) result) in
      let again : RefillsTo old.map made new broke = refills old.map false broke rooms refl (scrub_broke did) (omega arith) still none lost is in
      let left : (made.map ≡ old.map) ⊎ (made.map ≡ no_map) = ⊎_elim
      (λ (stood : made.map ≡ mid.map). ⊎_elim (λ (kept : mid.map ≡ old.map). inl (stood ∙ kept)) (λ (gone : mid.map ≡ no_map). inr (stood ∙ gone)) map)
      (λ (gone : made.map ≡ no_map). inr gone)
      known in
      keeps_refilled broke (more ∙ room) left faults again

  -- ---- a volume that takes no calls

  pub scrubs_closed : (limit : ℕ) (v : Volume N nor) → takes_calls v ≡ false → Scrubs limit v v (Err FsFailed)
  scrubs_closed limit v shut =
      let g = v.geometry in
      let a = nor.bytes v.nor.now in
      let closed : takes_calls v ≡ true → ⊥ = λ takes. never (sym takes ∙ shut) in
      record {
        same = same_none v;
        slots = refl;
        cuts = unchanged v.nor.now (λ was image. (m : Moment) → IsAt g was (memory v) m → IsSafe g was image × IsAmong (table_of g image) (from_settled m []))
            (λ tells m at. (safe_as g a a (holds_itself g a) at.tidy, settled_first (table_of g a) m [] at.table));
        done = λ m takes. absurd (closed takes);
        closed = λ e. (refl, refl);
        among = λ takes. absurd (closed takes);
        cause = λ e. absurd (cc);
        differs = λ d e. absurd (cc);
        failed = λ e. absurd (let no : false ≡ true = e in cc);
        asked = λ takes. absurd (closed takes);
        stays = inl refl;
        empty = λ takes. absurd (closed takes);
        goes_on = λ takes. absurd (closed takes);
        rest = λ m takes. absurd (closed takes);
        quiet = λ m takes. absurd (closed takes);
        maps = λ m takes. absurd (closed takes);
      }

  -- ---- what waits could not be put onto the chip

  pub scrubs_stopped : (limit : ℕ) {old new : Volume N nor} (why : FsErr) → takes_calls old ≡ true → Settles old new (Err why) → length new.numbers.now ≡ length old.numbers.now → (new.map ≡ old.map) ⊎ (new.map ≡ no_map) → Scrubs limit old new (Err why)
  scrubs_stopped limit {old} {new} why takes settles room map = record {
    same = settles.same;
    slots = settles.slots;
    cuts = settles.cuts;
    done = λ m takes_too here. settles.stands m here;
    closed = λ shut. absurd (let no : true ≡ false = sym takes ∙ shut in cc);
    among = λ takes_too. settles.stops.among;
    cause = λ e. settles.stops.cause (same_err why FsFault e);
    differs = λ d e. settles.stops.differs d (same_err why (FsDamaged d) e);
    failed = settles.stops.failed;
    asked = λ takes_too failed. inl (settles.stops.asked takes_too failed);
    stays = ⊎_elim (λ (stood : new.stage ≡ old.stage). inl stood) (λ (broke : (has_failed new ≡ true) × (breaks (Refuses why) ≡ true)). inr broke.0) settles.stops.stays;
    empty = λ takes_too. tt;
    goes_on = λ takes_too. tt;
    rest = λ m takes_too none here level. tt;
    quiet = λ m takes_too none here rest. tt;
    maps = λ m takes_too here. keeps_broken (breaks (Refuses why)) (ap (λ (w : FsErr). breaks (Refuses w)) (settles.stands m here)) room map;
  }

  -- ---- a step where nothing waits

  module _ {old mid new : Volume N nor} (limit : ℕ) (had : Bool) (takes : takes_calls old ≡ true) (settles : Settles old mid (Ok had)) (same : IsSameVolume mid new) (none : (memory mid).run ≡ None) where
    stood : (m : Moment) → Holds old m → Holds mid (settled_at m.state) × HoldsImage old.geometry (nor.bytes old.nor.now) (nor.bytes mid.nor.now)
    stood m here = settles.stands m here

    tidy_mid : (m : Moment) → Holds old m → IsTidy old.geometry (nor.bytes mid.nor.now)
    tidy_mid m here = subst (λ (g : Geometry). IsTidy g (nor.bytes mid.nor.now)) settles.same.geometry (stood m here).0.image.tidy

    table_mid : (m : Moment) → Holds old m → table_of old.geometry (nor.bytes mid.nor.now) ≡ m.state.table
    unfolding settled_at
    table_mid m here = subst (λ (g : Geometry). table_of g (nor.bytes mid.nor.now) ≡ m.state.table) settles.same.geometry (stood m here).0.image.table

    cut_by : (m : Moment) → Holds old m → (image : List ℕ) → ScrubCut old.geometry (nor.bytes mid.nor.now) image → IsSafe old.geometry (nor.bytes old.nor.now) image × IsAmong (table_of old.geometry image) (from_settled m [])
    cut_by m here image cut =
        let g = old.geometry in
        let tidy = tidy_mid m here in (
          holds_safe g (nor.bytes old.nor.now) (nor.bytes mid.nor.now) image (stood m here).1 tidy (safe_of_tidy g (nor.bytes mid.nor.now) image tidy cut.keeps.sound cut.mends),
          subst (λ (t : List File). IsAmong t (from_settled m [])) (sym (cut.keeps.table ∙ table_mid m here)) (settled-among g (nor.bytes old.nor.now) (memory old) m here.image),
        )

    had_none : had ≡ false → (memory old).run ≡ None
    had_none e = none_is (memory old).run (sym settles.done.2 ∙ e)

    had_some : had ≡ true → (memory old).run ≡ None → ⊥
    had_some e idle = let is = (settles.idle idle).0 in cc

    -- ---- by how the step went

    module _ (result : Result Scrub FsErr) (did : ScrubsSettled had limit mid new result) (keeps : KeepsMap old new (breaks (told (λ scrub. Fine) result))) where
      scrubs : ScrubsOn nor old.geometry limit mid.nor.now new.nor.now did.wrote did.first
      scrubs = subst (λ (g : Geometry). ScrubsOn nor g limit mid.nor.now new.nor.now did.wrote did.first) settles.same.geometry did.scrubs

      cuts_by : Changes nor old.nor.now new.nor.now (λ was image. (m : Moment) → IsAt old.geometry was (memory old) m → IsSafe old.geometry was image × IsAmong (table_of old.geometry image) (from_settled m []))
      cuts_by = go_on settles.cuts scrubs.cuts (λ tells image before cut m at. let here : Holds old m = record { tells = tells; image = at } in cut_by m here image (cut (tidy_mid m here)))

      settled_is : (memory old).run ≡ None → nor.bytes mid.nor.now ≡ nor.bytes old.nor.now
      settled_is idle = ap (λ (v : Volume N nor). nor.bytes v.nor.now) (settles.idle idle).1

      -- it is done
      done_by : (scrub : Scrub) (m : Moment) → Holds old m → ScrubDone old.geometry limit (nor.device_writes mid.nor.now) (nor.device_writes new.nor.now) (nor.bytes mid.nor.now) (nor.bytes new.nor.now) scrub →
          Holds new (settled_at m.state) × HoldsImage old.geometry (nor.bytes old.nor.now) (nor.bytes new.nor.now)
          × ScrubbedFrom old.geometry limit ((memory old).run ≡ None) (nor.device_writes old.nor.now) (nor.device_writes new.nor.now) (nor.bytes old.nor.now) (nor.bytes new.nor.now) scrub
      unfolding settled_at
      done_by scrub m here step =
          let g = old.geometry in
          let tidy = tidy_mid m here in
          let mid_is = (stood m here).0 in
          let kept = scrubs.cuts.now mid_is.tells tidy in
          let left = done_tidy g limit (nor.device_writes mid.nor.now) (nor.device_writes new.nor.now) (nor.bytes mid.nor.now) (nor.bytes new.nor.now) scrub tidy step in
          let image : IsAt g (nor.bytes new.nor.now) (record { slots = (memory mid).slots; run = None }) (settled_at m.state) =
          record { tidy = left.0; table = kept.keeps.table ∙ table_mid m here; slots = mid_is.image.slots; run = refl; opened = mid_is.image.opened } in (
            settled_now mid new m.state same did.slots (did.run ∙ none) (scrubs.cuts.cuts.told mid_is.tells)
                (subst (λ (h : Geometry). IsAt h (nor.bytes new.nor.now) (record { slots = (memory mid).slots; run = None }) (settled_at m.state)) (sym settles.same.geometry) image),
            holds_then g (nor.bytes old.nor.now) (nor.bytes mid.nor.now) (nor.bytes new.nor.now) (stood m here).1 (record { sound = λ magics. kept.keeps.sound; reserve = left.1 }),
            record {
              settled = nor.bytes mid.nor.now;
              count = nor.device_writes mid.nor.now;
              first = λ idle. (ap (λ (v : Volume N nor). nor.bytes v.nor.now) (settles.idle idle).1, ap (λ (v : Volume N nor). nor.device_writes v.nor.now) (settles.idle idle).1);
              step = step;
            },
          )

      -- where it failed and nothing was asked for, nothing is changed
      untouched : had ≡ false → did.wrote ≡ false → new.stage ≡ Checked → Unchanged old new
      untouched idle unwritten at =
          let empty = had_none idle in
          record {
            reads = subst (λ (v : Volume N nor). OnlyReads nor v.nor.now new.nor.now) (settles.idle empty).1 (scrubs.untouched unwritten);
            slots = did.slots ∙ settles.slots;
            run = did.run ∙ none ∙ sym empty;
            stage = at ∙ sym (open_is old.stage takes);
          }

      neither : (had || did.wrote) ≡ false → (had ≡ false) × (did.wrote ≡ false)
      neither e = by had did.wrote e
        where
          by : (a b : Bool) → (a || b) ≡ false → (a ≡ false) × (b ≡ false)
          by false false e = (refl, refl)
          by false true e = absurd (cc)
          by true b e = absurd (cc)

      either : (had || did.wrote) ≡ true → (had ≡ true) ⊎ ((had ≡ false) × (did.wrote ≡ true))
      either e = ⊎_elim (λ (h : had ≡ true). inl h) (λ (h : had ≡ false). inr (h, rw h at e)) (cases_Bool had)

      asked_by : (had || did.wrote) ≡ true → Rose (nor.device_writes old.nor.now) (nor.device_writes new.nor.now) ⊎ (((memory old).run ≡ None → ⊥) × ((memory new).run ≡ None))
      asked_by some = ⊎_elim
          (λ (h : had ≡ true). inr (had_some h, did.run ∙ none))
          (λ (h : (had ≡ false) × (did.wrote ≡ true)). inl (subst (λ (v : Volume N nor). Rose (nor.device_writes v.nor.now) (nor.device_writes new.nor.now)) (settles.idle (had_none h.0)).1 (did.asked h.1)))
          (either some)

      stage_is : new.stage ≡ stage_after (had || did.wrote) (told (λ s. Fine) (told_as did.first))
      stage_is = did.stage ∙ ap (λ (r : Result Scrub FsErr). stage_after (had || did.wrote) (told (λ s. Fine) r)) did.is

      by_result : (r : Result Scrub StepErr) → did.first ≡ r → Scrubs limit old new (told_as r)
      by_result (Ok scrub) is =
          let stage : new.stage ≡ old.stage = stage_is ∙ ap (λ (r : Result Scrub StepErr). stage_after (had || did.wrote) (told (λ s. Fine) (told_as r))) is ∙ stage_whole (had || did.wrote) ∙ sym (open_is old.stage takes) in
          record {
            same = same_then settles.same same;
            slots = did.slots ∙ settles.slots;
            cuts = cuts_by;
            done = λ m takes_too here. done_by scrub m here (subst (λ (r : Result Scrub StepErr). MatchResult r (ScrubDone old.geometry limit (nor.device_writes mid.nor.now) (nor.device_writes new.nor.now) (nor.bytes mid.nor.now) (nor.bytes new.nor.now)) (λ why. why ≡ DeviceFault)) is (scrubs.ends (stood m here).0.tells (tidy_mid m here)));
            closed = λ shut. absurd (let no : true ≡ false = sym takes ∙ shut in cc);
            among = λ takes_too. tt;
            cause = λ e. absurd (cc);
            differs = λ d e. absurd (cc);
            failed = tt;
            asked = λ takes_too failed. absurd (whole_still old.stage new.stage takes stage failed);
            stays = inl stage;
            empty = λ takes_too. did.run ∙ none;
            goes_on = λ takes_too. stage;
            rest = λ m takes_too idle here level.
                subst (λ (v : Volume N nor). OnlyReads nor v.nor.now new.nor.now) (settles.idle idle).1
                (scrubs.rest (stood m here).0.tells (tidy_mid m here) (subst (λ (l : List ℕ). IsLevel old.geometry l limit) (sym (settled_is idle)) level));
            quiet = λ m takes_too idle here rest.
                let done : ScrubDone old.geometry limit (nor.device_writes mid.nor.now) (nor.device_writes new.nor.now) (nor.bytes mid.nor.now) (nor.bytes new.nor.now) scrub =
                subst (λ (r : Result Scrub StepErr). MatchResult r (ScrubDone old.geometry limit (nor.device_writes mid.nor.now) (nor.device_writes new.nor.now) (nor.bytes mid.nor.now) (nor.bytes new.nor.now)) (λ why. why ≡ DeviceFault)) is (scrubs.ends (stood m here).0.tells (tidy_mid m here)) in
                subst (λ (v : Volume N nor). nor.device_writes new.nor.now ≤ nor.device_writes v.nor.now) (settles.idle idle).1
                (rest_is_quiet old.geometry limit _ _ _ _ scrub (subst (λ (l : List ℕ). IsAtRest old.geometry l limit) (sym (settled_is idle)) rest) done);
            maps = λ m takes_too here. subst (λ (r : Result Scrub FsErr). KeepsMap old new (breaks (told (λ s. Fine) r))) (did.is ∙ ap told_as is) keeps;
          }
      by_result (Err why) is =
          let stage : new.stage ≡ stage_after (had || did.wrote) (Refuses (as_fs_err why)) = stage_is ∙ ap (λ (r : Result Scrub StepErr). stage_after (had || did.wrote) (told (λ s. Fine) (told_as r))) is in
          let led = stage_by (had || did.wrote) why new.stage stage in
          record {
            same = same_then settles.same same;
            slots = did.slots ∙ settles.slots;
            cuts = cuts_by;
            done = λ m takes_too here. ap as_fs_err (subst (λ (r : Result Scrub StepErr). MatchResult r (ScrubDone old.geometry limit (nor.device_writes mid.nor.now) (nor.device_writes new.nor.now) (nor.bytes mid.nor.now) (nor.bytes new.nor.now)) (λ w. w ≡ DeviceFault)) is (scrubs.ends (stood m here).0.tells (tidy_mid m here)));
            closed = λ shut. absurd (let no : true ≡ false = sym takes ∙ shut in cc);
            among = λ takes_too. all_settle why;
            cause = λ e.
                let fault : ◌≡◌ {A = Result Scrub StepErr} did.first (Err DeviceFault) = is ∙ ap (λ (w : StepErr). Err w) (fault_is why (same_err (as_fs_err why) FsFault e)) in
                let rose = scrubs.cause fault in let more = settles.same.faults in omega arith;
            differs = λ d e. damage_is why d (same_err (as_fs_err why) (FsDamaged d) e) (subst (λ (r : Result Scrub StepErr). IfErr r is_apart) is scrubs.means);
            failed = λ broke. ⊎_elim
                (λ (failed : (is_failed new.stage ≡ true) × ((had || did.wrote) ≡ true)). inl failed.0)
                (λ (stood : (new.stage ≡ Checked) × ((had || did.wrote) ≡ false)). let no = neither stood.1 in inr (untouched no.0 no.1 stood.0))
                led;
            asked = λ takes_too failed. ⊎_elim
                (λ (broke : (is_failed new.stage ≡ true) × ((had || did.wrote) ≡ true)). asked_by broke.1)
                (λ (stood : (new.stage ≡ Checked) × ((had || did.wrote) ≡ false)). absurd (whole_still old.stage new.stage takes (stood.0 ∙ sym (open_is old.stage takes)) failed))
                led;
            stays = ⊎_elim
                (λ (failed : (is_failed new.stage ≡ true) × ((had || did.wrote) ≡ true)). inr failed.0)
                (λ (stood : (new.stage ≡ Checked) × ((had || did.wrote) ≡ false)). inl (stood.0 ∙ sym (open_is old.stage takes)))
                led;
            empty = λ takes_too. tt;
            goes_on = λ takes_too. tt;
            rest = λ m takes_too idle here level. tt;
            quiet = λ m takes_too idle here rest. tt;
            maps = λ m takes_too here. subst (λ (r : Result Scrub FsErr). KeepsMap old new (breaks (told (λ s. Fine) r))) (did.is ∙ ap told_as is) keeps;
          }

      pub scrubs_by : Scrubs limit old new result
      scrubs_by = subst (λ (r : Result Scrub FsErr). Scrubs limit old new r) (sym did.is) (by_result did.first refl)
