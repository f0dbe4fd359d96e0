-- Steps on a volume at rest: a map is attached, garbage is collected, and the map is attached again where it was lost.
use Rattle.std.proofs.Common.{◌≡◌, ℕ, ◌<◌, ◌⊎◌, List, [], length, Bool, true, false, refl, sym, ◌∙◌, ap, subst, arith, inl, inr, ⊎_elim, Option, Some, None, Result, Ok, Err}
use Rattle.std.specs.Prelude.{nat_lt, is_some, if◌then◌else◌, MatchResult, OnOk}
use Rattle.std.proofs.lemmas.Bool.Decides.{nat_tests}
use Rattle.std.proofs.lemmas.Result.{MatchResult-weaker}
use Rattle.geometry.specs.declared.geometry.Geometry.{Geometry}
use Rattle.nor_core.specs.declared.state.NorState.{Ghosts as NorOf}
use Rattle.nor_core.specs.Count.{Rose}
use Rattle.nor_core.specs.Device.{Changes}
use Rattle.nor_core.proofs.Cuts.{wider, go_on, unchanged}
use Rattle.table_model.specs.declared.error.FsErr.{FsErr}
use Rattle.table_model.specs.declared.error.FsErr.TheVariants.{DeviceFault, Damaged, NotFound, Tight as TooTight}
use Rattle.table_model.specs.Ask.{Collects}
use Rattle.table_model.specs.Flat.{answer}
use Rattle.table_model.specs.Reply.{Answer, Fine, Refuses}
use Rattle.table_model.specs.Steps.{steps, done_steps}
use Rattle.table_model.specs.Table.{File, State, has_id}
use Rattle.table_model.specs.Window.{Moment, after, settled_at, from_settled, IsAmong, incoming_of}
use Rattle.image_model.specs.Tables.{table_of}
use Rattle.image_model.specs.Tidy.{IsTidy, HasReserve, has_spare}
use Rattle.write_window.specs.Runs.{Run}
use Rattle.call_model.specs.Calls.{Stands}
use Rattle.call_model.specs.Memory.{Memory, IsAt, RunWaits}
use Rattle.call_model.specs.Safe.{IsSafe, HoldsImage}
use Rattle.call_model.proofs.After.{other-settles}
use Rattle.call_model.proofs.Safety.{holds_itself, holds_then, holds_safe, safe_as}
use Rattle.volume.specs.declared.map_calls.MapErr.{MapErr}
use Rattle.volume.specs.declared.map_calls.MapErr.TheVariants.{Call}
use Rattle.volume.specs.declared.map_calls.MapRefusal.{MapRefusal}
use Rattle.volume.specs.declared.volume.Volume.{Volume}
use Rattle.volume.specs.Calls.{Calls}
use Rattle.volume.specs.Holds.{memory, Holds}
use Rattle.volume.specs.Mapping.{is_attached, KeepsMap}
use Rattle.volume.specs.MapReads.{SettlesAndReads, Attaches, id_in, attach_refusal, why_back}
use Rattle.volume.specs.Opening.{is_open}
use Rattle.volume.specs.Replies.{told, breaks}
use Rattle.volume.specs.Stages.{takes_calls}
use Rattle.volume.specs.Unchanged.{Unchanged}
use Rattle.tool_parts.specs.declared.ending.Ending.{Ending}
use Rattle.tool_parts.specs.declared.ending.Ending.TheVariants.{BoardFault, NoSuchId}
use Rattle.tool_core.specs.Mapping.{unmapped_as, collected_as, StopsCollecting, IsAtRest, Rests, Steps, has_file, HasMap, MayHaveMap, IsMissing, IsFound, AttachesTo, CollectsTo, MapsAgain}
use Rattle.tool_parts.specs.Mounting.{LeavesFiles}
use Rattle.tool_parts.specs.Begins.{first_moment, closed_memory}
use Rattle.script_run.proofs.Beginning.{first_at}
use Rattle.tool_core.proofs.ScrubTurns.{stands_first, one_among, closed_still, still_closed}

-- ---- the first moment

state_first : (g : Geometry) (slots : ℕ) (image : List ℕ) → (first_moment g slots image).state.table ≡ table_of g image
unfolding settled_at
state_first g slots image = refl

steps_none : (g : Geometry) (spare : Bool) (s : State) → steps g spare s Collects ≡ []
unfolding steps done_steps answer
steps_none g spare s = refl

-- collection leaves nothing waiting
collects_settled : (g : Geometry) (slots : ℕ) (image : List ℕ) (spare : Bool) → (after g spare (first_moment g slots image) Collects).window ≡ None
unfolding after settled_at incoming_of answer
collects_settled g slots image spare = refl

run_free : (g : Geometry) (image : List ℕ) (m : Moment) (o : Option Run) → RunWaits g image m o → m.window ≡ None → o ≡ None
run_free g image m None waits none = refl
run_free g image m (Some r) waits none = absurd (let bad = sym waits.0.window ∙ none in cc)

-- ---- results

wanted_ok : (b : Bool) (id other : ℕ) → (let r : Result ℕ FsErr = if b then Ok id else Err NotFound in r) ≡ Ok other → (b ≡ true) × (other ≡ id)
wanted_ok true id other e = (refl, cc)
wanted_ok false id other e = absurd (let no : Err NotFound ≡ Ok other = e in cc)

why_missing : (why : MapErr) (b : Bool) (id : ℕ) → ((why ≡ Call DeviceFault → ⊥) → Some why ≡ attach_refusal false (if b then Ok id else Err NotFound)) → (unmapped_as id why ≡ BoardFault) ⊎ ((unmapped_as id why ≡ NoSuchId id) × (b ≡ false))
why_missing (Call DeviceFault) b id said = inl refl
why_missing (Call NotFound) true id said = absurd (let no = said (λ e. cc) in cc)
why_missing (Call NotFound) false id said = inr (refl, refl)
why_missing _ true id said = absurd (let no = said (λ e. cc) in cc)
why_missing _ false id said = absurd (let no = said (λ e. cc) in cc)

stops_reserve : {g : Geometry} {was now : List ℕ} → StopsCollecting g was now → HasReserve g was → HasReserve g now
stops_reserve stops reserve = ⊎_elim (λ packed. packed.reserve reserve) (λ stuck. stuck.stuck.reserve reserve) stops

stops_tidy : {g : Geometry} {was now : List ℕ} → StopsCollecting g was now → IsTidy g now × (table_of g now ≡ table_of g was)
stops_tidy stops = ⊎_elim (λ packed. (packed.tidy, packed.table)) (λ stuck. (stuck.stuck.tidy, stuck.stuck.table)) stops

no_bytes : (n : ℕ) → 0 < n → nat_lt 0 n ≡ false → ⊥
no_bytes n some none = grind (arith, nat_tests)

module _ {N : Type 0} {nor : NorOf N} where
  pub holds_first : {slots : ℕ} (v : Volume N nor) → IsAtRest slots v → Holds v (first_moment v.geometry slots (nor.bytes v.nor.now))
  holds_first {slots} v rest = stands_first v.geometry slots v.nor.now (memory v) rest.memory rest.tells rest.tidy

  -- a step that went so
  pub steps_as : {slots : ℕ} {old new : Volume N nor} {result other : Result (Unit {0}) Ending} {Is : Type 0} {Why : Ending → Type 0} → result ≡ other → Steps slots old new result Is Why → Steps slots old new other Is Why
  steps_as {slots} {old} {new} {result} {other} {Is} {Why} is step = subst (λ (r : Result (Unit {0}) Ending). Steps slots old new r Is Why) is step

  -- one step after another
  pub steps_then : {slots : ℕ} {old mid new : Volume N nor} {result : Result (Unit {0}) Ending} {Is Next : Type 0} {Why Then : Ending → Type 0} → mid.geometry ≡ old.geometry → Steps slots old mid (Ok tt) Is Why → Steps slots mid new result Next Then → Steps slots old new result Next Then
  steps_then {slots} {old} {mid} {new} {result} same first second =
      let was = nor.bytes old.nor.now in
      let between = nor.bytes mid.nor.now in
      record {
        changes = go_on first.changes second.changes (λ tells image before after closed tidy.
            let r = (first.done (record { tells = tells; tidy = tidy; memory = closed })).0 in
            let left : LeavesFiles old.geometry between image = subst (λ (g : Geometry). LeavesFiles g between image) same (after r.rest.memory r.rest.tidy) in
            (holds_safe old.geometry was between image r.holds (subst (λ (g : Geometry). IsTidy g between) same r.rest.tidy) left.0, left.1 ∙ r.table));
        done = λ rest.
            let r = (first.done rest).0 in
            MatchResult-weaker result (second.done r.rest)
            (λ ok next.
            let n = next.0 in (
              record {
                rest = n.rest;
                table = subst (λ (g : Geometry). table_of g (nor.bytes new.nor.now) ≡ table_of g between) same n.table ∙ r.table;
                holds = holds_then old.geometry was between (nor.bytes new.nor.now) r.holds (subst (λ (g : Geometry). HoldsImage g between (nor.bytes new.nor.now)) same n.holds);
              },
              next.1,
            ))
            (λ ending why. why);
      }

  -- a call that only reads there
  rests_on : {slots : ℕ} {old new : Volume N nor} → IsAtRest slots old → Unchanged old new → new.geometry ≡ old.geometry → Rests slots old new
  rests_on {slots} {old} {new} rest still same = record {
    rest = record {
      tells = still.reads.told rest.tells;
      tidy = subst (λ (g : Geometry). IsTidy g (nor.bytes new.nor.now)) (sym same) (subst (λ (l : List ℕ). IsTidy old.geometry l) (sym still.reads.bytes) rest.tidy);
      memory = still_closed old new slots still rest.memory;
    };
    table = ap (table_of old.geometry) still.reads.bytes;
    holds = subst (λ (l : List ℕ). HoldsImage old.geometry (nor.bytes old.nor.now) l) (sym still.reads.bytes) (holds_itself old.geometry (nor.bytes old.nor.now));
  }

  -- ---- a map is attached

  attach_changes : {old new : Volume N nor} {refusal : Option MapErr} (slots : ℕ) → SettlesAndReads old new refusal → Changes nor old.nor.now new.nor.now (λ was image. memory old ≡ closed_memory slots → IsTidy old.geometry was → LeavesFiles old.geometry was image)
  attach_changes {old} {new} slots s = wider s.cuts (λ tells image here closed tidy.
      let g = old.geometry in
      let was = nor.bytes old.nor.now in
      let left = here (first_moment g slots was) (first_at g slots was was (memory old) closed tidy refl) in
      (left.0, one_among g slots was (table_of g image) left.1))

  attach_still : {slots : ℕ} {old new : Volume N nor} {refusal : Option MapErr} → takes_calls old ≡ true → SettlesAndReads old new refusal → IsAtRest slots old → Unchanged old new
  attach_still takes s rest = s.still takes (ap (λ (w : Memory). w.run) rest.memory)

  pub attaches_ok : {old new : Volume N nor} {result : Result (Unit {0}) MapRefusal} (slots id lent : ℕ) (done : Unit {0}) → result ≡ Ok done → takes_calls old ≡ true → Attaches (id_in id) 0 lent old new result → AttachesTo slots id lent old new (Ok tt)
  attaches_ok {old} {new} slots id lent done is takes attaches =
      let a : Attaches (id_in id) 0 lent old new (Ok done) = subst (λ (r : Result (Unit {0}) MapRefusal). Attaches (id_in id) 0 lent old new r) is attaches in
      let g = old.geometry in
      let was = nor.bytes old.nor.now in
      record {
        changes = attach_changes slots a.call;
        done = λ rest.
            let m = first_moment g slots was in
            let d = a.done m takes (holds_first old rest) refl in
            let w = wanted_ok (has_id id m.state.table) id new.map.id d.1 in
            (rests_on rest (attach_still takes a.call rest) a.call.same.geometry, record { map = record { used = d.0; of = w.1; first = d.2; room = d.3 }; there = sym (ap (has_id id) (state_first g slots was)) ∙ w.0; bytes = (attach_still takes a.call rest).reads.bytes });
      }

  pub attaches_err : {old new : Volume N nor} {result : Result (Unit {0}) MapRefusal} (slots id lent : ℕ) (refusal : MapRefusal) (ending : Ending) → result ≡ Err refusal → ending ≡ unmapped_as id refusal.why → takes_calls old ≡ true → is_attached old ≡ false → Attaches (id_in id) 0 lent old new result → AttachesTo slots id lent old new (Err ending)
  attaches_err {old} {new} slots id lent refusal ending is told_as takes free attaches =
      let a : Attaches (id_in id) 0 lent old new (Err refusal) = subst (λ (r : Result (Unit {0}) MapRefusal). Attaches (id_in id) 0 lent old new r) is attaches in
      let g = old.geometry in
      let was = nor.bytes old.nor.now in
      record {
        changes = attach_changes slots a.call;
        done = λ rest.
            let m = first_moment g slots was in
            let said : (refusal.why ≡ Call DeviceFault → ⊥) → Some refusal.why ≡ attach_refusal false (if has_id id m.state.table then Ok id else Err NotFound) =
            λ fine. a.answers m takes (holds_first old rest) (λ e. fine cc) ∙ ap (λ (b : Bool). attach_refusal b (id_in id m.state)) free in
            ⊎_elim
            (λ fault. inl (told_as ∙ fault))
            (λ missing. inr (record { ending_is = told_as ∙ missing.0; none = sym (ap (has_id id) (state_first g slots was)) ∙ missing.1; bytes = (attach_still takes a.call rest).reads.bytes }))
            (why_missing refusal.why (has_id id m.state.table) id said);
      }

  -- done, the volume takes calls as before
  pub attaches_on : {old new : Volume N nor} {result : Result (Unit {0}) MapRefusal} (wanted : State → Result ℕ FsErr) (first lent : ℕ) (done : Unit {0}) → result ≡ Ok done → takes_calls old ≡ true → Attaches wanted first lent old new result → takes_calls new ≡ true
  attaches_on {old} {new} wanted first lent done is takes attaches =
      let a : Attaches wanted first lent old new (Ok done) = subst (λ (r : Result (Unit {0}) MapRefusal). Attaches wanted first lent old new r) is attaches in
      ⊎_elim
      (λ same. ap is_open same ∙ takes)
      (λ broke. absurd (let no : false ≡ true = broke.2 in cc))
      a.call.stays

  -- a fault is told only where one was counted
  pub attaches_fault : {old new : Volume N nor} {result : Result (Unit {0}) MapRefusal} (wanted : State → Result ℕ FsErr) (first lent : ℕ) (refusal : MapRefusal) → result ≡ Err refusal → refusal.why ≡ Call DeviceFault → Attaches wanted first lent old new result → Rose (nor.faults old.nor.now) (nor.faults new.nor.now)
  attaches_fault {old} {new} wanted first lent refusal is why attaches =
      let a : Attaches wanted first lent old new (Err refusal) = subst (λ (r : Result (Unit {0}) MapRefusal). Attaches wanted first lent old new r) is attaches in
      a.call.cause (ap (λ (w : MapErr). Some w) why)

  -- ---- garbage is collected

  gc_changes : {old new : Volume N nor} {reply : Answer} (slots : ℕ) → Calls Collects old new reply → Changes nor old.nor.now new.nor.now (λ was image. memory old ≡ closed_memory slots → IsTidy old.geometry was → LeavesFiles old.geometry was image)
  gc_changes {old} {new} slots calls = wider calls.cuts (λ tells image here closed tidy.
      let g = old.geometry in
      let was = nor.bytes old.nor.now in
      let m = first_moment g slots was in
      let left = here m (first_at g slots was was (memory old) closed tidy refl) in
      let among : IsAmong (table_of g image) (from_settled m []) = subst (λ (l : List (List File)). IsAmong (table_of g image) (from_settled m l)) (steps_none g (has_spare g was) m.state) left.1 in
      (left.0, one_among g slots was (table_of g image) among))

  gathers : {slots : ℕ} {old new : Volume N nor} {reply : Answer} → takes_calls old ≡ true → Calls Collects old new reply → breaks reply ≡ false → (IsAtRest slots old → StopsCollecting old.geometry (nor.bytes old.nor.now) (nor.bytes new.nor.now)) → (IsAtRest slots old → (memory new).run ≡ None) → CollectsTo slots old new (Ok tt)
  gathers {slots} {old} {new} takes calls fine stops free =
      let g = old.geometry in
      let was = nor.bytes old.nor.now in
      let now = nor.bytes new.nor.now in
      record {
        changes = gc_changes slots calls;
        done = λ rest.
            let s = stops rest in
            let t = stops_tidy s in
            let m = first_moment g slots was in
            let left = (calls.cuts.now rest.tells) m (first_at g slots was was (memory old) rest.memory rest.tidy refl) in (
              record {
                rest = record {
                  tells = calls.cuts.cuts.told rest.tells;
                  tidy = subst (λ (k : Geometry). IsTidy k now) (sym calls.same.geometry) t.0;
                  memory = closed_still old new slots rest.memory (calls.keeps refl) (free rest);
                };
                table = t.1;
                holds = record { sound = left.0.sound; reserve = stops_reserve s };
              },
              (s, subst (λ (b : Bool). KeepsMap old new b) fine (calls.maps m takes (holds_first old rest))),
            );
      }

  gathered_ok : {slots : ℕ} {old new : Volume N nor} → takes_calls old ≡ true → Calls Collects old new Fine → CollectsTo slots old new (Ok tt)
  gathered_ok {slots} {old} {new} takes calls =
      let g = old.geometry in
      let was = nor.bytes old.nor.now in
      let m = first_moment g slots was in
      gathers takes calls refl
      (λ rest. inl ((calls.collects m takes (ap (λ (w : Memory). w.run) rest.memory) (holds_first old rest) refl).packed refl))
      (λ rest.
      let a = calls.answers m takes (holds_first old rest) (λ e. cc) (λ short. let no = short.tight in cc) in
      run_free g (nor.bytes new.nor.now) (after g (has_spare g was) m Collects) (memory new).run a.stands.image.run (collects_settled g slots was (has_spare g was)))

  gathered_tight : {slots : ℕ} {old new : Volume N nor} → takes_calls old ≡ true → Calls Collects old new (Refuses TooTight) → CollectsTo slots old new (Ok tt)
  gathered_tight {slots} {old} {new} takes calls =
      let m = first_moment old.geometry slots (nor.bytes old.nor.now) in
      gathers takes calls refl
      (λ rest. inr ((calls.collects m takes (ap (λ (w : Memory). w.run) rest.memory) (holds_first old rest) refl).stuck refl))
      (λ rest. calls.empty refl (ap (λ (w : Memory). w.run) rest.memory))

  -- a refusal that collection can't have
  no_refusal : {slots : ℕ} {old new : Volume N nor} (why : FsErr) → takes_calls old ≡ true → Calls Collects old new (Refuses why) → (why ≡ DeviceFault → ⊥) → (why ≡ TooTight → ⊥) → IsAtRest slots old → ⊥
  unfolding answer
  no_refusal {slots} {old} {new} why takes calls fine roomy rest =
      let m = first_moment old.geometry slots (nor.bytes old.nor.now) in
      let a = calls.answers m takes (holds_first old rest) (λ e. fine cc) (λ short. roomy (let is = short.tight in cc)) in
      let no : Refuses why ≡ Fine = a.reply_is in
      cc

  failed_as : {slots : ℕ} {old new : Volume N nor} (why : FsErr) (ending : Ending) → takes_calls old ≡ true → Calls Collects old new (Refuses why) → (IsAtRest slots old → ending ≡ BoardFault) → CollectsTo slots old new (Err ending)
  failed_as {slots} why ending takes calls fault = record { changes = gc_changes slots calls; done = fault }

  pub collects_to : {old new : Volume N nor} (slots : ℕ) (result : Result (Unit {0}) FsErr) → takes_calls old ≡ true → Calls Collects old new (told (λ done. Fine) result) → CollectsTo slots old new (collected_as result)
  collects_to slots (Ok done) takes calls = gathered_ok takes calls
  collects_to slots (Err TooTight) takes calls = gathered_tight takes calls
  collects_to slots (Err DeviceFault) takes calls = failed_as DeviceFault _ takes calls (λ rest. refl)
  collects_to slots (Err _) takes calls = failed_as _ _ takes calls (λ rest. absurd (no_refusal _ takes calls (λ e. cc) (λ e. cc) rest))

  -- it takes calls then
  goes_on : {old new : Volume N nor} {reply : Answer} → takes_calls old ≡ true → Calls Collects old new reply → breaks reply ≡ false → takes_calls new ≡ true
  goes_on takes calls fine = ⊎_elim
      (λ same. ap is_open same ∙ takes)
      (λ broke. absurd (let no : true ≡ false = sym broke.2 ∙ fine in cc))
      calls.stays

  pub collect_goes : {old new : Volume N nor} (result : Result (Unit {0}) FsErr) → takes_calls old ≡ true → Calls Collects old new (told (λ done. Fine) result) → OnOk (collected_as result) (takes_calls new ≡ true)
  collect_goes (Ok done) takes calls = goes_on takes calls refl
  collect_goes (Err TooTight) takes calls = goes_on takes calls refl
  collect_goes (Err _) takes calls = tt

  -- ---- the map is attached again

  -- it was kept
  pub maps_still : {v : Volume N nor} (slots id : ℕ) → v.map.used ≡ true → MapsAgain slots id v v (Ok tt)
  maps_still {v} slots id used = record {
    changes = unchanged v.nor.now _ (λ tells closed tidy. (safe_as v.geometry (nor.bytes v.nor.now) (nor.bytes v.nor.now) (holds_itself v.geometry (nor.bytes v.nor.now)) tidy, refl));
    done = λ rest. (record { rest = rest; table = refl; holds = holds_itself v.geometry (nor.bytes v.nor.now) }, λ lent there may. (may.map used, refl));
  }

  -- no bytes were lent
  pub maps_not : {old new : Volume N nor} (slots id : ℕ) (ending : Ending) → new.nor.now ≡ old.nor.now → is_attached old ≡ false → MapsAgain slots id old new (Err ending)
  maps_not {old} {new} slots id ending device free = record {
    changes = subst (λ (d : N). Changes nor old.nor.now d (λ was image. memory old ≡ closed_memory slots → IsTidy old.geometry was → LeavesFiles old.geometry was image)) (sym device)
        (unchanged old.nor.now _ (λ tells closed tidy. (safe_as old.geometry (nor.bytes old.nor.now) (nor.bytes old.nor.now) (holds_itself old.geometry (nor.bytes old.nor.now)) tidy, refl)));
    done = λ rest lent there may. absurd (no_bytes (length old.numbers.now) (omega (arith, may.some, may.room)) free);
  }

  -- the bytes were given back, and a map is attached in them
  pub maps_again : {old mid new : Volume N nor} (slots id size : ℕ) (result : Result (Unit {0}) Ending) → mid.nor.now ≡ old.nor.now → memory mid ≡ memory old → mid.geometry ≡ old.geometry → size ≡ length old.numbers.now → AttachesTo slots id size mid new result → MapsAgain slots id old new result
  maps_again {old} {mid} {new} slots id size result device remembers same long a =
      let was = nor.bytes old.nor.now in
      let now = nor.bytes new.nor.now in
      let bytes : nor.bytes mid.nor.now ≡ was = ap nor.bytes device in
      let rested : IsAtRest slots old → IsAtRest slots mid = λ rest. record {
        tells = subst nor.tells (sym device) rest.tells;
        tidy = subst (λ (g : Geometry). IsTidy g (nor.bytes mid.nor.now)) (sym same) (subst (λ (l : List ℕ). IsTidy old.geometry l) (sym bytes) rest.tidy);
        memory = remembers ∙ rest.memory;
      } in
      let has : has_file old id ≡ has_file mid id = ap (λ (l : List ℕ). has_id id (table_of old.geometry l)) (sym bytes) ∙ ap (λ (g : Geometry). has_id id (table_of g (nor.bytes mid.nor.now))) (sym same) in
      record {
        changes = wider (subst (λ (d : N). Changes nor d new.nor.now (λ first image. memory mid ≡ closed_memory slots → IsTidy mid.geometry first → LeavesFiles mid.geometry first image)) device a.changes)
            (λ tells image here closed tidy. subst (λ (g : Geometry). LeavesFiles g was image) same (here (remembers ∙ closed) (subst (λ (g : Geometry). IsTidy g was) (sym same) tidy)));
        done = λ rest. MatchResult-weaker result (a.done (rested rest))
            (λ ok done.
            let r = done.0 in
            let t : table_of old.geometry now ≡ table_of old.geometry was = subst (λ (g : Geometry). table_of g now ≡ table_of g (nor.bytes mid.nor.now)) same r.table ∙ ap (table_of old.geometry) bytes in
            let h : HoldsImage old.geometry was now = subst (λ (l : List ℕ). HoldsImage old.geometry l now) bytes (subst (λ (g : Geometry). HoldsImage g (nor.bytes mid.nor.now) now) same r.holds) in
            (record { rest = r.rest; table = t; holds = h }, λ lent there may. let f = done.1 in (record { used = f.map.used; of = f.map.of; first = f.map.first; room = f.map.room ∙ long ∙ may.room }, f.bytes ∙ bytes)))
            (λ ending why lent there may. ⊎_elim (λ fault. fault) (λ missing. absurd (let no : true ≡ false = sym there ∙ has ∙ missing.none in cc)) why);
      }
