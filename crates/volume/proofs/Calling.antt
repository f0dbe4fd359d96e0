-- A call on a volume: what waits is put onto the chip, and then it is done where nothing waits.
use Rattle.std.proofs.Common.{◌≡◌, ℕ, ◌≤◌, ◌⊎◌, ⊎_elim, inl, inr, List, [], ◌∷◌, ◌++◌, append-nil, replicate, length, Bool, true, false, ◌&&◌, ◌||◌, ◌==◌, if◌then◌else◌, refl, sym, ◌∙◌, ap, subst, arith}
use Rattle.std.specs.Prelude.{nat_le, Option, Some, None, Result, Ok, Err}
use Rattle.std.specs.Option.{is_some}
use Rattle.std.proofs.lemmas.Bool.{cases_Bool, leb-true, le-leb}
use Rattle.std.proofs.lemmas.List.{length-replicate}
use Rattle.geometry.specs.declared.geometry.Geometry.{Geometry}
use Rattle.nor_core.specs.declared.state.NorState.{Ghosts as NorOf}
use Rattle.nor_core.specs.Count.{Rose}
use Rattle.nor_core.specs.Device.{Changes, OnlyReads}
use Rattle.nor_core.proofs.Cuts.{wider, go_on, unchanged, reads_none}
use Rattle.table_model.specs.declared.error.FsErr.{FsErr}
use Rattle.table_model.specs.declared.error.FsErr.TheVariants.{Failed as FsFailed, BadName, NameTooLong, BadFlags, BadDescriptor, OutOfDescriptors, NotReadable, NotWritable, Tight, DeviceFault, Damaged}
use Rattle.table_model.specs.Table.{File, State}
use Rattle.table_model.specs.Reply.{Answer, Tells as Number, Gives, Refuses}
use Rattle.table_model.specs.declared.call.Call.{Call}
use Rattle.table_model.specs.declared.call.Call.TheVariants.{Tell, Write, Fill}
use Rattle.table_model.specs.Ask.{Ask, Reads, Writes, Fills, Tells, Collects, asked}
use Rattle.table_model.specs.Outcome.{Outcome}
use Rattle.table_model.specs.Flat.{answer}
use Rattle.table_model.specs.Steps.{is_refusal, steps}
use Rattle.table_model.specs.Window.{Moment, after, settled_at, leaves_window, incoming_of, incoming_at, continues, from_settled, IsAmong, Incoming}
use Rattle.image_model.specs.Tables.{table_of}
use Rattle.image_model.specs.Tidy.{HasReserve, has_spare}
use Rattle.write_window.specs.Runs.{Run}
use Rattle.call_model.specs.Safe.{IsSafe, HoldsImage}
use Rattle.call_model.specs.Memory.{IsAt, RunWaits}
use Rattle.call_model.specs.Calls.{Stands, Publishes, Answers}
use Rattle.call_model.proofs.Safety.{holds_safe, holds_then, holds_itself, safe_as, safe_of_tidy}
use Rattle.call_model.proofs.Parts.{among-left, among-right}
use Rattle.call_model.proofs.After.{tell-stays, after-settled, settled-among, fills-as_writes}
use Rattle.trim_laws.specs.Upkeep.{Upkeep}
use Rattle.trim_laws.proofs.Wears.{upkeep_none, upkeep_on}
use Rattle.volume.specs.declared.stage.Stage.{Stage}
use Rattle.volume.specs.declared.stage.Stage.TheVariants.{Checked, Failed}
use Rattle.file_calls.specs.declared.told.Told.{Told}
use Rattle.file_calls.specs.declared.told.Told.TheVariants.{Bytes}
use Rattle.volume.specs.declared.volume.Volume.{Volume}
use Rattle.volume.specs.Opening.{is_open, is_mounted, is_failed, stage_after}
use Rattle.volume.specs.Stages.{takes_calls, has_failed}
use Rattle.volume.specs.Same.{IsSameVolume}
use Rattle.fd_table.specs.declared.slot.FdSlot.{FdSlot}
use Rattle.fd_table.specs.Slots.{descriptors}
use Rattle.file_calls.specs.Replies.{shown_by, reply_of, may_answer, is_of_slots, is_calm}
use Rattle.file_calls.specs.Slots.{slots_fault}
use Rattle.volume.specs.Replies.{breaks, may_settle}
use Rattle.file_calls.specs.Moves.{Moves}
use Rattle.file_calls.specs.States.{IsImageOf}
use Rattle.volume.specs.Holds.{memory, Holds}
use Rattle.file_calls.specs.Goes.{CallCut, IsDoable, IsCornerOn, StopsShort, IsCollected, StandsOn}
use Rattle.volume.specs.Acts.{Acts}
use Rattle.volume.specs.Unchanged.{Unchanged}
use Rattle.volume.specs.Settles.{Settles}
use Rattle.volume.specs.Settled.{is_fill, GoesOnNot, ActsOn}
use Rattle.ix_map.specs.Maps.{no_map}
use Rattle.volume.specs.Mapping.{RefillsTo}
use Rattle.volume.specs.Calls.{HasRun, HasNone, Calls}
use Rattle.volume.proofs.KnownMaps.{keeps_none, keeps_broken, keeps_refilled}
use Rattle.file_calls.specs.Cleans.{index_taken, rest_taken, CleansFor, CleansInTurns, WritesNoTail}
use Rattle.file_calls.proofs.CleansBy.{cleans_reads}
use Rattle.file_calls.proofs.Going.{refuses_same, room_stays}
use Rattle.volume.proofs.Staying.{same_then, same_none}
use Rattle.volume.proofs.Acting.{goes_on_none}

-- ---- tables and answers

-- the settled table is the first of those that wait
pub settled_first : (t : List File) (m : Moment) (more : List (List File)) → t ≡ m.settled → IsAmong t (from_settled m more)
unfolding IsAmong
settled_first t m more e = inl e

-- what waits goes before the steps of a call
among_more : (t : List File) (m : Moment) (more : List (List File)) → IsAmong t (from_settled m []) → IsAmong t (from_settled m more)
unfolding IsAmong
among_more t m more h = ⊎_elim
    (λ (here : t ≡ m.settled). inl here)
    (λ (waits : IsAmong t (m.waiting ++ [])). inr (among-left t m.waiting more (subst (λ (l : List (List File)). IsAmong t l) (append-nil m.waiting) waits)))
    h

-- a step of a call, or the table of the state, which is among what waits
among_step : (t : List File) (m : Moment) (more : List (List File)) → IsAmong m.state.table (from_settled m []) → IsAmong t (m.state.table ∷ more) → IsAmong t (from_settled m more)
unfolding IsAmong
among_step t m more was h = ⊎_elim
    (λ (here : t ≡ m.state.table). subst (λ (u : List File). IsAmong u (from_settled m more)) (sym here) (among_more m.state.table m more was))
    (λ (step : IsAmong t more). inr (among-right t m.waiting more step))
    h

-- two numbers that a third is no more than alike
same_le : (n a b : ℕ) → (n ≤ a → n ≤ b) → (n ≤ b → n ≤ a) → nat_le n a ≡ nat_le n b
same_le n a b to from = ⊎_elim
    (λ (yes : nat_le n a ≡ true). yes ∙ sym (le-leb n b (to (leb-true n a yes))))
    (λ (no : nat_le n a ≡ false). ⊎_elim
    (λ (more : nat_le n b ≡ true). absurd (let bad : true ≡ false = sym (le-leb n a (from (leb-true n b more))) ∙ no in cc))
    (λ (none : nat_le n b ≡ false). no ∙ sym none)
    (cases_Bool (nat_le n b)))
    (cases_Bool (nat_le n a))

-- nothing is there
pub none_is : {X : Type 0} (o : Option X) → is_some o ≡ false → o ≡ None
none_is None e = refl
none_is (Some x) e = absurd (let no : true ≡ false = e in cc)

some_is : {X : Type 0} (o : Option X) → (o ≡ None → ⊥) → is_some o ≡ true
some_is None never = absurd (never refl)
some_is (Some x) never = refl

-- what breaks is a refusal
broken_refusal : (reply : Answer) → breaks reply ≡ true → is_refusal reply ≡ true
broken_refusal (Refuses why) e = refl
broken_refusal _ e = absurd (let no : false ≡ true = e in cc)

-- bytes that wait aren't kept off the chip by a name, by flags or by a descriptor
slots_settle : (why : FsErr) → is_of_slots why ≡ true → may_settle (Refuses why) ≡ true → ⊥
slots_settle BadName of e = let no : false ≡ true = e in cc
slots_settle NameTooLong of e = let no : false ≡ true = e in cc
slots_settle BadFlags of e = let no : false ≡ true = e in cc
slots_settle BadDescriptor of e = let no : false ≡ true = e in cc
slots_settle OutOfDescriptors of e = let no : false ≡ true = e in cc
slots_settle NotReadable of e = let no : false ≡ true = e in cc
slots_settle NotWritable of e = let no : false ≡ true = e in cc
slots_settle _ of e = let no : false ≡ true = of in cc

-- what is told of no bytes is told whatever bytes were lent
shown_apart : (told : Told) (into : List ℕ) → ((bytes : List ℕ) → shown_by told [] ≡ Gives bytes → ⊥) → shown_by told [] ≡ shown_by told into
shown_apart (Bytes n) into never = absurd (never _ refl)
shown_apart _ into never = refl

-- ---- fills

-- a write doesn't stop short
whole_write : (g : Geometry) (image : List ℕ) (s : State) (fd : ℕ) (bytes : List ℕ) (reply : Answer) → StopsShort g image s (Writes fd bytes) reply → ⊥
whole_write g image s fd bytes reply short = ⊎_elim (λ (is : Writes fd bytes ≡ Collects). cc) (λ (corner : IsCornerOn g image s (Writes fd bytes)). let no : false ≡ true = corner.cuts in cc) short.why

fill_answers : (fd count byte : ℕ) (reply : Answer) → may_answer (Writes fd (replicate count byte)) reply ≡ true → may_answer (Fills fd count byte) reply ≡ true
fill_answers fd count byte (Refuses why) e = e
fill_answers fd count byte (Number n) e = ap (λ (k : ℕ). n == k) (sym (length-replicate count byte)) ∙ e
fill_answers fd count byte _ e = absurd (let no : false ≡ true = e in cc)

fill_incoming : (s : State) (fd count byte : ℕ) → incoming_of s (Fills fd count byte) ≡ incoming_of s (Writes fd (replicate count byte))
unfolding incoming_of
fill_incoming s fd count byte = ap (λ (n : ℕ). incoming_at s fd n) (sym (length-replicate count byte))

-- ---- calls that neither tell an offset nor write

pub record IsOther (call : Call) : Type 0 where
  pub tell : (fd : ℕ) → call ≡ Tell fd → ⊥
  pub write : (fd : ℕ) (bytes : _) → call ≡ Write fd bytes → ⊥
  pub fill : (fd count byte : ℕ) → call ≡ Fill fd count byte → ⊥

-- they don't go on with what waits
pub record IsApart (ask : Ask) : Type 0 where
  pub leaves : leaves_window ask ≡ false
  pub apart : (g : Geometry) (m : Moment) → continues g m.window (incoming_of m.state ask) ≡ false
  pub no_fill : is_fill ask ≡ false

pub other_apart : (call : Call) → IsOther call → IsApart (asked call)
unfolding incoming_of
other_apart (Tell fd) other = absurd (other.tell fd refl)
other_apart (Write fd bytes) other = absurd (other.write fd bytes refl)
other_apart (Fill fd count byte) other = absurd (other.fill fd count byte refl)
other_apart _ other = record { leaves = refl; apart = λ g m. goes_on_none g m.window; no_fill = refl }

-- ---- the stage

pub open_is : (stage : Stage) → is_open stage ≡ true → stage ≡ Checked
open_is Checked e = refl
open_is _ e = absurd (let no : false ≡ true = e in cc)

-- a volume that takes calls hasn't failed
pub open_whole : (stage : Stage) → is_open stage ≡ true → is_failed stage ≡ false
open_whole Checked e = refl
open_whole _ e = absurd (let no : false ≡ true = e in cc)

-- nor has one that stays so
pub whole_still : (old new : Stage) → is_open old ≡ true → new ≡ old → is_failed new ≡ true → ⊥
whole_still old new takes stays failed = let no : true ≡ false = sym failed ∙ ap is_failed stays ∙ open_whole old takes in cc

-- a volume that takes a call is never mounted anew by it
pub not_mounted : (wrote : Bool) (reply : Answer) → is_mounted (stage_after wrote reply) ≡ false
not_mounted wrote reply = by_test (wrote && breaks reply)
  where
    by_test : (b : Bool) → is_mounted (if b then Failed else Checked) ≡ false
    by_test true = refl
    by_test false = refl

-- how it goes: to Failed, where a call broke that had asked for a program or an erase, or had settled what waited
abbrev pub IsStaged : Stage → Stage → Bool → Answer → Type 0
IsStaged old new wrote reply = ((new ≡ old) × (wrote ≡ true → breaks reply ≡ true → ⊥)) ⊎ ((new ≡ Failed) × (wrote ≡ true) × (breaks reply ≡ true))

pub staged_by : (old new : Stage) (wrote : Bool) (reply : Answer) (broke : Bool) → old ≡ Checked → breaks reply ≡ broke → new ≡ (if wrote && broke then Failed else Checked) → IsStaged old new wrote reply
staged_by old new true reply true was is e = inr (e, refl, is)
staged_by old new true reply false was is e = inl (e ∙ sym was, λ w broke. let no : true ≡ false = sym broke ∙ is in cc)
staged_by old new false reply broke was is e = inl (e ∙ sym was, λ w b. let no : false ≡ true = w in cc)

module _ {N : Type 0} {nor : NorOf N} where
  -- a volume where all is settled is one on which nothing waits
  image_settled : (v : Volume N nor) (s : State) → Holds v (settled_at s) → IsImageOf nor v.geometry v.nor.now v.slots.now s
  unfolding settled_at
  image_settled v s here = record { tells = here.tells; tidy = here.image.tidy; table = sym here.image.table; slots = here.image.slots; opened = here.image.opened }

  -- so a device and descriptors on which nothing waits are those of a volume where all is settled
  stands_by : (g : Geometry) (v : Volume N nor) (s : State) → (memory v).run ≡ None → IsImageOf nor g v.nor.now v.slots.now s → Stands nor g v.nor.now (memory v) (settled_at s)
  unfolding settled_at
  stands_by g v s none here = record {
    tells = here.tells;
    image = record {
      tidy = here.tidy;
      table = sym here.table;
      slots = here.slots;
      run = subst (λ (o : Option Run). RunWaits g (nor.bytes v.nor.now) (settled_at s) o) (sym none) refl;
      opened = here.opened;
    };
  }

  -- nothing is done to a volume
  pub unchanged_same : (v : Volume N nor) → Unchanged v v
  unchanged_same v = record { reads = reads_none v.nor.now; slots = refl; run = refl; stage = refl }

  -- what stands may be left by a cut in any call
  pub cuts_none : (ask : Ask) (v : Volume N nor) → Changes nor v.nor.now v.nor.now (λ was image. (m : Moment) → Publishes v.geometry (memory v) m ask was image)
  cuts_none ask v =
      let a = nor.bytes v.nor.now in
      unchanged v.nor.now (λ was image. (m : Moment) → Publishes v.geometry (memory v) m ask was image)
      (λ tells m at. (safe_as v.geometry a a (holds_itself v.geometry a) at.tidy, settled_first (table_of v.geometry a) m (steps v.geometry (has_spare v.geometry a) m.state ask) at.table))

  pub upkeep_nothing : (v : Volume N nor) → Changes nor v.nor.now v.nor.now (λ was image. (m : Moment) → IsAt v.geometry was (memory v) m → Upkeep v.geometry was image)
  upkeep_nothing v = unchanged v.nor.now (λ was image. (m : Moment) → IsAt v.geometry was (memory v) m → Upkeep v.geometry was image) (λ tells m at. upkeep_none v.geometry (nor.bytes v.nor.now))

  -- where settling tells that nothing waited the map is as before
  pub nothing_had : {old mid : Volume N nor} (had : Bool) → Settles old mid (Ok had) → had ≡ false → old.map ≡ mid.map
  nothing_had {old} {mid} had settles idle = ap (λ (v : Volume N nor). v.map) (sym (settles.idle (none_is (memory old).run (sym settles.done.2 ∙ idle))).1)

  -- ---- a volume that takes no calls

  pub calls_closed : (ask : Ask) (v : Volume N nor) → takes_calls v ≡ false → Calls ask v v (Refuses FsFailed)
  calls_closed ask v shut =
      let never : takes_calls v ≡ true → ⊥ = λ takes. let no : true ≡ false = sym takes ∙ shut in cc in
      record {
        same = same_none v;
        cuts = cuts_none ask v;
        upkeep = upkeep_nothing v;
        counted = λ m takes. absurd (never takes);
        answers = λ m takes. absurd (never takes);
        refused = λ m takes. absurd (never takes);
        collects = λ m takes. absurd (never takes);
        packed = λ m takes. absurd (never takes);
        unstuck = λ m takes here reserve is tight. never takes;
        cornered = λ m takes. absurd (never takes);
        leaves = λ takes. absurd (never takes);
        extends = λ m takes. absurd (never takes);
        closed = λ e. (refl, refl, unchanged_same v);
        cause = λ e. absurd (cc);
        differs = λ d e. absurd (cc);
        undamaged = λ m here d e. cc;
        among = λ takes. absurd (never takes);
        brief = λ bytes e. absurd (cc);
        numbered = λ takes. absurd (never takes);
        shown = λ takes. absurd (never takes);
        failed = λ e. absurd (let no : false ≡ true = e in cc);
        stays = inl refl;
        asked = λ takes. absurd (never takes);
        stops = λ m takes. absurd (never takes);
        looks = λ look none. (reads_none v.nor.now, refl);
        keeps = λ keeps. refl;
        cleans = λ m takes. absurd (never takes);
        turns = λ m takes. absurd (never takes);
        still = λ refusal. refl;
        begins = λ none run. (reads_none v.nor.now, refl);
        empty = λ refusal none. none;
        maps = λ m takes. absurd (never takes);
      }

  -- ---- what waits could not be put onto the chip

  pub calls_stopped : (ask : Ask) {old new : Volume N nor} (why : FsErr) → takes_calls old ≡ true → leaves_window ask ≡ false → GoesOnNot old ask → Settles old new (Err why) → length new.numbers.now ≡ length old.numbers.now → (new.map ≡ old.map) ⊎ (new.map ≡ no_map) → Calls ask old new (Refuses why)
  calls_stopped ask {old} {new} why takes leaves apart settles room map =
      let run : HasRun old = some_is (memory old).run (λ none. let no = (settles.idle none).0 in cc) in
      let some : HasNone old → ⊥ = λ none. let no = (settles.idle none).0 in cc in
      let shut : takes_calls old ≡ false → ⊥ = λ e. let no : true ≡ false = sym takes ∙ e in cc in
      let fault : (m : Moment) → Holds old m → Refuses why ≡ Refuses DeviceFault = λ m here. ap (λ (w : FsErr). Refuses w) (settles.stands m here) in
      record {
        same = settles.same;
        cuts = wider settles.cuts (λ tells image cut m at. let c = cut m at in (c.0, among_more (table_of old.geometry image) m (steps old.geometry (has_spare old.geometry (nor.bytes old.nor.now)) m.state ask) c.1));
        upkeep = settles.upkeep;
        counted = λ m takes here no_fault. absurd (no_fault (fault m here));
        answers = λ m takes here no_fault whole. absurd (no_fault (fault m here));
        refused = λ m takes none. absurd (some none);
        collects = λ m takes none. absurd (some none);
        packed = λ m takes here is fine. absurd (cc);
        unstuck = λ m takes here reserve is tight. let no : Refuses Tight ≡ Refuses DeviceFault = sym tight ∙ fault m here in cc;
        cornered = λ m takes here corner tight. absurd (let no : Refuses Tight ≡ Refuses DeviceFault = sym tight ∙ fault m here in cc);
        leaves = λ takes e. absurd (let no : true ≡ false = sym e ∙ leaves in cc);
        extends = λ m takes here e. absurd (let no : true ≡ false = sym e ∙ apart m here in cc);
        closed = λ e. absurd (shut e);
        cause = λ e. settles.stops.cause (refuses_same why DeviceFault e);
        differs = λ d e. settles.stops.differs d (refuses_same why (Damaged d) e);
        undamaged = λ m here d e. let no : Refuses (Damaged d) ≡ Refuses DeviceFault = sym e ∙ fault m here in cc;
        among = λ takes. inr (run, settles.stops.among);
        brief = λ bytes e. absurd (cc);
        numbered = λ takes w e. inr (run, settles.stops.among);
        shown = λ takes w of e. absurd (slots_settle w of (subst (λ (x : FsErr). may_settle (Refuses x) ≡ true) (refuses_same why w e) settles.stops.among));
        failed = settles.stops.failed;
        stays = ⊎_elim (λ (stood : new.stage ≡ old.stage). inl stood) (λ (broke : (has_failed new ≡ true) × (breaks (Refuses why) ≡ true)). inr (takes, broke.0, broke.1)) settles.stops.stays;
        asked = λ takes failed. inl (settles.stops.asked takes failed);
        stops = λ m takes stopped here. inl run;
        looks = λ look none. absurd (some none);
        keeps = λ keeps. settles.slots;
        cleans = λ m takes none. absurd (some none);
        turns = λ m takes none. absurd (some none);
        still = λ refusal. settles.slots;
        begins = λ none run. absurd (some none);
        empty = λ refusal none. absurd (some none);
        maps = λ m takes here. keeps_broken (breaks (Refuses why)) (ap breaks (fault m here)) room map;
      }

  -- ---- a call that is done where nothing waits

  module _ {old mid new : Volume N nor} (ask : Ask) (had : Bool) (reply : Answer) (takes : takes_calls old ≡ true) (leaves : leaves_window ask ≡ false) (apart : GoesOnNot old ask)
      (settles : Settles old mid (Ok had)) (same : IsSameVolume mid new) (did : ActsOn had ask mid new reply) (room : length mid.numbers.now ≡ length old.numbers.now) (map : (mid.map ≡ old.map) ⊎ (mid.map ≡ no_map)) (refilled : RefillsTo old.map mid new (breaks reply)) where
    acts : Acts nor old.geometry ask mid.nor.now new.nor.now mid.slots.now new.slots.now (memory new).run did.wrote reply
    acts = subst (λ (g : Geometry). Acts nor g ask mid.nor.now new.nor.now mid.slots.now new.slots.now (memory new).run did.wrote reply) settles.same.geometry did.acts

    -- all is settled when it is done
    stood : (m : Moment) → Holds old m → Holds mid (settled_at m.state) × HoldsImage old.geometry (nor.bytes old.nor.now) (nor.bytes mid.nor.now)
    stood m here = settles.stands m here

    image_mid : (m : Moment) → Holds old m → IsImageOf nor old.geometry mid.nor.now mid.slots.now m.state
    image_mid m here = subst (λ (g : Geometry). IsImageOf nor g mid.nor.now mid.slots.now m.state) settles.same.geometry (image_settled mid m.state (stood m here).0)

    -- a run waits only where two blocks are free, so two are free before where two are when all is settled
    reserve_by : (m : Moment) (o : Option Run) → (memory old).run ≡ o → Holds old m → HasReserve old.geometry (nor.bytes mid.nor.now) → HasReserve old.geometry (nor.bytes old.nor.now)
    reserve_by m None e here reserve = subst (λ (v : Volume N nor). HasReserve old.geometry (nor.bytes v.nor.now)) (settles.idle e).1 reserve
    reserve_by m (Some r) e here reserve = (subst (λ (o : Option Run). RunWaits old.geometry (nor.bytes old.nor.now) m o) e here.image.run).1

    reserve_before : (m : Moment) → Holds old m → HasReserve old.geometry (nor.bytes mid.nor.now) → HasReserve old.geometry (nor.bytes old.nor.now)
    reserve_before m here reserve = reserve_by m (memory old).run refl here reserve

    spare : (m : Moment) → Holds old m → has_spare old.geometry (nor.bytes mid.nor.now) ≡ has_spare old.geometry (nor.bytes old.nor.now)
    spare m here = same_le 2 _ _ (reserve_before m here) (stood m here).1.reserve

    cut_by : (m : Moment) → Holds old m → (image : List ℕ) → CallCut old.geometry m.state ask (nor.bytes mid.nor.now) image →
        IsSafe old.geometry (nor.bytes old.nor.now) image × IsAmong (table_of old.geometry image) (from_settled m (steps old.geometry (has_spare old.geometry (nor.bytes old.nor.now)) m.state ask))
    cut_by m here image cut =
        let g = old.geometry in
        let was = nor.bytes old.nor.now in
        let tidy = (image_mid m here).tidy in (
          holds_safe g was (nor.bytes mid.nor.now) image (stood m here).1 tidy (safe_of_tidy g (nor.bytes mid.nor.now) image tidy cut.sound cut.mends),
          among_step (table_of g image) m (steps g (has_spare g was) m.state ask) (settled-among g was (memory old) m here.image) (subst (λ (b : Bool). IsAmong (table_of g image) (m.state.table ∷ steps g b m.state ask)) (spare m here) cut.table),
        )

    cuts_by : Changes nor old.nor.now new.nor.now (λ was image. (m : Moment) → Publishes old.geometry (memory old) m ask was image)
    cuts_by = go_on
        (wider settles.cuts (λ tells image cut m at. let c = cut m at in (c.0, among_more (table_of old.geometry image) m (steps old.geometry (has_spare old.geometry (nor.bytes old.nor.now)) m.state ask) c.1)))
        acts.does.cuts
        (λ tells image before after m at. let here : Holds old m = record { tells = tells; image = at } in cut_by m here image (after m.state (image_mid m here)))

    upkeep_by : Changes nor old.nor.now new.nor.now (λ was image. (m : Moment) → IsAt old.geometry was (memory old) m → Upkeep old.geometry was image)
    upkeep_by = go_on settles.upkeep acts.does.upkeep
        (λ tells image before after m at.
        let here : Holds old m = record { tells = tells; image = at } in
        upkeep_on old.geometry _ _ _ (image_mid m here).tidy.magic (before m at) (after m.state (image_mid m here)))

    counts : StandsOn nor old.geometry mid.nor.now mid.slots.now reply mid.counted new.counted
    counts = subst (λ (g : Geometry). StandsOn nor g mid.nor.now mid.slots.now reply mid.counted new.counted) settles.same.geometry did.counted

    -- what the flat table does once all is settled it does before
    does_before : (m : Moment) → Holds old m → IsDoable old.geometry (nor.bytes mid.nor.now) m.state ask → IsDoable old.geometry (nor.bytes old.nor.now) m.state ask
    does_before m here does = record {
      done = subst (λ (b : Bool). is_refusal (answer old.geometry b m.state ask).answer ≡ false) (spare m here) does.done;
      publishes = ⊎_elim
          (λ (is : ask ≡ Collects). inl is)
          (λ (among : IsAmong (answer old.geometry (has_spare old.geometry (nor.bytes mid.nor.now)) m.state ask).next.table (steps old.geometry (has_spare old.geometry (nor.bytes mid.nor.now)) m.state ask)).
          inr (subst (λ (b : Bool). IsAmong (answer old.geometry b m.state ask).next.table (steps old.geometry b m.state ask)) (spare m here) among))
          does.publishes;
    }

    -- what stops short once all is settled does so before
    short_before : (m : Moment) → Holds old m → StopsShort old.geometry (nor.bytes mid.nor.now) m.state ask reply → StopsShort old.geometry (nor.bytes old.nor.now) m.state ask reply
    short_before m here short = record {
      why = ⊎_elim
          (λ (is : ask ≡ Collects). inl is)
          (λ (corner : IsCornerOn old.geometry (nor.bytes mid.nor.now) m.state ask). inr (record { cuts = corner.cuts; reserve = reserve_before m here corner.reserve; full = corner.full; done = subst (λ (b : Bool). is_refusal (answer old.geometry b m.state ask).answer ≡ false) (spare m here) corner.done }))
          short.why;
      doable = does_before m here short.doable;
      tight = short.tight;
    }

    answered_by : (m : Moment) → Holds old m → (reply ≡ Refuses DeviceFault → ⊥) → (StopsShort old.geometry (nor.bytes old.nor.now) m.state ask reply → ⊥) → Answers nor old.geometry old.nor.now new.nor.now (memory new) m ask reply
    answered_by m here no_fault whole =
        let g = old.geometry in
        let image = image_mid m here in
        let r = acts.answers m.state image no_fault (λ short. whole (short_before m here short)) in
        record {
          reply_is = r.reply_is ∙ ap (λ (b : Bool). (answer g b m.state ask).answer) (spare m here);
          stands = subst (λ (j : Moment). Stands nor g new.nor.now (memory new) j)
              (ap (λ (b : Bool). after g b (settled_at m.state) ask) (spare m here) ∙ after-settled g (has_spare g (nor.bytes old.nor.now)) m ask leaves (apart m here))
              r.stands;
          holds = holds_then g (nor.bytes old.nor.now) (nor.bytes mid.nor.now) (nor.bytes new.nor.now) (stood m here).1 (record { sound = λ magics. (acts.does.cuts.now image.tells m.state image).sound; reserve = r.reserve });
        }

    -- settling leaves what the descriptors show
    fault_of : {slots last : List FdSlot} (why : FsErr) → slots ≡ last → slots_fault old.geometry (descriptors slots) ask ≡ Some why → slots_fault old.geometry (descriptors last) ask ≡ Some why
    fault_of why same e = subst (λ (l : List FdSlot). slots_fault old.geometry (descriptors l) ask ≡ Some why) same e

    -- ---- the stage

    checked : old.stage ≡ Checked
    checked = open_is old.stage takes

    staged : IsStaged old.stage new.stage (had || did.wrote) reply
    staged = staged_by old.stage new.stage (had || did.wrote) reply (breaks reply) checked refl did.stage

    stage_stays : had ≡ false → did.wrote ≡ false → new.stage ≡ old.stage
    stage_stays idle unwritten =
        let neither : (had || did.wrote) ≡ false = rw idle unwritten in
        did.stage ∙ ap (λ (b : Bool). stage_after b reply) neither ∙ sym checked

    no_run : HasNone old → had ≡ false
    no_run none = let is = (settles.idle none).0 in cc

    had_none : had ≡ false → HasNone old
    had_none e = none_is (memory old).run (sym settles.done.2 ∙ e)

    -- where nothing waited it has only read, where it has asked for no program and no erase
    only_reads : HasNone old → did.wrote ≡ false → OnlyReads nor old.nor.now new.nor.now
    only_reads none unwritten = subst (λ (v : Volume N nor). OnlyReads nor v.nor.now new.nor.now) (settles.idle none).1 (acts.does.untouched unwritten)

    untouched : HasNone old → did.wrote ≡ false → is_refusal reply ≡ true → Unchanged old new
    untouched none unwritten refusal = record { reads = only_reads none unwritten; slots = acts.does.still refusal ∙ settles.slots; run = acts.empty refusal ∙ sym none; stage = stage_stays (no_run none) unwritten }

    -- so where its arguments or the descriptors refuse it, nothing is asked
    quiet_by : HasNone old → (why : FsErr) → slots_fault old.geometry (descriptors old.slots.now) ask ≡ Some why → new.nor.now ≡ old.nor.now
    quiet_by none why e =
        let idle : mid ≡ old = (settles.idle none).1 in
        did.quiet (no_run none) why (subst (λ (v : Volume N nor). slots_fault v.geometry (descriptors v.slots.now) ask ≡ Some why) (sym idle) e) ∙ ap (λ (v : Volume N nor). v.nor.now) idle

    -- a call that asked for a program or an erase is one that the flat table does
    doable : (m : Moment) → Holds old m → did.wrote ≡ true → IsDoable old.geometry (nor.bytes old.nor.now) m.state ask
    doable m here w = does_before m here (acts.does.begun m.state (image_mid m here) w)

    refused_by : (m : Moment) → HasNone old → Holds old m → (reply ≡ Refuses DeviceFault → ⊥) → (StopsShort old.geometry (nor.bytes old.nor.now) m.state ask reply → ⊥) → is_refusal reply ≡ true → Unchanged old new
    refused_by m none here no_fault whole refusal = ⊎_elim
        (λ (w : did.wrote ≡ true). absurd (let no : true ≡ false = sym refusal ∙ ap is_refusal (answered_by m here no_fault whole).reply_is ∙ (doable m here w).done in cc))
        (λ (unwritten : did.wrote ≡ false). untouched none unwritten refusal)
        (cases_Bool did.wrote)

    failed_by : breaks reply ≡ true → (has_failed new ≡ true) ⊎ Unchanged old new
    failed_by broke = ⊎_elim
        (λ (stood : (new.stage ≡ old.stage) × ((had || did.wrote) ≡ true → breaks reply ≡ true → ⊥)). ⊎_elim
        (λ (h : had ≡ true). absurd (stood.1 (rw h refl) broke))
        (λ (h : had ≡ false). ⊎_elim
        (λ (w : did.wrote ≡ true). absurd (stood.1 (rw h w) broke))
        (λ (w : did.wrote ≡ false). inr (untouched (had_none h) w (broken_refusal reply broke)))
        (cases_Bool did.wrote))
        (cases_Bool had))
        (λ (failed : (new.stage ≡ Failed) × ((had || did.wrote) ≡ true) × (breaks reply ≡ true)). inl (ap is_failed failed.0))
        staged

    stopped_by : (m : Moment) → takes_calls new ≡ false → Holds old m → HasRun old ⊎ IsDoable old.geometry (nor.bytes old.nor.now) m.state ask
    stopped_by m stopped here = ⊎_elim
        (λ (stood : (new.stage ≡ old.stage) × ((had || did.wrote) ≡ true → breaks reply ≡ true → ⊥)). absurd (let no : true ≡ false = sym takes ∙ sym (ap is_open stood.0) ∙ stopped in cc))
        (λ (failed : (new.stage ≡ Failed) × ((had || did.wrote) ≡ true) × (breaks reply ≡ true)). ⊎_elim
        (λ (h : had ≡ true). inl (sym settles.done.2 ∙ h))
        (λ (h : had ≡ false). inr (doable m here (rw h at failed.1)))
        (cases_Bool had))
        staged

    asked_by : has_failed new ≡ true → Rose (nor.device_writes old.nor.now) (nor.device_writes new.nor.now) ⊎ (HasRun old × HasNone new)
    asked_by failed = ⊎_elim
        (λ (stood : (new.stage ≡ old.stage) × ((had || did.wrote) ≡ true → breaks reply ≡ true → ⊥)). absurd (whole_still old.stage new.stage takes stood.0 failed))
        (λ (broke : (new.stage ≡ Failed) × ((had || did.wrote) ≡ true) × (breaks reply ≡ true)). ⊎_elim
        (λ (h : had ≡ true). inr (sym settles.done.2 ∙ h, acts.empty (broken_refusal reply broke.2)))
        (λ (h : had ≡ false). inl (subst (λ (v : Volume N nor). Rose (nor.device_writes v.nor.now) (nor.device_writes new.nor.now)) (settles.idle (had_none h)).1 (did.asked (rw h at broke.1))))
        (cases_Bool had))
        staged

    pub calls_by : Calls ask old new reply
    calls_by = record {
      same = same_then settles.same same;
      cuts = cuts_by;
      upkeep = upkeep_by;
      counted = λ m takes here no_fault before. counts m.state (image_mid m here) no_fault (settles.counted m here before);
      answers = λ m takes here no_fault whole. answered_by m here no_fault whole;
      refused = λ m takes none here no_fault whole refusal. refused_by m none here no_fault whole refusal;
      collects = λ m takes none here is. subst (λ (v : Volume N nor). IsCollected old.geometry reply (nor.bytes v.nor.now) (nor.bytes new.nor.now) (nor.device_writes v.nor.now) (nor.device_writes new.nor.now)) (settles.idle none).1 (acts.does.collects m.state (image_mid m here) is);
      packed = λ m takes here is fine. let p = (acts.does.collects m.state (image_mid m here) is).packed fine in record { worth = p.worth; packed = p.packed; free = p.free; unstuck = p.unstuck };
      unstuck = λ m takes here reserve is tight. ((acts.does.collects m.state (image_mid m here) is).stuck tight).short ((stood m here).1.reserve reserve);
      cornered = λ m takes here corner tight.
          let there : IsCornerOn old.geometry (nor.bytes mid.nor.now) m.state ask = record { cuts = corner.cuts; reserve = (stood m here).1.reserve corner.reserve; full = corner.full; done = subst (λ (b : Bool). is_refusal (answer old.geometry b m.state ask).answer ≡ false) (sym (spare m here)) corner.done } in
          let stays = acts.does.cornered m.state (image_mid m here) there tight in
          let geometry = same.geometry ∙ settles.same.geometry in
          let now = stands_by old.geometry new m.state (acts.empty (ap is_refusal tight)) stays.holds in
          record { stands = subst (λ (g : Geometry). Stands nor g new.nor.now (memory new) (settled_at m.state)) (sym geometry) now; reserve = stays.reserve; none = stays.none; short = stays.short };
      leaves = λ takes e. absurd (let no : true ≡ false = sym e ∙ leaves in cc);
      extends = λ m takes here e. absurd (let no : true ≡ false = sym e ∙ apart m here in cc);
      closed = λ shut. absurd (let no : true ≡ false = sym takes ∙ shut in cc);
      cause = λ e. let rose = acts.does.cause e in let more = settles.same.faults in omega arith;
      differs = acts.does.differs;
      undamaged = λ m here. acts.does.undamaged m.state (image_mid m here);
      among = λ takes. inl acts.does.among;
      brief = acts.does.brief;
      numbered = λ takes why e. let w = acts.does.numbered.refused why (fault_of why (sym settles.slots) e) in inl (w.0, λ none. (untouched none w.1 (ap is_refusal w.0), quiet_by none why e));
      shown = λ takes why of e. fault_of why settles.slots (acts.does.numbered.only why of e);
      failed = failed_by;
      stays = ⊎_elim
          (λ (stood : (new.stage ≡ old.stage) × ((had || did.wrote) ≡ true → breaks reply ≡ true → ⊥)). inl stood.0)
          (λ (failed : (new.stage ≡ Failed) × ((had || did.wrote) ≡ true) × (breaks reply ≡ true)). inr (takes, ap is_failed failed.0, failed.2))
          staged;
      asked = λ takes failed. asked_by failed;
      stops = λ m takes stopped here. stopped_by m stopped here;
      looks = λ look none. let unwritten = acts.does.looks look in (only_reads none unwritten, stage_stays (no_run none) unwritten);
      keeps = λ keeps. acts.does.keeps keeps ∙ settles.slots;
      cleans = λ m takes none here write other. subst (λ (v : Volume N nor). CleansFor nor old.geometry (index_taken ask) 0 (rest_taken old.geometry ask) v.nor.now new.nor.now (reply ≡ Refuses DeviceFault)) (settles.idle none).1 (acts.does.cleans m.state (image_mid m here) write other);
      turns = λ m takes none here write.
          let d : Volume N nor → Type 0 = λ v. CleansInTurns nor old.geometry (WritesNoTail old.geometry (nor.bytes v.nor.now) m.state ask) (length (steps old.geometry (has_spare old.geometry (nor.bytes v.nor.now)) m.state ask)) v.nor.now new.nor.now (reply ≡ Refuses DeviceFault) in
          subst d (settles.idle none).1 (acts.does.turns m.state (image_mid m here) write);
      still = λ refusal. acts.does.still refusal ∙ settles.slots;
      begins = λ none run. let unwritten = acts.waits run in (only_reads none unwritten, stage_stays (no_run none) unwritten);
      empty = λ refusal none. acts.empty refusal;
      maps = λ m takes here. keeps_refilled (breaks reply) room map settles.same.faults refilled;
    }

  -- ---- a call that only looks at descriptors: what waits goes on waiting

  pub calls_told : (fd : ℕ) (v : Volume N nor) (result : Result Told FsErr) → takes_calls v ≡ true → Moves (Tells fd) v.slots.now v.slots.now result → Calls (Tells fd) v v (reply_of result [])
  calls_told fd v result takes moves =
      let a = nor.bytes v.nor.now in
      let calm : (e : Answer) → reply_of result [] ≡ e → is_calm e ≡ true = λ e is. sym (ap is_calm is) ∙ moves.calm in
      record {
        same = same_none v;
        cuts = cuts_none (Tells fd) v;
        upkeep = upkeep_nothing v;
        counted = λ m takes here no_fault before. before;
        answers = λ m takes here no_fault whole. record {
          reply_is = sym (ap (λ (o : Outcome). o.answer) (moves.answers v.geometry (has_spare v.geometry a) m.state here.image.slots));
          stands = subst (λ (j : Moment). Stands nor v.geometry v.nor.now (memory v) j) (sym (tell-stays v.geometry (has_spare v.geometry a) m fd)) here;
          holds = holds_itself v.geometry a;
        };
        refused = λ m takes none here no_fault whole refusal. unchanged_same v;
        collects = λ m takes none here is. absurd (cc);
        packed = λ m takes here is fine. absurd (cc);
        unstuck = λ m takes here reserve is tight. cc;
        cornered = λ m takes here corner. absurd (let no : false ≡ true = corner.cuts in cc);
        leaves = λ takes e. refl;
        extends = λ m takes here e. refl;
        closed = λ shut. absurd (let no : true ≡ false = sym takes ∙ shut in cc);
        cause = λ e. absurd (let no : false ≡ true = calm (Refuses DeviceFault) e in cc);
        differs = λ d e. absurd (let no : false ≡ true = calm (Refuses (Damaged d)) e in cc);
        undamaged = λ m here d e. let no : false ≡ true = calm (Refuses (Damaged d)) e in cc;
        among = λ takes. inl moves.among;
        brief = λ bytes e. absurd (let no : false ≡ true = calm (Gives bytes) e in cc);
        numbered = λ takes why e. let w = (moves.numbered v.geometry).refused why e in inl (w.0, λ none. (unchanged_same v, refl));
        shown = λ takes why of e. (moves.numbered v.geometry).only why of e;
        failed = λ broke. inr (unchanged_same v);
        stays = inl refl;
        asked = λ takes failed. absurd (whole_still v.stage v.stage takes refl failed);
        stops = λ m takes stopped. absurd (let no : true ≡ false = sym takes ∙ stopped in cc);
        looks = λ look none. (reads_none v.nor.now, refl);
        keeps = λ keeps. refl;
        cleans = λ m takes none here write other. cleans_reads (room_stays v.geometry a here.image.tidy) (reads_none v.nor.now);
        turns = λ m takes none here write. absurd (let no : false ≡ true = write in cc);
        still = λ refusal. refl;
        begins = λ none run. (reads_none v.nor.now, refl);
        empty = λ refusal none. none;
        maps = λ m takes here. keeps_none v (breaks (reply_of result []));
      }

  -- ---- bytes that are lent for nothing, and fills

  -- a call that reads no bytes tells the same whatever bytes were lent
  pub calls_into : {ask : Ask} {old new : Volume N nor} (told : Told) (into : List ℕ) → ((fd count : ℕ) → ask ≡ Reads fd count → ⊥) → Calls ask old new (shown_by told []) → Calls ask old new (shown_by told into)
  calls_into {ask} {old} {new} told into never calls =
      subst (λ (reply : Answer). Calls ask old new reply) (shown_apart told into (λ bytes e. let given = calls.brief bytes e in never given.fd given.count given.reads)) calls

  -- a fill does what the write of its bytes does
  pub calls_filled : (fd count byte : ℕ) {old new : Volume N nor} (reply : Answer) → Calls (Writes fd (replicate count byte)) old new reply → Calls (Fills fd count byte) old new reply
  calls_filled fd count byte {old} {new} reply calls =
      let g = old.geometry in
      let was = nor.bytes old.nor.now in
      let spare = has_spare g was in
      let whole : (s : State) → StopsShort g was s (Writes fd (replicate count byte)) reply → ⊥ = λ s short. whole_write g was s fd (replicate count byte) reply short in
      record {
        same = calls.same;
        cuts = wider calls.cuts (λ tells image cut m at. let c = cut m at in
            (c.0, subst (λ (more : List (List File)). IsAmong (table_of g image) (from_settled m more)) (sym (fills-as_writes g spare m fd count byte).steps_are) c.1));
        upkeep = calls.upkeep;
        counted = calls.counted;
        answers = λ m takes here no_fault short.
            let f = fills-as_writes g spare m fd count byte in
            let a = calls.answers m takes here no_fault (whole m.state) in
            record {
              reply_is = a.reply_is ∙ ap (λ (o : Outcome). o.answer) (sym f.answer_is);
              stands = subst (λ (j : Moment). Stands nor g new.nor.now (memory new) j) (sym f.after_is) a.stands;
              holds = a.holds;
            };
        refused = λ m takes none here no_fault short refusal. calls.refused m takes none here no_fault (whole m.state) refusal;
        collects = λ m takes none here is. absurd (cc);
        packed = λ m takes here is fine. absurd (cc);
        unstuck = λ m takes here reserve is tight. cc;
        cornered = λ m takes here corner. absurd (let no : false ≡ true = corner.cuts in cc);
        leaves = λ takes e. absurd (let no : false ≡ true = e in cc);
        extends = λ m takes here e. calls.extends m takes here (subst (λ (i : Option Incoming). continues g m.window i ≡ true) (fill_incoming m.state fd count byte) e);
        closed = calls.closed;
        cause = calls.cause;
        differs = calls.differs;
        undamaged = calls.undamaged;
        among = λ takes. ⊎_elim
            (λ (done : may_answer (Writes fd (replicate count byte)) reply ≡ true). inl (fill_answers fd count byte reply done))
            (λ (stopped : HasRun old × (may_settle reply ≡ true)). inr stopped)
            (calls.among takes);
        brief = λ bytes e. let given = calls.brief bytes e in absurd (let no = given.reads in cc);
        numbered = calls.numbered;
        shown = calls.shown;
        failed = calls.failed;
        stays = calls.stays;
        asked = calls.asked;
        stops = λ m takes stopped here. ⊎_elim
            (λ (run : HasRun old). inl run)
            (λ (does : IsDoable g was m.state (Writes fd (replicate count byte))).
            let f = fills-as_writes g spare m fd count byte in
            inr (record {
              done = ap (λ (o : Outcome). is_refusal o.answer) f.answer_is ∙ does.done;
              publishes = ⊎_elim
                  (λ (is : Writes fd (replicate count byte) ≡ Collects). absurd (cc))
                  (λ (among : IsAmong (answer g spare m.state (Writes fd (replicate count byte))).next.table (steps g spare m.state (Writes fd (replicate count byte)))). inr (rw (f.answer_is, f.steps_are) among))
                  does.publishes;
            }))
            (calls.stops m takes stopped here);
        looks = calls.looks;
        keeps = calls.keeps;
        cleans = λ m takes none here write. absurd (let no : true ≡ false = write in cc);
        turns = λ m takes none here write.
            let f = fills-as_writes g spare m fd count byte in
            let d : List (List File) → Type 0 = λ all. CleansInTurns nor g (WritesNoTail g was m.state (Writes fd (replicate count byte))) (length all) old.nor.now new.nor.now (reply ≡ Refuses DeviceFault) in
            subst d (sym f.steps_are) (calls.turns m takes none here refl);
        still = calls.still;
        begins = calls.begins;
        empty = calls.empty;
        maps = calls.maps;
      }
