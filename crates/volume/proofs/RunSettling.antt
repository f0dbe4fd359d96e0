-- The bytes that wait are put onto the chip.
use Rattle.std.proofs.Common.{◌≡◌, ℕ, ◌≤◌, length, take, ◌⊎◌, ⊎_elim, inl, inr, List, [], ◌∷◌, Bool, true, false, refl, sym, ◌∙◌, ap, subst}
use Rattle.std.specs.Prelude.{◌≢◌, ◌+◌, unwrap_or, Option, Some, None, Result, Ok, Err, IsOk, IsErr, IfErr}
use Rattle.std.specs.Option.{is_some}
use Rattle.std.proofs.lemmas.Bool.{cases_Bool}
use Rattle.geometry.specs.declared.geometry.Geometry.{Geometry}
use Rattle.nor_core.specs.declared.state.NorState.{Ghosts as NorOf}
use Rattle.nor_core.specs.Count.{Rose}
use Rattle.nor_core.specs.Device.{Changes}
use Rattle.nor_core.proofs.Cuts.{wider, unchanged}
use Rattle.table_model.specs.declared.error.FsErr.{FsErr}
use Rattle.table_model.specs.declared.error.FsErr.TheVariants.{Failed as FsFailed, Tight, DeviceFault, Damaged}
use Rattle.table_model.specs.declared.error.Differ.{Differ}
use Rattle.table_model.specs.Table.{File, Open, State, file_of, put_file}
use Rattle.table_model.specs.Files.{written}
use Rattle.table_model.specs.Room.{has_room}
use Rattle.table_model.specs.Reply.{Refuses}
use Rattle.table_model.specs.Steps.{file_steps}
use Rattle.table_model.specs.Window.{Moment, settled_at, from_settled, IsAmong}
use Rattle.image_model.specs.Tables.{table_of}
use Rattle.image_model.specs.Tidy.{IsTidy, HasReserve}
use Rattle.fd_table.specs.declared.slot.FdSlot.{FdSlot}
use Rattle.fd_table.specs.Slots.{descriptors}
use Rattle.write_window.specs.declared.window.Held.{Held}
use Rattle.write_window.specs.Shown.{run_in}
use Rattle.write_window.specs.Runs.{Run}
use Rattle.trim_laws.specs.Upkeep.{Upkeep}
use Rattle.trim_laws.proofs.Wears.{upkeep_none}
use Rattle.flash_view.specs.declared.view.View.{View}
use Rattle.call_model.specs.Safe.{IsSafe}
use Rattle.call_model.specs.Memory.{Memory, Waits, RunWaits, IsAt}
use Rattle.call_model.proofs.Safety.{holds_itself, safe_as, safe_of_tidy}
use Rattle.call_model.proofs.Settling.{wait_settles, wait_ends}
use Rattle.volume.specs.declared.stage.Stage.TheVariants.{Failed}
use Rattle.volume.specs.declared.volume.Volume.{Volume}
use Rattle.volume.specs.Opening.{is_failed}
use Rattle.volume.specs.Stages.{takes_calls, has_failed}
use Rattle.volume.specs.Same.{IsSameVolume}
use Rattle.volume.specs.Replies.{breaks, may_settle}
use Rattle.file_calls.specs.Collecting.{MayStop, refusing}
use Rattle.file_calls.specs.Cleans.{CleansInTurns, Turned, NeedsNoTail, part_count}
use Rattle.file_calls.proofs.TurnsBy.{turns_as}
use Rattle.volume.specs.Holds.{memory, Holds}
use Rattle.file_calls.specs.Writings.{CanWrite, WriteCut, WriteDone, WritesOn, writing}
use Rattle.volume.specs.Settles.{Settles, SettledOr, without_had}
use Rattle.volume.specs.Unmounts.{IsWhole, UnmountsTo}
use Rattle.volume.proofs.Staying.{same_none}
use Rattle.volume.proofs.Calling.{IsStaged, settled_first, open_whole, whole_still}

-- ---- images

-- an empty file
abbrev empty_file : ℕ → File
empty_file id = record { id = id; name = []; kind = 0; meta = []; bytes = [] }

-- the file of an id on an image, or an empty one
abbrev pub file_in : Geometry → List ℕ → ℕ → File
file_in g image id = unwrap_or (file_of id (table_of g image)) (empty_file id)

-- a run that waits, of what is remembered at a moment of an image
module _ (g : Geometry) (was : List ℕ) (memory : Memory) (m : Moment) (r : Run) (run : memory.run ≡ Some r) (at : IsAt g was memory m) where
  waits : Waits g m r × HasReserve g was
  waits = subst (λ (o : Option Run). RunWaits g was m o) run at.run

  there : file_of r.id (table_of g was) ≡ Some waits.0.file
  there = ap (λ (t : List File). file_of r.id t) at.table ∙ waits.0.there

  found : file_in g was r.id ≡ waits.0.file
  found = ap (λ (o : Option File). unwrap_or o (empty_file r.id)) there

  there_in : file_of r.id (table_of g was) ≡ Some (file_in g was r.id)
  there_in = there ∙ ap (λ (f : File). Some f) (sym found)

  settled_there : file_of r.id m.settled ≡ Some (file_in g was r.id)
  settled_there = ap (λ (t : List File). file_of r.id t) (sym at.table) ∙ there_in

  -- that file is the one of its id
  pub same_file : (f : File) → file_of r.id m.settled ≡ Some f → file_in g was r.id ≡ f
  same_file f is = let same : Some (file_in g was r.id) ≡ Some f = sym settled_there ∙ is in cc

  -- the state's table is that of the image with the run's bytes
  written_is : m.state.table ≡ put_file (written r.start r.bytes (file_in g was r.id)) (table_of g was)
  written_is = wait_ends g m r (file_in g was r.id) waits.0 settled_there ∙ ap (λ (t : List File). put_file (written r.start r.bytes (file_in g was r.id)) t) (sym at.table)

  -- its bytes can be written into its file
  pub can_write : CanWrite g was r.id r.start r.bytes (file_in g was r.id)
  can_write = record {
    tidy = at.tidy;
    reserve = waits.1;
    there = there_in;
    some = waits.0.some;
    from = subst (λ (f : File). r.start ≤ length f.bytes) (sym found) waits.0.from;
    room = subst (λ (t : List File). has_room g t ≡ true) written_is waits.0.room;
  }

  -- what a cut leaves then was waiting
  pub cut_waits : (image : List ℕ) → WriteCut g r.start r.bytes (file_in g was r.id) was image → IsSafe g was image × IsAmong (table_of g image) (from_settled m [])
  cut_waits image cut = (
    safe_of_tidy g was image at.tidy cut.sound cut.mends,
    wait_settles g m r (file_in g was r.id) (table_of g image) [] waits.0 settled_there
        (subst (λ (t : List File). IsAmong (table_of g image) (t ∷ file_steps g r.start r.bytes (file_in g was r.id) t)) at.table cut.table),
  )

  -- where it is done all is settled
  pub done_settles : (now : List ℕ) → WriteDone g r.id r.start r.bytes (file_in g was r.id) was now → IsAt g now (record { slots = memory.slots; run = None }) (settled_at m.state)
  unfolding settled_at
  done_settles now done = record { tidy = done.tidy; table = done.table ∙ sym written_is; slots = at.slots; run = refl; opened = at.opened }

-- why a write may stop, settling may
stops_settling : (why : FsErr) → MayStop why → may_settle (Refuses why) ≡ true
stops_settling DeviceFault may = refl
stops_settling Tight may = refl
stops_settling (Damaged d) may = refl
stops_settling _ may = absurd may

-- ---- the numbers of a run

-- the run that they tell
abbrev pub run_of : Held → List ℕ → Run
run_of h bytes = record { fd = h.fd; id = h.id; start = h.start; bytes = take h.taken bytes }

pub run_used : (h : Held) (bytes : List ℕ) → h.used ≡ true → run_in h bytes ≡ Some (run_of h bytes)
run_used h bytes used = rw used refl

pub used_is : (h : Held) (bytes : List ℕ) (b : Bool) → b ≡ is_some (run_in h bytes) → h.used ≡ b
used_is h bytes b e = ⊎_elim
    (λ (used : h.used ≡ true). let is : b ≡ true = rw used at e in used ∙ sym is)
    (λ (free : h.used ≡ false). let is : b ≡ false = rw free at e in free ∙ sym is)
    (cases_Bool h.used)

-- some file
pub any_file : File
any_file = empty_file 0

-- ---- volumes

module _ {N : Type 0} {nor : NorOf N} where
  -- a write over a view, as one on its device
  pub writes_on : {id at : ℕ} {bytes : List ℕ} {f : File} {old new : View N nor} {result : Result (Unit {0}) FsErr} → Turned refusing (NeedsNoTail id (length f.bytes) (at + length bytes)) (part_count old.geometry (length f.bytes) at (length bytes)) old new result (writing id at bytes f) → old.wrote ≡ false →
      WritesOn nor old.geometry id at bytes f old.nor.now new.nor.now new.wrote old.counted new.counted result
  writes_on call fresh = let step = call.steps in record { untouched = step.framed.untouched fresh; cause = step.cause; means = step.means; cuts = step.cuts; upkeep = step.upkeep; counted = step.stands; ends = step.ends; turns = call.cleans }

  -- .. where another name stands for the device after it
  pub writes_at : {g : Geometry} {id at : ℕ} {bytes : List ℕ} {f : File} {old new d : N} {wrote stood stands : Bool} {result : Result (Unit {0}) FsErr} → WritesOn nor g id at bytes f old new wrote stood stands result → new ≡ d →
      WritesOn nor g id at bytes f old d wrote stood stands result
  writes_at {g} {id} {at} {bytes} {f} {old} {new} {d} {wrote} {stood} {stands} {result} call is = subst (λ (k : N). WritesOn nor g id at bytes f old k wrote stood stands result) is call

  -- nothing waits
  pub settles_none : (v : Volume N nor) → (memory v).run ≡ None → Settles v v (Ok false)
  settles_none v none =
      let g = v.geometry in
      let a = nor.bytes v.nor.now in
      record {
        same = same_none v;
        slots = refl;
        cuts = unchanged v.nor.now (λ was image. (m : Moment) → IsAt g was (memory v) m → IsSafe g was image × IsAmong (table_of g image) (from_settled m []))
            (λ tells m at. (safe_as g a a (holds_itself g a) at.tidy, settled_first (table_of g a) m [] at.table));
        upkeep = unchanged v.nor.now (λ was image. (m : Moment) → IsAt g was (memory v) m → Upkeep g was image) (λ tells m at. upkeep_none g a);
        counted = λ m here before. before;
        done = (refl, none, sym (ap is_some none));
        stops = tt;
        idle = λ e. (refl, refl);
        stands = λ m here.
            let still : m ≡ settled_at m.state = subst (λ (o : Option Run). RunWaits g a m o) none here.image.run in
            (subst (λ (j : Moment). Holds v j) still here, holds_itself g a);
        turns = λ m r f here run. absurd (let no : None ≡ Some r = sym none ∙ run in cc);
      }

  waits_not : (old : Volume N nor) (r : Run) → (memory old).run ≡ Some r → (memory old).run ≡ None → ⊥
  waits_not old r run none = let no : None ≡ Some r = sym none ∙ run in cc

  -- what a cut leaves while a run is written
  settling_cuts : (old new : Volume N nor) (r : Run) (run : (memory old).run ≡ Some r) (wrote : Bool) (result : Result (Unit {0}) FsErr) → ((f : File) → WritesOn nor old.geometry r.id r.start r.bytes f old.nor.now new.nor.now wrote old.counted new.counted result) →
      Changes nor old.nor.now new.nor.now (λ was image. (m : Moment) → IsAt old.geometry was (memory old) m → IsSafe old.geometry was image × IsAmong (table_of old.geometry image) (from_settled m []))
  settling_cuts old new r run wrote result writes =
      let g = old.geometry in
      let was = nor.bytes old.nor.now in
      wider (writes (file_in g was r.id)).cuts (λ tells image cut m at. cut_waits g was (memory old) m r run at image (cut (can_write g was (memory old) m r run at)))

  settling_upkeep : (old new : Volume N nor) (r : Run) (run : (memory old).run ≡ Some r) (wrote : Bool) (result : Result (Unit {0}) FsErr) → ((f : File) → WritesOn nor old.geometry r.id r.start r.bytes f old.nor.now new.nor.now wrote old.counted new.counted result) →
      Changes nor old.nor.now new.nor.now (λ was image. (m : Moment) → IsAt old.geometry was (memory old) m → Upkeep old.geometry was image)
  settling_upkeep old new r run wrote result writes =
      let g = old.geometry in
      let was = nor.bytes old.nor.now in
      wider (writes (file_in g was r.id)).upkeep (λ tells image kept m at. kept (can_write g was (memory old) m r run at))

  -- the turns in which blocks are cleaned for it
  settling_turns : (old new : Volume N nor) (r : Run) (run : (memory old).run ≡ Some r) (wrote : Bool) (result : Result (Unit {0}) FsErr) → ((f : File) → WritesOn nor old.geometry r.id r.start r.bytes f old.nor.now new.nor.now wrote old.counted new.counted result) →
      (m : Moment) (q : Run) (f : File) → Holds old m → (memory old).run ≡ Some q → file_of q.id m.settled ≡ Some f →
      CleansInTurns nor old.geometry (NeedsNoTail q.id (length f.bytes) (q.start + length q.bytes) old.geometry (nor.bytes old.nor.now)) (part_count old.geometry (length f.bytes) q.start (length q.bytes)) old.nor.now new.nor.now (IsErr result)
  settling_turns old new r run wrote result writes m q f here waits is =
      let g = old.geometry in
      let was = nor.bytes old.nor.now in
      let both : Some r ≡ Some q = sym run ∙ waits in
      let same : r ≡ q = cc in
      let of_file : Run → File → Type 0 = λ x y. CleansInTurns nor g (NeedsNoTail x.id (length y.bytes) (x.start + length x.bytes) g was) (part_count g (length y.bytes) x.start (length x.bytes)) old.nor.now new.nor.now (IsErr result) in
      subst (λ (x : Run). file_of x.id m.settled ≡ Some f → of_file x f) same
      (λ there. subst (λ (y : File). of_file r y) (same_file g was (memory old) m r run here.image f there) ((writes (file_in g was r.id)).turns here.tells (can_write g was (memory old) m r run here.image))) is

  -- a volume stands where all is settled, by its image
  pub settled_now : (old new : Volume N nor) (s : State) → IsSameVolume old new → new.slots.now ≡ old.slots.now → (memory new).run ≡ None → nor.tells new.nor.now →
      IsAt old.geometry (nor.bytes new.nor.now) (record { slots = (memory old).slots; run = None }) (settled_at s) → Holds new (settled_at s)
  settled_now old new s same slots none tells image =
      let lists : (memory old).slots ≡ (memory new).slots = ap (λ (l : List FdSlot). descriptors l) (sym slots) in
      let here : IsAt old.geometry (nor.bytes new.nor.now) (memory new) (settled_at s) = subst (λ (o : Option Run). IsAt old.geometry (nor.bytes new.nor.now) (record { slots = (memory new).slots; run = o }) (settled_at s)) (sym none)
      (subst (λ (l : List (Option Open)). IsAt old.geometry (nor.bytes new.nor.now) (record { slots = l; run = None }) (settled_at s)) lists image) in
      record { tells = tells; image = subst (λ (g : Geometry). IsAt g (nor.bytes new.nor.now) (memory new) (settled_at s)) (sym same.geometry) here }

  module _ {old new : Volume N nor} (r : Run) (run : (memory old).run ≡ Some r) (wrote : Bool) (same : IsSameVolume old new) (slots : new.slots.now ≡ old.slots.now) where
    -- all that waited is on the chip
    pub settles_done : ((f : File) → WritesOn nor old.geometry r.id r.start r.bytes f old.nor.now new.nor.now wrote old.counted new.counted (Ok tt)) → (memory new).run ≡ None → new.stage ≡ old.stage → Settles old new (Ok true)
    settles_done writes none stage =
        let g = old.geometry in
        let was = nor.bytes old.nor.now in
        let f = file_in g was r.id in
        let cuts = settling_cuts old new r run wrote (Ok tt) writes in
        record {
          same = same;
          slots = slots;
          cuts = cuts;
          upkeep = settling_upkeep old new r run wrote (Ok tt) writes;
          counted = λ m here. (writes f).counted here.tells (can_write g was (memory old) m r run here.image);
          done = (stage, none, sym (ap is_some run));
          stops = tt;
          idle = λ e. absurd (waits_not old r run e);
          stands = λ m here.
              let can = can_write g was (memory old) m r run here.image in
              let done = (writes f).ends here.tells can in
              let image = done_settles g was (memory old) m r run here.image (nor.bytes new.nor.now) done in (
                settled_now old new m.state same slots none ((writes f).cuts.cuts.told here.tells) image,
                record { sound = λ magics. ((writes f).cuts.now here.tells can).sound; reserve = λ reserve. done.reserve },
              );
          turns = λ m q f here waits is. turns_as (λ e. absurd (let no : false ≡ true = e in cc)) (λ n few. few) (settling_turns old new r run wrote (Ok tt) writes m q f here waits is);
        }

    -- it isn't
    pub settles_failed : (why : FsErr) → ((f : File) → WritesOn nor old.geometry r.id r.start r.bytes f old.nor.now new.nor.now wrote old.counted new.counted (Err why)) → (wrote ≡ true → Rose (nor.device_writes old.nor.now) (nor.device_writes new.nor.now)) → (memory new).run ≡ (memory old).run → IsStaged old.stage new.stage wrote (Refuses why) → Settles old new (Err why)
    settles_failed why writes asked kept staged =
        let g = old.geometry in
        let was = nor.bytes old.nor.now in
        let f = file_in g was r.id in
        record {
          same = same;
          slots = slots;
          cuts = settling_cuts old new r run wrote (Err why) writes;
          upkeep = settling_upkeep old new r run wrote (Err why) writes;
          counted = λ m here. tt;
          done = tt;
          stops = record {
            among = stops_settling why (writes f).means;
            cause = λ e. (writes f).cause (ap (λ (w : FsErr). Err w) e);
            differs = λ d e. subst (λ (w : FsErr). MayStop w) e (writes f).means;
            failed = λ broke. ⊎_elim
                (λ (stood : (new.stage ≡ old.stage) × (wrote ≡ true → breaks (Refuses why) ≡ true → ⊥)). ⊎_elim
                (λ (w : wrote ≡ true). absurd (stood.1 w broke))
                (λ (w : wrote ≡ false). inr (record { reads = (writes f).untouched w; slots = slots; run = kept; stage = stood.0 }))
                (cases_Bool wrote))
                (λ (failed : (new.stage ≡ Failed) × (wrote ≡ true) × (breaks (Refuses why) ≡ true)). inl (ap is_failed failed.0))
                staged;
            asked = λ takes failed. ⊎_elim
                (λ (stood : (new.stage ≡ old.stage) × (wrote ≡ true → breaks (Refuses why) ≡ true → ⊥)). absurd (whole_still old.stage new.stage takes stood.0 failed))
                (λ (broke : (new.stage ≡ Failed) × (wrote ≡ true) × (breaks (Refuses why) ≡ true)). asked broke.1)
                staged;
            stays = ⊎_elim
                (λ (stood : (new.stage ≡ old.stage) × (wrote ≡ true → breaks (Refuses why) ≡ true → ⊥)). inl stood.0)
                (λ (failed : (new.stage ≡ Failed) × (wrote ≡ true) × (breaks (Refuses why) ≡ true)). inr (ap is_failed failed.0, failed.2))
                staged;
          };
          idle = λ e. absurd (waits_not old r run e);
          stands = λ m here. (writes f).ends here.tells (can_write g was (memory old) m r run here.image);
          turns = settling_turns old new r run wrote (Err why) writes;
        }

  -- ---- unmounting

  -- where no call is taken nothing is done
  pub unmounts_closed : (v : Volume N nor) (last : Result (Unit {0}) FsErr) → takes_calls v ≡ false → (last ≡ Err DeviceFault → ⊥) → ((d : Differ) → last ≡ Err (Damaged d) → ⊥) → (has_failed v ≡ true → last ≡ Err FsFailed) → (has_failed v ≡ false → IsOk last) → UnmountsTo v v.nor.now last
  unmounts_closed v last shut fault damage failed whole =
      let g = v.geometry in
      let a = nor.bytes v.nor.now in
      let never : takes_calls v ≡ true → ⊥ = λ takes. let no : true ≡ false = sym takes ∙ shut in cc in
      record {
        cuts = unchanged v.nor.now (λ was image. (m : Moment) → IsAt g was (memory v) m → IsSafe g was image × IsAmong (table_of g image) (from_settled m []))
            (λ tells m at. (safe_as g a a (holds_itself g a) at.tidy, settled_first (table_of g a) m [] at.table));
        stands = λ m takes. absurd (never takes);
        cause = λ e. absurd (fault e);
        differs = λ d e. absurd (damage d e);
        among = λ takes. absurd (never takes);
        idle = λ takes. absurd (never takes);
        still = λ e. refl;
        failed = failed;
        whole = λ e. whole;
      }

  -- where calls are taken what waits is settled
  whole_by : {old new : Volume N nor} (had : Result Bool FsErr) → Settles old new had → (m : Moment) → Holds old m → (IsOk (without_had had) × IsWhole nor old new.nor.now m) ⊎ (without_had had ≡ Err DeviceFault)
  unfolding settled_at
  whole_by {old} {new} (Ok had) settles m here =
      let s = settles.stands m here in
      inl (
        refl,
        record {
          tells = s.0.tells;
          tidy = subst (λ (g : Geometry). IsTidy g (nor.bytes new.nor.now)) settles.same.geometry s.0.image.tidy;
          table = subst (λ (g : Geometry). table_of g (nor.bytes new.nor.now) ≡ m.state.table) settles.same.geometry s.0.image.table;
          holds = s.1;
        },
      )
  whole_by (Err why) settles m here = inr (ap (λ (w : FsErr). Err w) (settles.stands m here))

  cause_by : {old new : Volume N nor} (had : Result Bool FsErr) → Settles old new had → without_had had ≡ Err DeviceFault → Rose (nor.faults old.nor.now) (nor.faults new.nor.now)
  cause_by (Ok had) settles e = absurd (cc)
  cause_by (Err why) settles e = settles.stops.cause (cc)

  among_by : {old new : Volume N nor} (had : Result Bool FsErr) → Settles old new had → IfErr (without_had had) (λ why. may_settle (Refuses why) ≡ true)
  among_by (Ok had) settles = tt
  among_by (Err why) settles = settles.stops.among

  differs_by : {old new : Volume N nor} (had : Result Bool FsErr) → Settles old new had → (d : Differ) → without_had had ≡ Err (Damaged d) → d.wanted ≢ d.found
  differs_by (Ok had) settles d e = absurd (cc)
  differs_by (Err why) settles d e = settles.stops.differs d (cc)

  idle_by : {old new : Volume N nor} (had : Result Bool FsErr) → Settles old new had → (memory old).run ≡ None → IsOk (without_had had) × (new.nor.now ≡ old.nor.now)
  idle_by (Ok had) settles none = (refl, ap (λ (v : Volume N nor). v.nor.now) (settles.idle none).1)
  idle_by (Err why) settles none = absurd (let no = (settles.idle none).0 in cc)

  pub unmounts_open : {old new : Volume N nor} (last : Result (Unit {0}) FsErr) → takes_calls old ≡ true → SettledOr old new last → UnmountsTo old new.nor.now last
  unmounts_open {old} {new} last takes settled =
      let shut : takes_calls old ≡ false → ⊥ = λ e. let no : true ≡ false = sym takes ∙ e in cc in
      let whole : has_failed old ≡ false = open_whole old.stage takes in
      subst (λ (r : Result (Unit {0}) FsErr). UnmountsTo old new.nor.now r) (sym settled.is) (record {
        cuts = settled.settles.cuts;
        stands = λ m takes here. whole_by settled.had settled.settles m here;
        cause = cause_by settled.had settled.settles;
        differs = differs_by settled.had settled.settles;
        among = λ takes. among_by settled.had settled.settles;
        idle = λ takes none. idle_by settled.had settled.settles none;
        still = λ e. absurd (shut e);
        failed = λ e. absurd (let no : true ≡ false = sym e ∙ whole in cc);
        whole = λ e. absurd (shut e);
      })
