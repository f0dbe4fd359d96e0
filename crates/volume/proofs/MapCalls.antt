-- Calls of maps: what waits is put onto the chip, and then pages are read.
use Rattle.std.proofs.Common.{◌≡◌, ◌≢◌, ◌⊎◌, ⊎_elim, inl, inr, ◌+◌, ◌≤◌, ℕ, List, [], length, Bool, true, false, refl, sym, ◌∙◌, ap, subst, arith}
use Rattle.std.specs.Prelude.{Option, Some, None, Result, Ok, Err, IfErr, OnOk, nat_lt, option_and_then, ◌==◌, if◌then◌else◌}
use Rattle.std.specs.Option.{is_some}
use Rattle.std.proofs.lemmas.Bool.{cases_Bool}
use Rattle.geometry.specs.declared.geometry.Geometry.{Geometry}
use Rattle.geometry.specs.Numbers.{body}
use Rattle.nor_core.specs.declared.state.NorState.{Ghosts as NorOf}
use Rattle.nor_core.specs.Count.{Rose}
use Rattle.nor_core.specs.Device.{OnlyReads}
use Rattle.nor_core.proofs.Cuts.{unchanged, read_after}
use Rattle.table_model.specs.declared.error.Differ.{Differ}
use Rattle.table_model.specs.declared.error.FsErr.{FsErr}
use Rattle.table_model.specs.declared.error.FsErr.TheVariants.{Failed, DeviceFault, NotFound, BadDescriptor, Damaged}
use Rattle.table_model.specs.Table.{File, State, file_of, has_id}
use Rattle.table_model.specs.Reply.{Answer}
use Rattle.table_model.specs.Window.{Moment, settled_at, from_settled, IsAmong}
use Rattle.image_model.specs.Places.{IsImage}
use Rattle.image_model.specs.Tables.{table_of}
use Rattle.image_model.specs.Tidy.{IsTidy}
use Rattle.image_model.specs.Live.{live_at, own}
use Rattle.image_model.specs.Files.{index_page}
use Rattle.flash_view.specs.Found.{has_header}
use Rattle.flash_view.specs.declared.kinds.StepErr.{StepErr}
use Rattle.flash_view.specs.declared.kinds.StepErr.TheVariants.{DeviceFault as StepFault, Damaged as StepDamaged}
use Rattle.flash_view.specs.Steps.{as_fs_err}
use Rattle.header_laws.proofs.HeadPages.{has-ids}
use Rattle.header_laws.proofs.Listed.{any-found}
use Rattle.table_model.specs.Table.{Open}
use Rattle.table_model.specs.Descriptors.{open_at}
use Rattle.ix_map.specs.Maps.{head_of}
use Rattle.ix_map.specs.Rights.{IsRight}
use Rattle.ix_map.proofs.Righting.{right_of}
use Rattle.write_window.specs.Runs.{Run}
use Rattle.fd_table.specs.declared.slot.FdSlot.{FdSlot}
use Rattle.fd_table.specs.Slots.{descriptors}
use Rattle.call_model.specs.Safe.{IsSafe}
use Rattle.call_model.proofs.Safety.{holds_itself, safe_as}
use Rattle.call_model.specs.Memory.{Memory, IsAt, OpensFiles}
use Rattle.call_model.specs.Calls.{Stands}
use Rattle.ix_map.specs.declared.map.IxMap.{IxMap}
use Rattle.file_read.specs.Whole.{IsFileOf, IsRead}
use Rattle.file_read.specs.Missing.{IsMissing, HoldsOrFault}
use Rattle.ix_map.specs.Covers.{given, pages_met}
use Rattle.file_calls.proofs.Descriptors.{whole_file}
use Rattle.volume.specs.declared.stage.Stage.{Stage}
use Rattle.volume.specs.declared.stage.Stage.TheVariants.{Checked, Failed as StageFailed}
use Rattle.volume.specs.declared.volume.Volume.{Volume}
use Rattle.volume.specs.declared.map_calls.MapErr.{MapErr}
use Rattle.volume.specs.declared.map_calls.MapErr.TheVariants.{Call, NoMap, NotMapped}
use Rattle.volume.specs.Opening.{is_failed, stage_after}
use Rattle.volume.specs.Stages.{takes_calls, has_failed}
use Rattle.volume.specs.Replies.{breaks}
use Rattle.volume.specs.Same.{IsSameVolume}
use Rattle.volume.specs.Holds.{memory, Holds}
use Rattle.volume.specs.Unchanged.{Unchanged}
use Rattle.volume.specs.Calls.{HasNone}
use Rattle.volume.specs.Settles.{Settles}
use Rattle.volume.specs.Mapping.{is_attached, HasNoHeader, KeepsMap}
use Rattle.volume.specs.declared.map_calls.MapRefusal.{MapRefusal}
use Rattle.volume.specs.MapReads.{GivesOrFault, map_reply, why_not, why_back, id_at, id_in, attach_refusal, SettlesAndReads, covers_read, ReadsMap, Attaches}
use Rattle.volume.proofs.Staying.{same_then, same_none}
use Rattle.volume.proofs.LookedAfter.{stands_on}
use Rattle.volume.proofs.KnownMaps.{never}
use Rattle.volume.proofs.Calling.{settled_first, open_is, staged_by, IsStaged}

-- all is settled
settled_table : (s : State) → (settled_at s).settled ≡ s.table
unfolding settled_at
settled_table s = refl

-- nothing is there
none_is : {X : Type 0} (o : Option X) → is_some o ≡ false → o ≡ None
none_is None e = refl
none_is (Some x) e = absurd (never e)

-- settling told whether anything waited, or it didn't
had_or_why : (r : Result Bool FsErr) (had : Bool) (why : FsErr) → r ≡ Ok had → r ≡ Err why → ⊥
had_or_why r had why a b = cc

same_had : (r : Result Bool FsErr) (a b : Bool) → r ≡ Ok a → r ≡ Ok b → a ≡ b
same_had r a b e f = cc

same_why : (r : Result Bool FsErr) (a b : FsErr) → r ≡ Err a → r ≡ Err b → a ≡ b
same_why r a b e f = cc

pub same_call : (o : Option MapErr) (a b : FsErr) → o ≡ Some (Call a) → o ≡ Some (Call b) → a ≡ b
same_call o a b e f = cc

had_or_none : (r : Result ℕ FsErr) (id : ℕ) (why : FsErr) → r ≡ Ok id → r ≡ Err why → ⊥
had_or_none r id why a b = cc

same_id : (r : Result ℕ FsErr) (a b : ℕ) → r ≡ Ok a → r ≡ Ok b → a ≡ b
same_id r a b e f = cc

some_or_none : (o : Option MapErr) (why : MapErr) → o ≡ Some why → o ≡ None → ⊥
some_or_none o why a b = cc

-- where the file isn't there is no fault
pub missing_no_fault : NotFound ≡ DeviceFault → ⊥
missing_no_fault e = cc

pub descriptor_no_fault : BadDescriptor ≡ DeviceFault → ⊥
descriptor_no_fault e = cc

-- nor does a page read otherwise
missing_no_page : (d : Differ) → NotFound ≡ Damaged d → ⊥
missing_no_page d e = cc

fault_no_page : (d : Differ) → DeviceFault ≡ Damaged d → ⊥
fault_no_page d e = cc

failed_no_page : (d : Differ) → Failed ≡ Damaged d → ⊥
failed_no_page d e = cc

pub descriptor_no_page : (d : Differ) → BadDescriptor ≡ Damaged d → ⊥
descriptor_no_page d e = cc

-- a read through a map fails as its step did: what holds of the step, unless the device failed, holds of the read
pub fault_gives : (P : ℕ → Type 0) (why : StepErr) → HoldsOrFault (Err why) P → GivesOrFault (Err (Call (as_fs_err why))) P
fault_gives P StepFault told = tt
fault_gives P (StepDamaged differ) told = absurd told

-- and what was wanted there and what was found differ
pub missing_apart : (id : ℕ) (why : StepErr) → IsMissing id why → (d : Differ) → why_not {T = ℕ} (Err (Call (as_fs_err why))) ≡ Some (Call (Damaged d)) → d.wanted ≢ d.found
missing_apart id StepFault missing d e = absurd (cc)
missing_apart id (StepDamaged differ) missing d e =
    let same : differ ≡ d = cc in
    subst (λ (x : Differ). x.wanted ≢ x.found) same missing.apart

-- no call broke
pub stage_fine : (had : Bool) (reply : Answer) → breaks reply ≡ false → stage_after had reply ≡ Checked
stage_fine true reply e = ap (λ (b : Bool). if b then StageFailed else Checked) e
stage_fine false reply e = refl

-- the id has a header page where the table has it
listed_header : (g : Geometry) (image : List ℕ) (id : ℕ) → IsTidy g image → is_some (index_page g (own (live_at g image) id) 0) ≡ has_id id (table_of g image)
unfolding has_header
listed_header g image id tidy = has-ids g image tidy.undamaged id

then_some : {X Y : Type 0} (f : X → Option Y) (o : Option X) → is_some (option_and_then f o) ≡ true → is_some o ≡ true
then_some f None e = e
then_some f (Some x) e = refl

pub head_listed : (g : Geometry) (image : List ℕ) (id : ℕ) → IsTidy g image → is_some (head_of g image id) ≡ true → has_id id (table_of g image) ≡ true
unfolding head_of
head_listed g image id tidy there = sym (listed_header g image id tidy) ∙ then_some _ (index_page g (own (live_at g image) id) 0) there

pub none_listed : (g : Geometry) (image : List ℕ) (id : ℕ) → IsTidy g image → index_page g (own (live_at g image) id) 0 ≡ None → has_id id (table_of g image) ≡ false
none_listed g image id tidy none = sym (listed_header g image id tidy) ∙ ap (λ (o : Option ℕ). is_some o) none

pub file_listed : (id : ℕ) (files : List File) (f : File) → file_of id files ≡ Some f → has_id id files ≡ true
unfolding has_id file_of
file_listed id files f e = any-found (λ (x : File). x.id == id) files ∙ ap is_some e

pub settled_state : (s : State) → (settled_at s).state ≡ s
unfolding settled_at
settled_state s = refl

module _ {N : Type 0} {nor : NorOf N} where
  -- the ids of the table are those with a header page
  none_in : (v : Volume N nor) (m : Moment) (id : ℕ) → Holds v (settled_at m.state) → HasNoHeader v id → has_id id m.state.table ≡ false
  none_in v m id here none = ap (λ (t : List File). has_id id t) (sym (here.image.table ∙ settled_table m.state)) ∙ none_listed v.geometry (nor.bytes v.nor.now) id here.image.tidy (none here.tells)

  pub map_listed : (v : Volume N nor) (m : Moment) → Holds v (settled_at m.state) → v.map.used ≡ true → has_id v.map.id m.state.table ≡ true
  map_listed v m here used =
      let map = v.mapped used here.tells in
      ap (λ (t : List File). has_id v.map.id t) (sym (here.image.table ∙ settled_table m.state)) ∙ head_listed v.geometry (nor.bytes v.nor.now) v.map.id here.image.tidy map.there

  pub missing_in : (v : Volume N nor) (m : Moment) (id : ℕ) → Holds v (settled_at m.state) → HasNoHeader v id → id_in id m.state ≡ Err NotFound
  missing_in v m id here none = rw (none_in v m id here none) refl

  pub listed_in : (v : Volume N nor) (m : Moment) (id : ℕ) → Holds v (settled_at m.state) → v.map.used ≡ true → v.map.id ≡ id → id_in id m.state ≡ Ok id
  listed_in v m id here used is = let there : has_id id m.state.table ≡ true = ap (λ (k : ℕ). has_id k m.state.table) (sym is) ∙ map_listed v m here used in rw there refl

  -- the map is right for its file
  pub right_in : (v : Volume N nor) (m : Moment) (f : File) → (nor.tells v.nor.now → IsImage v.geometry (nor.bytes v.nor.now)) → Holds v m → v.map.used ≡ true → file_of v.map.id m.settled ≡ Some f → IsRight v.geometry (nor.bytes v.nor.now) v.map v.numbers.now f
  right_in v m f image here used there =
      let whole = image here.tells in
      let listed : file_of v.map.id (table_of v.geometry (nor.bytes v.nor.now)) ≡ Some f = ap (λ (t : List File). file_of v.map.id t) here.image.table ∙ there in
      right_of v.geometry (nor.bytes v.nor.now) v.map v.numbers.now f whole (v.mapped used here.tells) (whole_file v.geometry (nor.bytes v.nor.now) v.map.id f whole here.image.tidy listed)

  -- an open descriptor is on a file of the table
  pub open_in : (v : Volume N nor) (m : Moment) (fd id : ℕ) → Holds v (settled_at m.state) → id_at fd m.state ≡ Ok id → HasNoHeader v id → ⊥
  open_in v m fd id here wanted none = by_open (open_at m.state.slots fd) refl
    where
      by_open : (o : Option Open) → open_at m.state.slots fd ≡ o → ⊥
      by_open None e = let no : id_at fd m.state ≡ Err BadDescriptor = rw e refl in had_or_none (id_at fd m.state) id BadDescriptor wanted no
      by_open (Some o) e =
          let is : id_at fd m.state ≡ Ok o.id = rw e refl in
          let same : o.id ≡ id = same_id (id_at fd m.state) o.id id is wanted in
          let opened = (subst (λ (s : State). OpensFiles s) (settled_state m.state) here.image.opened) fd o e in
          let listed : has_id id m.state.table ≡ true = ap (λ (k : ℕ). has_id k m.state.table) (sym same) ∙ file_listed o.id m.state.table opened.file opened.there in
          never (sym listed ∙ none_in v m id here none)

  -- the descriptors of a state are those of the slots
  pub slots_in : (v : Volume N nor) (m : Moment) → Holds v (settled_at m.state) → m.state.slots ≡ descriptors v.slots.now
  slots_in v m here = sym (here.image.slots ∙ ap (λ (s : State). s.slots) (settled_state m.state))

  -- a volume that takes no calls
  closed_call : (v : Volume N nor) → takes_calls v ≡ false → SettlesAndReads v v (Some (Call Failed))
  closed_call v shut = record {
    same = same_none v;
    slots = refl;
    cuts = unchanged v.nor.now (λ before image. (m : Moment) → IsAt v.geometry before (memory v) m → IsSafe v.geometry before image × IsAmong (table_of v.geometry image) (from_settled m []))
        (λ tells m here. (safe_as v.geometry (nor.bytes v.nor.now) (nor.bytes v.nor.now) (holds_itself v.geometry (nor.bytes v.nor.now)) here.tidy, settled_first (table_of v.geometry (nor.bytes v.nor.now)) m [] here.table));
    stands = λ m takes here. absurd (never (sym takes ∙ shut));
    still = λ takes none. absurd (never (sym takes ∙ shut));
    closed = λ e. (refl, refl);
    cause = λ e. absurd (let no : Failed ≡ DeviceFault = same_call (Some (Call Failed)) Failed DeviceFault refl e in cc);
    failed = λ broke. absurd (let no : false ≡ true = broke in cc);
    stays = inl refl;
  }

  -- what waits can't be put onto the chip
  pub stopped_call : {old new : Volume N nor} (why : FsErr) (settling : Result Bool FsErr) → settling ≡ Err why → (takes_calls old ≡ false → (settling ≡ Err Failed) × (new ≡ old)) → (takes_calls old ≡ true → Settles old new settling) → SettlesAndReads old new (Some (Call why))
  stopped_call {old} {new} why settling is closed settles = ⊎_elim
      (λ (takes : takes_calls old ≡ true).
      let s = subst (λ (r : Result Bool FsErr). Settles old new r) is (settles takes) in
      record {
        same = s.same;
        slots = s.slots;
        cuts = s.cuts;
        stands = λ m on here fine. absurd (fine (ap (λ (w : FsErr). Some (Call w)) (s.stands m here)));
        still = λ on none. absurd (had_or_why settling false why ((settles takes).idle none).0 is);
        closed = λ shut. absurd (never (sym takes ∙ shut));
        cause = λ e. s.stops.cause (same_call (Some (Call why)) why DeviceFault refl e);
        failed = λ broke. s.stops.failed broke;
        stays = ⊎_elim (λ (stood : new.stage ≡ old.stage). inl stood) (λ (failed : (has_failed new ≡ true) × (breaks (map_reply (Some (Call why))) ≡ true)). inr (takes, failed.0, failed.1)) s.stops.stays;
      })
      (λ (shut : takes_calls old ≡ false).
      let c = closed shut in
      subst (λ (w : FsErr). SettlesAndReads old new (Some (Call w))) (sym (same_why settling why Failed is c.0)) (subst (λ (v : Volume N nor). SettlesAndReads old v (Some (Call Failed))) (sym c.1) (closed_call old shut)))
      (cases_Bool (takes_calls old))

  -- of a page that reads otherwise, two tags are told that differ
  stopped_differs : {old new : Volume N nor} (why : FsErr) (settling : Result Bool FsErr) → settling ≡ Err why → (takes_calls old ≡ false → (settling ≡ Err Failed) × (new ≡ old)) → (takes_calls old ≡ true → Settles old new settling) → (d : Differ) → why ≡ Damaged d → d.wanted ≢ d.found
  stopped_differs {old} {new} why settling is closed settles d e = ⊎_elim
      (λ (takes : takes_calls old ≡ true). (subst (λ (r : Result Bool FsErr). Settles old new r) is (settles takes)).stops.differs d e)
      (λ (shut : takes_calls old ≡ false). absurd (failed_no_page d (sym (same_why settling why Failed is (closed shut).0) ∙ e)))
      (cases_Bool (takes_calls old))

  -- on a volume that stands at a moment it is a fault
  pub stops_fault : {old new : Volume N nor} (why : FsErr) (settling : Result Bool FsErr) → settling ≡ Err why → (takes_calls old ≡ true → Settles old new settling) → (m : Moment) → takes_calls old ≡ true → Holds old m → why ≡ DeviceFault
  stops_fault {old} {new} why settling is settles m takes here = let s = subst (λ (r : Result Bool FsErr). Settles old new r) is (settles takes) in s.stands m here

  pub stopped_reads : {old new : Volume N nor} (at : ℕ) (into : List ℕ) (why : FsErr) (settling : Result Bool FsErr) → settling ≡ Err why → (takes_calls old ≡ false → (settling ≡ Err Failed) × (new ≡ old)) → (takes_calls old ≡ true → Settles old new settling) →
      ((m : Moment) → takes_calls old ≡ true → Holds old m → KeepsMap old new (breaks (map_reply (Some (Call why))))) → ReadsMap old new at into into (Err (Call why))
  stopped_reads {old} {new} at into why settling is closed settles maps = record {
    call = stopped_call why settling is closed settles;
    answers = λ m takes here fine. absurd (fine (ap (λ (w : FsErr). Err (Call w)) (stops_fault why settling is settles m takes here)));
    differs = λ d e. stopped_differs why settling is closed settles d (same_call (Some (Call why)) why (Damaged d) refl e);
    once = λ takes none. absurd (had_or_why settling false why ((settles takes).idle none).0 is);
    maps = maps;
    idle = λ takes none. absurd (had_or_why settling false why ((settles takes).idle none).0 is);
  }

  pub stopped_attach : {old new : Volume N nor} (wanted : State → Result ℕ FsErr) (first lent : ℕ) (why : FsErr) (settling : Result Bool FsErr) (refusal : MapRefusal) → refusal.why ≡ Call why → length refusal.numbers.now ≡ lent → settling ≡ Err why → (takes_calls old ≡ false → (settling ≡ Err Failed) × (new ≡ old)) →
      (takes_calls old ≡ true → Settles old new settling) → ((m : Moment) → takes_calls old ≡ true → Holds old m → KeepsMap old new (breaks (map_reply (Some (Call why))))) → Attaches wanted first lent old new (Err refusal)
  stopped_attach {old} {new} wanted first lent why settling refusal said size is closed settles maps =
      let told : Some refusal.why ≡ Some (Call why) = ap (λ (e : MapErr). Some e) said in
      record {
        call = subst (λ (o : Option MapErr). SettlesAndReads old new o) (sym told) (stopped_call why settling is closed settles);
        answers = λ m takes here fine. absurd (fine (told ∙ ap (λ (w : FsErr). Some (Call w)) (stops_fault why settling is settles m takes here)));
        done = λ m takes here none. absurd (some_or_none (Some refusal.why) refusal.why refl none);
        back = size;
        apart = λ m takes here refused. ap (λ (n : ℕ). nat_lt 0 n) (maps m takes here).room;
        maps = λ m takes here refused lent. subst (λ (o : Option MapErr). KeepsMap old new (breaks (map_reply o))) (sym told) (maps m takes here);
        differs = λ d e. stopped_differs why settling is closed settles d (same_call (Some refusal.why) why (Damaged d) told e);
      }

  -- pages are read, where nothing waits
  module _ {mid new : Volume N nor} (reads : OnlyReads nor mid.nor.now new.nor.now) (same : IsSameVolume mid new) (slots : new.slots.now ≡ mid.slots.now) (run : (memory new).run ≡ (memory mid).run) where
    pub holds_on : {m : Moment} → Holds mid m → Holds new m
    holds_on {m} was =
        let of_slots : List FdSlot → Memory = λ l. record { slots = descriptors l; run = (memory mid).run } in
        let of_run : Option Run → Memory = λ o. record { slots = descriptors new.slots.now; run = o } in
        let memories : memory mid ≡ memory new = ap of_slots (sym slots) ∙ ap of_run (sym run) in
        subst (λ (k : Geometry). Stands nor k new.nor.now (memory new) m) (sym same.geometry) (subst (λ (x : Memory). Stands nor mid.geometry new.nor.now x m) memories (stands_on reads was))

    module _ {old : Volume N nor} (had : Bool) (settling : Result Bool FsErr) (is : settling ≡ Ok had) (closed : takes_calls old ≡ false → (settling ≡ Err Failed) × (mid ≡ old)) (settles : takes_calls old ≡ true → Settles old mid settling) (still : takes_calls old ≡ true → HasNone old → mid ≡ old) where
      pub takes : takes_calls old ≡ true
      takes = ⊎_elim (λ (on : takes_calls old ≡ true). on) (λ (shut : takes_calls old ≡ false). absurd (had_or_why settling had Failed is (closed shut).0)) (cases_Bool (takes_calls old))

      pub settled_done : Settles old mid (Ok had)
      settled_done = subst (λ (r : Result Bool FsErr). Settles old mid r) is (settles takes)

      pub read_call : (refusal : Option MapErr) → new.stage ≡ stage_after had (map_reply refusal) → (refusal ≡ Some (Call DeviceFault) → Rose (nor.faults mid.nor.now) (nor.faults new.nor.now)) → SettlesAndReads old new refusal
      read_call refusal stage cause =
          let s = settled_done in
          let staged : IsStaged old.stage new.stage had (map_reply refusal) = staged_by old.stage new.stage had (map_reply refusal) (breaks (map_reply refusal)) (open_is old.stage takes) refl stage in
          let idle : HasNone old → Unchanged old new = λ free.
          let stays = still takes free in
          let no_had : had ≡ false = same_had settling had false is ((settles takes).idle free).0 in
          record {
            reads = subst (λ (v : Volume N nor). OnlyReads nor v.nor.now new.nor.now) stays reads;
            slots = slots ∙ s.slots;
            run = run ∙ ap (λ (v : Volume N nor). (memory v).run) stays;
            stage = stage ∙ ap (λ (b : Bool). stage_after b (map_reply refusal)) no_had ∙ sym (open_is old.stage takes);
          } in
          record {
            same = same_then s.same same;
            slots = slots ∙ s.slots;
            cuts = read_after s.cuts reads;
            stands = λ m on here fine. let w = s.stands m here in holds_on w.0;
            still = λ on free. idle free;
            closed = λ shut. absurd (never (sym takes ∙ shut));
            cause = λ e. let rose = cause e in omega (arith, rose, s.same.faults);
            failed = λ broke. ⊎_elim
                (λ (stood : (new.stage ≡ old.stage) × (had ≡ true → breaks (map_reply refusal) ≡ true → ⊥)). ⊎_elim
                (λ (yes : had ≡ true). absurd (stood.1 yes broke))
                (λ (no : had ≡ false). inr (idle (none_is (memory old).run (sym s.done.2 ∙ no))))
                (cases_Bool had))
                (λ (gone : (new.stage ≡ StageFailed) × (had ≡ true) × (breaks (map_reply refusal) ≡ true)). inl (ap (λ (x : Stage). is_failed x) gone.0))
                staged;
            stays = ⊎_elim
                (λ (stood : (new.stage ≡ old.stage) × (had ≡ true → breaks (map_reply refusal) ≡ true → ⊥)). inl stood.0)
                (λ (gone : (new.stage ≡ StageFailed) × (had ≡ true) × (breaks (map_reply refusal) ≡ true)). inr (takes, ap (λ (x : Stage). is_failed x) gone.0, gone.2))
                staged;
          }

      -- the map stays
      module _ (map : new.map ≡ mid.map) (numbers : new.numbers.now ≡ mid.numbers.now) (maps : (m : Moment) → takes_calls old ≡ true → Holds old m → KeepsMap old mid false) where
        keeps_on : (broke : Bool) → KeepsMap old mid false → KeepsMap old new broke
        keeps_on broke k = record {
          room = ap (λ (l : List ℕ). length l) numbers ∙ k.room;
          lost = λ used gone. ⊎_elim
              (λ (no : false ≡ true). absurd (never (sym no)))
              (λ more. inr (⊎_elim
              (λ (rose : Rose (nor.faults old.nor.now) (nor.faults mid.nor.now)). inl (omega (arith, rose, reads.faults)))
              (λ (header : HasNoHeader mid old.map.id). inr (λ tells. rw (same.geometry, reads.bytes) (header (reads.told_before tells))))
              more))
              (k.lost used (ap (λ (x : IxMap). x.used) (sym map) ∙ gone));
          same = λ used.
              let w = k.same (ap (λ (x : IxMap). x.used) (sym map) ∙ used) in
              (w.0, ap (λ (x : IxMap). x.id) map ∙ w.1, ap (λ (x : IxMap). x.first) map ∙ w.2);
        }

        covers_on : (at len : ℕ) → covers_read new at len ≡ covers_read mid at len
        covers_on at len = rw (same.geometry, map, numbers) refl

        -- pages are read through it
        pub mapped_reads : (at : ℕ) (was got : List ℕ) (result : Result ℕ MapErr) → new.stage ≡ stage_after had (map_reply (why_not result)) →
            nor.device_reads new.nor.now ≤ nor.device_reads mid.nor.now + pages_met (body mid.geometry) at (given mid.map.size at (length was)) →
            (mid.map.used ≡ false → result ≡ Err NoMap) → (mid.map.used ≡ true → covers_read mid at (length was) ≡ false → result ≡ Err NotMapped) →
            (why_not result ≡ Some (Call DeviceFault) → Rose (nor.faults mid.nor.now) (nor.faults new.nor.now)) →
            ((d : Differ) → why_not result ≡ Some (Call (Damaged d)) → d.wanted ≢ d.found) →
            (nor.tells mid.nor.now → (f : File) → IsFileOf mid.geometry (nor.bytes mid.nor.now) mid.map.id f → mid.map.used ≡ true → covers_read mid at (length was) ≡ true → GivesOrFault result (λ n. IsRead f at was got n)) →
            (nor.tells mid.nor.now → IsImage mid.geometry (nor.bytes mid.nor.now)) → ReadsMap old new at was got result
        mapped_reads at was got result stage once none apart cause differs told image = record {
          call = read_call (why_not result) stage cause;
          answers = λ m on here fine.
              let s = settled_done in
              let w = s.stands m here in
              record {
                none = λ used. none (ap (λ (x : IxMap). x.used) (sym map) ∙ used);
                apart = λ used covered. apart (ap (λ (x : IxMap). x.used) (sym map) ∙ used) (sym (covers_on at (length was)) ∙ covered);
                reads = λ used covered f there.
                    let listed : file_of mid.map.id (table_of mid.geometry (nor.bytes mid.nor.now)) ≡ Some f = ap (λ (t : List File). file_of mid.map.id t) (w.0.image.table ∙ settled_table m.state) ∙ ap (λ (x : IxMap). file_of x.id m.state.table) (sym map) ∙ there in
                    told w.0.tells f (whole_file mid.geometry (nor.bytes mid.nor.now) mid.map.id f (image w.0.tells) w.0.image.tidy listed) (ap (λ (x : IxMap). x.used) (sym map) ∙ used) (sym (covers_on at (length was)) ∙ covered);
              };
          differs = differs;
          once = λ on free. subst (λ (v : Volume N nor). nor.device_reads new.nor.now ≤ nor.device_reads v.nor.now + pages_met (body v.geometry) at (given v.map.size at (length was))) (still takes free) once;
          maps = λ m on here. keeps_on (breaks (map_reply (why_not result))) (maps m on here);
          idle = λ on free. map ∙ ap (λ (v : Volume N nor). v.map) (still takes free);
        }

        -- a map isn't attached, and nothing is changed
        pub refused_attach : (wanted : State → Result ℕ FsErr) (first lent : ℕ) (refusal : MapRefusal) → length refusal.numbers.now ≡ lent → breaks (map_reply (Some refusal.why)) ≡ false → (Some refusal.why ≡ Some (Call DeviceFault) → ⊥) → ((d : Differ) → Some refusal.why ≡ Some (Call (Damaged d)) → ⊥) → new.stage ≡ mid.stage →
            ((m : Moment) → Holds new (settled_at m.state) → Some refusal.why ≡ attach_refusal (is_attached new) (wanted m.state)) → Attaches wanted first lent old new (Err refusal)
        refused_attach wanted first lent refusal size fine no_fault no_page stage answer =
            let s = settled_done in
            record {
              call = read_call (Some refusal.why) (stage ∙ s.done.0 ∙ open_is old.stage takes ∙ sym (stage_fine had (map_reply (Some refusal.why)) fine)) (λ e. absurd (no_fault e));
              answers = λ m on here other.
                  let w = s.stands m here in
                  let k = keeps_on false (maps m on here) in
                  answer m (holds_on w.0) ∙ ap (λ (n : ℕ). attach_refusal (nat_lt 0 n) (wanted m.state)) k.room;
              done = λ m on here none. absurd (some_or_none (Some refusal.why) refusal.why refl none);
              back = size;
              apart = λ m on here refused. ap (λ (n : ℕ). nat_lt 0 n) (keeps_on false (maps m on here)).room;
              maps = λ m on here refused lent. keeps_on (breaks (map_reply (Some refusal.why))) (maps m on here);
              differs = λ d e. absurd (no_page d e);
            }

      -- the map of a file is read
      pub filled_attach : (wanted : State → Result ℕ FsErr) (id first lent : ℕ) (result : Result (Unit {0}) MapRefusal) → ((m : Moment) → takes_calls old ≡ true → Holds old m → KeepsMap old mid false) → is_attached mid ≡ false → new.stage ≡ stage_after had (map_reply (why_back result)) →
          OnOk result ((new.map.used ≡ true) × (new.map.id ≡ id) × (new.map.first ≡ first) × (length new.numbers.now ≡ lent)) → IfErr result (λ refusal. length refusal.numbers.now ≡ lent) → IfErr result (λ refusal. (new.map.used ≡ false) × (length new.numbers.now ≡ 0)) →
          IfErr result (λ refusal. ((refusal.why ≡ Call DeviceFault) × Rose (nor.faults mid.nor.now) (nor.faults new.nor.now)) ⊎ ((refusal.why ≡ Call NotFound) × HasNoHeader new id)) →
          ((m : Moment) → Holds new (settled_at m.state) → new.map.used ≡ true → new.map.id ≡ id → wanted m.state ≡ Ok id) → ((m : Moment) → Holds new (settled_at m.state) → HasNoHeader new id → wanted m.state ≡ Err NotFound) → Attaches wanted first lent old new result
      filled_attach wanted id first lent (Ok x) maps free stage done back none why listed missing =
          let s = settled_done in
          record {
            call = read_call None stage (λ e. absurd (some_or_none None (Call DeviceFault) e refl));
            answers = λ m on here other.
                let w = s.stands m here in
                let attached : is_attached old ≡ false = ap (λ (n : ℕ). nat_lt 0 n) (sym (maps m on here).room) ∙ free in
                let wants = listed m (holds_on w.0) done.0 done.1 in
                rw (attached, wants) refl;
            done = λ m on here refused. let w = s.stands m here in (done.0, listed m (holds_on w.0) done.0 done.1 ∙ ap (λ (k : ℕ). Ok k) (sym done.1), done.2, done.3);
            back = tt;
            apart = λ m on here refused. absurd (refused refl);
            maps = λ m on here refused. absurd (refused refl);
            differs = λ d e. absurd (some_or_none None (Call (Damaged d)) e refl);
          }
      filled_attach wanted id first lent (Err refusal) maps free stage done back none why listed missing =
          let s = settled_done in
          record {
            call = read_call (Some refusal.why) stage (λ e. ⊎_elim
                (λ (fault : (refusal.why ≡ Call DeviceFault) × Rose (nor.faults mid.nor.now) (nor.faults new.nor.now)). fault.1)
                (λ (gone : (refusal.why ≡ Call NotFound) × HasNoHeader new id). absurd (missing_no_fault (same_call (Some refusal.why) NotFound DeviceFault (ap (λ (w : MapErr). Some w) gone.0) e)))
                why);
            answers = λ m on here other. ⊎_elim
                (λ (fault : (refusal.why ≡ Call DeviceFault) × Rose (nor.faults mid.nor.now) (nor.faults new.nor.now)). absurd (other (ap (λ (w : MapErr). Some w) fault.0)))
                (λ (gone : (refusal.why ≡ Call NotFound) × HasNoHeader new id).
                let w = s.stands m here in
                let attached : is_attached old ≡ false = ap (λ (n : ℕ). nat_lt 0 n) (sym (maps m on here).room) ∙ free in
                let wants = missing m (holds_on w.0) gone.1 in
                ap (λ (x : MapErr). Some x) gone.0 ∙ rw (attached, wants) refl)
                why;
            done = λ m on here is_none. absurd (some_or_none (Some refusal.why) refusal.why refl is_none);
            back = back;
            apart = λ m on here refused. ap (λ (n : ℕ). nat_lt 0 n) none.1 ∙ sym free ∙ ap (λ (n : ℕ). nat_lt 0 n) (maps m on here).room;
            maps = λ m on here refused lent. absurd (never (sym lent ∙ (ap (λ (n : ℕ). nat_lt 0 n) (sym (maps m on here).room) ∙ free)));
            differs = λ d e. absurd (⊎_elim
                (λ (fault : (refusal.why ≡ Call DeviceFault) × Rose (nor.faults mid.nor.now) (nor.faults new.nor.now)). fault_no_page d (same_call (Some refusal.why) DeviceFault (Damaged d) (ap (λ (w : MapErr). Some w) fault.0) e))
                (λ (gone : (refusal.why ≡ Call NotFound) × HasNoHeader new id). missing_no_page d (same_call (Some refusal.why) NotFound (Damaged d) (ap (λ (w : MapErr). Some w) gone.0) e))
                why);
          }
