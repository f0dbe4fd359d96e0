-- What the exits of calls share.
use Rattle.std.proofs.lemmas.Bool.{and_parts}
use Rattle.std.proofs.Common.{◌&&◌, ◌||◌, ◌<◌, zero, suc, length, get_or, ◌≡◌, ◌≢◌, ◌≤◌, ℕ, ◌⊎◌, ⊎_elim, inl, inr, List, [], ◌∷◌, Bool, true, false, refl, sym, ◌∙◌, ap, subst, arith}
use Rattle.std.specs.Prelude.{Option, Some, None, Result, Ok, Err, IsErr, IsErrOf, IsErrAnd}
use Rattle.geometry.specs.declared.geometry.Geometry.{Geometry}
use Rattle.nor_core.specs.declared.state.NorState.{Ghosts as NorOf}
use Rattle.nor_core.specs.Count.{Rose}
use Rattle.nor_core.specs.Device.{OnlyReads, Changes}
use Rattle.nor_core.proofs.Cuts.{wider, read_after, unchanged}
use Rattle.table_model.specs.declared.error.FsErr.{FsErr}
use Rattle.table_model.specs.declared.error.FsErr.TheVariants.{BadName, NameTooLong, BadFlags, BadDescriptor, OutOfDescriptors, NotReadable, NotWritable, Tight, DeviceFault, Damaged}
use Rattle.table_model.specs.declared.error.Differ.{Differ}
use Rattle.table_model.specs.Table.{File, Open, State}
use Rattle.table_model.specs.Reply.{Answer, Gives, Refuses}
use Rattle.table_model.specs.Ask.{Ask, Creates, Opens, Removes, Renames, Stats, Collects, SetsMeta}
use Rattle.table_model.specs.Outcome.{Outcome, refused, gives}
use Rattle.table_model.specs.Calls.{answer_create, answer_remove, answer_rename, answer_stat, answer_meta}
use Rattle.table_model.specs.Opening.{answer_open}
use Rattle.table_model.specs.Flat.{answer}
use Rattle.table_model.specs.Steps.{is_refusal, done_steps}
use Rattle.table_model.specs.Window.{settled_at}
use Rattle.image_model.specs.Tables.{table_of}
use Rattle.image_model.specs.Tidy.{IsTidy, HasReserve}
use Rattle.std.specs.List.{Contains}
use Rattle.image_model.specs.Sound.{IsSound}
use Rattle.trim_laws.specs.Upkeep.{Upkeep}
use Rattle.trim_laws.proofs.Wears.{upkeep_none}
use Rattle.flash_view.specs.declared.kinds.StepErr.{StepErr}
use Rattle.flash_view.specs.declared.kinds.StepErr.TheVariants.{DeviceFault as StepFault, Damaged as StepDamaged}
use Rattle.flash_view.specs.declared.view.View.{View}
use Rattle.flash_view.specs.Same.{OnlyLooks}
use Rattle.flash_view.specs.Steps.{Step, Errors, Stepped, as_fs_err, stopped}
use Rattle.flash_view.proofs.Stepped.{fails_as}
use Rattle.table_model.specs.Steps.{steps}
use Rattle.table_model.specs.Window.{IsAmong}
use Rattle.file_calls.specs.Replies.{is_of_name, is_of_slots, is_of_descriptor, is_early, meets, may_meet, may_show, has_name, is_change, is_write, reads_file, keeps_slots, may_answer, names_fault, reply_of, is_calm}
use Rattle.file_calls.specs.Slots.{slots_fault, IsNumbered}
use Rattle.file_calls.specs.Moves.{with_slots, Moves}
use Rattle.fd_table.specs.declared.slot.FdSlot.{FdSlot}
use Rattle.fd_table.specs.Slots.{descriptors}
use Rattle.header_laws.proofs.Telling.{found-by_id}
use Rattle.call_model.specs.Memory.{OpensFiles}
use Rattle.call_model.specs.Tables.{NamesById}
use Rattle.call_model.proofs.Opens.{opens_kept}
use Rattle.file_calls.specs.declared.told.Told.{Told}
use Rattle.file_calls.specs.declared.told.Told.TheVariants.{Done, Number as AsNumber, Bytes, File as AsFile, NoMore, Room, Refusal}
use Rattle.image_model.specs.Tidy.{has_spare}
use Rattle.room_laws.specs.Recovery.{Recovers}
use Rattle.room_laws.proofs.Staying.{reserve_mends}
use Rattle.file_calls.specs.States.{IsImageOf}
use Rattle.file_calls.specs.Collecting.{MayStop, refusing, RoomCut}
use Rattle.file_calls.specs.Cleans.{index_taken, rest_taken, CleansFor, Taken, CleansInTurns, Turned, WritesNoTail}
use Rattle.file_calls.proofs.Numbered.{name_of_slots, names_barred, numbered_fine, numbered_refused}
use Rattle.file_calls.specs.Goes.{CallCut, Reaches, IsDoable, IsCornerOn, StopsShort, StaysAt, IsCollected, IsGiven, Goes}
use Rattle.file_calls.proofs.CleansBy.{cleans_as, cleans_reads, taken_as, taken_after}
use Rattle.file_calls.proofs.TurnsBy.{index_few, rest_few, some_among, few_once, few_more, turns_none, turns_once, turns_as, turned_after}

-- the exit of a `?` that gives one error
pub err_is : {T E : Type 0} {why : E} (r : Result T E) → IsErrAnd r (λ e. e ≡ why) → r ≡ Err why
err_is (Ok x) h = absurd h
err_is (Err e) h = ap Err h

-- ---- the flat table

-- a call whose names are refused
pub names_first : (g : Geometry) (spare : Bool) (s : State) (ask : Ask) (why : FsErr) → names_fault ask ≡ Some why → answer g spare s ask ≡ refused why s
unfolding answer answer_create answer_open answer_remove answer_rename answer_stat answer_meta
names_first g spare s (Creates name) why e = rw e refl
names_first g spare s (Opens name flags) why e = rw e refl
names_first g spare s (Removes name) why e = rw e refl
names_first g spare s (Renames old_name new_name) why e = rw e refl
names_first g spare s (Stats name) why e = rw e refl
names_first g spare s (SetsMeta name meta) why e = rw e refl
names_first g spare s _ why e = absurd (let no : None ≡ Some why = e in cc)

-- a call that the flat table answers: each but garbage collection
abbrev pub is_flat : Ask → Bool
is_flat Collects = false
is_flat ask = true

pub not_collects : (ask : Ask) → is_flat ask ≡ true → ask ≡ Collects → ⊥
not_collects ask flat is = let no : true ≡ false = sym flat ∙ ap is_flat is in cc

-- the flat table does a call, and this is the one step of it
pub record IsOneStep (g : Geometry) (spare : Bool) (s : State) (ask : Ask) (reply : Answer) (files : List File) : Type 0 where
  pub answer_is : (answer g spare s ask).answer ≡ reply
  pub table_is : (answer g spare s ask).next.table ≡ files
  pub steps_are : steps g spare s ask ≡ files ∷ []

pub one_step : (g : Geometry) (spare : Bool) (s next : State) (ask : Ask) (reply : Answer) → is_refusal reply ≡ false → answer g spare s ask ≡ gives reply next → done_steps g s ask next.table ≡ next.table ∷ [] → IsOneStep g spare s ask reply next.table
unfolding steps
one_step g spare s next ask reply other e one = record {
  answer_is = ap (λ (o : Outcome). o.answer) e;
  table_is = ap (λ (o : Outcome). o.next.table) e;
  steps_are = rw (e, other) one;
}

-- a call of one step publishes the table after it
pub one_does : (g : Geometry) (image : List ℕ) (s : State) (ask : Ask) (reply : Answer) (files : List File) → is_refusal reply ≡ false → IsOneStep g (has_spare g image) s ask reply files → IsDoable g image s ask
unfolding IsAmong
one_does g image s ask reply files other one = record {
  done = ap is_refusal one.answer_is ∙ other;
  publishes = inr (subst (λ (all : List (List File)). IsAmong (answer g (has_spare g image) s ask).next.table all) (sym one.steps_are) (inl one.table_is));
}

-- a state with its own descriptors
pub same_slots : (s : State) (slots : List (Option Open)) → slots ≡ s.slots → with_slots slots s ≡ s
same_slots s slots e = rw e refl

-- ---- images

pub is_first : (t u : List File) (us : List (List File)) → t ≡ u → IsAmong t (u ∷ us)
unfolding IsAmong
is_first t u us e = inl e

is_second : (t u v : List File) (us : List (List File)) → t ≡ v → IsAmong t (u ∷ v ∷ us)
unfolding IsAmong
is_second t u v us e = inr (inl e)

-- in or after any of several steps
pub is_at : (t : List File) (us : List (List File)) (k : ℕ) → k < length us → t ≡ get_or us k [] → IsAmong t us
unfolding IsAmong
is_at t [] k less e = absurd (omega arith)
is_at t (u ∷ us) zero less e = inl e
is_at t (u ∷ us) (suc k) less e = inr (is_at t us k (omega arith) e)

-- a tidy image is sound with respect to each
pub tidy_sound : (g : Geometry) (image first : List ℕ) → IsTidy g image → IsSound g image first
tidy_sound g image first tidy = record {
  magics = record { one = λ b c under over none also. absurd (let has : true ≡ false = sym (tidy.magic b under) ∙ none in cc) };
  mixed = λ block h. absurd (let no : true ≡ false = sym h.names ∙ tidy.unmixed h.p h.q h.x h.y h.p_is h.q_is (h.p_at ∙ sym h.q_at) ∙ h.holds in cc);
  damaged = λ id h. let none : Contains {X = ℕ} [] id = rw tidy.undamaged at h in absurd (omega (arith, none.1));
}

-- nothing is done to an image for pages
pub room_stays : (g : Geometry) (image : List ℕ) → IsTidy g image → RoomCut g image image
room_stays g image tidy = record { keeps = record { sound = tidy_sound g image image tidy; table = refl }; mends = λ reserve. reserve_mends g image reserve }

-- an image that stays
pub stays : (g : Geometry) (image : List ℕ) (s : State) (ask : Ask) → IsTidy g image → s.table ≡ table_of g image → CallCut g s ask image image
unfolding settled_at
stays g image s ask tidy same = record {
  sound = tidy_sound g image image tidy;
  mends = λ reserve. reserve_mends g image reserve;
  table = is_first (table_of g image) s.table (steps g (has_spare g image) s ask) (sym same);
}

-- an image in or after the one step of a call: the table before it, or the one after it
pub before_or_after : (g : Geometry) (was image : List ℕ) (s : State) (ask : Ask) (reply : Answer) (files : List File) → IsOneStep g (has_spare g was) s ask reply files → s.table ≡ table_of g was → IsSound g image was → (HasReserve g was → Recovers g image) →
    (table_of g image ≡ table_of g was) ⊎ (table_of g image ≡ files) → CallCut g s ask was image
unfolding settled_at
before_or_after g was image s ask reply files one same sound mends table = record {
  sound = sound;
  mends = mends;
  table = ⊎_elim
      (λ (before : table_of g image ≡ table_of g was). is_first (table_of g image) s.table (steps g (has_spare g was) s ask) (before ∙ sym same))
      (λ (after : table_of g image ≡ files). rw one.steps_are (is_second (table_of g image) s.table files [] after))
      table;
}

-- ---- replies

pub refuses_same : (v w : FsErr) → Refuses v ≡ Refuses w → v ≡ w
refuses_same v w e = cc

-- a refusal that needs no byte of the device is no fault, no page that reads otherwise, and no want of room
no_slots : (why : FsErr) → is_of_slots why ≡ true → (why ≡ DeviceFault → ⊥) × ((d : Differ) → why ≡ Damaged d → ⊥) × (why ≡ Tight → ⊥)
no_slots BadName e = (λ x. cc, λ d x. cc, λ x. cc)
no_slots NameTooLong e = (λ x. cc, λ d x. cc, λ x. cc)
no_slots BadFlags e = (λ x. cc, λ d x. cc, λ x. cc)
no_slots BadDescriptor e = (λ x. cc, λ d x. cc, λ x. cc)
no_slots OutOfDescriptors e = (λ x. cc, λ d x. cc, λ x. cc)
no_slots NotReadable e = (λ x. cc, λ d x. cc, λ x. cc)
no_slots NotWritable e = (λ x. cc, λ d x. cc, λ x. cc)
no_slots _ e = absurd (let no : false ≡ true = e in cc)

-- what a look meets is none of these, and no page that reads otherwise
record IsEarly (why : FsErr) : Type 0 where
  no_slots : is_of_slots why ≡ true → ⊥
  undamaged : (d : Differ) → why ≡ Damaged d → ⊥

early : (why : FsErr) → is_early why ≡ true → IsEarly why
early BadName e = absurd (let no : false ≡ true = e in cc)
early NameTooLong e = absurd (let no : false ≡ true = e in cc)
early BadFlags e = absurd (let no : false ≡ true = e in cc)
early BadDescriptor e = absurd (let no : false ≡ true = e in cc)
early OutOfDescriptors e = absurd (let no : false ≡ true = e in cc)
early NotReadable e = absurd (let no : false ≡ true = e in cc)
early NotWritable e = absurd (let no : false ≡ true = e in cc)
early (Damaged d) e = absurd (let no : false ≡ true = e in cc)
early _ e = record { no_slots = λ x. let no : false ≡ true = x in cc; undamaged = λ d x. cc }

pub no_refusal : (reply : Answer) (why : FsErr) → is_refusal reply ≡ false → reply ≡ Refuses why → ⊥
no_refusal reply why other e = let no : true ≡ false = sym (ap is_refusal e) ∙ other in cc

pub or_first : (a b : Bool) → a ≡ true → (a || b) ≡ true
or_first true b e = refl
or_first false b e = absurd (let no : false ≡ true = e in cc)

both_true : (a b : Bool) → a ≡ true → b ≡ true → (a && b) ≡ true
both_true true b e f = f
both_true false b e f = absurd (let no : false ≡ true = e in cc)

pub or_last : (a b : Bool) → b ≡ true → (a || b) ≡ true
or_last true b e = refl
or_last false b e = e

-- ---- over a device

-- the table of an image goes by its ids
pub table_names : (g : Geometry) (image : List ℕ) → NamesById (table_of g image)
table_names g image name f at = (found-by_id g image f).0 name at

pub names_by : (g : Geometry) (image : List ℕ) (s : State) → s.table ≡ table_of g image → NamesById s.table
names_by g image s same = subst NamesById (sym same) (table_names g image)

-- the turns in which a write cleans
abbrev pub TurnsFor : {D : Type 0} (nor : NorOf D) (g : Geometry) (old new : D) (slots : List FdSlot) (ask : Ask) (reply : Answer) → Type 0
TurnsFor nor g old new slots ask reply = (s : State) → IsImageOf nor g old slots s → is_write ask ≡ true →
    CleansInTurns nor g (WritesNoTail g (nor.bytes old) s ask) (length (steps g (has_spare g (nor.bytes old)) s ask)) old new (reply ≡ Refuses DeviceFault)

-- what any answer is, whatever the device tells
pub record IsFit (g : Geometry) (ask : Ask) (slots after : List FdSlot) (wrote : Bool) (reply : Answer) : Type 0 where
  pub among : may_answer ask reply ≡ true
  pub brief : (bytes : List ℕ) → reply ≡ Gives bytes → IsGiven ask bytes
  pub numbered : IsNumbered g slots ask reply wrote
  pub still : is_refusal reply ≡ true → after ≡ slots
  pub keeps : keeps_slots ask ≡ true → after ≡ slots

pub no_gift : (reply : Answer) (bytes : List ℕ) → is_refusal reply ≡ true → reply ≡ Gives bytes → ⊥
no_gift reply bytes refusal e = let no : false ≡ true = sym (ap is_refusal e) ∙ refusal in cc

module _ {D : Type 0} {nor : NorOf D} {g : Geometry} {slots : List FdSlot} where
  -- reads leave the image
  pub reads_cuts : {old new : D} (ask : Ask) → OnlyReads nor old new → Changes nor old new (λ was image. (s : State) → IsImageOf nor g old slots s → CallCut g s ask was image)
  reads_cuts {old} {new} ask reads = read_after (unchanged old (λ was image. (s : State) → IsImageOf nor g old slots s → CallCut g s ask was image) (λ tells s here. stays g (nor.bytes old) s ask here.tidy here.table)) reads

  pub reads_upkeep : {old new : D} → OnlyReads nor old new → Changes nor old new (λ was image. (s : State) → IsImageOf nor g old slots s → Upkeep g was image)
  reads_upkeep {old} {new} reads = read_after (unchanged old (λ was image. (s : State) → IsImageOf nor g old slots s → Upkeep g was image) (λ tells s here. upkeep_none g (nor.bytes old))) reads

  -- so the device is that of the state with other descriptors
  reads_image : {old new : D} (after : List FdSlot) (s : State) → OnlyReads nor old new → IsImageOf nor g old slots s → OpensFiles (with_slots (descriptors after) s) → IsImageOf nor g new after (with_slots (descriptors after) s)
  reads_image {old} {new} after s reads here opened = record {
    tells = reads.told here.tells;
    tidy = subst (λ (l : List ℕ). IsTidy g l) (sym reads.bytes) here.tidy;
    table = here.table ∙ ap (table_of g) (sym reads.bytes);
    slots = refl;
    opened = opened;
  }

  -- and with these it is that of the state
  pub reads_stay : {old new : D} (s : State) → OnlyReads nor old new → IsImageOf nor g old slots s → IsImageOf nor g new slots s
  reads_stay s reads here = record {
    tells = reads.told here.tells;
    tidy = subst (λ (l : List ℕ). IsTidy g l) (sym reads.bytes) here.tidy;
    table = here.table ∙ ap (table_of g) (sym reads.bytes);
    slots = here.slots;
    opened = here.opened;
  }

  -- what a call does, by its parts
  pub goes_by : {old new : D} {after : List FdSlot} (ask : Ask) (reply : Answer) (wrote : Bool) → IsFit g ask slots after wrote reply → Changes nor old new (λ was image. (s : State) → IsImageOf nor g old slots s → CallCut g s ask was image) →
      Changes nor old new (λ was image. (s : State) → IsImageOf nor g old slots s → Upkeep g was image) → ((s : State) → IsImageOf nor g old slots s → (reply ≡ Refuses DeviceFault → ⊥) → (StopsShort g (nor.bytes old) s ask reply → ⊥) → Reaches nor g old new after s ask reply) → ((s : State) → IsImageOf nor g old slots s → ask ≡ Collects → IsCollected g reply (nor.bytes old) (nor.bytes new) (nor.device_writes old) (nor.device_writes new)) →
      ((s : State) → IsImageOf nor g old slots s → IsCornerOn g (nor.bytes old) s ask → reply ≡ Refuses Tight → StaysAt nor g new after s) → ((s : State) → IsImageOf nor g old slots s → wrote ≡ true → IsDoable g (nor.bytes old) s ask) → (wrote ≡ false → OnlyReads nor old new) → (reply ≡ Refuses DeviceFault → Rose (nor.faults old) (nor.faults new)) →
      ((d : Differ) → reply ≡ Refuses (Damaged d) → (d.wanted ≢ d.found) × ((s : State) → IsImageOf nor g old slots s → ⊥)) → (is_change ask ≡ false → wrote ≡ false) →
      ((why : FsErr) → slots_fault g (descriptors slots) ask ≡ Some why → new ≡ old) →
      ((s : State) → IsImageOf nor g old slots s → is_write ask ≡ false → (ask ≡ Collects → ⊥) → CleansFor nor g (index_taken ask) 0 (rest_taken g ask) old new (reply ≡ Refuses DeviceFault)) → TurnsFor nor g old new slots ask reply → Goes nor g ask old new slots after wrote reply
  goes_by ask reply wrote fit cuts upkeep answers collects cornered begun untouched cause differs looks quiet cleans turns = record {
    does = record {
      cuts = cuts;
      upkeep = upkeep;
      collects = collects;
      cornered = cornered;
      begun = begun;
      untouched = untouched;
      still = fit.still;
      keeps = fit.keeps;
      cause = cause;
      differs = λ d e. (differs d e).0;
      undamaged = λ s here d e. (differs d e).1 s here;
      among = fit.among;
      brief = fit.brief;
      numbered = fit.numbered;
      looks = looks;
      cleans = cleans;
      turns = turns;
    };
    answers = answers;
    quiet = quiet;
  }

  -- A call that only read, and was answered as the flat table is, which leaves the table.
  goes_read : {old new : D} {after : List FdSlot} (ask : Ask) (reply : Answer) (wrote : Bool) → wrote ≡ false → OnlyReads nor old new → is_flat ask ≡ true → IsFit g ask slots after wrote reply → ((why : FsErr) → slots_fault g (descriptors slots) ask ≡ Some why → new ≡ old) →
      ((s : State) → IsImageOf nor g old slots s → (reply ≡ Refuses DeviceFault → ⊥) → answer g (has_spare g (nor.bytes old)) s ask ≡ gives reply (with_slots (descriptors after) s)) →
      (reply ≡ Refuses DeviceFault → Rose (nor.faults old) (nor.faults new)) →
      ((d : Differ) → reply ≡ Refuses (Damaged d) → (d.wanted ≢ d.found) × ((s : State) → IsImageOf nor g old slots s → ⊥)) → Goes nor g ask old new slots after wrote reply
  goes_read {old} {new} {after} ask reply wrote none reads flat fit quiet is cause differs = goes_by ask reply wrote fit (reads_cuts ask reads) (reads_upkeep reads)
      (λ s here no_fault whole. let e = is s here no_fault in record {
        reply_is = sym (ap (λ (o : Outcome). o.answer) e);
        holds = subst (λ (n : State). IsImageOf nor g new after n) (sym (ap (λ (o : Outcome). o.next) e))
            (reads_image after s reads here (subst (λ (o : Outcome). OpensFiles o.next) e (opens_kept g (has_spare g (nor.bytes old)) s ask (names_by g (nor.bytes old) s here.table) here.opened)));
        reserve = λ reserve. subst (λ (l : List ℕ). HasReserve g l) (sym reads.bytes) reserve;
        reads = λ refusal. reads;
      })
      (λ s here collects. absurd (not_collects ask flat collects))
      (λ s here corner tight.
      let told = is s here (λ fault. let no : Tight ≡ DeviceFault = refuses_same Tight DeviceFault (sym tight ∙ fault) in cc) in
      absurd (let no : true ≡ false = sym (ap (λ (o : Outcome). is_refusal o.answer) told ∙ ap is_refusal tight) ∙ corner.done in cc))
      (λ s here w. absurd (let no : true ≡ false = sym w ∙ none in cc))
      (λ w. reads) cause differs (λ look. none) quiet (λ s here write other. cleans_reads (room_stays g (nor.bytes old) here.tidy) reads) (λ s here write. turns_none reads)

  -- a call that was answered with a look, and moved descriptors
  pub goes_moved : {old new : D} {after : List FdSlot} (ask : Ask) (reply : Answer) (wrote : Bool) → wrote ≡ false → OnlyReads nor old new → is_flat ask ≡ true → slots_fault g (descriptors slots) ask ≡ None → is_refusal reply ≡ false → may_answer ask reply ≡ true →
      ((bytes : List ℕ) → reply ≡ Gives bytes → IsGiven ask bytes) → (keeps_slots ask ≡ true → after ≡ slots) →
      ((s : State) → IsImageOf nor g old slots s → answer g (has_spare g (nor.bytes old)) s ask ≡ gives reply (with_slots (descriptors after) s)) → Goes nor g ask old new slots after wrote reply
  goes_moved ask reply wrote none reads flat fine other may brief keeps is = goes_read ask reply wrote none reads flat
      (record { among = may; brief = brief; numbered = numbered_fine g slots ask reply wrote fine (λ why of e. no_refusal reply why other e); still = λ refusal. absurd (let no : true ≡ false = sym refusal ∙ other in cc); keeps = keeps })
      (λ why e. absurd (let no : None ≡ Some why = sym fine ∙ e in cc))
      (λ s here no_fault. is s here)
      (λ e. absurd (no_refusal reply DeviceFault other e))
      (λ d e. absurd (no_refusal reply (Damaged d) other e))

  -- and left them
  pub goes_shown : {old new : D} (ask : Ask) (reply : Answer) (wrote : Bool) → wrote ≡ false → OnlyReads nor old new → is_flat ask ≡ true → slots_fault g (descriptors slots) ask ≡ None → is_refusal reply ≡ false → may_answer ask reply ≡ true →
      ((bytes : List ℕ) → reply ≡ Gives bytes → IsGiven ask bytes) → ((s : State) → IsImageOf nor g old slots s → answer g (has_spare g (nor.bytes old)) s ask ≡ gives reply s) → Goes nor g ask old new slots slots wrote reply
  goes_shown ask reply wrote none reads flat fine other may brief is = goes_moved ask reply wrote none reads flat fine other may brief (λ k. refl)
      (λ s here. is s here ∙ ap (λ (n : State). gives reply n) (sym (same_slots s (descriptors slots) here.slots)))

  -- A call with accepted arguments that was refused, or that met a fault, before it asked for a program or an erase.
  pub goes_refused : {T : Type 0} {old new : D} (ask : Ask) (why : FsErr) (wrote : Bool) → wrote ≡ false → OnlyReads nor old new → is_flat ask ≡ true → slots_fault g (descriptors slots) ask ≡ None → may_meet ask why ≡ true →
      (IsErrOf {T = T} (Err why) DeviceFault → Rose (nor.faults old) (nor.faults new)) →
      ((s : State) → IsImageOf nor g old slots s → (why ≡ DeviceFault → ⊥) → answer g (has_spare g (nor.bytes old)) s ask ≡ refused why s) → Goes nor g ask old new slots slots wrote (Refuses why)
  goes_refused {T} {old} {new} ask why wrote none reads flat fine met cause is =
      let w = early why (and_parts (is_early why) (meets ask why) met).0 in
      goes_read ask (Refuses why) wrote none reads flat
      (record {
        among = or_first (may_meet ask why) _ met;
        brief = λ bytes e. absurd (no_gift (Refuses why) bytes refl e);
        numbered = numbered_fine g slots ask (Refuses why) wrote fine (λ v of e. w.no_slots (subst (λ (x : FsErr). is_of_slots x ≡ true) (sym (refuses_same why v e)) of));
        still = λ refusal. refl;
        keeps = λ k. refl;
      })
      (λ v e. absurd (let no : None ≡ Some v = sym fine ∙ e in cc))
      (λ s here no_fault. is s here (λ fault. no_fault (ap (λ (v : FsErr). Refuses v) fault)) ∙ ap (λ (n : State). gives (Refuses why) n) (sym (same_slots s (descriptors slots) here.slots)))
      (λ e. cause (ap (λ (v : FsErr). Err v) (refuses_same why DeviceFault e)))
      (λ d e. absurd (w.undamaged d (refuses_same why (Damaged d) e)))

  -- A look for a page of a file that found it not to be there: the device isn't one that stands at a state.
  pub goes_missed : {old new : D} (ask : Ask) (d : Differ) (wrote : Bool) → wrote ≡ false → OnlyReads nor old new → is_flat ask ≡ true → slots_fault g (descriptors slots) ask ≡ None → (is_change ask || reads_file ask) ≡ true → d.wanted ≢ d.found →
      ((s : State) → IsImageOf nor g old slots s → ⊥) → Goes nor g ask old new slots slots wrote (Refuses (Damaged d))
  goes_missed {old} {new} ask d wrote none reads flat fine reader apart never = goes_read ask (Refuses (Damaged d)) wrote none reads flat
      (record {
        among = or_last (may_meet ask (Damaged d)) _ (or_last (may_show ask (Damaged d)) _ (both_true (is_change ask || reads_file ask) true reader refl));
        brief = λ bytes e. absurd (no_gift (Refuses (Damaged d)) bytes refl e);
        numbered = numbered_fine g slots ask (Refuses (Damaged d)) wrote fine (λ v of e. (no_slots v of).1 d (sym (refuses_same (Damaged d) v e)));
        still = λ refusal. refl;
        keeps = λ k. refl;
      })
      (λ v e. absurd (let no : None ≡ Some v = sym fine ∙ e in cc))
      (λ s here no_fault. absurd (never s here))
      (λ e. absurd (let no : Damaged d ≡ DeviceFault = refuses_same (Damaged d) DeviceFault e in cc))
      (λ x e. let same : d ≡ x = (let f : Damaged d ≡ Damaged x = refuses_same (Damaged d) (Damaged x) e in cc) in (subst (λ (y : Differ). y.wanted ≢ y.found) same apart, never))

  -- A call that its arguments or the descriptors refuse: it asks nothing of the device.
  pub goes_barred : {d : D} (ask : Ask) (why : FsErr) (wrote : Bool) → wrote ≡ false → OnlyReads nor d d → is_flat ask ≡ true → may_answer ask (Refuses why) ≡ true → is_of_slots why ≡ true → slots_fault g (descriptors slots) ask ≡ Some why →
      ((s : State) → IsImageOf nor g d slots s → answer g (has_spare g (nor.bytes d)) s ask ≡ refused why s) → Goes nor g ask d d slots slots wrote (Refuses why)
  goes_barred {d} ask why wrote none reads flat may of fault is =
      let no = no_slots why of in
      goes_read ask (Refuses why) wrote none reads flat
      (record {
        among = may;
        brief = λ bytes e. absurd (no_gift (Refuses why) bytes refl e);
        numbered = numbered_refused g slots ask why wrote fault none;
        still = λ refusal. refl;
        keeps = λ k. refl;
      })
      (λ v e. refl)
      (λ s here no_fault. is s here ∙ ap (λ (n : State). gives (Refuses why) n) (sym (same_slots s (descriptors slots) here.slots)))
      (λ e. absurd (no.0 (refuses_same why DeviceFault e)))
      (λ x e. absurd (no.1 x (refuses_same why (Damaged x) e)))

  -- a call whose names are refused
  pub goes_named : {d : D} (ask : Ask) (why : FsErr) (wrote : Bool) → wrote ≡ false → OnlyReads nor d d → is_flat ask ≡ true → has_name ask ≡ true → is_of_name why ≡ true → names_fault ask ≡ Some why → Goes nor g ask d d slots slots wrote (Refuses why)
  goes_named {d} ask why wrote none reads flat takes name fault =
      goes_barred ask why wrote none reads flat
      (or_last (may_meet ask why) _ (or_first (may_show ask why) _ (or_first (has_name ask && is_of_name why) _ (both_true (has_name ask) (is_of_name why) takes name))))
      (name_of_slots why name) (names_barred g (descriptors slots) ask why fault) (λ s here. names_first g (has_spare g (nor.bytes d)) s ask why fault)

-- ---- calls that ask nothing of the device

calm_reply : (result : Result Told FsErr) (into : List ℕ) → is_calm (reply_of result []) ≡ true → reply_of result into ≡ reply_of result []
calm_reply (Ok Done) into e = refl
calm_reply (Ok (AsNumber n)) into e = refl
calm_reply (Ok (Bytes n)) into e = absurd (let no : false ≡ true = e in cc)
calm_reply (Ok (AsFile stat)) into e = refl
calm_reply (Ok NoMore) into e = refl
calm_reply (Ok (Room info)) into e = refl
calm_reply (Ok (Refusal why)) into e = refl
calm_reply (Err why) into e = refl

-- such an answer is no fault, no damage and no bytes
record IsCalm (reply : Answer) : Type 0 where
  fault : reply ≡ Refuses DeviceFault → ⊥
  damage : (d : Differ) → reply ≡ Refuses (Damaged d) → ⊥
  bytes : (bytes : List ℕ) → reply ≡ Gives bytes → ⊥

calm_no : (reply : Answer) (why : FsErr) → is_of_descriptor why ≡ false → is_calm reply ≡ true → reply ≡ Refuses why → ⊥
calm_no reply why other calm e = let no : true ≡ false = sym calm ∙ ap is_calm e ∙ other in cc

is_calm_so : (reply : Answer) → is_calm reply ≡ true → IsCalm reply
is_calm_so reply calm = record {
  fault = calm_no reply DeviceFault refl calm;
  damage = λ d. calm_no reply (Damaged d) refl calm;
  bytes = λ bytes e. let no : true ≡ false = sym calm ∙ ap is_calm e in cc;
}

pub goes_by_slots : {D : Type 0} {nor : NorOf D} {g : Geometry} {d : D} {slots after : List FdSlot} {result : Result Told FsErr} (ask : Ask) (into : List ℕ) (wrote : Bool) → Moves ask slots after result → wrote ≡ false → OnlyReads nor d d → is_flat ask ≡ true →
    (keeps_slots ask ≡ true → after ≡ slots) → Goes nor g ask d d slots after wrote (reply_of result into)
goes_by_slots {D} {nor} {g} {d} {slots} {after} {result} ask into wrote moves none reads flat keeps =
    let w = is_calm_so (reply_of result []) moves.calm in
    rw (calm_reply result into moves.calm) (goes_read ask (reply_of result []) wrote none reads flat
    (record {
      among = moves.among;
      brief = λ bytes e. absurd (w.bytes bytes e);
      numbered = subst (λ (b : Bool). IsNumbered g slots ask (reply_of result []) b) (sym none) (moves.numbered g);
      still = moves.still;
      keeps = keeps;
    })
    (λ v e. refl)
    (λ s here no_fault. moves.answers g (has_spare g (nor.bytes d)) s here.slots)
    (λ e. absurd (w.fault e))
    (λ x e. absurd (w.damage x e)))

-- ---- after a look

pub err_same : {T : Type 0} (v w : FsErr) → IsErrOf {T = T} (Err v) w → v ≡ w
err_same v w e = cc

-- a count that rose later has risen
pub rose_later : (a b c : ℕ) → a ≤ b → Rose b c → Rose a c
rose_later a b c le rose = grind arith

-- what is told after a look is told before it
pub looked_back : {N : Type 0} {nor : NorOf N} {old mid : View N nor} (P : Geometry → List ℕ → Type 0) → OnlyLooks old mid → (nor.tells mid.nor.now → IsTidy mid.geometry (nor.bytes mid.nor.now) → P mid.geometry (nor.bytes mid.nor.now)) →
    nor.tells old.nor.now → IsTidy old.geometry (nor.bytes old.nor.now) → P old.geometry (nor.bytes old.nor.now)
looked_back P looks told tells tidy = (rw (looks.same.geometry, looks.reads.bytes) at told) (looks.reads.told tells) tidy

-- and what is told before it is told after it
pub looked_on : {N : Type 0} {nor : NorOf N} {old mid : View N nor} (P : Geometry → List ℕ → Type 0) → OnlyLooks old mid → (nor.tells old.nor.now → IsTidy old.geometry (nor.bytes old.nor.now) → P old.geometry (nor.bytes old.nor.now)) →
    nor.tells mid.nor.now → IsTidy mid.geometry (nor.bytes mid.nor.now) → P mid.geometry (nor.bytes mid.nor.now)
looked_on {old = old} {mid = mid} P looks told tells tidy =
    let before = told (looks.reads.told_before tells) (rw (looks.same.geometry, looks.reads.bytes) at tidy) in
    rw (looks.same.geometry, looks.reads.bytes) before

-- ---- steps

-- What a step leaves that is done: the flat table's answer and its table, and two free blocks where there were two. `after` are the
-- descriptors then.
pub record Makes (g : Geometry) (was : List ℕ) (s : State) (ask : Ask) (reply : Answer) (after : List (Option Open)) (now : List ℕ) : Type 0 where
  pub answer_is : (answer g (has_spare g was) s ask).answer ≡ reply
  pub tidy : IsTidy g now
  pub table : (answer g (has_spare g was) s ask).next.table ≡ table_of g now
  pub slots : after ≡ (answer g (has_spare g was) s ask).next.slots
  pub reserve : HasReserve g was → HasReserve g now

-- A step does a call: where the image is that of a state it may be done, and what it leaves and the reply are what the flat table
-- says.
pub record IsStep {D : Type 0} (nor : NorOf D) (g : Geometry) (slots : List FdSlot) (ask : Ask) (reply : Answer) (after : List (Option Open)) (old : D) (step : Step (Unit {0})) : Type 0 where
  pub can : (s : State) → IsImageOf nor g old slots s → step.needs g (nor.bytes old)
  pub cut : (s : State) → IsImageOf nor g old slots s → (image : List ℕ) → step.cut g (nor.bytes old) image → CallCut g s ask (nor.bytes old) image
  pub done : (s : State) → IsImageOf nor g old slots s → (now : List ℕ) → step.done g (nor.bytes old) now tt → Makes g (nor.bytes old) s ask reply after now
  pub doable : (s : State) → IsImageOf nor g old slots s → IsDoable g (nor.bytes old) s ask

-- what a step of a call is refused with needed a look
pub stop_slots : (why : FsErr) → MayStop why → (w : FsErr) → is_of_slots w ≡ true → Refuses why ≡ Refuses w → ⊥
stop_slots DeviceFault may w of e = (no_slots w of).0 (sym (refuses_same DeviceFault w e))
stop_slots (Damaged d) may w of e = (no_slots w of).1 d (sym (refuses_same (Damaged d) w e))
stop_slots Tight may w of e = (no_slots w of).2 (sym (refuses_same Tight w e))
stop_slots _ may w of e = absurd may

-- a page that reads otherwise tells two tags that differ
pub stop_apart : (why : FsErr) (d : Differ) → MayStop why → why ≡ Damaged d → d.wanted ≢ d.found
stop_apart why d may e = subst MayStop e may

-- and any call that may ask for a program or an erase may be answered so
stop_among : (ask : Ask) (why : FsErr) → MayStop why → is_change ask ≡ true → may_answer ask (Refuses DeviceFault) ≡ true → may_answer ask (Refuses Tight) ≡ true → may_answer ask (Refuses why) ≡ true
stop_among ask DeviceFault may change fault tight = fault
stop_among ask (Damaged d) may change fault tight =
    or_last (may_meet ask (Damaged d)) _ (or_last (may_show ask (Damaged d)) _ (both_true (is_change ask || reads_file ask) true (or_first (is_change ask) (reads_file ask) change) refl))
stop_among ask Tight may change fault tight = tight
stop_among ask _ may change fault tight = absurd may

-- how a step failed, as a call tells it
pub step_stops : (why : StepErr) → stopped.means why → MayStop (as_fs_err why)
step_stops StepFault means = tt
step_stops (StepDamaged d) means = means

pub fault_is : (why : StepErr) → as_fs_err why ≡ DeviceFault → why ≡ StepFault
fault_is StepFault e = refl
fault_is (StepDamaged d) e = absurd (cc)

pub step_among : (ask : Ask) (why : StepErr) → is_change ask ≡ true → may_answer ask (Refuses DeviceFault) ≡ true → may_answer ask (Refuses (as_fs_err why)) ≡ true
step_among ask StepFault change fault = fault
step_among ask (StepDamaged d) change fault =
    or_last (may_meet ask (Damaged d)) _ (or_last (may_show ask (Damaged d)) _ (both_true (is_change ask || reads_file ask) true (or_first (is_change ask) (reads_file ask) change) refl))

pub step_fails : {N : Type 0} {nor : NorOf N} {old new : View N nor} {step : Step (Unit {0})} {why : StepErr} → Stepped stopped old new (Err why) step → Stepped refusing old new (Err (as_fs_err why)) step
step_fails {why = why} call = fails_as call (fault_is why) (λ e. ap as_fs_err e) (step_stops why call.means) (λ tells need. record { needs = need; cut = λ c cut. cut })

-- the blocks that a call cleaned which is no write
abbrev pub CleansIn : {N : Type 0} {nor : NorOf N} (old new : View N nor) (slots : List FdSlot) (ask : Ask) (reply : Answer) → Type 0
CleansIn {nor = nor} old new slots ask reply = (s : State) → IsImageOf nor old.geometry old.nor.now slots s → is_write ask ≡ false → CleansFor nor old.geometry (index_taken ask) 0 (rest_taken old.geometry ask) old.nor.now new.nor.now (reply ≡ Refuses DeviceFault)

-- a call that the flat table does publishes a step, unless it is for garbage collection
pub some_steps : (g : Geometry) (image : List ℕ) (s : State) (ask : Ask) → is_flat ask ≡ true → IsDoable g image s ask → 1 ≤ length (steps g (has_spare g image) s ask)
some_steps g image s ask flat does = ⊎_elim
    (λ (collects : ask ≡ Collects). absurd (not_collects ask flat collects))
    (λ (among : IsAmong (answer g (has_spare g image) s ask).next.table (steps g (has_spare g image) s ask)). some_among (answer g (has_spare g image) s ask).next.table (steps g (has_spare g image) s ask) among)
    does.publishes

-- So a write may clean in turns as its step does, of so many parts: where it needs no tail made ready, nor does the step, and it publishes as many.
pub record IsTurned {D : Type 0} (nor : NorOf D) (g : Geometry) (ready : Geometry → List ℕ → Type 0) (parts : ℕ) (old : D) (slots : List FdSlot) (ask : Ask) : Type 0 where
  pub no_tail : (s : State) → IsImageOf nor g old slots s → WritesNoTail g (nor.bytes old) s ask → ready g (nor.bytes old)
  pub published : (s : State) → IsImageOf nor g old slots s → parts ≤ length (steps g (has_spare g (nor.bytes old)) s ask)

-- a call that took its step after a look
module _ {N : Type 0} {nor : NorOf N} {old mid new : View N nor} {slots : List FdSlot} {step : Step (Unit {0})} {moved : List (Option Open)} (ask : Ask) (reply : Answer) (flat : is_flat ask ≡ true) (change : is_change ask ≡ true) (fine : slots_fault old.geometry (descriptors slots) ask ≡ None)
    (does : IsStep nor old.geometry slots ask reply moved old.nor.now step) (looks : OnlyLooks old mid) (fresh : old.wrote ≡ false) where
  -- by the geometry before the look
  after_looks : {T E : Type 0} {errors : Errors E} {r : Result T E} {taking : Step T} → Taken errors (index_taken ask) 0 (rest_taken mid.geometry ask) mid new r taking → Taken errors (index_taken ask) 0 (rest_taken old.geometry ask) old new r taking
  after_looks {errors = errors} {r = r} {taking = taking} taken = subst (λ (k : Geometry). Taken {nor = nor} errors (index_taken ask) 0 (rest_taken k ask) old new r taking) looks.same.geometry (taken_after looks taken)

  -- the pages of no write were had in one turn
  once : {E : Type 0} {errors : Errors E} {r : Result (Unit {0}) E} {broken : Type 0} → Taken errors (index_taken ask) 0 (rest_taken old.geometry ask) old new r step → (IsErr r → broken) → (s : State) → IsImageOf nor old.geometry old.nor.now slots s → is_write ask ≡ true →
      CleansInTurns nor old.geometry (WritesNoTail old.geometry (nor.bytes old.nor.now) s ask) (length (steps old.geometry (has_spare old.geometry (nor.bytes old.nor.now)) s ask)) old.nor.now new.nor.now broken
  once call on s here write = turns_once 1 (index_few ask) (omega arith) (rest_few old.geometry ask write) (omega arith, omega arith, few_once (some_steps old.geometry (nor.bytes old.nor.now) s ask flat (does.doable s here))) (cleans_as on (call.cleans here.tells (does.can s here)))

  -- those of a write in turns
  in_turns : {E : Type 0} {errors : Errors E} {ready : Geometry → List ℕ → Type 0} {parts : ℕ} {r : Result (Unit {0}) E} {broken : Type 0} → IsTurned nor old.geometry ready parts old.nor.now slots ask → Turned errors ready parts old new r step → (IsErr r → broken) → (s : State) → IsImageOf nor old.geometry old.nor.now slots s →
      CleansInTurns nor old.geometry (WritesNoTail old.geometry (nor.bytes old.nor.now) s ask) (length (steps old.geometry (has_spare old.geometry (nor.bytes old.nor.now)) s ask)) old.nor.now new.nor.now broken
  in_turns {ready = ready} {parts = parts} turned call on s here =
      turns_as on (few_more (ready old.geometry (nor.bytes old.nor.now)) (WritesNoTail old.geometry (nor.bytes old.nor.now) s ask) parts (length (steps old.geometry (has_spare old.geometry (nor.bytes old.nor.now)) s ask)) (turned.no_tail s here) (turned.published s here)) (call.cleans here.tells (does.can s here))

  -- the step was done
  done_by : (last : List FdSlot) → descriptors last ≡ moved → is_refusal reply ≡ false → may_answer ask reply ≡ true → ((bytes : List ℕ) → reply ≡ Gives bytes → ⊥) → (keeps_slots ask ≡ true → last ≡ slots) → Stepped stopped old new (Ok tt) step → CleansIn old new slots ask reply → TurnsFor nor old.geometry old.nor.now new.nor.now slots ask reply → Goes nor old.geometry ask old.nor.now new.nor.now slots last new.wrote reply
  done_by last moves other may no_bytes keeps call cleaned turns =
      goes_by ask reply new.wrote
      (record {
        among = may;
        brief = λ bytes e. absurd (no_bytes bytes e);
        numbered = numbered_fine old.geometry slots ask reply new.wrote fine (λ why of e. no_refusal reply why other e);
        still = λ refusal. absurd (let no : true ≡ false = sym refusal ∙ other in cc);
        keeps = keeps;
      })
      (wider call.cuts (λ tells image cut s here. does.cut s here image (cut (does.can s here))))
      (wider call.upkeep (λ tells image kept s here. kept (does.can s here)))
      (λ s here no_fault whole.
      let made = does.done s here (nor.bytes new.nor.now) (call.ends here.tells (does.can s here)) in
      record {
        reply_is = sym made.answer_is;
        holds = record { tells = call.cuts.cuts.told here.tells; tidy = made.tidy; table = made.table; slots = moves ∙ made.slots; opened = opens_kept old.geometry (has_spare old.geometry (nor.bytes old.nor.now)) s ask (names_by old.geometry (nor.bytes old.nor.now) s here.table) here.opened };
        reserve = made.reserve;
        reads = λ refusal. absurd (let no : true ≡ false = sym refusal ∙ other in cc);
      })
      (λ s here collects. absurd (not_collects ask flat collects))
      (λ s here corner tight. absurd (no_refusal reply Tight other tight))
      (λ s here w. does.doable s here)
      (λ none. call.framed.untouched fresh none)
      (λ e. absurd (no_refusal reply DeviceFault other e))
      (λ d e. absurd (no_refusal reply (Damaged d) other e)) (λ look. absurd (let no : true ≡ false = sym change ∙ look in cc))
      (λ why e. absurd (let no : None ≡ Some why = sym fine ∙ e in cc)) (λ s here write none. cleaned s here write) turns

  pub goes_done : (last : List FdSlot) → descriptors last ≡ moved → is_refusal reply ≡ false → may_answer ask reply ≡ true → ((bytes : List ℕ) → reply ≡ Gives bytes → ⊥) → (keeps_slots ask ≡ true → last ≡ slots) → Taken stopped (index_taken ask) 0 (rest_taken mid.geometry ask) mid new (Ok tt) step → Goes nor old.geometry ask old.nor.now new.nor.now slots last new.wrote reply
  goes_done last moves other may no_bytes keeps taken =
      let call = after_looks taken in
      done_by last moves other may no_bytes keeps call.steps (λ s here write. cleans_as (λ e. absurd (let no : false ≡ true = e in cc)) (call.cleans here.tells (does.can s here)))
      (λ s here write. once call (λ e. absurd (let no : false ≡ true = e in cc)) s here write)

  -- that of a write
  pub goes_written : is_write ask ≡ true → (last : List FdSlot) → descriptors last ≡ moved → is_refusal reply ≡ false → may_answer ask reply ≡ true → ((bytes : List ℕ) → reply ≡ Gives bytes → ⊥) → (keeps_slots ask ≡ true → last ≡ slots) →
      {ready : Geometry → List ℕ → Type 0} {parts : ℕ} → IsTurned nor old.geometry ready parts old.nor.now slots ask → Turned stopped ready parts mid new (Ok tt) step → Goes nor old.geometry ask old.nor.now new.nor.now slots last new.wrote reply
  goes_written is last moves other may no_bytes keeps turned taken =
      let call = turned_after looks taken in
      done_by last moves other may no_bytes keeps call.steps (λ s here write. absurd (let no : true ≡ false = sym is ∙ write in cc)) (λ s here write. in_turns turned call (λ e. absurd (let no : false ≡ true = e in cc)) s here)

  -- it was not
  broken_by : (why : FsErr) → may_answer ask (Refuses why) ≡ true → Stepped refusing old new (Err why) step → CleansIn old new slots ask (Refuses why) → TurnsFor nor old.geometry old.nor.now new.nor.now slots ask (Refuses why) → Goes nor old.geometry ask old.nor.now new.nor.now slots slots new.wrote (Refuses why)
  broken_by why may call cleaned turns = goes_by ask (Refuses why) new.wrote
      (record {
        among = may;
        brief = λ bytes e. absurd (no_gift (Refuses why) bytes refl e);
        numbered = numbered_fine old.geometry slots ask (Refuses why) new.wrote fine (stop_slots why call.means);
        still = λ refusal. refl;
        keeps = λ k. refl;
      })
      (wider call.cuts (λ tells image cut s here. does.cut s here image (cut (does.can s here))))
      (wider call.upkeep (λ tells image kept s here. kept (does.can s here)))
      (λ s here no_fault whole. absurd (no_fault (ap (λ (w : FsErr). Refuses w) (call.ends here.tells (does.can s here)))))
      (λ s here collects. absurd (not_collects ask flat collects))
      (λ s here corner tight. absurd (let no : Tight ≡ DeviceFault = sym (refuses_same why Tight tight) ∙ call.ends here.tells (does.can s here) in cc))
      (λ s here w. does.doable s here)
      (λ none. call.framed.untouched fresh none)
      (λ e. call.cause (ap (λ (w : FsErr). Err w) (refuses_same why DeviceFault e)))
      (λ d e. let is = refuses_same why (Damaged d) e in (stop_apart why d call.means is, λ s here. let no : Damaged d ≡ DeviceFault = sym is ∙ call.ends here.tells (does.can s here) in cc)) (λ look. absurd (let no : true ≡ false = sym change ∙ look in cc))
      (λ v e. absurd (let no : None ≡ Some v = sym fine ∙ e in cc)) (λ s here write none. cleaned s here write) turns

  taken_broken : (why : FsErr) → may_answer ask (Refuses why) ≡ true → Taken refusing (index_taken ask) 0 (rest_taken old.geometry ask) old new (Err why) step → Goes nor old.geometry ask old.nor.now new.nor.now slots slots new.wrote (Refuses why)
  taken_broken why may call = broken_by why may call.steps
      (λ s here write. cleans_as (λ e. ap (λ (w : FsErr). Refuses w) (call.steps.ends here.tells (does.can s here))) (call.cleans here.tells (does.can s here)))
      (λ s here write. once call (λ e. ap (λ (w : FsErr). Refuses w) (call.steps.ends here.tells (does.can s here))) s here write)

  -- the device failed in the step, or a page read otherwise
  pub goes_broken : (why : StepErr) → may_answer ask (Refuses DeviceFault) ≡ true → Taken stopped (index_taken ask) 0 (rest_taken mid.geometry ask) mid new (Err why) step → Goes nor old.geometry ask old.nor.now new.nor.now slots slots new.wrote (Refuses (as_fs_err why))
  goes_broken why may taken = taken_broken (as_fs_err why) (step_among ask why change may) (after_looks (taken_as taken (step_fails taken.steps) (λ tells need. need) (λ e. e)))

  -- .. or there was too little room
  pub goes_stopped : (why : FsErr) → may_answer ask (Refuses DeviceFault) ≡ true → may_answer ask (Refuses Tight) ≡ true → Taken refusing (index_taken ask) 0 (rest_taken mid.geometry ask) mid new (Err why) step → Goes nor old.geometry ask old.nor.now new.nor.now slots slots new.wrote (Refuses why)
  goes_stopped why may tight taken = taken_broken why (stop_among ask why taken.steps.means change may tight) (after_looks taken)

  -- .. in a write
  pub goes_unwritten : is_write ask ≡ true → (why : FsErr) → may_answer ask (Refuses DeviceFault) ≡ true → may_answer ask (Refuses Tight) ≡ true →
      {ready : Geometry → List ℕ → Type 0} {parts : ℕ} → IsTurned nor old.geometry ready parts old.nor.now slots ask → Turned refusing ready parts mid new (Err why) step → Goes nor old.geometry ask old.nor.now new.nor.now slots slots new.wrote (Refuses why)
  goes_unwritten is why may tight turned taken =
      let call = turned_after looks taken in
      broken_by why (stop_among ask why call.steps.means change may tight) call.steps (λ s here write. absurd (let no : true ≡ false = sym is ∙ write in cc))
      (λ s here write. in_turns turned call (λ e. ap (λ (w : FsErr). Refuses w) (call.steps.ends here.tells (does.can s here))) s here)
