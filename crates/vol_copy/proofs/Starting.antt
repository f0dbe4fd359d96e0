-- What stands before the first record is copied.
use Rattle.std.proofs.Common.{◌≡◌, List, Bool, true, false, Option, Some, None, Result, Ok, Err, refl, sym, ◌∙◌, ap, subst, inl, inr}
use Rattle.std.specs.Option.{option_map}
use Rattle.std.proofs.lemmas.Option.{none-some}
use Rattle.geometry.specs.declared.geometry.Geometry.{Geometry}
use Rattle.nor_core.specs.declared.state.NorState.{Ghosts as NorOf}
use Rattle.table_model.specs.declared.error.FsErr.TheVariants.{DeviceFault}
use Rattle.table_model.specs.declared.reply.Stat.{Stat}
use Rattle.table_model.specs.declared.reply.Info.{Info}
use Rattle.table_model.specs.Table.{File, State, file_named}
use Rattle.table_model.specs.Room.{has_room}
use Rattle.table_model.specs.Calls.{info_of}
use Rattle.table_model.specs.Files.{stat_of}
use Rattle.table_model.specs.Outcome.{Outcome}
use Rattle.table_model.specs.Ask.{Informs, Removes, Stats}
use Rattle.table_model.specs.Reply.{Counts, Refuses}
use Rattle.table_model.specs.Flat.{answer}
use Rattle.call_model.specs.Closed.{with_files}
use Rattle.volume.specs.declared.volume.Volume.{Volume}
use Rattle.volume_run.specs.Resting.{IsAtRest}
use Rattle.copy_model.specs.declared.err.CopyErr.{CopyErr}
use Rattle.copy_model.specs.declared.err.CopyErr.TheVariants.{Full, ToFault}
use Rattle.copy_model.specs.Copying.{working, without_name, without_found}
use Rattle.copy_model.specs.Tasks.{Task}
use Rattle.copy_model.specs.Under.{IsTable, MayHave, IsUnder}
use Rattle.copy_model.specs.Parts.{IsUpTo}
use Rattle.copy_model.proofs.Answering.{informed, clears, fine_working}
use Rattle.copy_model.proofs.Passing.{begins}
use Rattle.copy_model.proofs.Shapes.{removes-closed}
use Rattle.copy_model.proofs.Staging.{starts-copy}
use Rattle.vol_copy.specs.Stages.{Rests, CutsUnder, Leads, OnlyFaults}
use Rattle.vol_copy.specs.Seen.{Idles}
use Rattle.vol_copy.specs.Turns.{room_by, IsFirst, HasFirstRoom, IsReady, HasNoWorking, StopsFirst}
use Rattle.vol_copy.specs.Went.{Went, info_as, stat_as, removed_as}
use Rattle.vol_copy.proofs.Composing.{rests_some, rest_table, cuts_then}
use Rattle.vol_copy.proofs.Calling.{goes, closed_cuts, closed_leads}
use Rattle.vol_copy.proofs.Lacking.{info_told, info_stop}
use Rattle.vol_copy.proofs.Places.{removed_stop, removed_whole, removal_answers}
use Rattle.vol_copy.proofs.Found.{found_none}
use Rattle.vol_copy.proofs.Seeing.{look_reads, look_cuts, stat_cuts, stat_leads}

-- what stands at first may be left of a copy
same_under : (alike : Bool) (o first under : Option File) → MayHave alike o first first under
same_under alike None first under = refl
same_under alike (Some f) first under = inr (inl refl)

pub first_under : (t : Task) (files : List File) → files ≡ t.first → IsUnder t.alike t.source t.first files
first_under t files first = subst (IsUnder t.alike t.source t.first) (sym first) (λ name other. same_under t.alike (file_named name t.source) (file_named name t.first) (file_named working t.first))

-- ---- whether the target has room

module _ {M : Type 0} {nor : NorOf M} (old new : Volume M nor) (result : Result Info CopyErr) (went : Went info_as Informs old new result) where
  pub room_reads : Idles (Rests IsFirst) old new
  room_reads = look_reads Informs old new went.0 went.1 refl refl refl (Rests IsFirst) (λ t has. with_files t.slots has.files) (λ t has. has.at)

  pub room_cuts : CutsUnder (Rests IsFirst) old new
  room_cuts = look_cuts Informs old new went.0 went.1 refl refl refl (Rests IsFirst) (λ t has. with_files t.slots has.files) (λ t has. has.at)
      (λ t has known. first_under t has.files (has.known known)) (λ t has. ap (λ (o : Outcome). o.next.table) (informed t.g (with_files t.slots has.files)))

  pub room_stops : (why : CopyErr) → result ≡ Err why → OnlyFaults (Rests IsFirst) old why
  room_stops why is = λ t has known. info_stop why went.0 (info_of t.g has.files) (sym went.2 ∙ is) (λ whole.
      (goes Informs old new went.0 went.1 refl refl t.g (with_files t.slots has.files) has.at whole).0 ∙ ap (λ (o : Outcome). o.answer) (informed t.g (with_files t.slots has.files)))

  pub room_fails : (why : CopyErr) → result ≡ Err why → StopsFirst (Rests IsFirst) old new why
  room_fails why is = go why (room_stops why is)
    where
      go : (why : CopyErr) → OnlyFaults (Rests IsFirst) old why → StopsFirst (Rests IsFirst) old new why
      go ToFault only = tt
      go (Full index pages) only = λ t has known. absurd (let e = only t has known in cc)
      go why only = λ t has known. let e = only t has known in cc

  module _ (info : Info) (ok : result ≡ Ok info) where
    told : went.0 ≡ Counts info
    told = info_told info went.0 (sym went.2 ∙ ok)

    whole : ¬ (went.0 ≡ Refuses DeviceFault)
    whole fault = let no : Counts info ≡ Refuses DeviceFault = sym told ∙ fault in cc

    stays : (t : Task) (has : Rests IsFirst t old) → IsAtRest t.g new (with_files t.slots has.files)
    stays t has = subst (IsAtRest t.g new) (ap (λ (o : Outcome). o.next) (informed t.g (with_files t.slots has.files))) (goes Informs old new went.0 went.1 refl refl t.g (with_files t.slots has.files) has.at whole).1

    info_is : (t : Task) (has : Rests IsFirst t old) → info ≡ info_of t.g has.files
    info_is t has =
        let same : Counts info ≡ Counts (info_of t.g has.files) = sym told ∙ (goes Informs old new went.0 went.1 refl refl t.g (with_files t.slots has.files) has.at whole).0 ∙ ap (λ (o : Outcome). o.answer) (informed t.g (with_files t.slots has.files)) in
        cc

    room_is : (t : Task) (has : Rests IsFirst t old) → room_by new.geometry info ≡ has_room t.g has.files
    unfolding has_room
    room_is t has = ap (λ (g : Geometry). room_by g info) (stays t has).geometry ∙ ap (room_by t.g) (info_is t has)

    pub room_there : room_by new.geometry info ≡ true → Leads (Rests IsFirst) (Rests HasFirstRoom) old new
    room_there room = λ t has. record { files = has.files; some = has.some; at = stays t has; known = λ known. record { first = has.known known; room = sym (room_is t has) ∙ room } }

    pub room_lacks : room_by new.geometry info ≡ false → StopsFirst (Rests IsFirst) old new (Full info.index_pages info.data_pages)
    room_lacks full = λ t has known.
        let first : has.files ≡ t.first = has.known known in
        let is : info ≡ info_of t.g t.first = info_is t has ∙ ap (info_of t.g) first in
        (ap (has_room t.g) (sym first) ∙ sym (room_is t has) ∙ full, ap (λ (i : Info). Full i.index_pages i.data_pages) is, record { files = has.files; some = has.some; at = stays t has; known = has.known })

-- ---- the file of the working name is removed

without-none : (files : List File) → file_named working files ≡ None → files ≡ without_name working files
unfolding without_name
without-none files none = sym (ap (λ (o : Option File). without_found o files) none)

ready_starts : (t : Task) (files more : List File) → IsReady t files → IsTable files → more ≡ without_name working files → IsUpTo 0 t more
ready_starts t files more ready table is =
    let first : files ≡ t.first = ready.first.first in
    let t_table : IsTable t.first = subst IsTable first table in
    subst (IsUpTo 0 t) (sym (is ∙ ap (without_name working) first)) (begins t ready.fit t_table (starts-copy t.first t_table).table (ap (has_room t.g) (sym first) ∙ ready.first.room))

module _ {M : Type 0} {nor : NorOf M} (old new : Volume M nor) (result : Result (Option Stat) CopyErr) (went : Went stat_as (Stats working) old new result) where
  -- there is none
  pub none_there : result ≡ Ok None → Leads (Rests IsReady) (Rests (IsUpTo 0)) old new
  none_there ok = λ t has.
      let mid = stat_leads IsReady working (λ t files ready. fine_working) old new result went None ok t has in
      record {
        files = mid.files;
        some = mid.some;
        at = mid.at;
        known = λ known.
            let k = mid.known known in
            ready_starts t mid.files mid.files k.0 (rest_table mid.at) (without-none mid.files (found_none (file_named working mid.files) k.1));
      }

  -- and there never is, where none was
  pub there_never : (stat : Stat) → result ≡ Ok (Some stat) → (t : Task) → Rests HasNoWorking t old → t.known ≡ true → ⊥
  there_never stat ok t has known =
      let mid = stat_leads HasNoWorking working (λ t files ready. fine_working) old new result went (Some stat) ok t has in
      let k = mid.known known in
      none-some stat (sym (k.1 ∙ ap (option_map stat_of) k.0))

  pub starts_cuts : CutsUnder (Rests IsReady) old new
  starts_cuts = stat_cuts IsReady working (λ t files ready. fine_working) old new result went (λ t files ready table. first_under t files ready.first.first)

module _ {M : Type 0} {nor : NorOf M} (stat : Stat) (old new : Volume M nor) (result : Result (Unit {0}) CopyErr) (went : Went removed_as (Removes working) old new result) where
  abbrev pub IsThere : Task → List File → Type 0
  IsThere t files = IsReady t files × (Some stat ≡ option_map stat_of (file_named working files))

  removed_next : (t : Task) (files : List File) → (answer t.g true (with_files t.slots files) (Removes working)).next ≡ with_files t.slots (without_name working files)
  removed_next t files = clears t.g t.slots working files fine_working

  pub remove_cuts : CutsUnder (Rests IsThere) old new
  remove_cuts = closed_cuts (Removes working) old new went.0 went.1 refl refl IsThere (λ t files k table. first_under t files k.0.first.first)
      (λ t files k table after.
      let first : files ≡ t.first = k.0.first.first in
      subst (IsUnder t.alike t.source t.first) (sym (ap (λ (s : State). s.table) (removed_next t files) ∙ ap (without_name working) first)) ((starts-copy t.first (subst IsTable first table)).under t.alike t.source))

  pub remove_leads : result ≡ Ok tt → Leads (Rests IsThere) (Rests (IsUpTo 0)) old new
  remove_leads ok = closed_leads (Removes working) old new went.0 went.1 refl refl IsThere (IsUpTo 0) (λ g slots files. removes-closed g slots files working) (removed_whole went.0 (sym went.2 ∙ ok))
      (λ t files more k table after reply next. ready_starts t files more k.0 table (ap (λ (s : State). s.table) (sym next ∙ removed_next t files)))

  pub remove_stops : (why : CopyErr) → result ≡ Err why → OnlyFaults (Rests IsThere) old why
  remove_stops why is = λ t has known. removed_stop why went.0 (sym went.2 ∙ is) (λ whole.
      removal_answers t.g t.slots has.files working went.0 fine_working (goes (Removes working) old new went.0 went.1 refl refl t.g (with_files t.slots has.files) has.at whole).0)

-- ---- both

module _ {M : Type 0} {nor : NorOf M} (stat : Stat) (old mid new : Volume M nor) (found : Result (Option Stat) CopyErr) (looked : Went stat_as (Stats working) old mid found) (there : found ≡ Ok (Some stat)) (result : Result (Unit {0}) CopyErr) (went : Went removed_as (Removes working) mid new result) where
  there_leads : Leads (Rests IsReady) (Rests (IsThere stat mid new result went)) old mid
  there_leads = stat_leads IsReady working (λ t files ready. fine_working) old mid found looked (Some stat) there

  pub starts_cuts_then : CutsUnder (Rests IsReady) old new
  starts_cuts_then = cuts_then (Rests IsReady) (Rests (IsThere stat mid new result went)) old mid new (λ t has. rests_some t mid has)
      (starts_cuts old mid found looked) there_leads (remove_cuts stat mid new result went)

  pub starts_leads : result ≡ Ok tt → Leads (Rests IsReady) (Rests (IsUpTo 0)) old new
  starts_leads ok = λ t has. remove_leads stat mid new result went ok t (there_leads t has)

  pub starts_stops : (why : CopyErr) → result ≡ Err why → OnlyFaults (Rests IsReady) old why
  starts_stops why is = λ t has known. remove_stops stat mid new result went why is t (there_leads t has) known
