-- How a copy ends.
use Rattle.std.proofs.Common.{◌≡◌, ◌<◌, ℕ, List, [], Bool, true, false, Some, None, Result, Ok, Err, refl, sym, ◌∙◌, ap, subst}
use Rattle.std.specs.Prelude.{position, IfOk, IfErr}
use Rattle.std.proofs.lemmas.Bool.{false≢true}
use Rattle.std.specs.Option.{option_map}
use Rattle.geometry.specs.declared.geometry.Geometry.{Geometry}
use Rattle.nor_core.specs.declared.state.NorState.{Ghosts as NorOf}
use Rattle.nor_core.specs.Device.{OnlyReads}
use Rattle.nor_core.proofs.Cuts.{wider, reads_then}
use Rattle.table_model.specs.Table.{File, same_text, file_named}
use Rattle.table_model.specs.Room.{has_room}
use Rattle.image_model.specs.Places.{IsImage}
use Rattle.call_model.specs.Closed.{with_files}
use Rattle.vol_mount.specs.declared.reader.Reader.{Reader}
use Rattle.vol_mount.specs.Readers.{IsSameReader}
use Rattle.volume.specs.declared.volume.Volume.{Volume}
use Rattle.volume_run.specs.Resting.{IsAtRest}
use Rattle.copy_model.specs.declared.err.Copied.{Copied}
use Rattle.copy_model.specs.declared.err.CopyErr.{CopyErr}
use Rattle.copy_model.specs.declared.err.CopyErr.TheVariants.{BadName, Full, FromFault, ToFault, Damaged, Refused}
use Rattle.copy_model.specs.Copying.{working, copied, copy_steps}
use Rattle.copy_model.specs.Stops.{full_as, first_full, copy_stop}
use Rattle.copy_model.specs.Tasks.{Task, begins_with, stops_at}
use Rattle.copy_model.specs.Under.{IsCopied, IsAllThere}
use Rattle.copy_model.specs.Parts.{IsUpTo}
use Rattle.vol_copy.specs.Ends.{TellsFiles, alike_of, CutsCopy, IsDone, Ends, EndsFrom}
use Rattle.vol_copy.specs.Stages.{Rests, With, CutsUnder, Leads, StopsFrom, OnlyFaults}
use Rattle.vol_copy.specs.Seen.{Idles}
use Rattle.vol_copy.specs.Turns.{IsFirst, HasFirstRoom, IsReady, HasNoWorking, IsAllUpTo, IsThrough, StopsFirst}
use Rattle.vol_copy.proofs.Composing.{rests_some, cuts_then, cuts_of, tells_on}
use Rattle.vol_copy.proofs.Fitting.{are_fit, no_working}
use Rattle.vol_copy.proofs.Looking.{rests_as}
use Rattle.vol_copy.proofs.Starting.{first_under}
use Rattle.vol_copy.proofs.Turning.{same_files}

-- ---- why it stops, on the flat tables

module _ (t : Task) where
  full_first : has_room t.g t.first ≡ false → copy_stop t.g t.alike t.source t.first ≡ Some (full_as t.g t.first)
  unfolding copy_stop
  full_first full = rw full refl

  bad_first : (at : ℕ) → has_room t.g t.first ≡ true → Some at ≡ position (λ f. same_text f.name working) t.source → copy_stop t.g t.alike t.source t.first ≡ Some (BadName at)
  unfolding copy_stop
  bad_first at room is = rw (room, ← is) refl

  stops_then : has_room t.g t.first ≡ true → None ≡ position (λ f. same_text f.name working) t.source → copy_stop t.g t.alike t.source t.first ≡ option_map (full_as t.g) (stops_at t)
  unfolding copy_stop
  stops_then room none = rw (room, ← none) refl

none_left : (g : Geometry) (alike : Bool) (files : List File) → first_full g (copy_steps g alike [] files) ≡ None
unfolding copy_steps
none_left g alike files = refl

all_left : (g : Geometry) (alike : Bool) (files : List File) → copied g alike [] files ≡ files
unfolding copied
all_left g alike files = refl

-- ---- from the first call on

module _ {N M : Type 0} {nor_from : NorOf N} {nor : NorOf M} (from : Reader N nor_from) (image : nor_from.tells from.nor.now → IsImage from.geometry (nor_from.bytes from.nor.now)) (old : Volume M nor) where
  -- A copy with which nothing is done.
  pub record Starts (t : Task) (v : Volume M nor) : Type 0 where
    pub tells : t.known ≡ true → TellsFiles nor_from from t.source
    pub alike : t.known ≡ true → t.alike ≡ alike_of from.geometry t.g
    pub rests : Rests IsFirst t v

  abbrev pub task_of : (source first : List File) (g : Geometry) (slots : ℕ) → Task
  task_of source first g slots = record { known = true; alike = alike_of from.geometry old.geometry; source = source; first = first; g = g; slots = slots }

  -- a target at rest is one
  starts : (source first : List File) (g : Geometry) (slots : ℕ) → TellsFiles nor_from from source → 0 < slots → IsAtRest g old (with_files slots first) → Starts (task_of source first g slots) old
  starts source first g slots tells some at = record {
    tells = λ known. tells;
    alike = λ known. ap (alike_of from.geometry) at.geometry;
    rests = record { files = first; some = some; at = at; known = λ known. refl };
  }

  -- so is one beside a source that tells nothing
  starts_untold : (first : List File) (g : Geometry) (slots : ℕ) → 0 < slots → IsAtRest g old (with_files slots first) → Starts (record (task_of [] first g slots) { known = false }) old
  starts_untold first g slots some at = record {
    tells = λ known. absurd (false≢true known);
    alike = λ known. absurd (false≢true known);
    rests = record { files = first; some = some; at = at; known = λ known. refl };
  }

  pub as_copy : (new : Volume M nor) → CutsUnder Starts old new → CutsCopy (TellsFiles nor_from from) (alike_of from.geometry old.geometry) old new
  as_copy new cuts = wider cuts (λ tells now here. λ g slots first some at. (
    (here (record (task_of [] first g slots) { known = false }) (starts_untold first g slots some at)).0,
    λ source told. (here (task_of source first g slots) (starts source first g slots told some at)).1 refl,
  ))

  pub as_ends : (new : Volume M nor) (result : Result Copied CopyErr) →
      ((source first : List File) (g : Geometry) (slots : ℕ) → Starts (task_of source first g slots) old → Ends (alike_of from.geometry old.geometry) source first g slots old new result) →
      ((source first : List File) (g : Geometry) (slots : ℕ) → Starts (task_of source first g slots) old → IsAllThere (alike_of from.geometry old.geometry) source first → OnlyReads nor old.nor.now new.nor.now) →
      (source : List File) → TellsFiles nor_from from source → EndsFrom (alike_of from.geometry old.geometry) source old new result
  as_ends new result ends idle = λ source tells. record {
    ends = λ g slots first some at. ends source first g slots (starts source first g slots tells some at);
    idle = λ g slots first some at there. idle source first g slots (starts source first g slots tells some at) there;
  }

  -- ---- it has no room, or the target fails

  module _ (mid : Volume M nor) (cuts : CutsUnder (Rests IsFirst) old mid) (idle : Idles (Rests IsFirst) old mid) where
    pub first_cuts : CutsUnder Starts old mid
    first_cuts = cuts_of Starts (Rests IsFirst) old mid (λ t has. has.rests) cuts

    pub first_reads : (t : Task) → Starts t old → t.known ≡ true → OnlyReads nor old.nor.now mid.nor.now
    first_reads t has known = idle t has.rests known

    stopped_first : (why : CopyErr) → StopsFirst (Rests IsFirst) old mid why → (t : Task) → Starts t old → t.known ≡ true → Ends t.alike t.source t.first t.g t.slots old mid (Err why)
    stopped_first (BadName at) stops t has known = absurd (stops t has.rests known)
    stopped_first (Full index pages) stops t has known =
        let w = stops t has.rests known in
        record {
          stops = full_first t w.0 ∙ ap (λ (why : CopyErr). Some why) (sym w.1);
          left = w.2.files;
          rest = w.2.at;
          part = λ room. absurd (false≢true (sym w.0 ∙ room));
          same = λ full. w.2.known known;
        }
    stopped_first FromFault stops t has known = tt
    stopped_first ToFault stops t has known = tt
    stopped_first (Damaged d) stops t has known = stops t has.rests known
    stopped_first Refused stops t has known = stops t has.rests known

    pub ends_first : (why : CopyErr) → StopsFirst (Rests IsFirst) old mid why → (source : List File) → TellsFiles nor_from from source → EndsFrom (alike_of from.geometry old.geometry) source old mid (Err why)
    ends_first why stops = as_ends mid (Err why) (λ source first g slots has. stopped_first why stops (task_of source first g slots) has refl) (λ source first g slots has there. first_reads (task_of source first g slots) has refl)

    -- the source fails
    pub ends_unread : (why : CopyErr) → why ≡ FromFault → (source : List File) → TellsFiles nor_from from source → EndsFrom (alike_of from.geometry old.geometry) source old mid (Err why)
    ends_unread why fault = as_ends mid (Err why) (λ source first g slots has. subst (λ (w : CopyErr). Ends (alike_of from.geometry old.geometry) source first g slots old mid (Err w)) (sym fault) tt) (λ source first g slots has there. first_reads (task_of source first g slots) has refl)

    module _ (room : Leads (Rests IsFirst) (Rests HasFirstRoom) old mid) where
      room_first : (t : Task) → Starts t old → t.known ≡ true → has_room t.g t.first ≡ true
      room_first t has known = let w = room t has.rests in ap (has_room t.g) (sym (w.known known).first) ∙ (w.known known).room

      -- a record has the working name
      pub ends_bad : (at : ℕ) → ((source : List File) → TellsFiles nor_from from source → Some at ≡ position (λ f. same_text f.name working) source) → (source : List File) → TellsFiles nor_from from source →
          EndsFrom (alike_of from.geometry old.geometry) source old mid (Err (BadName at))
      ends_bad at bad = as_ends mid (Err (BadName at))
          (λ source first g slots has. (bad_first (task_of source first g slots) at (room_first (task_of source first g slots) has refl) (bad source (has.tells refl)), first_reads (task_of source first g slots) has refl))
          (λ source first g slots has there. first_reads (task_of source first g slots) has refl)

      -- none has it
      module _ (none : (source : List File) → TellsFiles nor_from from source → None ≡ position (λ f. same_text f.name working) source) where
        ready : Leads Starts (Rests IsReady) old mid
        ready = λ t has. rests_as HasFirstRoom IsReady t mid (λ known files first. record {
          first = first;
          fit =
              let tells = has.tells known in
              are_fit from.geometry (nor_from.bytes from.nor.now) t (image tells.0) tells.1 (has.alike known) (no_working t.source (sym (none t.source tells)));
        }) (room t has.rests)

        no_file : (t : Task) → Starts t old → t.known ≡ true → IsAllThere t.alike t.source t.first → Rests HasNoWorking t mid
        no_file t has known there = rests_as HasFirstRoom HasNoWorking t mid (λ k files first. ap (file_named working) first.first ∙ there.none) (room t has.rests)

        module _ (next : Volume M nor) (cuts_next : CutsUnder (Rests IsReady) mid next) (idle_next : Idles (Rests HasNoWorking) mid next) where
          pub ready_cuts : CutsUnder Starts old next
          ready_cuts = cuts_then Starts (Rests IsReady) old mid next (λ t has. rests_some t mid has) first_cuts ready cuts_next

          ready_reads : (t : Task) → Starts t old → t.known ≡ true → IsAllThere t.alike t.source t.first → OnlyReads nor old.nor.now next.nor.now
          ready_reads t has known there = reads_then (first_reads t has known) (idle_next t (no_file t has known there) known)

          -- the target fails
          pub ends_ready : (why : CopyErr) → OnlyFaults (Rests IsReady) mid why → (source : List File) → TellsFiles nor_from from source → EndsFrom (alike_of from.geometry old.geometry) source old next (Err why)
          ends_ready why only = as_ends next (Err why)
              (λ source first g slots has. subst (λ (w : CopyErr). Ends (alike_of from.geometry old.geometry) source first g slots old next (Err w)) (sym (only (task_of source first g slots) (ready (task_of source first g slots) has) refl)) tt)
              (λ source first g slots has there. ready_reads (task_of source first g slots) has refl there)

          -- record by record
          module _ (goes : Leads (Rests IsReady) (Rests (IsUpTo 0)) mid next) (from_mid : Reader N nor_from) (reads : OnlyReads nor_from from.nor.now from_mid.nor.now) (same : IsSameReader from from_mid) (new : Volume M nor)
              (cuts_new : CutsUnder (With nor_from from_mid (Rests (IsUpTo 0))) next new) (idle_new : Idles (With nor_from from_mid (Rests (IsAllUpTo 0))) next new) where
            begun_at : Leads Starts (With nor_from from_mid (Rests (IsUpTo 0))) old next
            begun_at = λ t has. (λ known. tells_on reads same (has.tells known), goes t (ready t has))

            pub all_cuts : CutsUnder Starts old new
            all_cuts = cuts_then Starts (With nor_from from_mid (Rests (IsUpTo 0))) old next new (λ t has. rests_some t next has.1) ready_cuts begun_at cuts_new

            all_reads : (t : Task) → Starts t old → t.known ≡ true → IsAllThere t.alike t.source t.first → OnlyReads nor old.nor.now new.nor.now
            all_reads t has known there =
                let was = ready_reads t has known there in
                let w = begun_at t has in
                let files = same_files was has.rests.at w.1.at ∙ has.rests.known known in
                reads_then was (idle_new t (w.0, record { files = w.1.files; some = w.1.some; at = w.1.at; known = λ k. record { up = w.1.known k; there = subst (IsAllThere t.alike t.source) (sym files) there } }) known)

            stops_are : (t : Task) → Starts t old → t.known ≡ true → copy_stop t.g t.alike t.source t.first ≡ option_map (full_as t.g) (stops_at t)
            stops_are t has known = stops_then t (room_first t has known) (none t.source (has.tells known))

            stopped : (why : CopyErr) → StopsFrom (With nor_from from_mid (Rests (IsUpTo 0))) next new why → (t : Task) → Starts t old → t.known ≡ true → Ends t.alike t.source t.first t.g t.slots old new (Err why)
            stopped (BadName at) stops t has known = absurd (stops t (begun_at t has) known)
            stopped (Full index pages) stops t has known =
                let short = stops t (begun_at t has) known in
                record {
                  stops = stops_are t has known ∙ ap (option_map (full_as t.g)) short.stops ∙ ap (λ (why : CopyErr). Some why) (sym short.why_is);
                  left = short.left;
                  rest = short.at;
                  part = λ room. short.part;
                  same = λ full. absurd (false≢true (sym full ∙ room_first t has known));
                }
            stopped FromFault stops t has known = tt
            stopped ToFault stops t has known = tt
            stopped (Damaged d) stops t has known = stops t (begun_at t has) known
            stopped Refused stops t has known = stops t (begun_at t has) known

            pub ends_stopped : (why : CopyErr) → StopsFrom (With nor_from from_mid (Rests (IsUpTo 0))) next new why → (source : List File) → TellsFiles nor_from from source → EndsFrom (alike_of from.geometry old.geometry) source old new (Err why)
            ends_stopped why stops = as_ends new (Err why) (λ source first g slots has. stopped why stops (task_of source first g slots) has refl) (λ source first g slots has there. all_reads (task_of source first g slots) has refl there)

            -- all is done
            done : (c : Copied) → Leads (With nor_from from_mid (Rests (IsUpTo 0))) (Rests (IsThrough c)) next new → (t : Task) → Starts t old → t.known ≡ true → IsDone t.alike t.source t.first t.g t.slots old new c
            done c through t has known =
                let w = through t (begun_at t has) in
                let is = w.known known in
                let files : copied t.g t.alike t.source (begins_with t) ≡ w.files = is.amid.ends ∙ all_left t.g t.alike w.files in
                record {
                  none = stops_are t has known ∙ ap (option_map (full_as t.g)) (is.amid.stops ∙ none_left t.g t.alike w.files);
                  rest = subst (λ (l : List File). IsAtRest t.g new (with_files t.slots l)) (sym files) w.at;
                  is_copied = subst (IsCopied t.alike t.source t.first) (sym files) is.amid.done;
                  kept_is = is.kept_is;
                  copied_is = is.all;
                }

            pub ends_done : (c : Copied) → Leads (With nor_from from_mid (Rests (IsUpTo 0))) (Rests (IsThrough c)) next new → (source : List File) → TellsFiles nor_from from source → EndsFrom (alike_of from.geometry old.geometry) source old new (Ok c)
            ends_done c through = as_ends new (Ok c) (λ source first g slots has. done c through (task_of source first g slots) has refl) (λ source first g slots has there. all_reads (task_of source first g slots) has refl there)

            pub ends_all : (result : Result Copied CopyErr) → IfOk result (λ c. Leads (With nor_from from_mid (Rests (IsUpTo 0))) (Rests (IsThrough c)) next new) → IfErr result (StopsFrom (With nor_from from_mid (Rests (IsUpTo 0))) next new) →
                (source : List File) → TellsFiles nor_from from source → EndsFrom (alike_of from.geometry old.geometry) source old new result
            ends_all (Ok c) through stops = ends_done c through
            ends_all (Err why) through stops = ends_stopped why stops
