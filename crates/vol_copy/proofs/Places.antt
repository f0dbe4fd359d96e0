-- A record that is whole under the working name gets its place.
use Rattle.std.proofs.Common.{◌≡◌, ◌⊎◌, ℕ, List, true, Option, Some, None, Result, Ok, Err, refl, sym, ◌∙◌, ap, subst, ⊎_elim, inl, inr}
use Rattle.std.specs.Prelude.{OnOk, IfErr}
use Rattle.geometry.specs.declared.geometry.Geometry.{Geometry}
use Rattle.nor_core.specs.declared.state.NorState.{Ghosts as NorOf}
use Rattle.table_model.specs.declared.error.FsErr.TheVariants.{NotFound, DeviceFault}
use Rattle.table_model.specs.declared.reply.Stat.{Stat}
use Rattle.table_model.specs.Table.{File, State, file_named, put_file}
use Rattle.table_model.specs.Names.{name_refusal}
use Rattle.table_model.specs.Outcome.{Outcome}
use Rattle.table_model.specs.Ask.{Removes, Renames}
use Rattle.table_model.specs.Reply.{Answer, Fine, Refuses}
use Rattle.table_model.specs.Flat.{answer}
use Rattle.call_model.specs.Closed.{with_files}
use Rattle.volume.specs.declared.volume.Volume.{Volume}
use Rattle.copy_model.specs.declared.err.CopyErr.{CopyErr}
use Rattle.copy_model.specs.declared.err.CopyErr.TheVariants.{ToFault}
use Rattle.copy_model.specs.Copying.{working, marked, cleared, placed, without_name}
use Rattle.copy_model.specs.Answers.{or_full}
use Rattle.copy_model.specs.Tasks.{Task}
use Rattle.copy_model.specs.Under.{IsTable, IsUnder}
use Rattle.copy_model.specs.Parts.{IsAmid, IsMarked, IsCleared, IsPassed}
use Rattle.copy_model.proofs.Answering.{clears, removes-none, removes-file, places}
use Rattle.copy_model.proofs.Rooming.{room-behind, last-has_room}
use Rattle.copy_model.proofs.Shapes.{removes-closed, renames-closed}
use Rattle.copy_model.proofs.Stages.{under-none}
use Rattle.copy_model.proofs.Passing.{next_fit, marked_under, cleared_none, cleared_under, placed_passes}
use Rattle.vol_copy.specs.Stages.{Rests, CutsUnder, Leads, OnlyFaults}
use Rattle.vol_copy.specs.Went.{Went, done_as, removed_as}
use Rattle.vol_copy.proofs.Calling.{goes, closed_cuts, closed_leads}

-- what is amid a copy may be left of it
pub amid_under : (t : Task) (front rest files : List File) → IsAmid t front rest files → IsUnder t.alike t.source t.first files
amid_under t front rest files is = subst (λ (source : List File). IsUnder t.alike source t.first files) (sym is.source_is) (under-none t.alike front rest t.first files is.done)

-- ---- why a call isn't done, of which the flat table has no such answer

pub done_stop : (why : CopyErr) (a : Answer) → done_as a ≡ Err why → ((a ≡ Refuses DeviceFault → ⊥) → a ≡ Fine) → why ≡ ToFault
done_stop why (Refuses DeviceFault) is fine = cc
done_stop why Fine is fine = absurd (let no : Ok tt ≡ Err why = is in cc)
done_stop why a is fine = absurd (let e = fine (λ fault. let e = fault in cc) in cc)

pub removed_stop : (why : CopyErr) (a : Answer) → removed_as a ≡ Err why → ((a ≡ Refuses DeviceFault → ⊥) → (a ≡ Fine) ⊎ (a ≡ Refuses NotFound)) → why ≡ ToFault
removed_stop why (Refuses DeviceFault) is among = cc
removed_stop why Fine is among = absurd (let no : Ok tt ≡ Err why = is in cc)
removed_stop why (Refuses NotFound) is among = absurd (let no : Ok tt ≡ Err why = is in cc)
removed_stop why a is among = absurd (⊎_elim (λ fine. let e = fine in cc) (λ missing. let e = missing in cc) (among (λ fault. let e = fault in cc)))

pub done_whole : (a : Answer) → done_as a ≡ Ok tt → a ≡ Refuses DeviceFault → ⊥
done_whole a ok fault = let no : done_as (Refuses DeviceFault) ≡ Ok tt = subst (λ (x : Answer). done_as x ≡ Ok tt) fault ok in cc

pub removed_whole : (a : Answer) → removed_as a ≡ Ok tt → a ≡ Refuses DeviceFault → ⊥
removed_whole a ok fault = let no : removed_as (Refuses DeviceFault) ≡ Ok tt = subst (λ (x : Answer). removed_as x ≡ Ok tt) fault ok in cc

-- by how it went
pub on_ok : {X : Type 0} (r : Result (Unit {0}) CopyErr) → (r ≡ Ok tt → X) → OnOk r X
on_ok (Ok done) x = x refl
on_ok (Err why) x = tt {0}

pub if_err : {P : CopyErr → Type 0} (r : Result (Unit {0}) CopyErr) → ((why : CopyErr) → r ≡ Err why → P why) → IfErr r P
if_err (Ok done) p = tt {0}
if_err (Err why) p = p why refl

-- a removal on the flat table
pub removal_answers : (g : Geometry) (slots : ℕ) (files : List File) (name : List ℕ) (reply : Answer) → name_refusal name ≡ None → reply ≡ (answer g true (with_files slots files) (Removes name)).answer → (reply ≡ Fine) ⊎ (reply ≡ Refuses NotFound)
removal_answers g slots files name reply fine is = go (file_named name files) refl
  where
    go : (o : Option File) → file_named name files ≡ o → (reply ≡ Fine) ⊎ (reply ≡ Refuses NotFound)
    go None at = inr (is ∙ ap (λ (o : Outcome). o.answer) (removes-none g slots name files fine at))
    go (Some f) at = inl (is ∙ ap (λ (o : Outcome). o.answer) (removes-file g slots name files f fine at))

-- ---- the file of its name is removed

module _ (stat : Stat) (t : Task) (files : List File) (is : IsMarked stat t files) where
  name_is : stat.name ≡ is.is.next.f.name
  name_is = ap (λ (s : Stat). s.name) is.is.next.stat_is

  fine_name : name_refusal stat.name ≡ None
  fine_name = ap name_refusal name_is ∙ (next_fit stat t is.before is.is.next).fine

  cleared_next : (answer t.g true (with_files t.slots files) (Removes stat.name)).next ≡ with_files t.slots (cleared t.g t.alike is.is.next.f is.before)
  cleared_next = clears t.g t.slots stat.name files fine_name ∙ ap (λ (n : List ℕ). with_files t.slots (without_name n files)) name_is ∙ ap (λ (l : List File). with_files t.slots (without_name is.is.next.f.name l)) is.files_are

  cleared_files : (more : List File) → (answer t.g true (with_files t.slots files) (Removes stat.name)).next ≡ with_files t.slots more → more ≡ cleared t.g t.alike is.is.next.f is.before
  cleared_files more next = ap (λ (s : State). s.table) (sym next ∙ cleared_next)

  has_cleared : (more : List File) → IsTable files → IsTable more → (answer t.g true (with_files t.slots files) (Removes stat.name)).next ≡ with_files t.slots more → IsCleared stat t more
  has_cleared more table after next =
      let same = cleared_files more next in
      let put = subst IsTable is.files_are table in
      record {
        before = is.before;
        is = is.is;
        files_are = same;
        full = is.full;
        clear = ap (file_named is.is.next.f.name) same ∙ cleared_none stat t is.before is.is put (subst IsTable same after);
        marked_table = put;
      }

  cleared_left : IsTable files → IsTable (answer t.g true (with_files t.slots files) (Removes stat.name)).next.table → IsUnder t.alike t.source t.first (answer t.g true (with_files t.slots files) (Removes stat.name)).next.table
  cleared_left table after =
      let same : (answer t.g true (with_files t.slots files) (Removes stat.name)).next.table ≡ cleared t.g t.alike is.is.next.f is.before = ap (λ (s : State). s.table) cleared_next in
      subst (IsUnder t.alike t.source t.first) (sym same) (cleared_under stat t is.before is.is (subst IsTable is.files_are table) (subst IsTable same after))

module _ {M : Type 0} {nor : NorOf M} (stat : Stat) (old new : Volume M nor) (result : Result (Unit {0}) CopyErr) (went : Went removed_as (Removes stat.name) old new result) where
  pub clear_cuts : CutsUnder (Rests (IsMarked stat)) old new
  clear_cuts = closed_cuts (Removes stat.name) old new went.0 went.1 refl refl (IsMarked stat) (λ t files k table. marked_under stat t files k table) (λ t files k table after. cleared_left stat t files k table after)

  pub clear_leads : result ≡ Ok tt → Leads (Rests (IsMarked stat)) (Rests (IsCleared stat)) old new
  clear_leads ok = closed_leads (Removes stat.name) old new went.0 went.1 refl refl (IsMarked stat) (IsCleared stat) (λ g slots files. removes-closed g slots files stat.name) (removed_whole went.0 (sym went.2 ∙ ok))
      (λ t files more k table after reply next. has_cleared stat t files k more table after next)

  pub clear_stops : (why : CopyErr) → result ≡ Err why → OnlyFaults (Rests (IsMarked stat)) old why
  clear_stops why is = λ t has known. removed_stop why went.0 (sym went.2 ∙ is) (λ whole.
      removal_answers t.g t.slots has.files stat.name went.0 (fine_name stat t has.files (has.known known)) (goes (Removes stat.name) old new went.0 went.1 refl refl t.g (with_files t.slots has.files) has.at whole).0)

-- ---- the working file gets its name

module _ (stat : Stat) (t : Task) (files : List File) (is : IsCleared stat t files) where
  put_table : IsTable (put_file (marked t.g t.alike is.is.next.f is.before) is.before)
  put_table = is.marked_table

  cleared_name_is : stat.name ≡ is.is.next.f.name
  cleared_name_is = ap (λ (s : Stat). s.name) is.is.next.stat_is

  cleared_is_under : IsTable files → IsUnder t.alike t.source t.first files
  cleared_is_under table = subst (IsUnder t.alike t.source t.first) (sym is.files_are) (cleared_under stat t is.before is.is put_table (subst IsTable is.files_are table))

  placed_answer : answer t.g true (with_files t.slots files) (Renames working stat.name) ≡ or_full t.g (with_files t.slots files) (record { answer = Fine; next = with_files t.slots (placed t.g t.alike is.is.next.f is.before) })
  placed_answer =
      let fit = next_fit stat t is.before is.is.next in
      let f = is.is.next.f in
      let named : answer t.g true (with_files t.slots (cleared t.g t.alike f is.before)) (Renames working f.name) ≡ or_full t.g (with_files t.slots (cleared t.g t.alike f is.before)) (record { answer = Fine; next = with_files t.slots (placed t.g t.alike f is.before) }) =
      places t.g t.slots t.alike f is.before fit.apart fit.fine is.is.next.amid.done.none (ap (file_named f.name) (sym is.files_are) ∙ is.clear) in
      subst (λ (n : List ℕ). answer t.g true (with_files t.slots files) (Renames working n) ≡ or_full t.g (with_files t.slots files) (record { answer = Fine; next = with_files t.slots (placed t.g t.alike f is.before) })) (sym cleared_name_is)
      (subst (λ (l : List File). answer t.g true (with_files t.slots l) (Renames working f.name) ≡ or_full t.g (with_files t.slots l) (record { answer = Fine; next = with_files t.slots (placed t.g t.alike f is.before) })) (sym is.files_are) named)

  placed_done : answer t.g true (with_files t.slots files) (Renames working stat.name) ≡ record { answer = Fine; next = with_files t.slots (placed t.g t.alike is.is.next.f is.before) }
  placed_done =
      let fit = next_fit stat t is.before is.is.next in
      let room = (room-behind t.g t.alike is.is.next.f is.before fit.apart (last-has_room t.g is.is.next.f is.before is.full)).placed_room in
      placed_answer ∙ rw room refl

  has_placed : (more : List File) → IsTable files → IsTable more → more ≡ placed t.g t.alike is.is.next.f is.before → IsPassed stat true t more
  has_placed more table after same = subst (IsPassed stat true t) (sym same) (placed_passes stat t is.before is.is put_table (subst IsTable is.files_are table) is.full (subst IsTable same after))

  placed_next : (answer t.g true (with_files t.slots files) (Renames working stat.name)).next ≡ with_files t.slots (placed t.g t.alike is.is.next.f is.before)
  placed_next = ap (λ (o : Outcome). o.next) placed_done

  placed_left : IsTable files → IsTable (answer t.g true (with_files t.slots files) (Renames working stat.name)).next.table → IsUnder t.alike t.source t.first (answer t.g true (with_files t.slots files) (Renames working stat.name)).next.table
  placed_left table after =
      let passed = has_placed (answer t.g true (with_files t.slots files) (Renames working stat.name)).next.table table after (ap (λ (s : State). s.table) placed_next) in
      amid_under t _ _ _ passed.amid

module _ {M : Type 0} {nor : NorOf M} (stat : Stat) (old new : Volume M nor) (result : Result (Unit {0}) CopyErr) (went : Went done_as (Renames working stat.name) old new result) where
  pub place_cuts : CutsUnder (Rests (IsCleared stat)) old new
  place_cuts = closed_cuts (Renames working stat.name) old new went.0 went.1 refl refl (IsCleared stat) (λ t files k table. cleared_is_under stat t files k table) (λ t files k table after. placed_left stat t files k table after)

  pub place_leads : result ≡ Ok tt → Leads (Rests (IsCleared stat)) (Rests (IsPassed stat true)) old new
  place_leads ok = closed_leads (Renames working stat.name) old new went.0 went.1 refl refl (IsCleared stat) (IsPassed stat true) (λ g slots files. renames-closed g slots files working stat.name) (done_whole went.0 (sym went.2 ∙ ok))
      (λ t files more k table after reply next. has_placed stat t files k more table after (ap (λ (s : State). s.table) (sym next ∙ placed_next stat t files k)))

  pub place_stops : (why : CopyErr) → result ≡ Err why → OnlyFaults (Rests (IsCleared stat)) old why
  place_stops why is = λ t has known. done_stop why went.0 (sym went.2 ∙ is) (λ whole.
      (goes (Renames working stat.name) old new went.0 went.1 refl refl t.g (with_files t.slots has.files) has.at whole).0 ∙ ap (λ (o : Outcome). o.answer) (placed_done stat t has.files (has.known known)))
