-- Files after files of a folder, each in pieces.
use Rattle.std.proofs.Common.{◌≡◌, ℕ, ◌+◌, ◌<◌, ◌≤◌, List, [], length, take, Option, Some, None, Result, Ok, Err, refl, sym, ◌∙◌, ap, subst, arith}
use Rattle.std.specs.Prelude.{OnOk, IfOk, IfErr, slice_range}
use Rattle.std.specs.Result.{IsErrAnd}
use Rattle.std.proofs.lemmas.Option.{none-some}
use Rattle.std.proofs.lemmas.List.{length-map, take_all}
use Rattle.geometry.specs.declared.geometry.Geometry.{Geometry}
use Rattle.nor_core.specs.declared.state.NorState.{Ghosts as NorOf}
use Rattle.table_model.specs.declared.reply.Info.{Info}
use Rattle.table_model.specs.Table.{File}
use Rattle.table_model.specs.Ask.{Writes, Closes}
use Rattle.folder_core.specs.Files.{Entry, FolderFile, entry_of, entries_of, name_at, size_at, bytes_at}
use Rattle.folder_core.specs.Puts.{Kept}
use Rattle.folder_core.specs.declared.state.FolderState.{Ghosts as FolderOf}
use Rattle.volume.specs.declared.volume.Volume.{Volume}
use Rattle.volume_run.specs.Ready.{IsReady}
use Rattle.folder_plan.specs.Refusals.{accepted, make_refusal, index_sum, data_sum}
use Rattle.folder_plan.specs.Tables.{numbered, folder_table}
use Rattle.call_model.specs.Closed.{with_files}
use Rattle.folder_plan.specs.Putting.{put_state}
use Rattle.folder_plan.proofs.Tabling.{index_is, data_is}
use Rattle.folder_plan.proofs.Naming.{accepted_is}
use Rattle.folder_plan.proofs.Filling.{named_fine}
use Rattle.folder_plan.proofs.Answering.{numbered_long}
use Rattle.volume_make.specs.declared.put_err.PutErr.{PutErr}
use Rattle.volume_make.specs.Making.{HasPut, HasBegun, IsMadeFrom, OnlyFailsFrom, PutsFrom, FailsFrom, WritesFrom, StopsWriting, BeginsFrom, StopsBeginning, DoneFrom, UndoneFrom, TellsFrom, StopsTelling}
use Rattle.volume_make.proofs.Making.{put_kept, begun_kept, next_begun, unbegun, more_begun, unwritten, next_put, unclosed}

-- what follows where a call is done, or where it fails
pub on_ok : {T E P Q : Type 0} (result : Result T E) → (P → Q) → OnOk result P → OnOk result Q
on_ok (Ok x) f done = f done
on_ok (Err e) f done = tt {0}

pub if_err : {T E : Type 0} {P Q : E → Type 0} (result : Result T E) → ((e : E) → P e → Q e) → IfErr result P → IfErr result Q
if_err (Ok x) f failed = tt {0}
if_err (Err e) f failed = f e failed

pub if_ok : {T E : Type 0} {P Q : T → Type 0} (result : Result T E) → ((x : T) → P x → Q x) → IfOk result P → IfOk result Q
if_ok (Ok x) f done = f x done
if_ok (Err e) f done = tt {0}

-- an error that `?` passes on
pub passed : {T E : Type 0} (P : E → Type 0) (result : Result T E) (why : E) → IsErrAnd result (λ e. e ≡ why) → P why → IfErr result P
passed P (Ok x) why same failed = absurd same
passed P (Err e) why same failed = rw same failed

-- the name of a file that was read, where the folder stays
pub named_by : (entries same : List Entry) (i : ℕ) (found : Option (List ℕ)) (name slice : List ℕ) → same ≡ entries → found ≡ accepted (name_at entries i) → found ≡ Some name → slice ≡ name → slice ≡ name_at same i
named_by entries same i found name slice kept told is same_name = same_name ∙ (accepted_is (name_at entries i) name (sym told ∙ is)).1 ∙ ap (λ (l : List Entry). name_at l i) (sym kept)

no_files : (g : Geometry) → folder_table g [] ≡ []
unfolding numbered
no_files g = refl

module _ {N X : Type 0} {nor : NorOf N} (folder : FolderOf X) where
  -- ---- pieces of a file

  pub writes_none : (count at : ℕ) (v : Volume N nor) (d : X) → WritesFrom folder count at at v v d d
  writes_none count at v d = λ g slots begun. begun

  pub stops_then_writing : {old mid : Volume N nor} {was some : X} (count at middle : ℕ) (why : PutErr) → WritesFrom folder count at middle old mid was some → StopsWriting folder count middle mid some why → StopsWriting folder count at old was why
  stops_then_writing count at middle why first stops = λ g slots begun. stops g slots (first g slots begun)

  pub writes_more : {old mid new : Volume N nor} {was some now : X} (count at n k : ℕ) → n ≡ k → WritesFrom folder count 0 at old mid was some → WritesFrom folder count at (at + n) mid new some now → WritesFrom folder count 0 (at + k) old new was now
  writes_more {old} {mid} {new} {was} {some} {now} count at n k is first second = λ g slots begun. subst (λ (j : ℕ). HasBegun folder g slots now count (at + j) new) is (second g slots (first g slots begun))

  -- a piece was read and written
  pub puts_piece : (old new : Volume N nor) (was now : X) (result : Result (Unit {0}) PutErr) (count at n fd : ℕ) (piece : List ℕ) → n ≡ length piece → 0 < n → count < length (folder.entries was) → at + n ≤ size_at (folder.entries was) count → Kept folder was now →
      (folder.tells was → piece ≡ slice_range (bytes_at (folder.files was) count) at (at + n)) → OnOk result (DoneFrom old (Writes fd piece) new) → fd ≡ 1 → OnOk result (WritesFrom folder count at (at + n) old new was now)
  puts_piece old new was now result count at n fd piece long some inside within kept read done first = on_ok result
      (λ (d : DoneFrom old (Writes fd piece) new). λ g slots begun.
      begun_kept folder kept g slots count (at + n) new (subst (λ (k : ℕ). HasBegun folder g slots was count (at + k) new) (sym long)
      (more_begun folder g slots count at was piece (omega (arith, some, long)) inside (omega (arith, within, long)) (λ tells. read tells ∙ ap (λ (k : ℕ). slice_range (bytes_at (folder.files was) count) at (at + k)) long)
      (subst (λ (k : ℕ). DoneFrom old (Writes k piece) new) first d) begun)))
      done

  pub stops_piece : (old : Volume N nor) (was : X) (result : Result (Unit {0}) PutErr) (count at n fd : ℕ) (piece : List ℕ) → n ≡ length piece → 0 < n → count < length (folder.entries was) → at + n ≤ size_at (folder.entries was) count →
      IfErr result (UndoneFrom old (Writes fd piece)) → fd ≡ 1 → IfErr result (StopsWriting folder count at old was)
  stops_piece old was result count at n fd piece long some inside within undone first = if_err result
      (λ why (u : UndoneFrom old (Writes fd piece) why). λ g slots begun.
      unwritten folder g slots count at was piece why (omega (arith, some, long)) inside (omega (arith, within, long)) (subst (λ (k : ℕ). UndoneFrom old (Writes k piece) why) first u) begun)
      undone

  -- ---- one file

  pub puts_file : {old opened written new : Volume N nor} {was now : X} (count size fd : ℕ) (name : List ℕ) → name ≡ name_at (folder.entries was) count → count < length (folder.entries was) → size ≡ size_at (folder.entries was) count → Kept folder was now → (folder.tells now → folder.entries now ≡ entries_of (folder.files now)) →
      BeginsFrom name old opened fd → (fd ≡ 1 → WritesFrom folder count 0 size opened written was now) → (fd ≡ 1 → DoneFrom written (Closes 1) new) → PutsFrom folder count (count + 1) old new was now
  puts_file {old} {opened} {written} {new} {was} {now} count size fd name named inside is kept listed begins writes closes = λ g slots put.
      let b = next_begun folder g slots count fd was name named inside begins put in
      let w = writes b.0 g slots b.1 in
      next_put folder g slots count size now (omega (arith, inside, ap (λ (l : List Entry). length l) kept.entries)) (is ∙ ap (λ (l : List Entry). size_at l count) (sym kept.entries)) listed (closes b.0) w

  pub fails_opening : {old : Volume N nor} {was : X} (count : ℕ) (name : List ℕ) (why : PutErr) → name ≡ name_at (folder.entries was) count → count < length (folder.entries was) → StopsBeginning name old why → FailsFrom folder count old was why
  fails_opening {old} {was} count name why named inside stops = λ g slots put. unbegun folder g slots count was name why named inside stops put

  pub fails_writing : {old opened : Volume N nor} {was : X} (count fd : ℕ) (name : List ℕ) (why : PutErr) → name ≡ name_at (folder.entries was) count → count < length (folder.entries was) → BeginsFrom name old opened fd → (fd ≡ 1 → StopsWriting folder count 0 opened was why) → FailsFrom folder count old was why
  fails_writing {old} {opened} {was} count fd name why named inside begins stops = λ g slots put.
      let b = next_begun folder g slots count fd was name named inside begins put in
      stops b.0 g slots b.1

  pub fails_closing : {old opened written : Volume N nor} {was now : X} (count size fd : ℕ) (name : List ℕ) (why : PutErr) → name ≡ name_at (folder.entries was) count → count < length (folder.entries was) →
      BeginsFrom name old opened fd → (fd ≡ 1 → WritesFrom folder count 0 size opened written was now) → (fd ≡ 1 → UndoneFrom written (Closes 1) why) → FailsFrom folder count old was why
  fails_closing {old} {opened} {written} {was} {now} count size fd name why named inside begins writes stops = λ g slots put.
      let b = next_begun folder g slots count fd was name named inside begins put in
      let w = writes b.0 g slots b.1 in
      unclosed folder g slots count size now why (stops b.0) w

  -- how its closing ended
  pub ends_file : (old opened written new : Volume N nor) (was now : X) (result : Result (Unit {0}) PutErr) (count size fd : ℕ) (name : List ℕ) → count < length (folder.entries was) → size ≡ size_at (folder.entries was) count → Kept folder was now → (folder.tells now → folder.entries now ≡ entries_of (folder.files now)) →
      BeginsFrom name old opened fd → (fd ≡ 1 → WritesFrom folder count 0 size opened written was now) → OnOk result (DoneFrom written (Closes fd) new) → name ≡ name_at (folder.entries was) count → OnOk result (PutsFrom folder count (count + 1) old new was now)
  ends_file old opened written new was now result count size fd name inside is kept listed begins writes done named = on_ok result
      (λ (d : DoneFrom written (Closes fd) new). puts_file count size fd name named inside is kept listed begins writes (λ first. subst (λ (k : ℕ). DoneFrom written (Closes k) new) first d))
      done

  pub fails_file : (old opened written : Volume N nor) (was now : X) (result : Result (Unit {0}) PutErr) (count size fd : ℕ) (name : List ℕ) → count < length (folder.entries was) →
      BeginsFrom name old opened fd → (fd ≡ 1 → WritesFrom folder count 0 size opened written was now) → IfErr result (UndoneFrom written (Closes fd)) → name ≡ name_at (folder.entries was) count → IfErr result (FailsFrom folder count old was)
  fails_file old opened written was now result count size fd name inside begins writes undone named = if_err result
      (λ why (u : UndoneFrom written (Closes fd) why). fails_closing count size fd name why named inside begins writes (λ first. subst (λ (k : ℕ). UndoneFrom written (Closes k) why) first u))
      undone

  -- ---- the folder was looked at before

  pub puts_kept : {old new : Volume N nor} {was some now : X} (count next : ℕ) → Kept folder was some → PutsFrom folder count next old new some now → PutsFrom folder count next old new was now
  puts_kept {old} count next kept puts = λ g slots put. puts g slots (put_kept folder kept g slots count old put)

  pub fails_kept : {old : Volume N nor} {was some : X} (count : ℕ) (why : PutErr) → Kept folder was some → FailsFrom folder count old some why → FailsFrom folder count old was why
  fails_kept {old} count why kept fails = λ g slots put. fails g slots (put_kept folder kept g slots count old put)

  -- its name is one that a file can have
  pub never_unnamed : {old : Volume N nor} {was : X} (count : ℕ) (why : PutErr) → None ≡ accepted (name_at (folder.entries was) count) → count < length (folder.entries was) → FailsFrom folder count old was why
  never_unnamed {old} {was} count why none inside = λ g slots put. absurd (none-some (name_at (folder.entries was) count) (none ∙ named_fine g (folder.entries was) count put.fine inside))

  -- ---- files after files

  pub puts_none : (count : ℕ) (v : Volume N nor) (d : X) → PutsFrom folder count count v v d d
  puts_none count v d = λ g slots put. put

  pub puts_then : {old mid new : Volume N nor} {was some now : X} (first middle last : ℕ) → PutsFrom folder first middle old mid was some → PutsFrom folder middle last mid new some now → PutsFrom folder first last old new was now
  puts_then first middle last one two = λ g slots put. two g slots (one g slots put)

  pub fails_then : {old mid : Volume N nor} {was some : X} (first middle : ℕ) (why : PutErr) → PutsFrom folder first middle old mid was some → FailsFrom folder middle mid some why → FailsFrom folder first old was why
  fails_then first middle why puts fails = λ g slots put. fails g slots (puts g slots put)

  -- ---- all files

  none_put : (g : Geometry) (slots : ℕ) (d : X) (v : Volume N nor) → 0 < slots → make_refusal g (folder.entries d) ≡ None → IsReady g v (with_files slots []) → HasPut folder g slots d 0 v
  none_put g slots d v some fine ready = record {
    some = some;
    fine = fine;
    files = [];
    entries = refl;
    told = λ tells. refl;
    ready = subst (λ (l : List File). IsReady g v (with_files slots l)) (sym (no_files g)) ready;
  }

  pub makes : {old mid new : Volume N nor} {was some now : X} (count : ℕ) (info : Info) → Kept folder was some → Kept folder some now → count ≡ length (folder.entries was) → (folder.tells was → folder.entries was ≡ entries_of (folder.files was)) →
      PutsFrom folder 0 count old mid some now → TellsFrom mid new info → IsMadeFrom folder old was new info
  makes {old} {mid} {new} {was} {some} {now} count info kept kept_on all listed puts tells = λ g slots one fine ready.
      let put = puts g slots (put_kept folder kept g slots 0 old (none_put g slots was old one fine ready)) in
      let told = tells g (put_state g slots put.files) put.ready in
      let same : folder.entries now ≡ folder.entries was = kept_on.entries ∙ kept.entries in
      let whole : entries_of put.files ≡ folder.entries was = put.entries ∙ ap (λ (l : List Entry). take count l) same ∙ take_all count (folder.entries was) (omega (arith, all)) in
      record {
        files = put.files;
        entries = whole;
        told = λ tells. let same_files : folder.files now ≡ folder.files was = kept_on.files ∙ kept.files in
            put.told (kept_on.told (kept.told tells)) ∙ ap (λ (l : List FolderFile). take count l) same_files
            ∙ take_all count (folder.files was) (omega (arith, all, ap (λ (l : List Entry). length l) (listed tells), length-map (folder.files was) entry_of));
        ready = told.1;
        files_are = ap (λ (i : Info). i.files) told.0 ∙ numbered_long g 1 put.files ∙ sym (length-map put.files entry_of) ∙ ap (λ (l : List Entry). length l) whole;
        index_is = ap (λ (i : Info). i.index_pages) told.0 ∙ index_is g 1 put.files ∙ ap (index_sum g) whole;
        data_is = ap (λ (i : Info). i.data_pages) told.0 ∙ data_is g 1 put.files ∙ ap (data_sum g) whole;
      }

  pub only_fails : {old : Volume N nor} {was some : X} (why : PutErr) → Kept folder was some → FailsFrom folder 0 old some why → OnlyFailsFrom folder old was why
  only_fails {old} {was} why kept fails = λ g slots one fine ready. fails g slots (put_kept folder kept g slots 0 old (none_put g slots was old one fine ready))

  pub only_fails_telling : {old mid : Volume N nor} {was some now : X} (count : ℕ) (why : PutErr) → Kept folder was some → PutsFrom folder 0 count old mid some now → StopsTelling mid why → OnlyFailsFrom folder old was why
  only_fails_telling {old} {mid} {was} count why kept puts stops = λ g slots one fine ready.
      let put = puts g slots (put_kept folder kept g slots 0 old (none_put g slots was old one fine ready)) in
      stops g (put_state g slots put.files) put.ready
