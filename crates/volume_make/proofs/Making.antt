-- Steps of putting a folder's files onto a volume.
use Rattle.std.proofs.Common.{◌≡◌, ℕ, ◌+◌, ◌-◌, ◌<◌, ◌≤◌, List, [], ◌∷◌, ◌++◌, length, take, drop, get_or, true, Option, Some, None, inr, refl, sym, ◌∙◌, ap, subst, arith}
use Rattle.std.specs.Prelude.{slice_range}
use Rattle.std.proofs.lemmas.Option.{none-some, same_Some}
use Rattle.std.proofs.lemmas.List.{length-append, length-map, take_all, take_more, take-take, drop-take, take-append-drop, get_or-map, map-append}
use Rattle.geometry.specs.declared.geometry.Geometry.{Geometry}
use Rattle.nor_core.specs.declared.state.NorState.{Ghosts as NorOf}
use Rattle.table_model.specs.declared.reply.Info.{Info}
use Rattle.table_model.specs.Table.{State}
use Rattle.table_model.specs.Calls.{info_of}
use Rattle.table_model.specs.Outcome.{Outcome}
use Rattle.table_model.specs.Ask.{Ask, Opens, Writes, Closes, Informs}
use Rattle.table_model.specs.Reply.{Answer, Tells, Counts, Refuses}
use Rattle.table_model.specs.Flat.{answer}
use Rattle.table_model.specs.Steps.{is_refusal}
use Rattle.table_model.specs.declared.error.FsErr.{FsErr}
use Rattle.folder_core.specs.Files.{Entry, FolderFile, entry_of, entries_of, name_at, size_at, bytes_at}
use Rattle.folder_core.specs.Puts.{Kept}
use Rattle.folder_core.specs.declared.state.FolderState.{Ghosts as FolderOf}
use Rattle.volume.specs.declared.volume.Volume.{Volume}
use Rattle.volume_run.specs.Ready.{IsReady, IsAnsweredFrom, IsOpenedFrom, opened}
use Rattle.volume_run.specs.Stops.{StopsFrom}
use Rattle.volume_run.specs.declared.asking.Stop.{Stop}
use Rattle.folder_plan.specs.Refusals.{make_refusal}
use Rattle.folder_plan.specs.Putting.{put_state, begun_state, IsNew}
use Rattle.folder_plan.proofs.Filling.{front_room, next_new}
use Rattle.folder_plan.proofs.Answering.{longer, answer_begin, answer_more, answer_end}
use Rattle.volume_make.specs.declared.put_err.PutErr.{PutErr}
use Rattle.volume_make.specs.declared.put_err.PutErr.TheVariants.{Stopped}
use Rattle.volume_make.specs.Making.{IsFault, HasPut, HasBegun, BeginsFrom, StopsBeginning, DoneFrom, UndoneFrom, TellsFrom, StopsTelling}

-- ---- lists

same_info : (info other : Info) → Counts info ≡ Counts other → info ≡ other
same_info info other is = cc

no_entry : Entry
no_entry = record { name = []; size = 0 }

-- the bytes before a place, and those that were read from there on
joined : (bytes front piece : List ℕ) (at : ℕ) → front ≡ take at bytes → piece ≡ slice_range bytes at (at + length piece) → front ++ piece ≡ take (at + length piece) bytes
joined bytes front piece at is read =
    let n : at + length piece - at ≡ length piece = omega arith in
    let rest : piece ≡ drop at (take (at + length piece) bytes) = read ∙ ap (λ (k : ℕ). take k (drop at bytes)) n ∙ sym (drop-take at (length piece) bytes) in
    let first : front ≡ take at (take (at + length piece) bytes) = is ∙ sym (take-take at (at + length piece) bytes (omega arith)) in
    ap (λ (l : List ℕ). l ++ piece) first ∙ ap (λ (l : List ℕ). take at (take (at + length piece) bytes) ++ l) rest ∙ take-append-drop at (take (at + length piece) bytes)

one_entry_more : (entries : List Entry) (files : List FolderFile) (count : ℕ) (bytes : List ℕ) → entries_of files ≡ take count entries → length bytes ≡ size_at entries count → count < length entries →
    entries_of files ++ record { name = name_at entries count; size = length bytes } ∷ [] ≡ take (count + 1) entries
unfolding no_entry
one_entry_more entries files count bytes front size inside =
    ap (λ (l : List Entry). l ++ record { name = name_at entries count; size = length bytes } ∷ []) front
    ∙ ap (λ (n : ℕ). take count entries ++ record { name = name_at entries count; size = n } ∷ []) size
    ∙ sym (take_more entries count no_entry inside)

no_file : FolderFile
no_file = record { name = []; bytes = [] }

one_file_more : (entries : List Entry) (all files : List FolderFile) (count size : ℕ) (bytes : List ℕ) → entries ≡ entries_of all → count < length entries → size ≡ size_at entries count → files ≡ take count all → bytes ≡ take size (bytes_at all count) →
    files ++ record { name = name_at entries count; bytes = bytes } ∷ [] ≡ take (count + 1) all
unfolding no_file
one_file_more entries all files count size bytes listed inside is front read =
    let here : FolderFile = get_or all count no_file in
    let within : count < length all = omega (arith, inside, ap (λ (l : List Entry). length l) listed, length-map all entry_of) in
    let entry : get_or entries count (record { name = []; size = 0 }) ≡ entry_of here = ap (λ (l : List Entry). get_or l count (record { name = []; size = 0 })) listed ∙ get_or-map entry_of all count no_file (record { name = []; size = 0 }) within in
    let name : name_at entries count ≡ here.name = ap (λ (e : Entry). e.name) entry in
    let whole : bytes ≡ here.bytes = read ∙ take_all size here.bytes (omega (arith, is, ap (λ (e : Entry). e.size) entry)) in
    ap (λ (l : List FolderFile). l ++ record { name = name_at entries count; bytes = bytes } ∷ []) front
    ∙ ap (λ (n : List ℕ). take count all ++ record { name = n; bytes = bytes } ∷ []) name
    ∙ ap (λ (b : List ℕ). take count all ++ record { name = here.name; bytes = b } ∷ []) whole
    ∙ sym (take_more all count no_file within)

-- ---- the calls of a volume that stands at a state

tells_fd : (g : Geometry) (s next : State) (name : List ℕ) (fd : Option ℕ) → fd ≡ opened (answer g true s (Opens name 20)).answer → answer g true s (Opens name 20) ≡ record { answer = Tells 1; next = next } → fd ≡ Some 1
tells_fd g s next name fd is outcome = is ∙ ap (λ (o : Outcome). opened o.answer) outcome

info_answer : (g : Geometry) (s : State) → answer g true s Informs ≡ record { answer = Counts (info_of g s.table); next = s }
unfolding answer
info_answer g s = refl

module _ {N : Type 0} {nor : NorOf N} {v : Volume N nor} where
  -- a device that failed
  faults : (why : Stop) (g : Geometry) (s : State) → StopsFrom v why → IsReady g v s → IsFault (Stopped why)
  faults why g s stops ready = inr (ap Stopped (stops g s ready))

  pub stops_beginning : (name : List ℕ) (why : Stop) → StopsFrom v why → StopsBeginning name v (Stopped why)
  stops_beginning name why stops = λ g slots files fresh ready. faults why g (put_state g slots files) stops ready

  pub stops_telling : (why : Stop) → StopsFrom v why → StopsTelling v (Stopped why)
  stops_telling why stops = λ g s ready. faults why g s stops ready

  pub stops_undone : (ask : Ask) (why : Stop) → StopsFrom v why → UndoneFrom v ask (Stopped why)
  stops_undone ask why stops = λ g s ready fine. faults why g s stops ready

  -- the state after an answer
  stands_after : (g : Geometry) (s : State) (ask : Ask) (outcome : Outcome) → answer g true s ask ≡ outcome → IsReady g v (answer g true s ask).next → IsReady g v outcome.next
  stands_after g s ask outcome is ready = subst (λ (o : Outcome). IsReady g v o.next) is ready

module _ {N : Type 0} {nor : NorOf N} {old new : Volume N nor} where
  pub begins : (name : List ℕ) (fd : ℕ) → IsOpenedFrom old name 20 new (Some fd) → BeginsFrom name old new fd
  begins name fd opens = λ g slots files fresh ready.
      let o = opens g (put_state g slots files) ready in
      let is = answer_begin g slots files name fresh in
      (same_Some fd 1 (tells_fd g (put_state g slots files) _ name (Some fd) o.fd_is is), stands_after g (put_state g slots files) (Opens name 20) _ is o.ready)

  pub never_unopened : (name : List ℕ) (why : PutErr) → IsOpenedFrom old name 20 new None → StopsBeginning name old why
  never_unopened name why opens = λ g slots files fresh ready.
      absurd (none-some 1 (tells_fd g (put_state g slots files) _ name None (opens g (put_state g slots files) ready).fd_is (answer_begin g slots files name fresh)))

  pub tells_info : {reply : Answer} (info : Info) → reply ≡ Counts info → IsAnsweredFrom old Informs new reply → TellsFrom old new info
  tells_info info is answered = λ g s ready.
      let a = answered g s ready in
      let told : Counts info ≡ Counts (info_of g s.table) = sym is ∙ a.reply_is ∙ ap (λ (o : Outcome). o.answer) (info_answer g s) in
      (same_info info (info_of g s.table) told, stands_after g s Informs _ (info_answer g s) a.ready)

  pub never_untold : (said : FsErr) (why : PutErr) → IsAnsweredFrom old Informs new (Refuses said) → StopsTelling old why
  never_untold said why answered = λ g s ready.
      let told : Refuses said ≡ Counts (info_of g s.table) = (answered g s ready).reply_is ∙ ap (λ (o : Outcome). o.answer) (info_answer g s) in
      absurd (cc)

-- ---- the folder, as it stays

module _ {N X : Type 0} {nor : NorOf N} (folder : FolderOf X) {was now : X} (kept : Kept folder was now) where
  pub put_kept : (g : Geometry) (slots count : ℕ) (v : Volume N nor) → HasPut folder g slots was count v → HasPut folder g slots now count v
  put_kept g slots count v put = record {
    some = put.some;
    fine = ap (make_refusal g) kept.entries ∙ put.fine;
    files = put.files;
    entries = put.entries ∙ ap (λ (l : List Entry). take count l) (sym kept.entries);
    told = λ tells. put.told (kept.told_before tells) ∙ ap (λ (l : List FolderFile). take count l) (sym kept.files);
    ready = put.ready;
  }

  pub begun_kept : (g : Geometry) (slots count at : ℕ) (v : Volume N nor) → HasBegun folder g slots was count at v → HasBegun folder g slots now count at v
  begun_kept g slots count at v begun = record {
    some = begun.some;
    fine = ap (make_refusal g) kept.entries ∙ begun.fine;
    files = begun.files;
    bytes = begun.bytes;
    entries = begun.entries ∙ ap (λ (l : List Entry). take count l) (sym kept.entries);
    many = begun.many;
    told = λ tells.
        let told = begun.told (kept.told_before tells) in
        (told.0 ∙ ap (λ (l : List FolderFile). take count l) (sym kept.files), told.1 ∙ ap (λ (l : List FolderFile). take at (bytes_at l count)) (sym kept.files));
    ready = subst (λ (l : List Entry). IsReady g v (begun_state g slots begun.files (record { name = name_at l count; bytes = begun.bytes }))) (sym kept.entries) begun.ready;
  }

-- ---- the next file

module _ {N X : Type 0} {nor : NorOf N} (folder : FolderOf X) where
  -- it is begun
  pub next_begun : {old new : Volume N nor} (g : Geometry) (slots count fd : ℕ) (d : X) (name : List ℕ) → name ≡ name_at (folder.entries d) count → count < length (folder.entries d) → BeginsFrom name old new fd → HasPut folder g slots d count old →
      (fd ≡ 1) × HasBegun folder g slots d count 0 new
  next_begun {old} {new} g slots count fd d name named inside begins put =
      let fresh = subst (λ (l : List ℕ). IsNew g slots put.files l) (sym named) (next_new g slots (folder.entries d) put.files count put.some put.fine inside put.entries) in
      let b = begins g slots put.files fresh put.ready in (
        b.0,
        record {
          some = put.some;
          fine = put.fine;
          files = put.files;
          bytes = [];
          entries = put.entries;
          many = refl;
          told = λ tells. (put.told tells, refl);
          ready = subst (λ (l : List ℕ). IsReady g new (begun_state g slots put.files (record { name = l; bytes = [] }))) named b.1;
        },
      )

  pub unbegun : {old : Volume N nor} (g : Geometry) (slots count : ℕ) (d : X) (name : List ℕ) (why : PutErr) → name ≡ name_at (folder.entries d) count → count < length (folder.entries d) → StopsBeginning name old why → HasPut folder g slots d count old → IsFault why
  unbegun g slots count d name why named inside stops put =
      stops g slots put.files (subst (λ (l : List ℕ). IsNew g slots put.files l) (sym named) (next_new g slots (folder.entries d) put.files count put.some put.fine inside put.entries)) put.ready

  -- bytes more of it were written
  pub more_begun : {old new : Volume N nor} (g : Geometry) (slots count at : ℕ) (d : X) (piece : List ℕ) → 0 < length piece → count < length (folder.entries d) → at + length piece ≤ size_at (folder.entries d) count →
      (folder.tells d → piece ≡ slice_range (bytes_at (folder.files d) count) at (at + length piece)) → DoneFrom old (Writes 1 piece) new → HasBegun folder g slots d count at old → HasBegun folder g slots d count (at + length piece) new
  more_begun {old} {new} g slots count at d piece some inside within read done begun =
      let f : FolderFile = record { name = name_at (folder.entries d) count; bytes = begun.bytes } in
      let long : length (begun.bytes ++ piece) ≡ at + length piece = omega (arith, length-append begun.bytes piece, begun.many) in
      let room = front_room g (folder.entries d) begun.files (longer f piece) count begun.fine inside begun.entries (omega (arith, long, within)) in
      let is = answer_more g slots begun.files f piece begun.some some room in
      record {
        some = begun.some;
        fine = begun.fine;
        files = begun.files;
        bytes = begun.bytes ++ piece;
        entries = begun.entries;
        many = long;
        told = λ tells. let told = begun.told tells in (told.0, joined (bytes_at (folder.files d) count) begun.bytes piece at told.1 (read tells));
        ready = stands_after g (begun_state g slots begun.files f) (Writes 1 piece) _ is (done g (begun_state g slots begun.files f) begun.ready);
      }

  pub unwritten : {old : Volume N nor} (g : Geometry) (slots count at : ℕ) (d : X) (piece : List ℕ) (why : PutErr) → 0 < length piece → count < length (folder.entries d) → at + length piece ≤ size_at (folder.entries d) count →
      UndoneFrom old (Writes 1 piece) why → HasBegun folder g slots d count at old → IsFault why
  unwritten g slots count at d piece why some inside within undone begun =
      let f : FolderFile = record { name = name_at (folder.entries d) count; bytes = begun.bytes } in
      let long : length (begun.bytes ++ piece) ≡ at + length piece = omega (arith, length-append begun.bytes piece, begun.many) in
      let room = front_room g (folder.entries d) begun.files (longer f piece) count begun.fine inside begun.entries (omega (arith, long, within)) in
      undone g (begun_state g slots begun.files f) begun.ready (ap (λ (o : Outcome). is_refusal o.answer) (answer_more g slots begun.files f piece begun.some some room))

  -- it is closed
  pub next_put : {old new : Volume N nor} (g : Geometry) (slots count size : ℕ) (d : X) → count < length (folder.entries d) → size ≡ size_at (folder.entries d) count → (folder.tells d → folder.entries d ≡ entries_of (folder.files d)) →
      DoneFrom old (Closes 1) new → HasBegun folder g slots d count size old → HasPut folder g slots d (count + 1) new
  next_put g slots count size d inside is listed done begun =
      let f : FolderFile = record { name = name_at (folder.entries d) count; bytes = begun.bytes } in
      record {
        some = begun.some;
        fine = begun.fine;
        files = begun.files ++ f ∷ [];
        entries = map-append entry_of begun.files (f ∷ []) ∙ one_entry_more (folder.entries d) begun.files count begun.bytes begun.entries (begun.many ∙ is) inside;
        told = λ tells. one_file_more (folder.entries d) (folder.files d) begun.files count size begun.bytes (listed tells) inside is (begun.told tells).0 (begun.told tells).1;
        ready = stands_after g (begun_state g slots begun.files f) (Closes 1) _ (answer_end g slots begun.files f begun.some) (done g (begun_state g slots begun.files f) begun.ready);
      }

  pub unclosed : {old : Volume N nor} (g : Geometry) (slots count size : ℕ) (d : X) (why : PutErr) → UndoneFrom old (Closes 1) why → HasBegun folder g slots d count size old → IsFault why
  unclosed g slots count size d why undone begun =
      let f : FolderFile = record { name = name_at (folder.entries d) count; bytes = begun.bytes } in
      undone g (begun_state g slots begun.files f) begun.ready (ap (λ (o : Outcome). is_refusal o.answer) (answer_end g slots begun.files f begun.some))
