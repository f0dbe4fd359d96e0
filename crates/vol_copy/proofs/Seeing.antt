-- The file of the next record's name is compared with it, call by call.
use Rattle.std.proofs.Common.{◌≡◌, ℕ, ◌+◌, ◌≤◌, List, length, Bool, true, false, Option, Some, None, Result, Ok, Err, refl, sym, ◌∙◌, ap, subst, inl, arith}
use Rattle.std.specs.Prelude.{nat_lt}
use Rattle.std.specs.Option.{option_map}
use Rattle.std.proofs.lemmas.Bool.{le-ltb, false≢true}
use Rattle.std.proofs.lemmas.Option.{none-some}
use Rattle.geometry.specs.declared.geometry.Geometry.{Geometry}
use Rattle.nor_core.specs.declared.state.NorState.{Ghosts as NorOf}
use Rattle.table_model.specs.declared.error.FsErr.TheVariants.{NotFound, DeviceFault, Full as NoRoom}
use Rattle.table_model.specs.declared.reply.Stat.{Stat}
use Rattle.table_model.specs.Table.{File, Open, State, same_text, file_named, file_of}
use Rattle.table_model.specs.Names.{name_refusal}
use Rattle.table_model.specs.Files.{bytes_at, stat_of}
use Rattle.table_model.specs.Outcome.{Outcome, gives}
use Rattle.table_model.specs.Ask.{Ask, Opens, Reads, Closes, Stats}
use Rattle.table_model.specs.Reply.{Answer, Fine, Tells, Gives, Shows, Refuses}
use Rattle.table_model.specs.Flat.{answer}
use Rattle.image_model.specs.Tables.{table_of}
use Rattle.image_laws.proofs.Records.{bytes_same, bytes_equal}
use Rattle.call_model.specs.Closed.{with_files}
use Rattle.file_calls.specs.Replies.{is_change}
use Rattle.vol_mount.specs.declared.reader.Reader.{Reader}
use Rattle.volume.specs.declared.volume.Volume.{Volume}
use Rattle.volume_run.specs.Resting.{IsAtRest, Rested, is_quiet}
use Rattle.copy_model.specs.declared.err.CopyErr.{CopyErr}
use Rattle.copy_model.specs.declared.err.CopyErr.TheVariants.{FromFault, ToFault}
use Rattle.copy_model.specs.Filling.{with_first, looker}
use Rattle.copy_model.specs.Steps.{writes_none}
use Rattle.copy_model.specs.Tasks.{Task}
use Rattle.copy_model.specs.Under.{IsTable, IsUnder}
use Rattle.copy_model.proofs.Answering.{stats-file, stats-none, closes-first}
use Rattle.copy_model.proofs.Opened.{same_first}
use Rattle.copy_model.proofs.Passing.{next_under, next_here}
use Rattle.vol_copy.specs.Ends.{TellsFiles}
use Rattle.vol_copy.specs.Stages.{Rests, Works, CutsUnder, Leads, StopsAs, OnlyFaults, With}
use Rattle.vol_copy.specs.Went.{Went, done_as, stat_as, opened_as, read_stop, ReadsAs}
use Rattle.vol_copy.specs.Seen.{IsSeen, IsLike, IsLooking, IsLooked, IsRead, Idles, Looked, LooksUntil}
use Rattle.vol_copy.proofs.Composing.{works_some, rest_table}
use Rattle.vol_copy.proofs.Calling.{goes, any_cuts}
use Rattle.vol_copy.proofs.Fills.{opened_told, opened_stop, opened_none}
use Rattle.vol_copy.proofs.Glances.{stats-state, looks-table, looks-first, reads-first}
use Rattle.vol_copy.proofs.Likeness.{like_opens, looks_first, reads_it, read_long, looks_on, looks_other}
use Rattle.vol_copy.proofs.Looking.{rest_image, looked_of, until_of, until_none}
use Rattle.vol_copy.proofs.Places.{done_whole, done_stop}

-- the reply of a fault stops a copy for the target's
abbrev pub fault_stops : {M : Type 0} {nor : NorOf M} (t : Task) (new : Volume M nor) (why : CopyErr) → why ≡ ToFault → StopsAs t new why
fault_stops t new why fault = subst (StopsAs t new) (sym fault) tt

-- ---- one call that only looks

module _ {M : Type 0} {nor : NorOf M} (ask : Ask) (old new : Volume M nor) (reply : Answer) (rested : Rested ask old new reply) (quiet : is_quiet ask ≡ true) (none : writes_none ask ≡ true) (still : is_change ask ≡ false)
    (A : Task → Volume M nor → Type 0) (state : (t : Task) → A t old → State) (at : (t : Task) (has : A t old) → IsAtRest t.g old (state t has)) where
  pub look_reads : Idles A old new
  look_reads = λ t has known. rested.looks still (at t has).none

  pub look_cuts : ((t : Task) (has : A t old) → t.known ≡ true → IsUnder t.alike t.source t.first (state t has).table) → ((t : Task) (has : A t old) → (answer t.g true (state t has) ask).next.table ≡ (state t has).table) → CutsUnder A old new
  look_cuts under same = any_cuts ask old new reply rested quiet none A state at under (λ t has known table. subst (IsUnder t.alike t.source t.first) (sym (same t has)) (under t has known))

-- ---- the record of a name

stat_whole : (o : Option Stat) (a : Answer) → stat_as a ≡ Ok o → a ≡ Refuses DeviceFault → ⊥
stat_whole o a ok fault = let no : stat_as (Refuses DeviceFault) ≡ Ok o = subst (λ (x : Answer). stat_as x ≡ Ok o) fault ok in cc

-- what the flat table answers
stat_answers : (g : Geometry) (s : State) (name : List ℕ) → name_refusal name ≡ None → stat_as (answer g true s (Stats name)).answer ≡ Ok (option_map stat_of (file_named name s.table))
stat_answers g s name fine = go (file_named name s.table) refl
  where
    go : (o : Option File) → file_named name s.table ≡ o → stat_as (answer g true s (Stats name)).answer ≡ Ok (option_map stat_of (file_named name s.table))
    go None missing = ap (λ (o : Outcome). stat_as o.answer) (stats-none g s name fine missing) ∙ ap (λ (o : Option File). Ok (option_map stat_of o)) (sym missing)
    go (Some x) there = ap (λ (o : Outcome). stat_as o.answer) (stats-file g s name x fine there) ∙ ap (λ (o : Option File). Ok (option_map stat_of o)) (sym there)

stat_never : (why : CopyErr) (a : Answer) (o : Option Stat) → stat_as a ≡ Err why → ((a ≡ Refuses DeviceFault → ⊥) → stat_as a ≡ Ok o) → why ≡ ToFault
stat_never why (Refuses DeviceFault) o is fine = cc
stat_never why (Refuses NotFound) o is fine = absurd (let no : Ok None ≡ Err why = is in cc)
stat_never why (Shows stat) o is fine = absurd (let no : Ok (Some stat) ≡ Err why = is in cc)
stat_never why a o is fine = absurd (let e : Err why ≡ Ok o = sym is ∙ fine (λ fault. let e = fault in cc) in cc)

module _ {M : Type 0} {nor : NorOf M} (K : Task → List File → Type 0) (name : List ℕ) (fine : (t : Task) (files : List File) → K t files → name_refusal name ≡ None) (old new : Volume M nor) (result : Result (Option Stat) CopyErr) (went : Went stat_as (Stats name) old new result) where
  -- the record that was told is that of the name's file
  abbrev pub Told : Option Stat → Task → List File → Type 0
  Told o t files = K t files × (o ≡ option_map stat_of (file_named name files))

  pub stat_reads : Idles (Rests K) old new
  stat_reads = look_reads (Stats name) old new went.0 went.1 refl refl refl (Rests K) (λ t has. with_files t.slots has.files) (λ t has. has.at)

  pub stat_cuts : ((t : Task) (files : List File) → K t files → IsTable files → IsUnder t.alike t.source t.first files) → CutsUnder (Rests K) old new
  stat_cuts under = look_cuts (Stats name) old new went.0 went.1 refl refl refl (Rests K) (λ t has. with_files t.slots has.files) (λ t has. has.at)
      (λ t has known. under t has.files (has.known known) (rest_table has.at)) (λ t has. ap (λ (s : State). s.table) (stats-state t.g (with_files t.slots has.files) name))

  pub stat_leads : (o : Option Stat) → result ≡ Ok o → Leads (Rests K) (Rests (Told o)) old new
  stat_leads o ok = λ t has.
      let told : stat_as went.0 ≡ Ok o = sym went.2 ∙ ok in
      let w = goes (Stats name) old new went.0 went.1 refl refl t.g (with_files t.slots has.files) has.at (stat_whole o went.0 told) in
      record {
        files = has.files;
        some = has.some;
        at = subst (IsAtRest t.g new) (stats-state t.g (with_files t.slots has.files) name) w.1;
        known = λ known.
            let says : Ok o ≡ Ok (option_map stat_of (file_named name has.files)) = sym told ∙ ap stat_as w.0 ∙ stat_answers t.g (with_files t.slots has.files) name (fine t has.files (has.known known)) in
            (has.known known, cc);
      }

  pub stat_stops : (why : CopyErr) → result ≡ Err why → OnlyFaults (Rests K) old why
  stat_stops why is = λ t has known. stat_never why went.0 (option_map stat_of (file_named name has.files)) (sym went.2 ∙ is) (λ whole.
      ap stat_as (goes (Stats name) old new went.0 went.1 refl refl t.g (with_files t.slots has.files) has.at whole).0 ∙ stat_answers t.g (with_files t.slots has.files) name (fine t has.files (has.known known)))

-- ---- its file is opened

module _ {M : Type 0} {nor : NorOf M} (stat : Stat) (old new : Volume M nor) (result : Result (Option ℕ) CopyErr) (went : Went opened_as (Opens stat.name 8) old new result) where
  see_reads : Idles (Rests (IsLike stat)) old new
  see_reads = look_reads (Opens stat.name 8) old new went.0 went.1 refl refl refl (Rests (IsLike stat)) (λ t has. with_files t.slots has.files) (λ t has. has.at)

  see_cuts : CutsUnder (Rests (IsLike stat)) old new
  see_cuts = look_cuts (Opens stat.name 8) old new went.0 went.1 refl refl refl (Rests (IsLike stat)) (λ t has. with_files t.slots has.files) (λ t has. has.at)
      (λ t has known. next_under stat t has.files (has.known known).next) (λ t has. looks-table t.g t.slots has.files stat.name has.some)

  see_leads : (fd : ℕ) → result ≡ Ok (Some fd) → Leads (Rests (IsLike stat)) (Works fd 8 (IsLooking stat 0)) old new
  see_leads fd ok = λ t has.
      let told : went.0 ≡ Tells fd = opened_told fd went.0 (sym went.2 ∙ ok) in
      let w = goes (Opens stat.name 8) old new went.0 went.1 refl refl t.g (with_files t.slots has.files) has.at (λ fault. let no : Tells fd ≡ Refuses DeviceFault = sym told ∙ fault in cc) in
      let first = looks-first t.g t.slots has.files stat.name fd has.some (sym w.0 ∙ told) in
      let d : Open = record { id = first.1.0; flags = 8; offset = first.1.1 } in
      record {
        files = first.1.2;
        id = first.1.0;
        offset = first.1.1;
        first = first.0;
        some = has.some;
        at = subst (IsAtRest t.g new) first.1.3 w.1;
        known = λ known.
            let like = has.known known in
            let same = same_first t.slots d (looker like.x.id 0) first.1.2 has.files has.some (sym first.1.3 ∙ ap (λ (o : Outcome). o.next) (like_opens stat t has.files like has.some)) in
            subst (λ (l : List File). IsLooking stat 0 t d l) (sym same.1) (subst (λ (e : Open). IsLooking stat 0 t e has.files) (sym same.0) (looks_first stat t has.files like));
      }

  sees : (t : Task) (has : Rests (IsLike stat) t old) → t.known ≡ true → (went.0 ≡ Refuses DeviceFault → ⊥) → went.0 ≡ Tells 1
  sees t has known whole = (goes (Opens stat.name 8) old new went.0 went.1 refl refl t.g (with_files t.slots has.files) has.at whole).0 ∙ ap (λ (o : Outcome). o.answer) (like_opens stat t has.files (has.known known) has.some)

  pub see_looked : (fd : ℕ) → result ≡ Ok (Some fd) → Looked (Rests (IsLike stat)) (Works fd 8 (IsLooking stat 0)) old new
  see_looked fd ok = record { cuts = see_cuts; looks = see_reads; leads = see_leads fd ok }

  pub see_until : (why : CopyErr) → result ≡ Err why → LooksUntil (Rests (IsLike stat)) old new why
  see_until why is = record { cuts = see_cuts; looks = see_reads; stops = λ t has known. fault_stops t new why (opened_stop why went.0 (sym went.2 ∙ is) (λ whole. inl (sees t has known whole))) }

  -- it is never missing
  pub see_missing : (why : CopyErr) → result ≡ Ok None → LooksUntil (Rests (IsLike stat)) old new why
  see_missing why is = record {
    cuts = see_cuts;
    looks = see_reads;
    stops = λ t has known. absurd (
        let told : went.0 ≡ Refuses NoRoom = opened_none went.0 (sym went.2 ∙ is) in
        let one : Refuses NoRoom ≡ Tells 1 = sym told ∙ sees t has known (λ fault. let no : Refuses NoRoom ≡ Refuses DeviceFault = sym told ∙ fault in cc) in
        cc);
  }

-- ---- and read

read_never : (why : CopyErr) (a : Answer) (n : ℕ) (l : List ℕ) → length l ≡ n → read_stop n a ≡ Some why → ((a ≡ Refuses DeviceFault → ⊥) → a ≡ Gives l) → why ≡ ToFault
read_never why (Refuses DeviceFault) n l long is gives = cc
read_never why (Gives bytes) n l long is gives = absurd (
    let e : Gives bytes ≡ Gives l = gives (λ fault. let e = fault in cc) in
    let same : bytes ≡ l = cc in
    let less : nat_lt (length bytes) n ≡ false = le-ltb (length bytes) n (omega (arith, long, ap (λ (x : List ℕ). length x) same)) in
    none-some why (rw less at is))
read_never why a n l long is gives = absurd (let e = gives (λ fault. let e = fault in cc) in cc)

module _ {M : Type 0} {nor : NorOf M} (stat : Stat) (at fd n : ℕ) (within : at + n ≤ stat.size) (ours : List ℕ) (old new : Volume M nor) (reply : Answer) (rested : Rested (Reads fd n) old new reply) where
  -- a target beside so many bytes, which are the record's
  pub record WithOurs (t : Task) (v : Volume M nor) : Type 0 where
    pub works : Works fd 8 (IsLooking stat at) t v
    pub ours_are : t.known ≡ true → (f : File) → file_of stat.id t.source ≡ Some f → ours ≡ bytes_at n at f

  abbrev state_of : (t : Task) → WithOurs t old → State
  state_of t has = with_first t.slots (looker has.works.id has.works.offset) has.works.files

  part_next : (t : Task) (has : WithOurs t old) → (after : ℕ) × ((answer t.g true (state_of t has) (Reads fd n)).next ≡ with_first t.slots (looker has.works.id after) has.works.files)
  part_next t has =
      let first = reads-first t.g t.slots has.works.id has.works.offset has.works.files n has.works.some in
      (first.0, ap (λ (m : ℕ). (answer t.g true (state_of t has) (Reads m n)).next) has.works.first ∙ first.1)

  part_it : (t : Task) (has : WithOurs t old) (known : t.known ≡ true) → answer t.g true (state_of t has) (Reads fd n) ≡ gives (Gives (bytes_at n at (has.works.known known).like.x)) (with_first t.slots (looker (has.works.known known).like.x.id (at + n)) has.works.files)
  part_it t has known = ap (λ (m : ℕ). answer t.g true (state_of t has) (Reads m n)) has.works.first
      ∙ reads_it stat at t (looker has.works.id has.works.offset) has.works.files (has.works.known known) n within has.works.some (rest_table has.works.at)

  part_reads : Idles WithOurs old new
  part_reads = look_reads (Reads fd n) old new reply rested refl refl refl WithOurs state_of (λ t has. has.works.at)

  part_cuts : CutsUnder WithOurs old new
  part_cuts = look_cuts (Reads fd n) old new reply rested refl refl refl WithOurs state_of (λ t has. has.works.at)
      (λ t has known. next_under stat t has.works.files (has.works.known known).like.next) (λ t has. ap (λ (s : State). s.table) (part_next t has).1)

  part_leads : (into : List ℕ) → reply ≡ Gives into → (same : Bool) → same_text ours into ≡ same → Leads WithOurs (Works fd 8 (IsRead stat (at + n) same)) old new
  part_leads into told same is = λ t has.
      let w = goes (Reads fd n) old new reply rested refl refl t.g (state_of t has) has.works.at (λ fault. let no : Gives into ≡ Refuses DeviceFault = sym told ∙ fault in cc) in
      let next = part_next t has in
      record {
        files = has.works.files;
        id = has.works.id;
        offset = next.0;
        first = has.works.first;
        some = has.works.some;
        at = subst (IsAtRest t.g new) next.1 w.1;
        known = λ known.
            let looking = has.works.known known in
            let it = part_it t has known in
            let d : looker has.works.id next.0 ≡ looker looking.like.x.id (at + n) =
            (same_first t.slots (looker has.works.id next.0) (looker looking.like.x.id (at + n)) has.works.files has.works.files has.works.some (sym next.1 ∙ ap (λ (o : Outcome). o.next) it)).0 in
            let gave : Gives into ≡ Gives (bytes_at n at looking.like.x) = sym told ∙ w.0 ∙ ap (λ (o : Outcome). o.answer) it in
            let into_is : into ≡ bytes_at n at looking.like.x = cc in
            let next_is = looking.like.next in
            let ours_is : ours ≡ bytes_at n at next_is.f = has.ours_are known next_is.f (ap (λ (s : Stat). file_of s.id t.source) next_is.stat_is ∙ next_here stat t has.works.files next_is) in
            subst (λ (e : Open). IsRead stat (at + n) same t e has.works.files) (sym d) (go same is t has.works.files (looker has.works.id has.works.offset) looking into_is ours_is);
      }
    where
      go : (b : Bool) → same_text ours into ≡ b → (t : Task) (files : List File) (d : Open) (looking : IsLooking stat at t d files) → into ≡ bytes_at n at looking.like.x → ours ≡ bytes_at n at looking.like.next.f → IsRead stat (at + n) b t (looker looking.like.x.id (at + n)) files
      go true same t files d looking into_is ours_is = looks_on stat at t d files looking n within (sym into_is ∙ sym (bytes_same ours into same) ∙ ours_is)
      go false differ t files d looking into_is ours_is = looks_other stat at t d files looking n within (λ e. false≢true (sym differ ∙ ap (λ (l : List ℕ). same_text ours l) (into_is ∙ e ∙ sym ours_is) ∙ bytes_equal ours))

  part_stops : (why : CopyErr) → read_stop n reply ≡ Some why → OnlyFaults WithOurs old why
  part_stops why is = λ t has known.
      let looking = has.works.known known in
      read_never why reply n (bytes_at n at looking.like.x) (read_long stat at t (looker has.works.id has.works.offset) has.works.files looking n within) is
      (λ whole. (goes (Reads fd n) old new reply rested refl refl t.g (state_of t has) has.works.at whole).0 ∙ ap (λ (o : Outcome). o.answer) (part_it t has known))

  module _ {N : Type 0} {nor_from : NorOf N} (from : Reader N nor_from) (told : (source : List File) (f : File) → TellsFiles nor_from from source → file_of stat.id source ≡ Some f → ours ≡ bytes_at n at f) where
    beside : (t : Task) → With nor_from from (Works fd 8 (IsLooking stat at)) t old → WithOurs t old
    beside t has = record { works = has.1; ours_are = λ known f here. told t.source f (has.0 known) here }

    pub part_looked : (into : List ℕ) → reply ≡ Gives into → (same : Bool) → same_text ours into ≡ same → Looked (With nor_from from (Works fd 8 (IsLooking stat at))) (Works fd 8 (IsRead stat (at + n) same)) old new
    part_looked into gave same is = looked_of (With nor_from from (Works fd 8 (IsLooking stat at))) WithOurs (Works fd 8 (IsRead stat (at + n) same)) old new beside (record { cuts = part_cuts; looks = part_reads; leads = part_leads into gave same is })

    pub part_until : (why : CopyErr) → read_stop n reply ≡ Some why → LooksUntil (With nor_from from (Works fd 8 (IsLooking stat at))) old new why
    part_until why is = until_of (With nor_from from (Works fd 8 (IsLooking stat at))) WithOurs old new why beside (record { cuts = part_cuts; looks = part_reads; stops = λ t has known. fault_stops t new why (part_stops why is t has known) })

module _ {M : Type 0} {nor : NorOf M} (stat : Stat) (fd at : ℕ) (t : Task) (v : Volume M nor) where
  pub looking_under : Works fd 8 (IsLooking stat at) t v → t.known ≡ true → IsUnder t.alike t.source t.first (table_of t.g (nor.bytes v.nor.now))
  looking_under has known = subst (IsUnder t.alike t.source t.first) (sym (rest_image has.at)) (next_under stat t has.files (has.known known).like.next)

-- the same, of bytes as many as the record's
module _ {N M : Type 0} {nor_from : NorOf N} {nor : NorOf M} (stat : Stat) (at fd : ℕ) (ours was into : List ℕ) (n : ℕ) (as_many : length was ≡ n) (long : length into ≡ length was) (within : at + n ≤ stat.size) (from : Reader N nor_from) (old new : Volume M nor) where
  pub part_unread : (why : CopyErr) → ((source : List File) (f : File) → TellsFiles nor_from from source → file_of stat.id source ≡ Some f → at + n ≤ length f.bytes → why ≡ FromFault) → LooksUntil (With nor_from from (Works fd 8 (IsLooking stat at))) old old why
  part_unread why fails = until_none (With nor_from from (Works fd 8 (IsLooking stat at))) old why (λ t has. works_some t old has.1) (λ t has known. looking_under stat fd at t old has.1 known)
      (λ t has known.
      let next = (has.1.known known).like.next in
      let here : file_of stat.id t.source ≡ Some next.f = ap (λ (s : Stat). file_of s.id t.source) next.stat_is ∙ next_here stat t has.1.files next in
      subst (StopsAs t old) (sym (fails t.source next.f (has.0 known) here (omega (arith, within, ap (λ (s : Stat). s.size) next.stat_is)))) tt)

  module _ (told : (source : List File) (f : File) → TellsFiles nor_from from source → file_of stat.id source ≡ Some f → ours ≡ bytes_at n at f) (result : Result (Unit {0}) CopyErr) (went : (reply : Answer) × Rested (Reads fd (length was)) old new reply × ReadsAs into reply result) where
    rested_of : Rested (Reads fd n) old new went.0
    rested_of = subst (λ (m : ℕ). Rested (Reads fd m) old new went.0) as_many went.1

    reads_ok : (r : Result (Unit {0}) CopyErr) → ReadsAs into went.0 r → r ≡ Ok tt → went.0 ≡ Gives into
    reads_ok (Ok done) so ok = so
    reads_ok (Err why) so ok = absurd (cc)

    reads_err : (r : Result (Unit {0}) CopyErr) (why : CopyErr) → ReadsAs into went.0 r → r ≡ Err why → read_stop n went.0 ≡ Some why
    reads_err (Ok done) why so is = absurd (cc)
    reads_err (Err x) why so is = let e : x ≡ why = cc in subst (λ (m : ℕ). read_stop m went.0 ≡ Some why) (long ∙ as_many) (so ∙ ap (λ (y : CopyErr). Some y) e)

    pub part_fails : (why : CopyErr) → result ≡ Err why → LooksUntil (With nor_from from (Works fd 8 (IsLooking stat at))) old new why
    part_fails why is = part_until stat at fd n within ours old new went.0 rested_of from told why (reads_err result why went.2 is)

    pub part_done : result ≡ Ok tt → (same : Bool) → same_text ours into ≡ same → Looked (With nor_from from (Works fd 8 (IsLooking stat at))) (Works fd 8 (IsRead stat (at + n) same)) old new
    part_done ok same is = part_looked stat at fd n within ours old new went.0 rested_of from told into (reads_ok result went.2 ok) same is

-- ---- and closed

module _ {M : Type 0} {nor : NorOf M} (stat : Stat) (copy : Bool) (fd : ℕ) (old new : Volume M nor) (result : Result (Unit {0}) CopyErr) (went : Went done_as (Closes fd) old new result) where
  quit_it : (t : Task) (has : Works fd 8 (IsLooked stat copy) t old) → answer t.g true (with_first t.slots (looker has.id has.offset) has.files) (Closes fd) ≡ gives Fine (with_files t.slots has.files)
  quit_it t has = ap (λ (n : ℕ). answer t.g true (with_first t.slots (looker has.id has.offset) has.files) (Closes n)) has.first ∙ closes-first t.g t.slots (looker has.id has.offset) has.files has.some

  quit_reads : Idles (Works fd 8 (IsLooked stat copy)) old new
  quit_reads = look_reads (Closes fd) old new went.0 went.1 refl refl refl (Works fd 8 (IsLooked stat copy)) (λ t has. with_first t.slots (looker has.id has.offset) has.files) (λ t has. has.at)

  quit_cuts : CutsUnder (Works fd 8 (IsLooked stat copy)) old new
  quit_cuts = look_cuts (Closes fd) old new went.0 went.1 refl refl refl (Works fd 8 (IsLooked stat copy)) (λ t has. with_first t.slots (looker has.id has.offset) has.files) (λ t has. has.at)
      (λ t has known. next_under stat t has.files (has.known known).next) (λ t has. ap (λ (o : Outcome). o.next.table) (quit_it t has))

  quit_leads : result ≡ Ok tt → Leads (Works fd 8 (IsLooked stat copy)) (Rests (IsSeen stat copy)) old new
  quit_leads ok = λ t has.
      let w = goes (Closes fd) old new went.0 went.1 refl refl t.g (with_first t.slots (looker has.id has.offset) has.files) has.at (done_whole went.0 (sym went.2 ∙ ok)) in
      record { files = has.files; some = has.some; at = subst (IsAtRest t.g new) (ap (λ (o : Outcome). o.next) (quit_it t has)) w.1; known = has.known }

  pub quit_looked : result ≡ Ok tt → Looked (Works fd 8 (IsLooked stat copy)) (Rests (IsSeen stat copy)) old new
  quit_looked ok = record { cuts = quit_cuts; looks = quit_reads; leads = quit_leads ok }

  pub quit_until : (why : CopyErr) → result ≡ Err why → LooksUntil (Works fd 8 (IsLooked stat copy)) old new why
  quit_until why is = record {
    cuts = quit_cuts;
    looks = quit_reads;
    stops = λ t has known. fault_stops t new why (done_stop why went.0 (sym went.2 ∙ is) (λ whole.
        (goes (Closes fd) old new went.0 went.1 refl refl t.g (with_first t.slots (looker has.id has.offset) has.files) has.at whole).0 ∙ ap (λ (o : Outcome). o.answer) (quit_it t has)));
  }
