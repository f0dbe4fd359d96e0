-- The working file is opened, written page by page, and closed.
use Rattle.std.proofs.Common.{◌≡◌, ◌⊎◌, ℕ, ◌+◌, ◌-◌, ◌<◌, List, ◌∷◌, length, Bool, true, false, Option, Some, None, Result, Ok, Err, refl, sym, ◌∙◌, ap, subst, ⊎_elim, inl, inr, cond, arith}
use Rattle.std.specs.Prelude.{nat_lt, min}
use Rattle.nor_core.specs.declared.state.NorState.{Ghosts as NorOf}
use Rattle.nor_core.proofs.Cuts.{wider}
use Rattle.geometry.specs.declared.geometry.Geometry.{Geometry}
use Rattle.geometry.specs.Numbers.{body}
use Rattle.table_model.specs.declared.error.FsErr.TheVariants.{DeviceFault, Full as NoRoom}
use Rattle.table_model.specs.declared.reply.Stat.{Stat}
use Rattle.table_model.specs.Table.{File, Open, State, file_of}
use Rattle.table_model.specs.Room.{index_pages}
use Rattle.table_model.specs.Outcome.{Outcome}
use Rattle.table_model.specs.Ask.{Opens, Writes, Closes}
use Rattle.table_model.specs.Reply.{Answer, Fine, Tells, Refuses}
use Rattle.table_model.specs.Flat.{answer}
use Rattle.table_model.specs.Steps.{steps}
use Rattle.table_model.specs.Window.{IsAmong}
use Rattle.image_model.specs.Tables.{table_of}
use Rattle.image_model.specs.Within.{sizes}
use Rattle.call_model.specs.Closed.{with_files}
use Rattle.call_model.proofs.Closed.{first_open}
use Rattle.volume.specs.declared.volume.Volume.{Volume}
use Rattle.volume_run.specs.Resting.{IsAtRest, IsQuiet}
use Rattle.volume_run.proofs.Quieting.{quiet-writes}
use Rattle.copy_model.specs.declared.err.CopyErr.{CopyErr}
use Rattle.copy_model.specs.declared.err.CopyErr.TheVariants.{ToFault, Refused}
use Rattle.copy_model.specs.Copying.{working}
use Rattle.copy_model.specs.Filling.{with_first}
use Rattle.copy_model.specs.Answers.{IsPiece}
use Rattle.copy_model.specs.Tasks.{Task}
use Rattle.copy_model.specs.Under.{IsUnder}
use Rattle.copy_model.specs.Parts.{IsMissing, IsFilling, IsWhole}
use Rattle.copy_model.proofs.Passing.{next_under, next_here, filling_done}
use Rattle.copy_model.proofs.Shapes.{opens-first, writes-first}
use Rattle.copy_model.proofs.Opened.{open_replies, open_begins, open_left, open_lacks, write_cut, write_goes, write_lacks, write_replies, close_done, filling_under}
use Rattle.vol_copy.specs.Stages.{IsPage, Rests, Works, LacksRoom, CutsUnder, Leads, OnlyFaults}
use Rattle.vol_copy.specs.Went.{Went, opened_as, wrote_as, done_as}
use Rattle.vol_copy.proofs.Composing.{image_table, rest_table}
use Rattle.vol_copy.proofs.Calling.{goes, any_cuts}
use Rattle.vol_copy.proofs.Places.{done_stop, done_whole}

-- ---- how an opening went

number_in : (n fd : ℕ) (b : Bool) (bad : CopyErr) → cond {A = Result (Option ℕ) CopyErr} b (Ok (Some n)) (Err bad) ≡ Ok (Some fd) → n ≡ fd
number_in n fd true bad is = cc
number_in n fd false bad is = cc

number_none : (n : ℕ) (b : Bool) (bad : CopyErr) → cond {A = Result (Option ℕ) CopyErr} b (Ok (Some n)) (Err bad) ≡ Ok None → ⊥
number_none n true bad is = cc
number_none n false bad is = cc

pub opened_told : (fd : ℕ) (a : Answer) → opened_as a ≡ Ok (Some fd) → a ≡ Tells fd
opened_told fd (Tells n) is = ap Tells (number_in n fd (nat_lt n 65536) Refused is)
opened_told fd (Refuses NoRoom) is = absurd (let no : Ok None ≡ Ok (Some fd) = is in cc)
opened_told fd (Refuses why) is = absurd (let no : opened_as (Refuses why) ≡ Ok (Some fd) = is in cc)
opened_told fd a is = absurd (cc)

pub opened_stop : (why : CopyErr) (a : Answer) → opened_as a ≡ Err why → ((a ≡ Refuses DeviceFault → ⊥) → (a ≡ Tells 1) ⊎ (a ≡ Refuses NoRoom)) → why ≡ ToFault
opened_stop why (Refuses DeviceFault) is among = cc
opened_stop why (Refuses NoRoom) is among = absurd (let no : Ok None ≡ Err why = is in cc)
opened_stop why (Tells n) is among = absurd (⊎_elim
    (λ (one : Tells n ≡ Tells 1). let m : n ≡ 1 = cc in let no : opened_as (Tells 1) ≡ Err why = subst (λ (k : ℕ). opened_as (Tells k) ≡ Err why) m is in cc)
    (λ full. let e = full in cc)
    (among (λ fault. let e = fault in cc)))
opened_stop why a is among = absurd (⊎_elim (λ one. let e = one in cc) (λ full. let e = full in cc) (among (λ fault. let e = fault in cc)))

pub opened_none : (a : Answer) → opened_as a ≡ Ok None → a ≡ Refuses NoRoom
opened_none (Refuses NoRoom) is = refl
opened_none (Tells n) is = absurd (number_none n (nat_lt n 65536) Refused is)
opened_none a is = absurd (cc)

module _ {M : Type 0} {nor : NorOf M} (stat : Stat) (old new : Volume M nor) (result : Result (Option ℕ) CopyErr) (went : Went opened_as (Opens working 52) old new result) where
  pub open_cuts : CutsUnder (Rests (IsMissing stat)) old new
  open_cuts = any_cuts (Opens working 52) old new went.0 went.1 refl refl (Rests (IsMissing stat)) (λ t has. with_files t.slots has.files) (λ t has. has.at)
      (λ t has known. next_under stat t has.files (has.known known).next) (λ t has known table. open_left stat t has.files (has.known known) has.some table)

  pub open_leads : (fd : ℕ) → result ≡ Ok (Some fd) → Leads (Rests (IsMissing stat)) (Works fd 52 (IsFilling stat 0)) old new
  open_leads fd ok = λ t has.
      let told : went.0 ≡ Tells fd = opened_told fd went.0 (sym went.2 ∙ ok) in
      let w = goes (Opens working 52) old new went.0 went.1 refl refl t.g (with_files t.slots has.files) has.at (λ fault. let no : Tells fd ≡ Refuses DeviceFault = sym told ∙ fault in cc) in
      let says : (answer t.g true (with_files t.slots has.files) (Opens working 52)).answer ≡ Tells fd = sym w.0 ∙ told in
      let first = opens-first t.g t.slots has.files fd has.some says in
      record {
        files = first.1.2;
        id = first.1.0;
        offset = first.1.1;
        first = first.0;
        some = has.some;
        at = subst (IsAtRest t.g new) first.1.3 w.1;
        known = λ known. open_begins stat t has.files (has.known known) has.some fd first.1.0 first.1.1 first.1.2 says first.1.3;
      }

  pub open_short : result ≡ Ok None → Leads (Rests (IsMissing stat)) (LacksRoom 1 0) old new
  open_short ok = λ t has.
      let told : went.0 ≡ Refuses NoRoom = opened_none went.0 (sym went.2 ∙ ok) in
      let w = goes (Opens working 52) old new went.0 went.1 refl refl t.g (with_files t.slots has.files) has.at (λ fault. let no : Refuses NoRoom ≡ Refuses DeviceFault = sym told ∙ fault in cc) in
      record { state = (answer t.g true (with_files t.slots has.files) (Opens working 52)).next; at = w.1; known = λ known. open_lacks stat t has.files (has.known known) has.some (sym w.0 ∙ told) }

  pub open_stops : (why : CopyErr) → result ≡ Err why → OnlyFaults (Rests (IsMissing stat)) old why
  open_stops why is = λ t has known. opened_stop why went.0 (sym went.2 ∙ is) (λ whole.
      let r = (goes (Opens working 52) old new went.0 went.1 refl refl t.g (with_files t.slots has.files) has.at whole).0 in
      ⊎_elim (λ one. inl (r ∙ one)) (λ full. inr (r ∙ full)) (open_replies stat t has.files (has.known known) has.some))

-- ---- a write

wrote_stop : (why : CopyErr) (a : Answer) (n : ℕ) → wrote_as a ≡ Err why → ((a ≡ Refuses DeviceFault → ⊥) → (a ≡ Tells n) ⊎ (a ≡ Refuses NoRoom)) → why ≡ ToFault
wrote_stop why (Refuses DeviceFault) n is among = cc
wrote_stop why (Refuses NoRoom) n is among = absurd (let no : Ok false ≡ Err why = is in cc)
wrote_stop why (Tells m) n is among = absurd (let no : Ok true ≡ Err why = is in cc)
wrote_stop why a n is among = absurd (⊎_elim (λ one. let e = one in cc) (λ full. let e = full in cc) (among (λ fault. let e = fault in cc)))

wrote_full : (a : Answer) → wrote_as a ≡ Ok false → a ≡ Refuses NoRoom
wrote_full (Refuses NoRoom) is = refl
wrote_full (Tells m) is = absurd (let no : Ok true ≡ Ok false = is in cc)
wrote_full a is = absurd (cc)

wrote_told : (a : Answer) → wrote_as a ≡ Ok true → (n : ℕ) × (a ≡ Tells n)
wrote_told (Tells m) is = (m, refl)
wrote_told (Refuses NoRoom) is = absurd (let no : Ok false ≡ Ok true = is in cc)
wrote_told a is = absurd (cc)

module _ {M : Type 0} {nor : NorOf M} (stat : Stat) (at fd : ℕ) (bytes : List ℕ) (old new : Volume M nor) (result : Result Bool CopyErr) (went : Went wrote_as (Writes fd bytes) old new result) (is_page : IsPage old.geometry stat at (length bytes)) where
  -- the bytes are the record's
  abbrev pub AreOf : Task → Type 0
  AreOf t = t.known ≡ true → (f : File) → file_of stat.id t.source ≡ Some f → IsPiece f at bytes

  -- a target of which that is known
  pub record WithBytes (t : Task) (v : Volume M nor) : Type 0 where
    pub works : Works fd 52 (IsFilling stat at) t v
    pub bytes_are : AreOf t

  module _ (t : Task) (has : WithBytes t old) where
    page_at : IsPage t.g stat at (length bytes)
    page_at = subst (λ (g : Geometry). IsPage g stat at (length bytes)) has.works.at.geometry is_page

    quiet : IsQuiet t.g (with_first t.slots (record { id = has.works.id; flags = 52; offset = has.works.offset }) has.works.files) (Writes fd bytes)
    quiet = subst (λ (n : ℕ). IsQuiet t.g (with_first t.slots (record { id = has.works.id; flags = 52; offset = has.works.offset }) has.works.files) (Writes n bytes)) (sym has.works.first)
        (quiet-writes t.g (with_first t.slots (record { id = has.works.id; flags = 52; offset = has.works.offset }) has.works.files) 1 bytes (record { id = has.works.id; flags = 52; offset = has.works.offset })
        (first_open (min 65535 t.slots) (record { id = has.works.id; flags = 52; offset = has.works.offset }) (omega (arith, has.works.some))) refl)

    piece_of : (known : t.known ≡ true) → IsPiece (has.works.known known).is.next.f at bytes
    piece_of known =
        let n = (has.works.known known).is.next in
        has.bytes_are known n.f (ap (λ (id : ℕ). file_of id t.source) (ap (λ (s : Stat). s.id) n.stat_is) ∙ next_here stat t (has.works.known known).before n)

    pos : 0 < body t.g
    pos = let geo = sizes t.g in omega (arith, geo.page)

  module _ (t : Task) (has : WithBytes t old) where
    -- the answer, as a write through the first descriptor
    wrote : ¬ (went.0 ≡ Refuses DeviceFault) → (went.0 ≡ (answer t.g true (with_first t.slots (record { id = has.works.id; flags = 52; offset = has.works.offset }) has.works.files) (Writes 1 bytes)).answer)
        × IsAtRest t.g new (answer t.g true (with_first t.slots (record { id = has.works.id; flags = 52; offset = has.works.offset }) has.works.files) (Writes 1 bytes)).next
    wrote whole = subst (λ (n : ℕ). (went.0 ≡ (answer t.g true (with_first t.slots (record { id = has.works.id; flags = 52; offset = has.works.offset }) has.works.files) (Writes n bytes)).answer)
        × IsAtRest t.g new (answer t.g true (with_first t.slots (record { id = has.works.id; flags = 52; offset = has.works.offset }) has.works.files) (Writes n bytes)).next) has.works.first
        (went.1.answers t.g (with_first t.slots (record { id = has.works.id; flags = 52; offset = has.works.offset }) has.works.files) has.works.at (quiet t has) whole)

  pub write_cuts : CutsUnder WithBytes old new
  write_cuts = wider went.1.cuts (λ tells image here. λ t has.
      let d : Open = record { id = has.works.id; flags = 52; offset = has.works.offset } in
      let r = here t.g (with_first t.slots d has.works.files) has.works.at in
      let p = page_at t has in (
        r.0,
        λ known.
            write_cut stat at t d has.works.files (has.works.known known) has.works.some bytes p.some p.page p.most p.within p.whole (piece_of t has known) (pos t has) (table_of t.g image) (image_table t.g image)
            (subst (λ (n : ℕ). IsAmong (table_of t.g image) (has.works.files ∷ steps t.g true (with_first t.slots d has.works.files) (Writes n bytes))) has.works.first r.1),
      ))

  pub write_leads : result ≡ Ok true → Leads WithBytes (Works fd 52 (IsFilling stat (at + length bytes))) old new
  write_leads ok = λ t has.
      let d : Open = record { id = has.works.id; flags = 52; offset = has.works.offset } in
      let told = wrote_told went.0 (sym went.2 ∙ ok) in
      let w = wrote t has (λ fault. let no : Tells told.0 ≡ Refuses DeviceFault = sym told.1 ∙ fault in cc) in
      let p = page_at t has in
      let next = writes-first t.g t.slots has.works.id has.works.offset has.works.files bytes has.works.some in
      record {
        files = next.2;
        id = next.0;
        offset = next.1;
        first = has.works.first;
        some = has.works.some;
        at = subst (IsAtRest t.g new) next.3 w.1;
        known = λ known. write_goes stat at t d has.works.files (has.works.known known) has.works.some bytes p.some p.page p.most p.within p.whole (piece_of t has known) (pos t has) told.0 next.0 next.1 next.2 (sym w.0 ∙ told.1) next.3;
      }

  pub write_short : result ≡ Ok false → Leads WithBytes (LacksRoom (index_pages old.geometry (at + length bytes) - index_pages old.geometry at) 1) old new
  write_short ok = λ t has.
      let d : Open = record { id = has.works.id; flags = 52; offset = has.works.offset } in
      let told = wrote_full went.0 (sym went.2 ∙ ok) in
      let w = wrote t has (λ fault. let no : Refuses NoRoom ≡ Refuses DeviceFault = sym told ∙ fault in cc) in
      let p = page_at t has in
      subst (λ (g : Geometry). LacksRoom (index_pages g (at + length bytes) - index_pages g at) 1 t new) (sym has.works.at.geometry) (record {
        state = (answer t.g true (with_first t.slots d has.works.files) (Writes 1 bytes)).next;
        at = w.1;
        known = λ known. write_lacks stat at t d has.works.files (has.works.known known) has.works.some bytes p.some p.page p.most p.within p.whole (piece_of t has known) (pos t has) (rest_table has.works.at) (sym w.0 ∙ told);
      })

  pub write_stops : (why : CopyErr) → result ≡ Err why → OnlyFaults WithBytes old why
  write_stops why is = λ t has known.
      let d : Open = record { id = has.works.id; flags = 52; offset = has.works.offset } in
      let p = page_at t has in
      wrote_stop why went.0 (length bytes) (sym went.2 ∙ is) (λ whole.
      let r = (wrote t has whole).0 in
      ⊎_elim (λ all. inl (r ∙ all)) (λ full. inr (r ∙ full))
      (write_replies stat at t d has.works.files (has.works.known known) has.works.some bytes p.some p.page p.most p.within p.whole (piece_of t has known) (pos t has)))

-- ---- it is closed

module _ {M : Type 0} {nor : NorOf M} (stat : Stat) (fd : ℕ) (old new : Volume M nor) (result : Result (Unit {0}) CopyErr) (went : Went done_as (Closes fd) old new result) where
  closes_at : (t : Task) (has : Works fd 52 (IsFilling stat stat.size) t old) → ¬ (went.0 ≡ Refuses DeviceFault) → (went.0 ≡ Fine) × IsAtRest t.g new (with_files t.slots has.files)
  closes_at t has whole =
      let d : Open = record { id = has.id; flags = 52; offset = has.offset } in
      let w = goes (Closes fd) old new went.0 went.1 refl refl t.g (with_first t.slots d has.files) has.at whole in
      let done : answer t.g true (with_first t.slots d has.files) (Closes fd) ≡ record { answer = Fine; next = with_files t.slots has.files } =
      ap (λ (n : ℕ). answer t.g true (with_first t.slots d has.files) (Closes n)) has.first ∙ close_done stat t d has.files has.some in
      (w.0 ∙ ap (λ (o : Outcome). o.answer) done, subst (IsAtRest t.g new) (ap (λ (o : Outcome). o.next) done) w.1)

  pub close_cuts : CutsUnder (Works fd 52 (IsFilling stat stat.size)) old new
  close_cuts = any_cuts (Closes fd) old new went.0 went.1 refl refl (Works fd 52 (IsFilling stat stat.size)) (λ t has. with_first t.slots (record { id = has.id; flags = 52; offset = has.offset }) has.files) (λ t has. has.at)
      (λ t has known. filling_under stat t (record { id = has.id; flags = 52; offset = has.offset }) has.files has.some stat.size (has.known known) (rest_table has.at))
      (λ t has known table.
      let d : Open = record { id = has.id; flags = 52; offset = has.offset } in
      let done : (answer t.g true (with_first t.slots d has.files) (Closes fd)).next ≡ with_files t.slots has.files =
      ap (λ (n : ℕ). (answer t.g true (with_first t.slots d has.files) (Closes n)).next) has.first ∙ ap (λ (o : Outcome). o.next) (close_done stat t d has.files has.some) in
      subst (IsUnder t.alike t.source t.first) (sym (ap (λ (s : State). s.table) done)) (filling_under stat t d has.files has.some stat.size (has.known known) (rest_table has.at)))

  pub close_leads : result ≡ Ok tt → Leads (Works fd 52 (IsFilling stat stat.size)) (Rests (IsWhole stat)) old new
  close_leads ok = λ t has.
      let w = closes_at t has (done_whole went.0 (sym went.2 ∙ ok)) in
      record { files = has.files; some = has.some; at = w.1; known = λ known. filling_done stat t (record { id = has.id; flags = 52; offset = has.offset }) has.files (has.known known) }

  pub close_stops : (why : CopyErr) → result ≡ Err why → OnlyFaults (Works fd 52 (IsFilling stat stat.size)) old why
  close_stops why is = λ t has known. done_stop why went.0 (sym went.2 ∙ is) (λ whole. (closes_at t has whole).0)
