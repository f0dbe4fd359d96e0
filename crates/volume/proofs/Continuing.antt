-- Writes that go on with what waits.
use Rattle.std.proofs.Common.{◌≡◌, ℕ, ◌+◌, ◌-◌, ◌*◌, ◌/◌, ◌<◌, ◌≤◌, ◌==◌, ◌&&◌, ⊎_elim, inl, List, [], ◌∷◌, ◌++◌, ◌^◌, min, length, take, Bool, true, false, refl, sym, ◌∙◌, ap, subst, arith, length-append}
use Rattle.std.specs.Prelude.{Option, Some, None, nat_le, nat_lt, if◌then◌else◌}
use Rattle.std.specs.Option.{is_some, option_map}
use Rattle.std.proofs.lemmas.Bool.{cases_Bool, cases_lt, and_parts, and_right, eq-eqb, eqb-true, leb-true, le-leb}
use Rattle.std.proofs.lemmas.Option.{same_Some, none-some}
use Rattle.std.proofs.lemmas.List.{length-take-le}
use Rattle.std.proofs.lemmas.Nat.{le-div}
use Rattle.std.proofs.Math.Nat.{div-mul-le_self, div-lt_iff_lt-mul}
use Rattle.geometry.specs.declared.geometry.Geometry.{Geometry}
use Rattle.geometry.specs.Numbers.{ceil, body, head_slots, span_slots}
use Rattle.nor_core.specs.declared.state.NorState.{Ghosts as NorOf}
use Rattle.nor_core.specs.Device.{Changes}
use Rattle.nor_core.proofs.Cuts.{unchanged}
use Rattle.table_model.specs.Table.{File, Open, State, file_of, put_file}
use Rattle.table_model.specs.Room.{index_pages, data_pages, index_count, data_count, has_room}
use Rattle.table_model.specs.Descriptors.{open_at, put_at, at_offset, appends, may_write}
use Rattle.table_model.specs.Files.{written, write_place}
use Rattle.table_model.specs.Outcome.{Outcome}
use Rattle.table_model.specs.Reply.{Tells as Number}
use Rattle.table_model.specs.Ask.{Writes}
use Rattle.table_model.specs.Steps.{steps}
use Rattle.table_model.specs.Window.{Moment, Incoming, incoming_of, continues, after, page_end}
use Rattle.image_model.specs.Tables.{table_of}
use Rattle.image_model.specs.Tidy.{free_blocks, HasReserve, has_spare}
use Rattle.write_window.specs.declared.window.Held.{Held}
use Rattle.write_window.specs.Runs.{Run, accepted, with_more, start_of, bytes_of}
use Rattle.write_window.specs.Shown.{run_in}
use Rattle.call_model.specs.Memory.{Memory, IsAt, RunWaits, Waits, OpensFiles}
use Rattle.call_model.specs.Calls.{Stands, Publishes, Answers}
use Rattle.call_model.specs.Writing.{IsWrite}
use Rattle.call_model.proofs.Tables.{file_of-put}
use Rattle.call_model.proofs.Opens.{opens_kept}
use Rattle.call_model.proofs.Names.{names_at}
use Rattle.call_model.proofs.Safety.{holds_itself, safe_as}
use Rattle.call_model.proofs.Parts.{written_on, put_twice}
use Rattle.call_model.proofs.Writing.{write-is_done, continues-accepted}
use Rattle.call_model.proofs.Waiting.{on-moment, wait_goes_on}
use Rattle.call_model.proofs.Empty.{empty-is_done}
use Rattle.trim_laws.specs.Upkeep.{Upkeep}
use Rattle.trim_laws.proofs.Wears.{upkeep_none}
use Rattle.volume.specs.declared.volume.Volume.{Volume}
use Rattle.fd_table.specs.declared.slot.FdSlot.{FdSlot}
use Rattle.fd_table.specs.Slots.{descriptors, held, opened}
use Rattle.volume.specs.Opening.{is_open}
use Rattle.volume.specs.Stages.{takes_calls}
use Rattle.volume.specs.Same.{IsSameVolume}
use Rattle.volume.specs.Holds.{memory as memory_of, Holds}
use Rattle.volume.specs.Settled.{GoesOnNot}
use Rattle.volume.specs.Extends.{GoesOnAt}
use Rattle.volume.specs.Replies.{breaks}
use Rattle.volume.proofs.KnownMaps.{keeps_same}
use Rattle.volume.specs.Calls.{HasRun, HasNone, Calls}
use Rattle.file_calls.specs.Slots.{slots_fault}
use Rattle.file_calls.proofs.Numbered.{write_fine}
use Rattle.file_calls.proofs.Going.{table_names, is_first}
use Rattle.volume.proofs.Acting.{goes_on_none}
use Rattle.volume.proofs.Staying.{same_none}
use Rattle.volume.proofs.Calling.{whole_still}
use Rattle.file_calls.proofs.Descriptors.{held_at}
use Rattle.file_calls.proofs.Resizing.{sum_put, no_room, written_size}

-- ---- the room of a table in which a run is longer

-- bytes that end in a data page take the pages up to it
pages_to : (b q n : ℕ) → 0 < b → q * b < n → n ≤ (q + 1) * b → ceil n b ≡ q + 1
pages_to b q n pos low high =
    let least : q + 1 ≤ (n + b - 1) / b = le-div (q + 1) (n + b - 1) b pos (omega (arith, low, pos)) in
    let most : (n + b - 1) / b < q + 2 = (div-lt_iff_lt-mul {k = b} {x = n + b - 1} {y = q + 2} pos).1 (omega (arith, high, pos)) in
    omega (arith, least, most)

-- a longer run in the same data page takes no more data pages
longer_same : (g : Geometry) (at : ℕ) (short long : List ℕ) (f : File) → at ≤ length f.bytes → 0 < length short → length short ≤ length long → at + length long ≤ page_end g at →
    data_pages g (length (written at long f).bytes) ≡ data_pages g (length (written at short f).bytes)
longer_same g at short long f inside some longer within =
    let a = written_size at long f inside in
    let b = written_size at short f inside in
    let back = div-mul-le_self at (body g) in
    let pos : 0 < body g = (let least = g.valid.page_least in omega (arith, least)) in
    ⊎_elim
    (λ (past : length f.bytes < at + length long).
    pages_to (body g) (at / body g) (length (written at long f).bytes) pos (omega (arith, a, back, some, longer)) (omega (arith, a, past, within))
    ∙ sym (pages_to (body g) (at / body g) (length (written at short f).bytes) pos (omega (arith, b, back, some)) (omega (arith, b, past, longer, within))))
    (λ (before : at + length long ≤ length f.bytes).
    let same : length (written at long f).bytes ≡ length (written at short f).bytes = omega (arith, a, b, before, longer) in
    ap (data_pages g) same)
    (cases_lt (length f.bytes) (at + length long))

-- the index pages of a file with so many data pages
abbrev index_by : Geometry → ℕ → ℕ
index_by g n = if nat_lt (head_slots g) n then 1 + ceil (n - head_slots g) (span_slots g) else 1

-- files with as many data pages leave as much room
room_same : (g : Geometry) (files : List File) (x y : File) → x.id ≡ y.id → data_pages g (length x.bytes) ≡ data_pages g (length y.bytes) → has_room g (put_file x files) ≡ has_room g (put_file y files)
unfolding has_room index_count data_count
room_same g files x y same pages =
    let index : index_pages g (length x.bytes) ≡ index_pages g (length y.bytes) = ap (index_by g) pages in
    let d = sum_put (λ (f : File). data_pages g (length f.bytes)) x y files same in
    let i = sum_put (λ (f : File). index_pages g (length f.bytes)) x y files same in
    let data_is : data_count g (put_file x files) ≡ data_count g (put_file y files) = omega (arith, d, pages) in
    let index_is : index_count g (put_file x files) ≡ index_count g (put_file y files) = omega (arith, i, index) in
    rw (index_is, data_is) refl

module _ (g : Geometry) (m : Moment) (r : Run) (w : Waits g m r) (bytes : List ℕ) where
  -- the run's file as the state's table has it
  abbrev pub run_file : File
  run_file = written r.start r.bytes w.file

  pub run_there : (id : ℕ) → id ≡ r.id → file_of id m.state.table ≡ Some run_file
  run_there id on = ap (file_of id) w.next ∙ ap (λ (n : ℕ). file_of n (put_file run_file m.settled)) (on ∙ sym w.named) ∙ file_of-put run_file m.settled

  -- bytes behind the run are bytes of the longer one
  joined : put_file (written (r.start + length r.bytes) bytes run_file) m.state.table ≡ put_file (written r.start (r.bytes ++ bytes) w.file) m.settled
  joined = ap (λ (x : File). put_file x m.state.table) (written_on r.start r.bytes bytes w.file w.from) ∙ ap (put_file (written r.start (r.bytes ++ bytes) w.file)) w.next
      ∙ put_twice (written r.start (r.bytes ++ bytes) w.file) run_file m.settled refl

  -- so there is room for them
  pub room_on : r.start + length r.bytes + length bytes ≤ page_end g r.start → has_room g (put_file (written (r.start + length r.bytes) bytes run_file) m.state.table) ≡ true
  room_on within =
      let both = length-append r.bytes bytes in
      ap (has_room g) joined
      ∙ room_same g m.settled (written r.start (r.bytes ++ bytes) w.file) run_file refl (longer_same g r.start r.bytes (r.bytes ++ bytes) w.file w.from w.some (omega (arith, both)) (omega (arith, both, within)))
      ∙ ap (has_room g) (sym w.next) ∙ w.room

  -- and they end before any size that can't be told
  pub ends_low : r.start + length r.bytes + length bytes ≤ page_end g r.start → r.start + length r.bytes + length bytes < 0xFFFFFFFF
  ends_low within =
      let long = written_size r.start (r.bytes ++ bytes) w.file w.from in
      let both = length-append r.bytes bytes in
      ⊎_elim
      (λ (low : r.start + length r.bytes + length bytes < 0xFFFFFFFF). low)
      (λ (large : 0xFFFFFFFF ≤ r.start + length r.bytes + length bytes).
      let full = no_room g m.settled (written r.start (r.bytes ++ bytes) w.file) (omega (arith, long, both, large)) in
      absurd (let no : true ≡ false = sym (room_on within) ∙ ap (has_room g) joined ∙ full in cc))
      (cases_lt (r.start + length r.bytes + length bytes) 0xFFFFFFFF)

-- ---- the write

-- what an accepted write says of the run
pub record Follows (g : Geometry) (r : Run) (fd len : ℕ) : Type 0 where
  pub through : r.fd ≡ fd
  pub within : r.start + length r.bytes + len ≤ page_end g r.start

pub follows_by : (g : Geometry) (run : Option Run) (r : Run) (fd at len : ℕ) → run ≡ Some r → accepted (body g) run fd at len ≡ true → Follows g r fd len × (r.start + length r.bytes ≡ at)
unfolding accepted
follows_by g run r fd at len is on =
    let here : accepted (body g) (Some r) fd at len ≡ true = ap (λ (o : Option Run). accepted (body g) o fd at len) (sym is) ∙ on in
    let two = and_parts ((r.fd == fd) && (r.start + length r.bytes == at)) (nat_le (r.start + length r.bytes + len) (page_end g r.start)) here in
    let one = and_parts (r.fd == fd) (r.start + length r.bytes == at) two.0 in
    (record { through = eqb-true r.fd fd one.0; within = leb-true (r.start + length r.bytes + len) (page_end g r.start) two.1 }, eqb-true (r.start + length r.bytes) at one.1)

module _ (g : Geometry) (image : List ℕ) (memory : Memory) (m : Moment) (at : IsAt g image memory m) (r : Run) (waits : memory.run ≡ Some r) (fd : ℕ) (d : Open) (opened : open_at memory.slots fd ≡ Some d) (bytes : List ℕ)
    (goes : accepted (body g) memory.run fd (r.start + length r.bytes) (length bytes) ≡ true) (place : appends d.flags ≡ false → d.offset ≡ r.start + length r.bytes) where
  pub waiting : Waits g m r × HasReserve g image
  waiting = subst (RunWaits g image m) waits at.run

  abbrev pub old_file : File
  old_file = run_file g m r waiting.0 bytes

  pub follows : Follows g r fd (length bytes)
  follows = (follows_by g memory.run r fd (r.start + length r.bytes) (length bytes) waits goes).0

  pub slot_open : open_at m.state.slots fd ≡ Some d
  slot_open = ap (λ (l : List (Option Open)). open_at l fd) (sym at.slots) ∙ opened

  -- the descriptor is the run's
  same_open : waiting.0.descriptor ≡ d
  same_open = same_Some waiting.0.descriptor d (sym waiting.0.opened ∙ ap (λ (n : ℕ). open_at m.state.slots n) follows.through ∙ slot_open)

  pub its_file : file_of d.id m.state.table ≡ Some old_file
  its_file = run_there g m r waiting.0 bytes d.id (ap (λ (x : Open). x.id) (sym same_open) ∙ waiting.0.on)

  -- the write begins where the run ends
  pub at_place : write_place d old_file ≡ r.start + length r.bytes
  at_place = ⊎_elim
      (λ (yes : appends d.flags ≡ true).
      let end = waiting.0.at_end (ap (λ (x : Open). appends x.flags) same_open ∙ yes) in
      let long = written_size r.start r.bytes waiting.0.file waiting.0.from in
      rw yes (omega (arith, end, long)))
      (λ (no : appends d.flags ≡ false). rw no (place no))
      (cases_Bool (appends d.flags))

  pub may_on : may_write d.flags ≡ true
  may_on = ap (λ (x : Open). may_write x.flags) (sym same_open) ∙ waiting.0.writes

  pub writes_on : 0 < length bytes → IsWrite g (has_spare g image) m.state fd bytes d old_file
  writes_on some = record {
    descriptor = slot_open;
    file = its_file;
    writes = may_on;
    some = some;
    two_free = le-leb 2 (free_blocks g image) waiting.1;
    room = ap (λ (n : ℕ). has_room g (put_file (written n bytes old_file) m.state.table)) at_place ∙ room_on g m r waiting.0 bytes follows.within;
  }

  pub continuing : continues g m.window (incoming_of m.state (Writes fd bytes)) ≡ true
  continuing = continues-accepted g image memory m fd bytes d old_file at slot_open its_file ∙ ap (λ (n : ℕ). accepted (body g) memory.run fd n (length bytes)) at_place ∙ goes

-- ---- over a volume

-- the moment after it is that of the longer run
module _ {D : Type 0} {nor : NorOf D} (g : Geometry) (d : D) (memory : Memory) (m : Moment) (here : Stands nor g d memory m) (r : Run) (waits : memory.run ≡ Some r) (fd : ℕ) (o : Open) (opened : open_at memory.slots fd ≡ Some o) (bytes : List ℕ)
    (goes : accepted (body g) memory.run fd (r.start + length r.bytes) (length bytes) ≡ true) (place : appends o.flags ≡ false → o.offset ≡ r.start + length r.bytes) where
  abbrev spare : Bool
  spare = has_spare g (nor.bytes d)

  abbrev file : File
  file = old_file g (nor.bytes d) memory m here.image r waits fd o opened bytes goes place

  pub answers_some : 0 < length bytes → (slots : List (Option Open)) (run : Option Run) → slots ≡ put_at memory.slots fd (Some (at_offset (r.start + length r.bytes + length bytes) o)) → run ≡ Some (with_more bytes r) →
      Answers nor g d d (record { slots = slots; run = run }) m (Writes fd bytes) (Number (length bytes))
  answers_some some slots run slots_are run_is =
      let v = writes_on g (nor.bytes d) memory m here.image r waits fd o opened bytes goes place some in
      let on = continuing g (nor.bytes d) memory m here.image r waits fd o opened bytes goes place in
      let w = waiting g (nor.bytes d) memory m here.image r waits fd o opened bytes goes place in
      let at = at_place g (nor.bytes d) memory m here.image r waits fd o opened bytes goes place in
      let done = write-is_done g spare m.state fd bytes o file v in
      let moment = on-moment g spare m fd bytes o file v on in
      record {
        reply_is = sym (ap (λ (x : Outcome). x.answer) done.answer_is);
        stands = record {
          tells = here.tells;
          image = record {
            tidy = here.image.tidy;
            table = here.image.table ∙ sym (ap (λ (n : Moment). n.settled) moment);
            slots = slots_are ∙ ap (λ (l : List (Option Open)). put_at l fd (Some (at_offset (r.start + length r.bytes + length bytes) o))) here.image.slots
                ∙ ap (λ (n : ℕ). put_at m.state.slots fd (Some (at_offset (n + length bytes) o))) (sym at) ∙ sym (ap (λ (n : Moment). n.state.slots) moment);
            run = subst (RunWaits g (nor.bytes d) (after g spare m (Writes fd bytes))) (sym run_is) (wait_goes_on g spare m r fd bytes o file w.0 v on, w.1);
            opened = subst (λ (n : Moment). OpensFiles n.state) (sym moment) (subst (λ (x : Outcome). OpensFiles x.next) done.answer_is
                (opens_kept g spare m.state (Writes fd bytes) (names_at g (nor.bytes d) memory m (table_names g (nor.bytes d)) here.image) here.image.opened));
          };
        };
        holds = holds_itself g (nor.bytes d);
      }

  -- without a byte it stays
  pub answers_none : bytes ≡ [] → Answers nor g d d memory m (Writes fd bytes) (Number 0)
  answers_none none =
      let on = continuing g (nor.bytes d) memory m here.image r waits fd o opened bytes goes place in
      let held = slot_open g (nor.bytes d) memory m here.image r waits fd o opened bytes goes place in
      let there = its_file g (nor.bytes d) memory m here.image r waits fd o opened bytes goes place in
      let may = may_on g (nor.bytes d) memory m here.image r waits fd o opened bytes goes place in
      let e = empty-is_done g spare m fd o file held there may in
      subst (λ (l : List ℕ). Answers nor g d d memory m (Writes fd l) (Number 0)) (sym none) (record {
        reply_is = sym (ap (λ (x : Outcome). x.answer) e.answer_is);
        stands = subst (λ (n : Moment). Stands nor g d memory n) (sym (e.goes_on (subst (λ (l : List ℕ). continues g m.window (incoming_of m.state (Writes fd l)) ≡ true) none on))) here;
        holds = holds_itself g (nor.bytes d);
      })

-- no byte
pub no_bytes : (bytes : List ℕ) → length bytes ≡ 0 → bytes ≡ []
no_bytes [] e = refl
no_bytes (x ∷ bytes) e = absurd (omega (arith, e))

-- the numbers of a run
record IsHeld (h : Held) (r : Run) : Type 0 where
  used : h.used ≡ true
  start : h.start ≡ r.start
  taken : h.taken ≡ length r.bytes

held_run : (h : Held) (lent : List ℕ) (r : Run) → h.taken ≤ length lent → run_in h lent ≡ Some r → IsHeld h r
held_run h lent r fits is = ⊎_elim
    (λ (yes : h.used ≡ true).
    let same : record { fd = h.fd; id = h.id; start = h.start; bytes = take h.taken lent } ≡ r = same_Some _ r (rw yes at is) in
    record { used = yes; start = ap (λ (x : Run). x.start) same; taken = sym (length-take-le h.taken lent fits) ∙ ap (λ (x : Run). length x.bytes) same })
    (λ (no : h.used ≡ false). absurd (none-some r (rw no at is)))
    (cases_Bool h.used)

module _ {N : Type 0} {nor : NorOf N} where
  module _ {v : Volume N nor} {fd len : ℕ} {slot : FdSlot} (on : GoesOnAt v fd len slot) where
    held_on : IsHeld v.held on.run
    held_on = held_run v.held v.window.now on.run v.held_fits on.waits

    follows_on : Follows v.geometry on.run fd len
    follows_on = (follows_by v.geometry (memory_of v).run on.run fd (on.run.start + length on.run.bytes) len on.waits on.goes_on).0

    pub used_on : v.held.used ≡ true
    used_on = held_on.used

    -- the bytes of the write fit behind those of the run
    pub few_on : v.held.taken + len ≤ body v.geometry
    few_on = let back = div-mul-le_self on.run.start (body v.geometry) in omega (arith, back, follows_on.within, held_on.taken)

    pub room_held : v.held.taken + len ≤ length v.window.now
    room_held = let most = v.geometry.valid.page_most in omega (arith, few_on, v.window_fits)

    pub few_held : v.held.taken + len < 2 ^ 32
    few_held = let most = v.geometry.valid.page_most in omega (arith, few_on, most)

  -- What a write does that asks nothing of the device, where bytes wait.
  calls_on : {old new : Volume N nor} (fd : ℕ) (bytes : List ℕ) (n : ℕ) → IsSameVolume old new → new.nor.now ≡ old.nor.now → new.stage ≡ old.stage → length new.numbers.now ≡ length old.numbers.now → new.map ≡ old.map → new.counted ≡ old.counted → takes_calls old ≡ true → HasRun old → slots_fault old.geometry (descriptors old.slots.now) (Writes fd bytes) ≡ None → n ≡ length bytes →
      ((m : Moment) → Holds old m → Answers nor old.geometry old.nor.now old.nor.now (memory_of new) m (Writes fd bytes) (Number n)) → Calls (Writes fd bytes) old new (Number n)
  calls_on {old} {new} fd bytes n same device stage room map counted takes waits fine long answers =
      let busy : HasNone old → ⊥ = λ none. let no : true ≡ false = sym waits ∙ ap is_some none in cc in
      record {
        same = same;
        cuts = subst (λ (d : N). Changes nor old.nor.now d (λ was image. (m : Moment) → Publishes old.geometry (memory_of old) m (Writes fd bytes) was image)) (sym device)
            (unchanged old.nor.now (λ was image. (m : Moment) → Publishes old.geometry (memory_of old) m (Writes fd bytes) was image) (λ tells m at.
            (safe_as old.geometry (nor.bytes old.nor.now) (nor.bytes old.nor.now) (holds_itself old.geometry (nor.bytes old.nor.now)) at.tidy, is_first (table_of old.geometry (nor.bytes old.nor.now)) m.settled (m.waiting ++ steps old.geometry (has_spare old.geometry (nor.bytes old.nor.now)) m.state (Writes fd bytes)) at.table)));
        upkeep = subst (λ (d : N). Changes nor old.nor.now d (λ was image. (m : Moment) → IsAt old.geometry was (memory_of old) m → Upkeep old.geometry was image)) (sym device)
            (unchanged old.nor.now (λ was image. (m : Moment) → IsAt old.geometry was (memory_of old) m → Upkeep old.geometry was image) (λ tells m at. upkeep_none old.geometry (nor.bytes old.nor.now)));
        counted = λ m takes here no_fault before. counted ∙ before;
        answers = λ m takes here no_fault whole. subst (λ (d : N). Answers nor old.geometry old.nor.now d (memory_of new) m (Writes fd bytes) (Number n)) (sym device) (answers m here);
        refused = λ m takes none. absurd (busy none);
        collects = λ m takes none. absurd (busy none);
        packed = λ m takes here is fine. absurd (cc);
        unstuck = λ m takes here reserve is tight. cc;
        cornered = λ m takes here corner. absurd (let no : false ≡ true = corner.cuts in cc);
        leaves = λ takes leaves. absurd (let no : false ≡ true = leaves in cc);
        extends = λ m takes here goes. device;
        closed = λ shut. absurd (let no : true ≡ false = sym takes ∙ shut in cc);
        cause = λ e. absurd (cc);
        differs = λ d e. absurd (cc);
        undamaged = λ m here d e. cc;
        among = λ takes. inl (eq-eqb n (length bytes) long);
        brief = λ bytes e. absurd (cc);
        numbered = λ takes why e. absurd (let no : None ≡ Some why = sym fine ∙ e in cc);
        shown = λ takes why of e. absurd (cc);
        failed = λ broke. absurd (let no : false ≡ true = broke in cc);
        stays = inl stage;
        asked = λ takes failed. absurd (whole_still old.stage new.stage takes stage failed);
        stops = λ m takes shut here. absurd (let no : true ≡ false = sym takes ∙ sym (ap is_open stage) ∙ shut in cc);
        looks = λ look. absurd (let no : true ≡ false = look in cc);
        keeps = λ keeps. absurd (let no : false ≡ true = keeps in cc);
        cleans = λ m takes none. absurd (busy none);
        turns = λ m takes none. absurd (busy none);
        still = λ refusal. absurd (let no : false ≡ true = refusal in cc);
        begins = λ none. absurd (busy none);
        empty = λ refusal none. absurd (busy none);
        maps = λ m takes here. keeps_same (breaks (Number n)) room map;
      }

  -- a write of no byte that goes on
  pub extends_none : (v : Volume N nor) (fd : ℕ) (slot : FdSlot) (bytes : List ℕ) → takes_calls v ≡ true → GoesOnAt v fd (length bytes) slot → length bytes ≡ 0 → Calls (Writes fd bytes) v v (Number 0)
  extends_none v fd slot bytes takes on none = calls_on fd bytes 0 (same_none v) refl refl refl refl refl takes (ap is_some on.waits) (write_fine (opened slot) on.opened on.writes) (sym none)
      (λ m here. answers_none v.geometry v.nor.now (memory_of v) m here on.run on.waits fd (opened slot) on.opened bytes on.goes_on on.place (no_bytes bytes none))

  -- and one of some
  pub extends_some : {old new : Volume N nor} (fd : ℕ) (slot : FdSlot) (bytes : List ℕ) (to : ℕ) → takes_calls old ≡ true → GoesOnAt old fd (length bytes) slot → 0 < length bytes → IsSameVolume old new → new.nor.now ≡ old.nor.now → new.stage ≡ old.stage → length new.numbers.now ≡ length old.numbers.now → new.map ≡ old.map → new.counted ≡ old.counted →
      descriptors new.slots.now ≡ put_at (descriptors old.slots.now) fd (held (record slot { offset = to })) → to ≡ min (old.held.start + (old.held.taken + length bytes)) 4294967295 → (memory_of new).run ≡ option_map (with_more bytes) (memory_of old).run → Calls (Writes fd bytes) old new (Number (length bytes))
  extends_some {old} {new} fd slot bytes to takes on some same device stage room map counted put moved pushed = calls_on fd bytes (length bytes) same device stage room map counted takes (ap is_some on.waits) (write_fine (opened slot) on.opened on.writes) refl (λ m here.
      let w = waiting old.geometry (nor.bytes old.nor.now) (memory_of old) m here.image on.run on.waits fd (opened slot) on.opened bytes on.goes_on on.place in
      let low = ends_low old.geometry m on.run w.0 bytes (follows_on on).within in
      let ends : to ≡ on.run.start + length on.run.bytes + length bytes = omega (arith, low, moved, (held_on on).start, (held_on on).taken) in
      answers_some old.geometry old.nor.now (memory_of old) m here on.run on.waits fd (opened slot) on.opened bytes on.goes_on on.place some (memory_of new).slots (memory_of new).run
      (put ∙ ap (λ (o : Option Open). put_at (descriptors old.slots.now) fd o) (held_at slot to on.used) ∙ ap (λ (n : ℕ). put_at (descriptors old.slots.now) fd (Some (at_offset n (opened slot)))) ends)
      (pushed ∙ ap (option_map (with_more bytes)) on.waits))

-- ---- whether a write goes on

-- a write that is accepted goes on with a run
run_of : (b : ℕ) (run : Option Run) (fd at len : ℕ) → accepted b run fd at len ≡ true → (r : Run) × (run ≡ Some r)
unfolding accepted
run_of b None fd at len e = absurd (let no : false ≡ true = e in cc)
run_of b (Some r) fd at len e = (r, refl)

-- one that isn't accepted where the run ends isn't anywhere
accepted_not : (b : ℕ) (run : Option Run) (fd at len end : ℕ) → end ≡ start_of run + length (bytes_of run) → accepted b run fd end len ≡ false → accepted b run fd at len ≡ false
unfolding accepted
accepted_not b None fd at len end is not = refl
accepted_not b (Some r) fd at len end is not = ⊎_elim
    (λ (meets : (r.start + length r.bytes == at) ≡ true).
    subst (λ (n : ℕ). accepted b (Some r) fd n len ≡ false) (is ∙ eqb-true (r.start + length r.bytes) at meets) not)
    (λ (apart : (r.start + length r.bytes == at) ≡ false). rw apart (rw (and_right (r.fd == fd) false refl) refl))
    (cases_Bool (r.start + length r.bytes == at))

none_comes : (s : State) (fd : ℕ) (bytes : List ℕ) → open_at s.slots fd ≡ None → incoming_of s (Writes fd bytes) ≡ None
unfolding incoming_of
none_comes s fd bytes none = rw none refl

module _ {N : Type 0} {nor : NorOf N} (v : Volume N nor) (fd : ℕ) where
  -- through a number that is closed none does
  pub closed_apart : open_at (descriptors v.slots.now) fd ≡ None → (bytes : List ℕ) → GoesOnNot v (Writes fd bytes)
  closed_apart none bytes m here = ap (λ (i : Option Incoming). continues v.geometry m.window i) (none_comes m.state fd bytes (ap (λ (l : List (Option Open)). open_at l fd) (sym here.image.slots) ∙ none)) ∙ goes_on_none v.geometry m.window

  -- nor through one that may not write, since a run waits through one that may
  pub unwritable_apart : (slot : FdSlot) → open_at (descriptors v.slots.now) fd ≡ Some (opened slot) → may_write slot.flags ≡ false → (bytes : List ℕ) → GoesOnNot v (Writes fd bytes)
  unwritable_apart slot held never bytes m here =
      let is = ap (λ (l : List (Option Open)). open_at l fd) (sym here.image.slots) ∙ held in
      let on = here.image.opened fd (opened slot) is in
      let at = write_place (opened slot) on.file in
      continues-accepted v.geometry (nor.bytes v.nor.now) (memory_of v) m fd bytes (opened slot) on.file here.image is on.there
      ∙ ⊎_elim
      (λ (yes : accepted (body v.geometry) (memory_of v).run fd at (length bytes) ≡ true).
      let w = run_of (body v.geometry) (memory_of v).run fd at (length bytes) yes in
      let follows = (follows_by v.geometry (memory_of v).run w.0 fd at (length bytes) w.1 yes).0 in
      let waits = (subst (RunWaits v.geometry (nor.bytes v.nor.now) m) w.1 here.image.run).0 in
      let same = same_Some waits.descriptor (opened slot) (sym waits.opened ∙ ap (λ (n : ℕ). open_at m.state.slots n) follows.through ∙ is) in
      absurd (let no : true ≡ false = sym waits.writes ∙ ap (λ (x : Open). may_write x.flags) same ∙ never in cc))
      (λ (no : accepted (body v.geometry) (memory_of v).run fd at (length bytes) ≡ false). no)
      (cases_Bool (accepted (body v.geometry) (memory_of v).run fd at (length bytes)))

  module _ (slot : FdSlot) (held : open_at (descriptors v.slots.now) fd ≡ Some (opened slot)) (at len : ℕ)
      (place : at ≡ (if appends slot.flags then start_of (memory_of v).run + length (bytes_of (memory_of v).run) else slot.offset)) where
    pub goes_on_at : 0 < fd → fd ≤ length v.slots.now → slot.used ≡ true → may_write slot.flags ≡ true → accepted (body v.geometry) (memory_of v).run fd at len ≡ true → GoesOnAt v fd len slot
    goes_on_at from within used may on =
        let w = run_of (body v.geometry) (memory_of v).run fd at len on in
        let end = (follows_by v.geometry (memory_of v).run w.0 fd at len w.1 on).1 in
        record {
          from = from;
          within = within;
          used = used;
          opened = held;
          writes = may;
          run = w.0;
          waits = w.1;
          goes_on = subst (λ (n : ℕ). accepted (body v.geometry) (memory_of v).run fd n len ≡ true) (sym end) on;
          place = λ no. sym (ap (λ (b : Bool). if b then start_of (memory_of v).run + length (bytes_of (memory_of v).run) else slot.offset) no) ∙ sym place ∙ sym end;
        }

    pub goes_apart : accepted (body v.geometry) (memory_of v).run fd at len ≡ false → (bytes : List ℕ) → length bytes ≡ len → GoesOnNot v (Writes fd bytes)
    goes_apart not bytes long m here =
        let is = ap (λ (l : List (Option Open)). open_at l fd) (sym here.image.slots) ∙ held in
        let on = here.image.opened fd (opened slot) is in
        let there : write_place (opened slot) on.file ≡ at → accepted (body v.geometry) (memory_of v).run fd (write_place (opened slot) on.file) (length bytes) ≡ false =
        λ same. ap (λ (n : ℕ). accepted (body v.geometry) (memory_of v).run fd (write_place (opened slot) on.file) n) long ∙ ap (λ (n : ℕ). accepted (body v.geometry) (memory_of v).run fd n len) same ∙ not in
        continues-accepted v.geometry (nor.bytes v.nor.now) (memory_of v) m fd bytes (opened slot) on.file here.image is on.there
        ∙ ⊎_elim
        (λ (yes : appends slot.flags ≡ true).
        let end : at ≡ start_of (memory_of v).run + length (bytes_of (memory_of v).run) = place ∙ ap (λ (b : Bool). if b then start_of (memory_of v).run + length (bytes_of (memory_of v).run) else slot.offset) yes in
        ap (λ (n : ℕ). accepted (body v.geometry) (memory_of v).run fd (write_place (opened slot) on.file) n) long ∙ accepted_not (body v.geometry) (memory_of v).run fd (write_place (opened slot) on.file) len at end not)
        (λ (no : appends slot.flags ≡ false).
        there (ap (λ (b : Bool). if b then length on.file.bytes else slot.offset) no ∙ sym (place ∙ ap (λ (b : Bool). if b then start_of (memory_of v).run + length (bytes_of (memory_of v).run) else slot.offset) no)))
        (cases_Bool (appends slot.flags))
