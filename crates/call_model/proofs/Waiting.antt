-- A run of written bytes waits after a write that begins a window, or goes on with one.
use Rattle.std.proofs.Common.{◌≡◌, ℕ, ◌+◌, ◌-◌, ◌<◌, ◌≤◌, ◌⊎◌, List, ◌++◌, length, take, Bool, true, false, ◌==◌, ◌&&◌, Option, Some, inl, inr, ⊎_elim, sym, ◌∙◌, ap, subst, refl, arith, length-append}
use Rattle.std.specs.Prelude.{nat_le}
use Rattle.std.proofs.lemmas.Bool.{cases_order, and_parts, eqb-true, leb-true, le-leb, lt-ltb}
use Rattle.std.proofs.lemmas.Option.{same_Some}
use Rattle.std.proofs.lemmas.List.{take-append-le, take_at}
use Rattle.std.proofs.Math.Seq.{take-append-add}
use Rattle.geometry.specs.declared.geometry.Geometry.{Geometry}
use Rattle.table_model.specs.Table.{File, Open, file_of, put_file}
use Rattle.table_model.specs.Descriptors.{open_at, at_offset, appends, is_direct}
use Rattle.table_model.specs.Files.{written, write_place}
use Rattle.table_model.specs.Ask.{Writes}
use Rattle.table_model.specs.Outcome.{Outcome}
use Rattle.table_model.specs.Calls.{write_into}
use Rattle.table_model.specs.Flat.{answer}
use Rattle.table_model.specs.Steps.{steps, file_steps, written_up_to, is_refusal}
use Rattle.table_model.specs.Window.{Moment, Waiting, Incoming, begins, goes_on, incoming_of, continues, may_wait, extended, page_end, IsAmong}
use Rattle.write_window.specs.Runs.{Run, with_more}
use Rattle.call_model.specs.Memory.{Waits}
use Rattle.call_model.specs.Writing.{IsWrite, Writing, WaitBegins, WaitGoesOn, BegunMoment, OnMoment, brought}
use Rattle.call_model.proofs.Tables.{file_of-put, file_of-id}
use Rattle.call_model.proofs.Opens.{written-same_length, place-inside, inside_file}
use Rattle.call_model.proofs.After.{write-begins, write-goes_on}
use Rattle.call_model.proofs.Parts.{among-left, among-right, steps-among, whole-among, written_on, put_twice}
use Rattle.call_model.proofs.Writing.{write-is_done, open-put_same}

-- ---- a window that begins

-- such a write may wait
waits-by : (g : Geometry) (fd : ℕ) (bytes : List ℕ) (d : Open) (f : File) → 0 < length bytes → is_direct d.flags ≡ false → write_place d f + length bytes ≤ page_end g (write_place d f) → may_wait g (Some (brought fd bytes d f)) ≡ true
waits-by g fd bytes d f some direct within = rw direct (rw (lt-ltb 0 (length bytes) some) (le-leb (write_place d f + length bytes) (page_end g (write_place d f)) within))

-- the moment after it
pub begun-moment : (g : Geometry) → BegunMoment g
begun-moment g spare m fd bytes d f w direct within stops =
    let v = write-is_done g spare m.state fd bytes d f w in
    let waits : may_wait g (incoming_of m.state (Writes fd bytes)) ≡ true = rw v.brings (waits-by g fd bytes d f w.some direct within) in
    let done : is_refusal (answer g spare m.state (Writes fd bytes)).answer ≡ false = ap (λ (o : Outcome). is_refusal o.answer) v.answer_is in
    write-begins g spare m (Writes fd bytes) refl done stops waits
    ∙ ap (λ (o : Outcome). begins m o.next (steps g spare m.state (Writes fd bytes)) (incoming_of m.state (Writes fd bytes))) v.answer_is
    ∙ ap (λ (more : List (List File)). begins m (write_into fd d f bytes m.state) more (incoming_of m.state (Writes fd bytes))) v.steps_are
    ∙ ap (λ (i : Option Incoming). begins m (write_into fd d f bytes m.state) (file_steps g (write_place d f) bytes f m.state.table) i) v.brings

-- an appending write begins at the file's end
at_end-by : (d : Open) (f : File) → appends d.flags ≡ true → write_place d f ≡ length f.bytes
at_end-by d f on = rw on refl

pub wait_begins : (g : Geometry) → WaitBegins g
wait_begins g spare m fd bytes d f w opens direct within stops =
    let own : f.id ≡ d.id = file_of-id d.id m.state.table f w.file in
    subst (λ (n : Moment). Waits g n (record { fd = fd; id = d.id; start = write_place d f; bytes = bytes }))
    (sym (begun-moment g spare m fd bytes d f w direct within stops))
    (record {
      file = f;
      there = w.file;
      named = own;
      window = ap (λ (id : ℕ). Some (record { fd = fd; id = id; start = write_place d f; len = length bytes })) own;
      some = w.some;
      from = place-inside d f (inside_file m.state fd d f opens w.descriptor w.file);
      one_page = within;
      next = refl;
      last = whole-among g (write_place d f) bytes f m.state.table w.some;
      middle = λ low high. steps-among g (write_place d f) bytes f m.state.table (length f.bytes) (record { from = low; to = omega (arith, high); ends = inr (inl refl) });
      room = w.room;
      descriptor = at_offset (write_place d f + length bytes) d;
      opened = open-put_same m.state.slots fd d (Some (at_offset (write_place d f + length bytes) d)) w.descriptor;
      on = refl;
      writes = w.writes;
      at_end = at_end-by d f;
    })

-- ---- a window that goes on

-- the moment after it
pub on-moment : (g : Geometry) → OnMoment g
on-moment g spare m fd bytes d f v goes =
    let w = write-is_done g spare m.state fd bytes d f v in
    let done : is_refusal (answer g spare m.state (Writes fd bytes)).answer ≡ false = ap (λ (o : Outcome). is_refusal o.answer) w.answer_is in
    write-goes_on g spare m (Writes fd bytes) refl done goes
    ∙ ap (λ (o : Outcome). goes_on m o.next (steps g spare m.state (Writes fd bytes)) (incoming_of m.state (Writes fd bytes))) w.answer_is
    ∙ ap (λ (more : List (List File)). goes_on m (write_into fd d f bytes m.state) more (incoming_of m.state (Writes fd bytes))) w.steps_are
    ∙ ap (λ (i : Option Incoming). goes_on m (write_into fd d f bytes m.state) (file_steps g (write_place d f) bytes f m.state.table) i) w.brings

-- a write goes on with a run: it goes through its descriptor, on its file as it is now, and starts where it ends
record GoesOn (g : Geometry) (m : Moment) (r : Run) (fd : ℕ) (bytes : List ℕ) (d : Open) (file f : File) : Type 0 where
  pub fd_is : r.fd ≡ fd
  pub meets : r.start + length r.bytes ≡ write_place d f
  pub within : write_place d f + length bytes ≤ page_end g r.start
  pub on : d.id ≡ r.id
  pub file_is : f ≡ written r.start r.bytes file

module _ (g : Geometry) (spare : Bool) (m : Moment) (r : Run) (fd : ℕ) (bytes : List ℕ) (d : Open) (f : File) (w : Waits g m r) (v : IsWrite g spare m.state fd bytes d f)
    (goes : continues g m.window (incoming_of m.state (Writes fd bytes)) ≡ true) where
  abbrev writing : Writing g spare m.state fd bytes d f
  writing = write-is_done g spare m.state fd bytes d f v

  goes_on-by : GoesOn g m r fd bytes d w.file f
  goes_on-by =
      let is : continues g (Some (record { fd = r.fd; id = r.id; start = r.start; len = length r.bytes })) (Some (brought fd bytes d f)) ≡ true =
      ap (λ (x : Option Waiting). continues g x (Some (brought fd bytes d f))) (sym w.window) ∙ ap (λ (i : Option Incoming). continues g m.window i) (sym writing.brings) ∙ goes in
      let two = and_parts ((r.fd == fd) && (r.start + length r.bytes == write_place d f)) (nat_le (write_place d f + length bytes) (page_end g r.start)) is in
      let one = and_parts (r.fd == fd) (r.start + length r.bytes == write_place d f) two.0 in
      let same : r.fd ≡ fd = eqb-true r.fd fd one.0 in
      let mine : w.descriptor ≡ d = same_Some w.descriptor d (sym w.opened ∙ ap (λ (n : ℕ). open_at m.state.slots n) same ∙ v.descriptor) in
      let on : d.id ≡ r.id = ap (λ (x : Open). x.id) (sym mine) ∙ w.on in
      let there : file_of d.id m.state.table ≡ Some (written r.start r.bytes w.file) =
      ap (file_of d.id) w.next ∙ ap (λ (id : ℕ). file_of id (put_file (written r.start r.bytes w.file) m.settled)) (on ∙ sym w.named) ∙ file_of-put (written r.start r.bytes w.file) m.settled in
      record {
        fd_is = same;
        meets = eqb-true (r.start + length r.bytes) (write_place d f) one.1;
        within = leb-true (write_place d f + length bytes) (page_end g r.start) two.1;
        on = on;
        file_is = same_Some f (written r.start r.bytes w.file) (sym v.file ∙ there);
      }

  -- bytes that are written on are bytes of the longer run
  joined : (more : List ℕ) → put_file (written (write_place d f) more f) m.state.table ≡ put_file (written r.start (r.bytes ++ more) w.file) m.settled
  joined more =
      let k = goes_on-by in
      let file_is : written (write_place d f) more f ≡ written r.start (r.bytes ++ more) w.file =
      ap (λ (x : File). written (write_place d f) more x) k.file_is ∙ ap (λ (at : ℕ). written at more (written r.start r.bytes w.file)) (sym k.meets) ∙ written_on r.start r.bytes more w.file w.from in
      ap (λ (x : File). put_file x m.state.table) file_is ∙ ap (put_file (written r.start (r.bytes ++ more) w.file)) w.next
      ∙ put_twice (written r.start (r.bytes ++ more) w.file) (written r.start r.bytes w.file) m.settled refl

  -- up to the old end of the file
  on-middle : r.start < length w.file.bytes → length w.file.bytes < r.start + length (r.bytes ++ bytes) →
      IsAmong (put_file (written r.start (take (length w.file.bytes - r.start) (r.bytes ++ bytes)) w.file) m.settled) (m.waiting ++ file_steps g (write_place d f) bytes f m.state.table)
  on-middle low high =
      let k = goes_on-by in
      let both = length-append r.bytes bytes in
      let table : List ℕ → List File = λ (l : List ℕ). put_file (written r.start l w.file) m.settled in
      let steps_then : List (List File) = m.waiting ++ file_steps g (write_place d f) bytes f m.state.table in
      ⊎_elim
      (λ (at_end : length w.file.bytes ≡ r.start + length r.bytes).
      let is : take (length w.file.bytes - r.start) (r.bytes ++ bytes) ≡ r.bytes = take_at r.bytes bytes (length w.file.bytes - r.start) (omega (arith, at_end)) in
      subst (λ (t : List File). IsAmong t steps_then) (w.next ∙ ap table (sym is)) (among-left m.state.table m.waiting (file_steps g (write_place d f) bytes f m.state.table) w.last))
      (λ (other : (length w.file.bytes < r.start + length r.bytes) ⊎ (r.start + length r.bytes < length w.file.bytes)). ⊎_elim
      (λ (before : length w.file.bytes < r.start + length r.bytes).
      let is : take (length w.file.bytes - r.start) (r.bytes ++ bytes) ≡ take (length w.file.bytes - r.start) r.bytes = take-append-le (length w.file.bytes - r.start) r.bytes bytes (omega (arith, before)) in
      subst (λ (l : List ℕ). IsAmong (table l) steps_then) (sym is) (among-left (table (take (length w.file.bytes - r.start) r.bytes)) m.waiting (file_steps g (write_place d f) bytes f m.state.table) (w.middle low before)))
      (λ (later : r.start + length r.bytes < length w.file.bytes).
      let e : ℕ = length w.file.bytes in
      let same : e ≡ length f.bytes = sym (ap (λ (x : File). length x.bytes) k.file_is ∙ written-same_length r.start r.bytes w.file (omega (arith, later))) in
      let step : IsAmong (written_up_to (write_place d f) bytes f m.state.table e) (file_steps g (write_place d f) bytes f m.state.table) =
      steps-among g (write_place d f) bytes f m.state.table e (record { from = omega (arith, k.meets, later); to = omega (arith, k.meets, high, both); ends = inr (inl same) }) in
      let front : r.bytes ++ take (e - write_place d f) bytes ≡ take (e - r.start) (r.bytes ++ bytes) =
      sym (take-append-add r.bytes bytes (e - write_place d f)) ∙ ap (λ (n : ℕ). take n (r.bytes ++ bytes)) (omega (arith, k.meets, later)) in
      among-right (table (take (e - r.start) (r.bytes ++ bytes))) m.waiting (file_steps g (write_place d f) bytes f m.state.table)
      (subst (λ (t : List File). IsAmong t (file_steps g (write_place d f) bytes f m.state.table)) (joined (take (e - write_place d f) bytes) ∙ ap table front) step))
      other)
      (cases_order (length w.file.bytes) (r.start + length r.bytes))

  on-waits : Waits g (goes_on m (write_into fd d f bytes m.state) (file_steps g (write_place d f) bytes f m.state.table) (Some (brought fd bytes d f))) (with_more bytes r)
  on-waits =
      let k = goes_on-by in
      let both = length-append r.bytes bytes in
      record {
        file = w.file;
        there = w.there;
        named = w.named;
        window = ap (λ (x : Option Waiting). extended x (Some (brought fd bytes d f))) w.window ∙ ap (λ (n : ℕ). Some (record { fd = r.fd; id = r.id; start = r.start; len = n })) (sym both);
        some = omega (arith, both, w.some);
        from = w.from;
        one_page = omega (arith, both, k.meets, k.within);
        next = joined bytes;
        last = among-right (put_file (written (write_place d f) bytes f) m.state.table) m.waiting (file_steps g (write_place d f) bytes f m.state.table) (whole-among g (write_place d f) bytes f m.state.table v.some);
        middle = on-middle;
        room = v.room;
        descriptor = at_offset (write_place d f + length bytes) d;
        opened = ap (λ (n : ℕ). open_at (write_into fd d f bytes m.state).slots n) k.fd_is ∙ open-put_same m.state.slots fd d (Some (at_offset (write_place d f + length bytes) d)) v.descriptor;
        on = k.on;
        writes = v.writes;
        at_end = λ h. w.at_end (ap (λ (x : Open). appends x.flags) (same_Some w.descriptor d (sym w.opened ∙ ap (λ (n : ℕ). open_at m.state.slots n) k.fd_is ∙ v.descriptor)) ∙ h);
      }

pub wait_goes_on : (g : Geometry) → WaitGoesOn g
wait_goes_on g spare m r fd bytes d f w v goes =
    subst (λ (n : Moment). Waits g n (with_more bytes r)) (sym (on-moment g spare m fd bytes d f v goes)) (on-waits g spare m r fd bytes d f w v goes)
