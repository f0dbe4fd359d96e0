-- A write that is done: what it answers, its steps, and what it brings.
use Rattle.std.proofs.Common.{◌≡◌, ℕ, ◌+◌, ◌-◌, ◌<◌, ◌≤◌, List, length, Bool, true, false, not, ◌==◌, Option, Some, None, ⊎_elim, sym, ◌∙◌, ap, refl, arith}
use Rattle.std.specs.Prelude.{if◌then◌else◌}
use Rattle.table_model.specs.declared.error.FsErr.TheVariants.{NotWritable}
use Rattle.std.proofs.lemmas.Bool.{cases_Bool, cases_lt, true≢false, eqb-true, ne_eqb, and_right}
use Rattle.std.proofs.lemmas.Option.{none-some}
use Rattle.std.proofs.lemmas.List.{get_or-set_same, get_or_past}
use Rattle.geometry.specs.declared.geometry.Geometry.{Geometry}
use Rattle.geometry.specs.Numbers.{body}
use Rattle.table_model.specs.Table.{File, Open, State, file_of, put_file}
use Rattle.table_model.specs.Room.{has_room}
use Rattle.table_model.specs.Descriptors.{open_at, put_at, may_write}
use Rattle.table_model.specs.Files.{written, write_place}
use Rattle.table_model.specs.Ask.{Writes}
use Rattle.table_model.specs.Reply.{Tells}
use Rattle.table_model.specs.Outcome.{Outcome, gives, refused, on_descriptor, on_its_file, page_refusal, with_page}
use Rattle.table_model.specs.Calls.{answer_write, write_into}
use Rattle.table_model.specs.Flat.{answer}
use Rattle.table_model.specs.Steps.{steps, done_steps, write_steps, open_file, file_steps, is_refusal}
use Rattle.table_model.specs.Window.{Moment, incoming_of, continues, settled_at}
use Rattle.write_window.specs.Runs.{Run, accepted}
use Rattle.call_model.specs.Memory.{RunWaits}
use Rattle.call_model.specs.Writing.{IsWrite, WriteIsDone, DoneIsWrite, ContinuesAccepted, brought}

write-answer : (g : Geometry) (spare : Bool) (s : State) (fd : ℕ) (bytes : List ℕ) (d : Open) (f : File) → IsWrite g spare s fd bytes d f → answer g spare s (Writes fd bytes) ≡ gives (Tells (length bytes)) (write_into fd d f bytes s)
unfolding answer answer_write page_refusal
write-answer g spare s fd bytes d f w =
    let some : (length bytes == 0) ≡ false = ne_eqb (length bytes) 0 (λ e. omega (arith, e, w.some)) in
    rw w.descriptor (rw w.file (rw w.writes (rw some (rw (w.two_free, w.room) refl))))

write-steps : (g : Geometry) (spare : Bool) (s : State) (fd : ℕ) (bytes : List ℕ) (d : Open) (f : File) → IsWrite g spare s fd bytes d f → steps g spare s (Writes fd bytes) ≡ file_steps g (write_place d f) bytes f s.table
unfolding steps done_steps write_steps open_file
write-steps g spare s fd bytes d f w = rw (write-answer g spare s fd bytes d f w) (rw w.descriptor (rw w.file refl))

pub brings-by : (s : State) (fd : ℕ) (bytes : List ℕ) (d : Open) (f : File) → open_at s.slots fd ≡ Some d → file_of d.id s.table ≡ Some f → incoming_of s (Writes fd bytes) ≡ Some (brought fd bytes d f)
unfolding incoming_of open_file
brings-by s fd bytes d f at there = rw at (rw there refl)

pub write-is_done : (g : Geometry) → WriteIsDone g
write-is_done g spare s fd bytes d f w = record {
  answer_is = write-answer g spare s fd bytes d f w;
  steps_are = write-steps g spare s fd bytes d f w;
  brings = brings-by s fd bytes d f w.descriptor w.file;
}

-- ---- a write that isn't refused

module _ (g : Geometry) (spare : Bool) (s : State) (fd : ℕ) (bytes : List ℕ) (some : 0 < length bytes) where
  abbrev through : Open → File → Outcome
  through d f = if not (may_write d.flags) then refused NotWritable s else if length bytes == 0 then gives (Tells 0) s else with_page g spare s (gives (Tells (length bytes)) (write_into fd d f bytes s))

  by_file : (d : Open) (o : Option File) → open_at s.slots fd ≡ Some d → file_of d.id s.table ≡ o → is_refusal (on_its_file d o s through).answer ≡ false → (e : Open) × (f : File) × IsWrite g spare s fd bytes e f
  unfolding page_refusal
  by_file d None at there done = absurd (true≢false done)
  by_file d (Some f) at there done =
      let one : (length bytes == 0) ≡ false = ne_eqb (length bytes) 0 (λ e. omega (arith, e, some)) in
      ⊎_elim
      (λ (writes : may_write d.flags ≡ true).
      let after_flags = rw writes at done in
      let after_bytes = rw one at after_flags in
      ⊎_elim
      (λ (two : spare ≡ true).
      let after_spare = rw two at after_bytes in
      ⊎_elim
      (λ (room : has_room g (put_file (written (write_place d f) bytes f) s.table) ≡ true).
      (d, f, record { descriptor = at; file = there; writes = writes; some = some; two_free = two; room = room }))
      (λ (full : has_room g (put_file (written (write_place d f) bytes f) s.table) ≡ false). absurd (true≢false (rw full at after_spare)))
      (cases_Bool (has_room g (put_file (written (write_place d f) bytes f) s.table))))
      (λ (few : spare ≡ false). absurd (true≢false (rw few at after_bytes)))
      (cases_Bool spare))
      (λ (reads : may_write d.flags ≡ false). absurd (true≢false (rw reads at done)))
      (cases_Bool (may_write d.flags))

  by_open : (o : Option Open) → open_at s.slots fd ≡ o → is_refusal (on_descriptor o s (λ d. on_its_file d (file_of d.id s.table) s through)).answer ≡ false → (e : Open) × (f : File) × IsWrite g spare s fd bytes e f
  by_open None at done = absurd (true≢false done)
  by_open (Some d) at done = by_file d (file_of d.id s.table) at refl done

pub done-is_write : (g : Geometry) → DoneIsWrite g
unfolding answer answer_write
done-is_write g spare s fd bytes some done = by_open g spare s fd bytes some (open_at s.slots fd) refl done

-- ---- whether it goes on

continues-run : (g : Geometry) (image : List ℕ) (m : Moment) (o : Option Run) (fd : ℕ) (bytes : List ℕ) (d : Open) (f : File) → RunWaits g image m o →
    continues g m.window (Some (brought fd bytes d f)) ≡ accepted (body g) o fd (write_place d f) (length bytes)
unfolding accepted settled_at
continues-run g image m None fd bytes d f is = ap (λ (n : Moment). continues g n.window (Some (brought fd bytes d f))) is
continues-run g image m (Some r) fd bytes d f w = rw w.0.window (⊎_elim
    (λ (meets : (r.start + length r.bytes == write_place d f) ≡ true).
    let is : r.start + length r.bytes ≡ write_place d f = eqb-true (r.start + length r.bytes) (write_place d f) meets in rw is refl)
    (λ (apart : (r.start + length r.bytes == write_place d f) ≡ false). rw apart (rw (and_right (r.fd == fd) false refl) refl))
    (cases_Bool (r.start + length r.bytes == write_place d f)))

pub continues-accepted : (g : Geometry) → ContinuesAccepted g
continues-accepted g image memory m fd bytes d f at is there = rw (brings-by m.state fd bytes d f is there) (continues-run g image m memory.run fd bytes d f at.run)

-- ---- the descriptor of a number that was changed

pub open-put_same : (all : List (Option Open)) (fd : ℕ) (old : Open) (new : Option Open) → open_at all fd ≡ Some old → open_at (put_at all fd new) fd ≡ new
unfolding open_at put_at
open-put_same all fd old new at = ⊎_elim
    (λ (none : (fd == 0) ≡ true). absurd (none-some old (rw none at at)))
    (λ (some : (fd == 0) ≡ false). rw some (⊎_elim
    (λ (low : fd - 1 < length all). get_or-set_same all (fd - 1) new None low)
    (λ (past : length all ≤ fd - 1). absurd (none-some old (sym (get_or_past all (fd - 1) None past) ∙ rw some at at)))
    (cases_lt (fd - 1) (length all))))
    (cases_Bool (fd == 0))
