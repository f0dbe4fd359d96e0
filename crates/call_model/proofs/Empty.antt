-- A write of no byte.
use Rattle.std.proofs.Common.{◌≡◌, ℕ, ◌+◌, List, [], Bool, true, false, not, ◌&&◌, Option, Some, None, append-nil, ◌∙◌, ap, refl, arith}
use Rattle.std.specs.Prelude.{nat_le, nat_lt}
use Rattle.std.proofs.lemmas.Bool.{and_left, and_right}
use Rattle.geometry.specs.declared.geometry.Geometry.{Geometry}
use Rattle.table_model.specs.Table.{File, Open, file_of}
use Rattle.table_model.specs.Descriptors.{open_at, may_write, is_direct}
use Rattle.table_model.specs.Files.{write_place}
use Rattle.table_model.specs.Ask.{Writes}
use Rattle.table_model.specs.Reply.{Tells}
use Rattle.table_model.specs.Outcome.{Outcome, gives}
use Rattle.table_model.specs.Calls.{answer_write}
use Rattle.table_model.specs.Flat.{answer}
use Rattle.table_model.specs.Steps.{steps, done_steps, write_steps, open_file, file_steps, is_refusal}
use Rattle.table_model.specs.Window.{Moment, Waiting, Incoming, goes_on, extended, incoming_of, may_wait, page_end, settled_at}
use Rattle.call_model.specs.Writing.{EmptyWrite, EmptyIsDone, brought}
use Rattle.call_model.proofs.After.{other-settles, write-goes_on}
use Rattle.call_model.proofs.Writing.{brings-by}

module _ (g : Geometry) (spare : Bool) (m : Moment) (fd : ℕ) (d : Open) (f : File) (at : open_at m.state.slots fd ≡ Some d) (there : file_of d.id m.state.table ≡ Some f) (writes : may_write d.flags ≡ true) where
  empty-answer : answer g spare m.state (Writes fd []) ≡ gives (Tells 0) m.state
  unfolding answer answer_write
  empty-answer = rw at (rw there (rw writes refl))

  empty-steps : steps g spare m.state (Writes fd []) ≡ []
  unfolding steps done_steps write_steps open_file file_steps
  empty-steps = rw empty-answer (rw at (rw there refl))

  brings : incoming_of m.state (Writes fd []) ≡ Some (brought fd [] d f)
  brings = brings-by m.state fd [] d f at there

  -- a window that is longer by no byte
  no-longer : (o : Option Waiting) → extended o (Some (brought fd [] d f)) ≡ o
  no-longer None = refl
  no-longer (Some w) = ap (λ (n : ℕ). Some (record w { len = n })) (omega arith)

  goes-nowhere : goes_on m m.state [] (Some (brought fd [] d f)) ≡ m
  goes-nowhere = ap (λ (us : List (List File)). record { state = m.state; settled = m.settled; waiting = us; window = extended m.window (Some (brought fd [] d f)) }) (append-nil m.waiting)
      ∙ ap (λ (o : Option Waiting). record { state = m.state; settled = m.settled; waiting = m.waiting; window = o }) (no-longer m.window)

  none-waits : may_wait g (Some (brought fd [] d f)) ≡ false
  none-waits = and_left (not (is_direct d.flags) && nat_lt 0 0) (nat_le (write_place d f + 0) (page_end g (write_place d f))) (and_right (not (is_direct d.flags)) false refl)

  empty-done : EmptyWrite g spare m fd
  empty-done =
      let done : is_refusal (answer g spare m.state (Writes fd [])).answer ≡ false = ap (λ (o : Outcome). is_refusal o.answer) empty-answer in
      record {
        answer_is = empty-answer;
        steps_are = empty-steps;
        goes_on = λ goes. write-goes_on g spare m (Writes fd []) refl done goes
            ∙ ap (λ (o : Outcome). goes_on m o.next (steps g spare m.state (Writes fd [])) (incoming_of m.state (Writes fd []))) empty-answer
            ∙ ap (λ (more : List (List File)). goes_on m m.state more (incoming_of m.state (Writes fd []))) empty-steps
            ∙ ap (λ (i : Option Incoming). goes_on m m.state [] i) brings
            ∙ goes-nowhere;
        settles = λ stops. other-settles g spare m (Writes fd []) refl stops (rw brings none-waits) ∙ ap (λ (o : Outcome). settled_at o.next) empty-answer;
      }

pub empty-is_done : (g : Geometry) → EmptyIsDone g
empty-is_done g spare m fd d f at there writes = empty-done g spare m fd d f at there writes
