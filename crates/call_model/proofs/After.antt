-- What a call does to the waiting bytes of a volume.
use Rattle.std.proofs.Common.{◌≡◌, ℕ, List, [], replicate, Bool, true, false, Option, Some, None, inl, inr, ⊎_elim, sym, append-nil, ◌∙◌, ap, subst, refl}
use Rattle.std.proofs.lemmas.Bool.{cases_Bool}
use Rattle.std.proofs.lemmas.List.{length-replicate}
use Rattle.geometry.specs.declared.geometry.Geometry.{Geometry}
use Rattle.table_model.specs.Table.{File, Open, State}
use Rattle.table_model.specs.Ask.{Writes, Fills, Tells}
use Rattle.table_model.specs.Reply.{Tells as Told}
use Rattle.table_model.specs.Descriptors.{open_at}
use Rattle.table_model.specs.Outcome.{gives, on_descriptor}
use Rattle.table_model.specs.Calls.{answer_tell}
use Rattle.table_model.specs.Flat.{answer}
use Rattle.table_model.specs.Steps.{steps, done_steps, is_refusal}
use Rattle.table_model.specs.Window.{Moment, after, settled_at, incoming_of, incoming_at, from_settled, IsAmong}
use Rattle.write_window.specs.Runs.{Run}
use Rattle.call_model.specs.Memory.{RunWaits}
use Rattle.call_model.specs.Moves.{LeavesWindow, TellStays, RefusedSettles, OtherSettles, WriteGoesOn, WriteBegins, AfterSettled, AfterRefused, SettledAmong, FillsAsWrites}

pub leaves-window : (g : Geometry) → LeavesWindow g
unfolding after
leaves-window g spare m ask leaves = rw leaves refl

tell-by : (s : State) (o : Option Open) → (on_descriptor o s (λ d. gives (Told d.offset) s)).next ≡ s
tell-by s None = refl
tell-by s (Some d) = refl

tell-next : (g : Geometry) (spare : Bool) (s : State) (fd : ℕ) → (answer g spare s (Tells fd)).next ≡ s
unfolding answer answer_tell
tell-next g spare s fd = tell-by s (open_at s.slots fd)

pub tell-stays : (g : Geometry) → TellStays g
tell-stays g spare m fd = leaves-window g spare m (Tells fd) refl ∙ ap (λ (s : State). record m { state = s }) (tell-next g spare m.state fd)

pub refused-settles : (g : Geometry) → RefusedSettles g
unfolding after
refused-settles g spare m ask leaves refused = rw (leaves, refused) refl

pub other-settles : (g : Geometry) → OtherSettles g
unfolding after
other-settles g spare m ask leaves stops none = rw leaves (⊎_elim
    (λ (yes : is_refusal (answer g spare m.state ask).answer ≡ true). rw yes refl)
    (λ (done : is_refusal (answer g spare m.state ask).answer ≡ false). rw (done, stops, none) refl)
    (cases_Bool (is_refusal (answer g spare m.state ask).answer)))

pub write-goes_on : (g : Geometry) → WriteGoesOn g
unfolding after
write-goes_on g spare m ask leaves done goes = rw (leaves, done, goes) refl

pub write-begins : (g : Geometry) → WriteBegins g
unfolding after
write-begins g spare m ask leaves done stops waits = rw (leaves, done, stops, waits) refl

pub after-refused : (g : Geometry) → AfterRefused g
unfolding settled_at
after-refused g spare m ask leaves refused = refused-settles g spare (settled_at m.state) ask leaves refused ∙ sym (refused-settles g spare m ask leaves refused)

pub after-settled : (g : Geometry) → AfterSettled g
unfolding after settled_at
after-settled g spare m ask leaves stops = rw (leaves, stops) refl

-- the table of the state is the settled one, or it waits
among-run : (g : Geometry) (image : List ℕ) (m : Moment) (o : Option Run) → RunWaits g image m o → IsAmong m.state.table (from_settled m [])
unfolding IsAmong settled_at
among-run g image m None is = inl (sym (ap (λ (n : Moment). n.settled) is))
among-run g image m (Some r) w = inr (subst (λ (l : List (List File)). IsAmong m.state.table l) (sym (append-nil m.waiting)) w.0.last)

pub settled-among : (g : Geometry) → SettledAmong g
settled-among g image memory m at = among-run g image m memory.run at.run

-- ---- a fill

fill-answer : (g : Geometry) (spare : Bool) (s : State) (fd count byte : ℕ) → answer g spare s (Fills fd count byte) ≡ answer g spare s (Writes fd (replicate count byte))
unfolding answer
fill-answer g spare s fd count byte = refl

fill-done : (g : Geometry) (s : State) (fd count byte : ℕ) (files : List File) → done_steps g s (Fills fd count byte) files ≡ done_steps g s (Writes fd (replicate count byte)) files
unfolding done_steps
fill-done g s fd count byte files = refl

fill-steps : (g : Geometry) (spare : Bool) (s : State) (fd count byte : ℕ) → steps g spare s (Fills fd count byte) ≡ steps g spare s (Writes fd (replicate count byte))
unfolding steps
fill-steps g spare s fd count byte = rw (fill-answer g spare s fd count byte) (rw (fill-done g s fd count byte (answer g spare s (Writes fd (replicate count byte))).next.table) refl)

fill-incoming : (s : State) (fd count byte : ℕ) → incoming_of s (Fills fd count byte) ≡ incoming_of s (Writes fd (replicate count byte))
unfolding incoming_of
fill-incoming s fd count byte = ap (λ (n : ℕ). incoming_at s fd n) (sym (length-replicate count byte))

pub fills-as_writes : (g : Geometry) (spare : Bool) (m : Moment) (fd count byte : ℕ) → FillsAsWrites g spare m fd count byte
unfolding after
fills-as_writes g spare m fd count byte = record {
  answer_is = fill-answer g spare m.state fd count byte;
  steps_are = fill-steps g spare m.state fd count byte;
  after_is = rw (fill-incoming m.state fd count byte) (rw (fill-answer g spare m.state fd count byte, fill-steps g spare m.state fd count byte) refl);
}
