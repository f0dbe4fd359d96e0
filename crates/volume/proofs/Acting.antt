-- What calls that leave nothing waiting do, by what they do to the device.
use Rattle.std.proofs.Common.{◌≡◌, ℕ, List, Bool, true, false, cond, refl, sym, ◌∙◌, ap, subst}
use Rattle.std.specs.Prelude.{Option, Some, None}
use Rattle.geometry.specs.declared.geometry.Geometry.{Geometry}
use Rattle.nor_core.specs.declared.state.NorState.{Ghosts as NorOf}
use Rattle.table_model.specs.Table.{Open, State}
use Rattle.table_model.specs.Descriptors.{open_at}
use Rattle.table_model.specs.Outcome.{gives, on_descriptor}
use Rattle.table_model.specs.Calls.{answer_tell}
use Rattle.table_model.specs.Reply.{Answer, Tells as Number}
use Rattle.table_model.specs.declared.call.Call.{Call}
use Rattle.table_model.specs.declared.call.Call.TheVariants.{Write, Fill}
use Rattle.table_model.specs.Ask.{Ask, asked, Creates, Opens, Reads, Writes, Fills, Seeks, Tells, Truncates, Flushes, Closes, Removes, RemovesOpen, Renames, Stats, StatsOpen, NextAbove, Informs, Collects, SetsMeta, SetsMetaOpen}
use Rattle.table_model.specs.Flat.{answer}
use Rattle.table_model.specs.Steps.{is_refusal}
use Rattle.table_model.specs.Window.{Moment, Waiting, settled_at, incoming_of, continues, leaves_window, after}
use Rattle.image_model.specs.Tidy.{has_spare}
use Rattle.write_window.specs.Runs.{Run}
use Rattle.call_model.specs.Calls.{Stands}
use Rattle.call_model.proofs.After.{refused-settles}
use Rattle.fd_table.specs.declared.slot.FdSlot.{FdSlot}
use Rattle.fd_table.specs.Slots.{descriptors}
use Rattle.file_calls.specs.States.{IsImageOf}
use Rattle.file_calls.specs.Replies.{is_write}
use Rattle.file_calls.specs.Goes.{Goes}
use Rattle.volume.specs.Acts.{ActsQuietly}

-- ---- the flat table

-- a call that is no write continues nothing
pub goes_on_none : (g : Geometry) (w : Option Waiting) → continues g w None ≡ false
goes_on_none g None = refl
goes_on_none g (Some w) = refl

either : {A : Type 0} (b : Bool) (x y : A) → y ≡ x → cond b x y ≡ x
either true x y e = refl
either false x y e = e

-- telling an offset leaves the state
tells_stay : (found : Option Open) (s : State) → (on_descriptor found s (λ d. gives (Number d.offset) s)).next ≡ s
tells_stay None s = refl
tells_stay (Some d) s = refl

pub no_write : (call : Call) → ((fd : ℕ) (bytes : _) → call ≡ Write fd bytes → ⊥) → ((fd count byte : ℕ) → call ≡ Fill fd count byte → ⊥) → is_write (asked call) ≡ false
no_write (Write fd bytes) write fill = absurd (write fd bytes refl)
no_write (Fill fd count byte) write fill = absurd (fill fd count byte refl)
no_write _ write fill = refl

-- after any other call nothing waits, where nothing waited before
after_other : (g : Geometry) (spare : Bool) (m : Moment) (ask : Ask) → m ≡ settled_at m.state → is_write ask ≡ false → after g spare m ask ≡ settled_at (answer g spare m.state ask).next
unfolding after incoming_of answer answer_tell
after_other g spare m (Writes fd bytes) still other = absurd (let no : true ≡ false = other in cc)
after_other g spare m (Fills fd count byte) still other = absurd (let no : true ≡ false = other in cc)
after_other g spare m (Creates name) still other = either (is_refusal (answer g spare m.state (Creates name)).answer) _ _ (rw (goes_on_none g m.window) refl)
after_other g spare m (Opens name flags) still other = either (is_refusal (answer g spare m.state (Opens name flags)).answer) _ _ (rw (goes_on_none g m.window) refl)
after_other g spare m (Reads fd count) still other = either (is_refusal (answer g spare m.state (Reads fd count)).answer) _ _ (rw (goes_on_none g m.window) refl)
after_other g spare m (Seeks fd offset from) still other = either (is_refusal (answer g spare m.state (Seeks fd offset from)).answer) _ _ (rw (goes_on_none g m.window) refl)
after_other g spare m (Tells fd) still other = rw (tells_stay (open_at m.state.slots fd) m.state) still
after_other g spare m (Truncates fd size) still other = either (is_refusal (answer g spare m.state (Truncates fd size)).answer) _ _ (rw (goes_on_none g m.window) refl)
after_other g spare m (Flushes fd) still other = either (is_refusal (answer g spare m.state (Flushes fd)).answer) _ _ (rw (goes_on_none g m.window) refl)
after_other g spare m (Closes fd) still other = either (is_refusal (answer g spare m.state (Closes fd)).answer) _ _ (rw (goes_on_none g m.window) refl)
after_other g spare m (Removes name) still other = either (is_refusal (answer g spare m.state (Removes name)).answer) _ _ (rw (goes_on_none g m.window) refl)
after_other g spare m (RemovesOpen fd) still other = either (is_refusal (answer g spare m.state (RemovesOpen fd)).answer) _ _ (rw (goes_on_none g m.window) refl)
after_other g spare m (Renames old_name new_name) still other = either (is_refusal (answer g spare m.state (Renames old_name new_name)).answer) _ _ (rw (goes_on_none g m.window) refl)
after_other g spare m (Stats name) still other = either (is_refusal (answer g spare m.state (Stats name)).answer) _ _ (rw (goes_on_none g m.window) refl)
after_other g spare m (StatsOpen fd) still other = either (is_refusal (answer g spare m.state (StatsOpen fd)).answer) _ _ (rw (goes_on_none g m.window) refl)
after_other g spare m (NextAbove id) still other = either (is_refusal (answer g spare m.state (NextAbove id)).answer) _ _ (rw (goes_on_none g m.window) refl)
after_other g spare m Informs still other = either (is_refusal (answer g spare m.state Informs).answer) _ _ (rw (goes_on_none g m.window) refl)
after_other g spare m Collects still other = either (is_refusal (answer g spare m.state Collects).answer) _ _ (rw (goes_on_none g m.window) refl)
after_other g spare m (SetsMeta name meta) still other = either (is_refusal (answer g spare m.state (SetsMeta name meta)).answer) _ _ (rw (goes_on_none g m.window) refl)
after_other g spare m (SetsMetaOpen fd meta) still other = either (is_refusal (answer g spare m.state (SetsMetaOpen fd meta)).answer) _ _ (rw (goes_on_none g m.window) refl)

-- A call leaves nothing waiting, where nothing waited before.
abbrev pub EndsSettled : Geometry → Bool → State → Ask → Type 0
EndsSettled g spare s ask = after g spare (settled_at s) ask ≡ settled_at (answer g spare s ask).next

-- so does each one that is no write
pub other_ends : (g : Geometry) (spare : Bool) (s : State) (ask : Ask) → is_write ask ≡ false → EndsSettled g spare s ask
unfolding settled_at
other_ends g spare s ask other = after_other g spare (settled_at s) ask refl other

-- and each one that is refused
pub refused_ends : (g : Geometry) (spare : Bool) (s : State) (ask : Ask) → leaves_window ask ≡ false → is_refusal (answer g spare s ask).answer ≡ true → EndsSettled g spare s ask
unfolding settled_at
refused_ends g spare s ask leaves refusal = refused-settles g spare (settled_at s) ask leaves refusal

-- ---- over a device

-- device and descriptors of a state are those of the moment where all is settled
settled_stands : {D : Type 0} {nor : NorOf D} {g : Geometry} {d : D} {slots : List FdSlot} (s : State) → IsImageOf nor g d slots s → Stands nor g d (record { slots = descriptors slots; run = None }) (settled_at s)
unfolding settled_at
settled_stands s here = record { tells = here.tells; image = record { tidy = here.tidy; table = sym here.table; slots = here.slots; run = refl; opened = here.opened } }

module _ {D : Type 0} {nor : NorOf D} {g : Geometry} {old new : D} {slots last : List FdSlot} where
  -- a call that leaves nothing waiting
  pub acts_settled : {run : Option Run} → run ≡ None → (ask : Ask) (reply : Answer) (wrote : Bool) →
      ((s : State) → IsImageOf nor g old slots s → reply ≡ (answer g (has_spare g (nor.bytes old)) s ask).answer → EndsSettled g (has_spare g (nor.bytes old)) s ask) →
      Goes nor g ask old new slots last wrote reply → ActsQuietly nor g ask old new slots last run wrote reply
  acts_settled none ask reply wrote ends goes = subst (λ (r : Option Run). ActsQuietly nor g ask old new slots last r wrote reply) (sym none) (record {
    quiet = goes.quiet;
    acts = record {
      does = goes.does;
      answers = λ s here no_fault whole. let r = goes.answers s here no_fault whole in record {
        reply_is = r.reply_is;
        stands = subst (λ (m : Moment). Stands nor g new (record { slots = descriptors last; run = None }) m) (sym (ends s here r.reply_is))
            (settled_stands (answer g (has_spare g (nor.bytes old)) s ask).next r.holds);
        reserve = r.reserve;
        reads = r.reads;
      };
      empty = λ refusal. refl;
      waits = λ some. absurd (let no : false ≡ true = some in cc);
    };
  })

  -- one that is no write
  pub acts_by : {run : Option Run} {ask : Ask} {reply : Answer} {wrote : Bool} → run ≡ None → Goes nor g ask old new slots last wrote reply → is_write ask ≡ false → ActsQuietly nor g ask old new slots last run wrote reply
  acts_by {ask = ask} {reply = reply} {wrote = wrote} none goes other = acts_settled none ask reply wrote (λ s here is. other_ends g (has_spare g (nor.bytes old)) s ask other) goes

  -- one that is refused
  pub acts_refused : {run : Option Run} → run ≡ None → (ask : Ask) (reply : Answer) (wrote : Bool) → leaves_window ask ≡ false → is_refusal reply ≡ true → Goes nor g ask old new slots last wrote reply → ActsQuietly nor g ask old new slots last run wrote reply
  acts_refused none ask reply wrote leaves refusal goes = acts_settled none ask reply wrote (λ s here is. refused_ends g (has_spare g (nor.bytes old)) s ask leaves (sym (ap is_refusal is) ∙ refusal)) goes
