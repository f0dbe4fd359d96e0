-- How the files of a volume are counted in order of ids.
use Rattle.std.proofs.Common.{◌≡◌, ℕ, Option, Some, None, ap, refl, sym, ◌∙◌, subst, true, false}
use Rattle.geometry.specs.declared.geometry.Geometry.{Geometry}
use Rattle.nor_core.specs.declared.state.NorState.{Ghosts as NorOf}
use Rattle.table_model.specs.declared.error.FsErr.{FsErr}
use Rattle.table_model.specs.declared.reply.Stat.{Stat}
use Rattle.table_model.specs.Table.{File, State, file_above}
use Rattle.table_model.specs.Files.{stat_of}
use Rattle.table_model.specs.Calls.{shown, answer_next}
use Rattle.table_model.specs.Ask.{NextAbove}
use Rattle.table_model.specs.Reply.{Answer, Ends, Shows, Refuses}
use Rattle.table_model.specs.Flat.{answer}
use Rattle.table_model.specs.Window.{incoming_of}
use Rattle.volume.specs.declared.volume.Volume.{Volume}
use Rattle.file_calls.specs.Replies.{shown_or_end}
use Rattle.volume.specs.Replies.{breaks}
use Rattle.volume.specs.Calls.{Calls}
use Rattle.volume_run.specs.Ready.{IsReady, IsAnswered}
use Rattle.volume_run.proofs.Answering.{answered, settled}
use Rattle.volume_soak.specs.Doing.{FindsFrom}

-- the answer for the record of the next file
next_answer : (g : Geometry) (s : State) (after : ℕ) → (answer g true s (NextAbove after)).answer ≡ shown (file_above after s.table)
unfolding answer answer_next
next_answer g s after = refl

next_state : (g : Geometry) (s : State) (after : ℕ) → (answer g true s (NextAbove after)).next ≡ s
unfolding answer answer_next
next_state g s after = refl

writes_none : (s : State) (after : ℕ) → incoming_of s (NextAbove after) ≡ None
unfolding incoming_of
writes_none s after = refl

no_refusal : (why : FsErr) (o : Option File) → Refuses why ≡ shown o → ⊥
no_refusal why None is = let no : Refuses why ≡ Ends = is in cc
no_refusal why (Some f) is = let no : Refuses why ≡ Shows (stat_of f) = is in cc

-- a record, or the end of the table, tells no fault
pub shown_whole : (found : Option Stat) → breaks (shown_or_end found) ≡ false
shown_whole None = refl
shown_whole (Some stat) = refl

module _ {N : Type 0} {nor : NorOf N} where
  pub finds : {old new : Volume N nor} {reply : Answer} (after : ℕ) (found : Option Stat) → Calls (NextAbove after) old new reply → breaks reply ≡ false → reply ≡ shown_or_end found → FindsFrom old after new found
  finds {old} {new} {reply} after found calls whole is = λ g s ready.
      let a : IsAnswered g s (NextAbove after) new reply = answered ready calls whole in
      record {
        ready = subst (λ (t : State). IsReady g new t) (next_state g s after) a.ready;
        table = settled ready calls whole refl (λ t. writes_none t after) ∙ ap (λ (t : State). t.table) (next_state g s after);
        found_is = sym is ∙ a.reply_is ∙ next_answer g s after;
      }

  -- a volume at a state isn't refused a record
  pub never_refused : {old new : Volume N nor} (after : ℕ) (why : FsErr) (found : Option Stat) → Calls (NextAbove after) old new (Refuses why) → breaks (Refuses why) ≡ false → FindsFrom old after new found
  never_refused after why found calls whole = λ g s ready. absurd (no_refusal why (file_above after s.table) ((answered ready calls whole).reply_is ∙ next_answer g s after))
