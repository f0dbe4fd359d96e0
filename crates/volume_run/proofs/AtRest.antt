-- Calls of a volume on which nothing waits.
use Rattle.std.proofs.Common.{◌≡◌, refl, sym, ◌∙◌, ap, subst, ⊎_elim, List, ◌∷◌, ℕ, Bool, true, false, Option, Some, None}
use Rattle.std.proofs.lemmas.Bool.{le-leb}
use Rattle.std.proofs.lemmas.Option.{none-some}
use Rattle.geometry.specs.declared.geometry.Geometry.{Geometry}
use Rattle.nor_core.specs.declared.state.NorState.{Ghosts as NorOf}
use Rattle.nor_core.specs.Device.{OnlyReads}
use Rattle.nor_core.proofs.Cuts.{wider}
use Rattle.table_model.specs.declared.error.FsErr.TheVariants.{DeviceFault, Damaged}
use Rattle.table_model.specs.declared.error.Differ.{Differ}
use Rattle.table_model.specs.Table.{State}
use Rattle.table_model.specs.Ask.{Ask}
use Rattle.table_model.specs.Reply.{Answer, Refuses}
use Rattle.table_model.specs.Flat.{answer}
use Rattle.table_model.specs.Steps.{steps, is_refusal}
use Rattle.table_model.specs.Window.{Moment, after, settled_at, incoming_of, continues, IsAmong}
use Rattle.image_model.specs.Tables.{table_of}
use Rattle.image_model.specs.Tidy.{free_blocks}
use Rattle.write_window.specs.Runs.{Run}
use Rattle.call_model.specs.Safe.{IsSafe}
use Rattle.call_model.specs.Memory.{RunWaits}
use Rattle.call_model.specs.Calls.{Stands, Answers, Publishes}
use Rattle.call_model.proofs.After.{other-settles}
use Rattle.run_model.specs.Ran.{RunStands, RunAnswers}
use Rattle.run_model.proofs.OneCall.{run_answers}
use Rattle.file_calls.specs.Goes.{StopsShort}
use Rattle.volume.specs.declared.volume.Volume.{Volume}
use Rattle.volume.specs.Holds.{memory, Holds}
use Rattle.volume.specs.Opening.{is_open}
use Rattle.volume.specs.Stages.{takes_calls}
use Rattle.volume.specs.Replies.{breaks}
use Rattle.volume.specs.Calls.{Calls}
use Rattle.volume_run.proofs.Answering.{unbroken}
use Rattle.volume_run.specs.Resting.{IsQuiet, IsAtRest, Rested}

-- where all is settled nothing goes on
goes_on_none : (g : Geometry) (s : State) (ask : Ask) → continues g (settled_at s).window (incoming_of (settled_at s).state ask) ≡ false
unfolding settled_at
goes_on_none g s ask = refl

-- the moment after a quiet call is one where all is settled
settles : (g : Geometry) (s : State) (ask : Ask) → IsQuiet g s ask → after g true (settled_at s) ask ≡ settled_at (answer g true s ask).next
unfolding settled_at
settles g s ask quiet = other-settles g true (settled_at s) ask quiet.leaves (goes_on_none g s ask) quiet.waits

-- and there no run waits
no_run : (g : Geometry) (image : List ℕ) (s : State) (o : Option Run) → RunWaits g image (settled_at s) o → o ≡ None
unfolding settled_at
no_run g image s None waits = refl
no_run g image s (Some r) waits = absurd (none-some _ waits.0.window)

-- collection isn't stopped in a quiet call
not_short : {g : Geometry} {s : State} {ask : Ask} (h : Geometry) (image : List ℕ) (m : Moment) (reply : Answer) → IsQuiet g s ask → StopsShort h image m.state ask reply → ⊥
not_short h image m reply quiet short = ⊎_elim
    (λ collects. quiet.collects collects)
    (λ corner. let no : true ≡ false = sym corner.cuts ∙ quiet.cuts in cc)
    short.why

module _ {N : Type 0} {nor : NorOf N} where
  holds_at : {g : Geometry} {old : Volume N nor} {s : State} → IsAtRest g old s → Holds old (settled_at s)
  holds_at {g} {old} {s} rest = subst (λ (h : Geometry). Stands nor h old.nor.now (memory old) (settled_at s)) (sym rest.geometry) rest.stands.stands

  takes_on : {old new : Volume N nor} {ask : Ask} {reply : Answer} → takes_calls old ≡ true → Calls ask old new reply → breaks reply ≡ false → takes_calls new ≡ true
  takes_on takes calls whole = ⊎_elim (λ same. ap is_open same ∙ takes) (λ broken. absurd (let no : false ≡ true = sym whole ∙ broken.2 in cc)) calls.stays

  undamaged : {g : Geometry} {old new : Volume N nor} {s : State} {ask : Ask} {reply : Answer} → IsAtRest g old s → Calls ask old new reply → (d : Differ) → reply ≡ Refuses (Damaged d) → ⊥
  undamaged {s = s} rest calls d is = calls.undamaged (settled_at s) (holds_at rest) d is

  -- what a cut leaves
  cut_at : {g : Geometry} {old : Volume N nor} {s : State} (ask : Ask) → IsAtRest g old s → (image : List ℕ) → Publishes g (memory old) (settled_at s) ask (nor.bytes old.nor.now) image → IsSafe g (nor.bytes old.nor.now) image × IsAmong (table_of g image) (s.table ∷ steps g true s ask)
  unfolding settled_at
  cut_at {g} {old} {s} ask rest image here = subst (λ (b : Bool). IsSafe g (nor.bytes old.nor.now) image × IsAmong (table_of g image) (s.table ∷ steps g b s ask)) (le-leb 2 (free_blocks g (nor.bytes old.nor.now)) rest.stands.reserve) (here rest.stands.stands.image)

  module _ {g : Geometry} {old new : Volume N nor} {s : State} {ask : Ask} {reply : Answer} (rest : IsAtRest g old s) (quiet : IsQuiet g s ask) (calls : Calls ask old new reply) (whole : ¬ (reply ≡ Refuses DeviceFault)) where
    ran : RunAnswers nor g old.nor.now new.nor.now (memory new) (settled_at s) ask reply
    ran = run_answers rest.stands (subst (λ (h : Geometry). Answers nor h old.nor.now new.nor.now (memory new) (settled_at s) ask reply) rest.geometry
        (calls.answers (settled_at s) rest.takes (holds_at rest) whole (not_short old.geometry (nor.bytes old.nor.now) (settled_at s) reply quiet)))

    answers : (reply ≡ (answer g true s ask).answer) × IsAtRest g new (answer g true s ask).next
    unfolding settled_at
    answers =
        let r = ran in
        let at : RunStands nor g new.nor.now (memory new) (settled_at (answer g true s ask).next) = subst (λ (m : Moment). RunStands nor g new.nor.now (memory new) m) (settles g s ask quiet) r.stands in (
          r.reply_is,
          record {
            geometry = calls.same.geometry ∙ rest.geometry;
            takes = takes_on rest.takes calls (unbroken reply whole (undamaged rest calls));
            stands = at;
            none = no_run g (nor.bytes new.nor.now) (answer g true s ask).next (memory new).run at.stands.image.run;
          },
        )

    only_reads : is_refusal reply ≡ true → OnlyReads nor old.nor.now new.nor.now
    only_reads refusal = (calls.refused (settled_at s) rest.takes rest.none (holds_at rest) whole (not_short old.geometry (nor.bytes old.nor.now) (settled_at s) reply quiet) refusal).reads

  -- by the contract of every call
  pub rested : {old new : Volume N nor} {ask : Ask} {reply : Answer} → Calls ask old new reply → Rested ask old new reply
  rested {old} {new} {ask} {reply} calls = record {
    same = calls.same;
    cause = calls.cause;
    differs = calls.differs;
    undamaged = λ g s rest d is. undamaged rest calls d is;
    cuts = wider calls.cuts (λ tells image here. λ g s rest. cut_at ask rest image (subst (λ (h : Geometry). Publishes h (memory old) (settled_at s) ask (nor.bytes old.nor.now) image) rest.geometry (here (settled_at s))));
    answers = λ g s rest quiet whole. answers rest quiet calls whole;
    looks = λ looks none. (calls.looks looks none).0;
    refused = λ g s rest quiet whole refusal. only_reads rest quiet calls whole refusal;
  }
