-- Promises in the runs of a script.
use Rattle.std.proofs.Common.{◌≡◌, ℕ, ◌+◌, List, [], ◌∷◌, ◌++◌, length, refl, sym, ◌∙◌, ap, subst, inl, inr, ⊎_elim, append_assoc, append-nil}
use Rattle.geometry.specs.declared.geometry.Geometry.{Geometry}
use Rattle.nor_core.specs.declared.state.NorState.{Ghosts as NorOf}
use Rattle.nor_core.specs.declared.source.Source.{Ghosts as SourceOf}
use Rattle.nor_core.specs.Device.{Leaves}
use Rattle.nor_core.proofs.Cuts.{widened}
use Rattle.table_model.specs.Table.{State}
use Rattle.table_model.specs.Ask.{Ask}
use Rattle.table_model.specs.Window.{Moment, settled_at}
use Rattle.call_script.specs.Lines.{calls}
use Rattle.image_model.specs.Tables.{table_of}
use Rattle.run_model.specs.Runs.{RunCall, AreFair, IsUnderWay, asks_of, after_all, replies, IsCut}
use Rattle.run_model.proofs.Runs.{asks-append}
use Rattle.promise_model.specs.Laws.{KeepsAll, IsGood}
use Rattle.promise_model.proofs.Keeping.{cuts_keep, ends_keep}
use Rattle.tool_parts.specs.Closing.{closing_line_of}
use Rattle.script_run.specs.Running.{CallCut, ClosingCut, Breaks, Closes, Outcome}
use Rattle.promise_runs.specs.Runs.{volume_of, IsBehind, CutKeeps, RunKeeps, RunsKeep}

-- what was said while some calls are under way stands behind the replies before them
behind_way : (g : Geometry) (m : Moment) (under : List RunCall) (part image : List ℕ) → IsUnderWay g m under part image → IsBehind g m under part
unfolding IsUnderWay
behind_way g m [] part image way = way.0
behind_way g m (x ∷ xs) part image way = way.said

module _ {D : Type 0} (nor : NorOf D) (g : Geometry) (s : State) (script : List ℕ) (good : IsGood g s script) (old new : D) where
  -- before the first call
  at_first : KeepsAll g s script 0 s.table
  unfolding after_all AreFair settled_at
  at_first = ends_keep g s script good [] (calls script) refl (tt {0})

  -- a cut in the calls
  in_calls : (done : List RunCall) (later : List Ask) → calls script ≡ asks_of done ++ later → AreFair g (settled_at s) done → (image : List ℕ) (count : ℕ) → CallCut nor g old (settled_at s) done image count → CutKeeps nor g s script old new image count
  in_calls done later asks_are fair image count c =
      let cut : IsCut g (settled_at s) done c.said image = c.cut in
      record {
        answered = cut.front;
        next = cut.later;
        later = later;
        asks_are = asks_are ∙ ap (λ (l : List Ask). l ++ later) (ap asks_of cut.calls_are ∙ asks-append cut.front cut.later) ∙ append_assoc (asks_of cut.front) (asks_of cut.later) later;
        fair = subst (AreFair g (settled_at s)) cut.calls_are fair;
        part = cut.part;
        behind = inl (behind_way g (after_all g (settled_at s) cut.front) cut.later cut.part image cut.under_way);
        count_is = c.count_is ∙ ap (λ (l : List ℕ). length (nor.said old) + length l) cut.said_is;
        keeps = cuts_keep g s script good done later asks_are fair c.said image cut;
      }

  broke : (status : ℕ) → Breaks nor g old new (settled_at s) script status → Leaves nor old new (CutKeeps nor g s script old new)
  broke status b = widened b.cuts (λ image count c. in_calls b.said.calls [] (b.said.asks_are ∙ sym (append-nil (asks_of b.said.calls))) b.said.fair image count c)

  module _ (left : List ℕ) (status : ℕ) (w : Closes nor g old new (settled_at s) script left status) where
    -- a cut in the closing line
    in_closing : (image : List ℕ) (count : ℕ) → ClosingCut nor g old new (replies g (settled_at s) w.front) (closing_line_of w.ending) image count → CutKeeps nor g s script old new image count
    in_closing image count c =
        let same : table_of g image ≡ (after_all g (settled_at s) w.front).state.table = ap (table_of g) c.image_is ∙ w.table in
        record {
          answered = w.front;
          next = [];
          later = w.later;
          asks_are = w.asks_are;
          fair = subst (AreFair g (settled_at s)) (sym (append-nil w.front)) w.fair;
          part = c.part;
          behind = inr (record { ending = w.ending; some = c.some; rest = c.rest; line_is = c.closing_is; last = w.part; unsaid = w.rest; last_is = w.closing_is; all_said = w.said });
          count_is = c.count_is;
          keeps = subst (KeepsAll g s script (length w.front)) (sym same) (ends_keep g s script good w.front w.later w.asks_are w.fair);
        }

    closed : Leaves nor old new (CutKeeps nor g s script old new)
    closed = widened w.cuts (λ image count c. ⊎_elim
        (λ (call : CallCut nor g old (settled_at s) w.front image count). in_calls w.front w.later w.asks_are w.fair image count call)
        (λ (line : ClosingCut nor g old new (replies g (settled_at s) w.front) (closing_line_of w.ending) image count). in_closing image count line)
        c)

  outcome_keeps : (left : List ℕ) (status : ℕ) → Outcome nor g old new (settled_at s) script left status → RunKeeps nor g s script old new
  outcome_keeps left status (inl b) = (at_first, broke status b)
  outcome_keeps left status (inr w) = (at_first, closed left status w)

pub runs_keep : {D X : Type 0} (nor : NorOf D) (source : SourceOf X) (g : Geometry) → RunsKeep nor source g
runs_keep nor source g lent old new script after status does told tells good =
    outcome_keeps nor g (volume_of g lent (nor.bytes old)) (source.left script) good old new (source.left after) status (does.outcome told tells)
