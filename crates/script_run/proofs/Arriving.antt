-- Where a run of turns has come to.
use Rattle.std.proofs.Common.{◌≡◌, ℕ, ◌+◌, List, [], ◌∷◌, ◌++◌, length, refl, sym, ◌∙◌, ap, subst, arith, inl, inr, ⊎_elim, append-nil, length-append, Some}
use Rattle.geometry.specs.declared.geometry.Geometry.{Geometry}
use Rattle.nor_core.specs.declared.state.NorState.{Ghosts as NorOf}
use Rattle.table_model.specs.Window.{Moment}
use Rattle.call_script.specs.Lines.{Parsed, Bad, lines, of_line, calls_of, calls, with_line}
use Rattle.run_model.proofs.Chain.{said_wider}
use Rattle.tool_parts.specs.declared.ending.Ending.{Ending}
use Rattle.tool_parts.specs.declared.ending.Ending.TheVariants.{Done, BadLine, BoardFault, SourceFault, TooLong}
use Rattle.script_run.specs.Turns.{AllGood, Short, At, Follows, WhyHere, Turned}
use Rattle.script_run.specs.Outcomes.{IsTaken, WhyEnds, RunEnds}
use Rattle.script_run.proofs.LineWork.{calls-append, same_said}

follows_self : (ending : Ending) (tail : List ℕ) → Follows (Some ending) tail tail
follows_self Done tail = refl
follows_self BoardFault tail = refl
follows_self _ tail = tt {0}

no_lines : lines [] ≡ []
unfolding lines
no_lines = refl

none_left : calls_of (lines []) ≡ []
unfolding calls_of lines
none_left = refl

bad_first : (l : List ℕ) (ls : List (List ℕ)) → of_line l ≡ Bad → calls_of (l ∷ ls) ≡ []
unfolding calls_of
bad_first l ls e = ap (λ (p : Parsed). with_line p (calls_of ls)) e

module _ {D : Type 0} {nor : NorOf D} {g : Geometry} where
  lines_split : {ending : Ending} {m : Moment} {a b : At D} (script : List ℕ) → script ≡ a.pending ++ a.left → (t : Turned nor g (Some ending) m a b) → lines script ≡ t.done ++ lines t.tail
  lines_split {ending} script e t = ap lines (e ∙ t.rest_is) ∙ t.lines_are t.tail (follows_self ending t.tail)

  -- the calls of a script are those that were done and those behind them
  calls_split : {ending : Ending} {m : Moment} {a b : At D} (script : List ℕ) → script ≡ a.pending ++ a.left → (t : Turned nor g (Some ending) m a b) → calls script ≡ calls_of t.done ++ calls_of (lines t.tail)
  calls_split script e t = ap calls_of (lines_split script e t) ∙ calls-append t.done (lines t.tail) t.good

  done_lines : {ending : Ending} {m : Moment} {a b : At D} (t : Turned nor g (Some ending) m a b) → ((more : List ℕ) → Follows (Some ending) t.tail more) → lines t.seg ≡ t.done
  done_lines t any = ap lines (sym (append-nil t.seg)) ∙ t.lines_are [] (any []) ∙ ap (λ (l : List (List ℕ)). t.done ++ l) no_lines ∙ append-nil t.done

  taken_of : {ending : Ending} {m : Moment} {a b : At D} (script rest left : List ℕ) → script ≡ a.pending ++ a.left → (t : Turned nor g (Some ending) m a b) → ((more : List ℕ) → Follows (Some ending) t.tail more) → Short t.tail rest left → IsTaken script t.seg rest left
  taken_of script rest left e t any short =
      let done_is = done_lines t any in
      record {
        script_is = e ∙ t.rest_is ∙ ap (λ (l : List ℕ). t.seg ++ l) short.tail_is;
        ended = λ more. t.lines_are more (any more) ∙ ap (λ (l : List (List ℕ)). l ++ lines more) (sym done_is);
        good = subst AllGood (sym done_is) t.good;
        no_break = short.no_break;
        few = short.few;
      }

  -- why the run ends there
  why_of : (ending : Ending) (m : Moment) (a b : At D) (script : List ℕ) → script ≡ a.pending ++ a.left → a.pending ≡ [] → a.taken ≡ 0 → a.handed ≡ 0 → (t : Turned nor g (Some ending) m a b) → WhyHere b t.tail (Some ending) → WhyEnds script b.left (calls_of t.done) (calls_of (lines t.tail)) ending
  why_of Done m a b script e fresh none first t why = (ap (λ (l : List ℕ). calls_of (lines l)) why.0 ∙ none_left, subst AllGood (sym (lines_split script e t ∙ ap (λ (l : List ℕ). t.done ++ lines l) why.0 ∙ ap (λ (l : List (List ℕ)). t.done ++ l) no_lines ∙ append-nil t.done)) t.good, why.1, omega (arith, t.bytes.0, t.bytes.1, none, ap length fresh, ap length (e ∙ t.rest_is), length-append t.seg t.tail, ap length why.0))
  why_of (BadLine n) m a b script e fresh none first t why =
      let s = t.bytes in
      let count : length script ≡ length t.seg + (length s.taken + length b.left) = omega (arith, ap length (e ∙ t.rest_is), length-append t.seg t.tail, ap length s.tail_is, length-append s.taken b.left) in (
        ap calls_of why.lines_are ∙ bad_first why.bad why.others why.is_bad,
        record {
          bad_line = record { done = t.done; bad = why.bad; others = why.others; lines_are = lines_split script e t ∙ ap (λ (l : List (List ℕ)). t.done ++ l) why.lines_are; good = t.good; is_bad = why.is_bad; number_is = omega (arith, t.number, first) };
          whole = t.seg;
          tail = t.tail;
          script_is = e ∙ t.rest_is;
          ended = λ more. t.lines_are more (tt {0});
          seen = ⊎_elim
              (λ ended. inl (omega (arith, ended, s.count, s.few, none, ap length fresh)))
              (λ others. ⊎_elim
              (λ long. inr (inl (omega (arith, long, s.count, s.few, none, ap length fresh))))
              (λ last. inr (inr (omega (arith, count, ap length last, s.count, s.few, none, ap length fresh))))
              others)
              (s.seen why.bad why.others why.lines_are);
        },
      )
  why_of TooLong m a b script e fresh none first t why = record { whole = t.seg; rest = b.pending; byte = why.0; left = why.1; taken = taken_of script b.pending (why.0 ∷ why.1) e t (λ more. tt {0}) why.2; count = omega (arith, t.bytes, none, why.3, ap length fresh); calls_are = ap calls_of (done_lines t (λ more. tt {0})) }
  why_of SourceFault m a b script e fresh none first t why = record { whole = t.seg; rest = b.pending; taken = taken_of script b.pending b.left e t (λ more. tt {0}) why; calls_are = ap calls_of (done_lines t (λ more. tt {0})) }
  why_of _ m a b script e fresh none first t why = absurd why

  -- how a run of turns ends that began with its script's first byte
  pub run_ends : (ending : Ending) (m : Moment) (a b : At D) (script : List ℕ) → script ≡ a.pending ++ a.left → a.pending ≡ [] → a.taken ≡ 0 → a.handed ≡ 0 → Turned nor g (Some ending) m a b → RunEnds nor g a.device b.device a.memory b.memory m script b.left ending
  run_ends ending m a b script e fresh none first t = ⊎_elim
      (λ broken. inl (let same : Some ending ≡ Some BoardFault = broken.0 in cc, same_said g m (calls_of t.done ++ calls_of (lines t.tail)) (calls script) (calls_split script e t) (said_wider (calls_of (lines t.tail)) broken.1)))
      (λ here. inr (record { front = calls_of t.done; later = calls_of (lines t.tail); asks_are = calls_split script e t; reached = here.0; why = why_of ending m a b script e fresh none first t here.1 }))
      t.stops
