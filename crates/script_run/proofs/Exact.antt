-- Which status a run answers, by its images and its script.
use Rattle.std.proofs.Common.{◌≡◌, ◌≢◌, ℕ, ◌<◌, ◌≤◌, List, [], ◌∷◌, ◌++◌, length, sym, ◌∙◌, ap, subst, arith, ⊎_elim, append-nil, None}
use Rattle.geometry.specs.declared.geometry.Geometry.{Geometry}
use Rattle.nor_core.specs.declared.state.NorState.{Ghosts as NorOf}
use Rattle.table_model.specs.Ask.{Ask}
use Rattle.table_model.specs.Window.{Moment}
use Rattle.call_script.specs.Lines.{Bad, lines, of_line, calls}
use Rattle.image_model.specs.Tables.{table_of}
use Rattle.run_model.specs.Runs.{RunCall, AreFair, asks_of, after_all, replies}
use Rattle.tool_parts.specs.declared.ending.Ending.{Ending}
use Rattle.tool_parts.specs.declared.ending.Ending.TheVariants.{Done, BadLine, SourceFault, TooLong}
use Rattle.tool_parts.specs.Closing.{status_of, closing_line_of}
use Rattle.tool_parts.specs.Refusals.{begin_refusal}
use Rattle.tool_parts.specs.Endings.{OnlyCloses}
use Rattle.script_run.specs.Turns.{AllGood}
use Rattle.script_run.specs.Outcomes.{HasBad, IsTooLong, WhyEnds, WhyRan, IsOfScript, EndsByImages}
use Rattle.script_run.specs.Running.{Closes, Outcome, RanWhole, BeginsAs, IsComplete}
use Rattle.tool_parts.proofs.Refusals.{not_both, begin_undone}
use Rattle.script_run.proofs.Limits.{not_too_long, seen_not_long}

good_has_no_bad : (done : List (List ℕ)) (bad : List ℕ) (others : List (List ℕ)) → AllGood (done ++ (bad ∷ others)) → of_line bad ≡ Bad → ⊥
unfolding AllGood
good_has_no_bad [] bad others h e = h.0 e
good_has_no_bad (l ∷ ls) bad others h e = good_has_no_bad ls bad others h.1 e

bad_not_good : (script : List ℕ) (n : ℕ) → HasBad script n → AllGood (lines script) → ⊥
bad_not_good script n bad good = good_has_no_bad bad.done bad.bad bad.others (subst AllGood bad.lines_are good) bad.is_bad

-- why it ended that did not end for its images
why_ends : (script left : List ℕ) (front : List RunCall) (later : List Ask) (g : Geometry) (first image : List ℕ) (ending : Ending) → begin_refusal g first image ≡ None → WhyRan g first image script left front later ending → WhyEnds script left (asks_of front) later ending
why_ends script left front later g first image ending takes why = ⊎_elim (λ early. absurd (not_both takes early.1.refusal)) (λ ran. ran.1) why

module _ (script left : List ℕ) (front later : List Ask) where
  whole_status : (ending : Ending) (status : ℕ) → WhyEnds script left front later ending → status ≡ status_of ending → length script ≤ 16777216 → status ≢ 8 → AllGood (lines script) → status ≡ 0
  whole_status Done status why is few read good = is
  whole_status (BadLine n) status why is few read good = absurd (bad_not_good script n why.1.bad_line good)
  whole_status TooLong status why is few read good = absurd (not_too_long script front few why)
  whole_status SourceFault status why is few read good = absurd (read is)
  whole_status _ status why is few read good = absurd why

  long_status : (ending : Ending) (status : ℕ) → WhyEnds script left front later ending → status ≡ status_of ending → 16777216 < length script → status ≢ 8 → AllGood (lines script) → status ≡ 11
  long_status Done status why is long read good = absurd (omega (arith, why.3, long))
  long_status (BadLine n) status why is long read good = absurd (bad_not_good script n why.1.bad_line good)
  long_status TooLong status why is long read good = is
  long_status SourceFault status why is long read good = absurd (read is)
  long_status _ status why is long read good = absurd why

  too_long_status : (ending : Ending) (status : ℕ) → WhyEnds script left front later ending → status ≡ status_of ending → status ≢ 8 → (asks : List Ask) → IsTooLong script asks → status ≡ 11
  too_long_status Done status why is read asks long = absurd (not_too_long script asks why.3 long)
  too_long_status (BadLine n) status why is read asks long = absurd (seen_not_long script n asks why.1 long)
  too_long_status TooLong status why is read asks long = is
  too_long_status SourceFault status why is read asks long = absurd (read is)
  too_long_status _ status why is read asks long = absurd why

  bad_status : (ending : Ending) (status : ℕ) → WhyEnds script left front later ending → status ≡ status_of ending → length script ≤ 16777216 → status ≢ 8 → (n : ℕ) → HasBad script n → status ≡ 5
  bad_status Done status why is few read n bad = absurd (bad_not_good script n bad why.1)
  bad_status (BadLine k) status why is few read n bad = is
  bad_status TooLong status why is few read n bad = absurd (not_too_long script front few why)
  bad_status SourceFault status why is few read n bad = absurd (read is)
  bad_status _ status why is few read n bad = absurd why

-- the status by the images
pub begins_as : {D : Type 0} {nor : NorOf D} (g : Geometry) (first : List ℕ) {mid new : D} (result : Ending) (status : ℕ) → (status ≢ 7) → EndsByImages g first (nor.bytes mid) result → OnlyCloses nor mid new result status → BeginsAs (begin_refusal g first (nor.bytes new)) status
begins_as {D} {nor} g first {mid} {new} result status fine ends closes =
    let is : status ≡ status_of result = ⊎_elim (λ told. told) (λ fault. absurd (fine fault.0)) closes.ends in
    subst (λ (l : List ℕ). BeginsAs (begin_refusal g first l) status) (sym closes.says.bytes) (⊎_elim
    (λ fault. absurd (fine (is ∙ ap status_of fault)))
    (λ images. ⊎_elim (λ early. rw early.refusal is) (λ script. rw script.0 (subst IsOfScript (sym is) script.1)) images)
    ends)

module _ {D : Type 0} {nor : NorOf D} {g : Geometry} where
  -- a run that didn't end in a fault has the status of its ending
  by_ending : {old new : D} {m : Moment} {script left : List ℕ} {status : ℕ} (Q : Type 0) → (status ≢ 7) → Outcome nor g old new m script left status → ((c : Closes nor g old new m script left status) → status ≡ status_of c.ending → Q) → Q
  by_ending Q fine outcome then = ⊎_elim (λ broken. absurd (fine broken.status_is)) (λ c. ⊎_elim (λ told. then c told) (λ fault. absurd (fine fault.0)) c.ends) outcome

  pub complete_of : {old new : D} {m : Moment} {script left : List ℕ} {status : ℕ} → (status ≢ 7) → (status ≢ 8) → begin_refusal g (nor.bytes old) (nor.bytes new) ≡ None → Outcome nor g old new m script left status → IsComplete script status
  complete_of {old} {new} {m} {script} {left} {status} fine read takes outcome = record {
    done = λ few good. by_ending (status ≡ 0) fine outcome (λ c is. whole_status script left (asks_of c.front) c.later c.ending status (why_ends script left c.front c.later g (nor.bytes old) (nor.bytes new) c.ending takes c.why) is few read good);
    long = λ long good. by_ending (status ≡ 11) fine outcome (λ c is. long_status script left (asks_of c.front) c.later c.ending status (why_ends script left c.front c.later g (nor.bytes old) (nor.bytes new) c.ending takes c.why) is long read good);
    too_long = λ asks long. by_ending (status ≡ 11) fine outcome (λ c is. too_long_status script left (asks_of c.front) c.later c.ending status (why_ends script left c.front c.later g (nor.bytes old) (nor.bytes new) c.ending takes c.why) is read asks long);
    bad_line = λ few n bad. by_ending (status ≡ 5) fine outcome (λ c is. bad_status script left (asks_of c.front) c.later c.ending status (why_ends script left c.front c.later g (nor.bytes old) (nor.bytes new) c.ending takes c.why) is few read n bad);
  }

  whole_of : {old new : D} (ending : Ending) (m : Moment) (script left : List ℕ) (front : List RunCall) (later : List Ask) → status_of ending ≡ 0 → calls script ≡ asks_of front ++ later → AreFair g m front → WhyEnds script left (asks_of front) later ending → nor.said new ≡ nor.said old ++ (replies g m front ++ closing_line_of ending) → table_of g (nor.bytes new) ≡ (after_all g m front).state.table → RanWhole nor g old new m script left
  whole_of {old} {new} Done m script left front later is asks_are fair why said table =
      record {
        good = why.1;
        none_left = why.2;
        few = why.3;
        done = front;
        asks_are = asks_are ∙ ap (λ (l : List Ask). asks_of front ++ l) why.0 ∙ append-nil (asks_of front);
        fair = fair;
        said = said ∙ ap (λ (l : List ℕ). nor.said old ++ l) (append-nil (replies g m front));
        table = table;
      }
  whole_of (BadLine n) m script left front later is asks_are fair why said table = absurd (omega (arith, is))
  whole_of SourceFault m script left front later is asks_are fair why said table = absurd (omega (arith, is))
  whole_of TooLong m script left front later is asks_are fair why said table = absurd (omega (arith, is))
  whole_of _ m script left front later is asks_are fair why said table = absurd why

  -- with status 0 the whole script was run
  pub ran_whole : {old new : D} {m : Moment} {script left : List ℕ} {status : ℕ} → status ≡ 0 → Outcome nor g old new m script left status → RanWhole nor g old new m script left
  ran_whole {old} {new} {m} {script} {left} {status} zero_is outcome = by_ending (RanWhole nor g old new m script left) (λ is. omega (arith, is, zero_is)) outcome (λ c is. ⊎_elim
      (λ early. absurd (begin_undone g (nor.bytes old) (nor.bytes new) c.ending early.1.refusal (sym is ∙ zero_is)))
      (λ ran. whole_of c.ending m script left c.front c.later (sym is ∙ zero_is) c.asks_are c.fair ran.1 (c.whole (λ fault. omega (arith, fault, zero_is))) c.table)
      c.why)
