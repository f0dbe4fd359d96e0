-- A whole run.
use Rattle.std.proofs.Common.{◌≡◌, ℕ, ◌≤◌, ◌⊎◌, List, [], Some, inl, inr, ⊎_elim, arith}
use Rattle.geometry.specs.declared.geometry.Geometry.{Geometry}
use Rattle.nor_core.specs.declared.state.NorState.{Ghosts as NorOf}
use Rattle.nor_core.specs.declared.source.Source.{Ghosts as SourceOf}
use Rattle.nor_core.specs.Count.{Rose}
use Rattle.flash_view.specs.Same.{StaysBehind}
use Rattle.image_model.specs.Tidy.{HasReserve}
use Rattle.tool_parts.specs.declared.buffers.Lengths.{Lengths}
use Rattle.tool_parts.specs.declared.ending.Ending.{Ending}
use Rattle.tool_parts.specs.declared.ending.Ending.TheVariants.{BoardFault}
use Rattle.tool_parts.specs.Closing.{status_of}
use Rattle.tool_parts.specs.Endings.{OnlyCloses}
use Rattle.tool_parts.specs.Mounting.{IsMendable}
use Rattle.tool_parts.specs.Reads.{ReadsOnce}
use Rattle.tool_parts.specs.Refusals.{check_refusal}
use Rattle.script_run.specs.Outcomes.{RunsTo, Refused, EndsByImages, IsOfScript}
use Rattle.script_run.specs.Running.{Outcome, first_of, DoesRun}
use Rattle.script_run.proofs.Concluding.{outcome_of}
use Rattle.script_run.proofs.Exact.{begins_as, complete_of, ran_whole}
use Rattle.tool_parts.proofs.Reading.{reads_said, behind_closed}
use Rattle.tool_parts.proofs.Refusals.{begun_reserve}
use Rattle.tool_parts.proofs.Speaking.{concludes, none_closed, mended_closed}

-- a script's end isn't told as too few free blocks
script_not_tight : (status : ℕ) → IsOfScript status → status ≡ 14 → ⊥
script_not_tight status of is = ⊎_elim (λ a. omega (arith, a, is)) (λ b. ⊎_elim (λ a. omega (arith, a, is)) (λ c. ⊎_elim (λ a. omega (arith, a, is)) (λ d. omega (arith, d, is)) c) b) of

-- an image that the check takes and that recovers isn't what ends a run
mended_of : (g : Geometry) (was now : List ℕ) (result : Ending) → IsMendable g was → EndsByImages g was now result → (result ≡ BoardFault) ⊎ (HasReserve g now × (status_of result ≡ 14 → ⊥))
mended_of g was now result may ends = ⊎_elim
    (λ fault. inl fault)
    (λ images. ⊎_elim
    (λ early. absurd (early.mends_not may))
    (λ script. inr (begun_reserve g was now script.0, script_not_tight (status_of result) script.1))
    images)
    ends

module _ {D X : Type 0} {nor : NorOf D} {source : SourceOf X} {g : Geometry} where
  pub run_does : {old mid new : D} {script after : X} (lent : Lengths) (result : Ending) (status : ℕ) →
      (source.tells script → nor.tells old → RunsTo nor g old mid (first_of g lent (nor.bytes old)) (source.left script) (source.left after) result) →
      (nor.tells old → (ending : Ending) → check_refusal g (nor.bytes old) ≡ Some ending → Refused nor g old mid ending result) →
      (nor.tells old → EndsByImages g (nor.bytes old) (nor.bytes mid) result) → StaysBehind nor g old mid →
      nor.faults old ≤ nor.faults mid → (result ≡ BoardFault → Rose (nor.faults old) (nor.faults mid)) →
      ReadsOnce nor g lent.cache old mid → OnlyCloses nor mid new result status → DoesRun nor source g lent old new script after status
  run_does {old} {mid} {new} {script} {after} lent result status ends refused begins behind faults cause reads closes =
      let m = first_of g lent (nor.bytes old) in
      let outcome : source.tells script → nor.tells old → Outcome nor g old new m (source.left script) (source.left after) status = λ read tells. outcome_of m (source.left script) (source.left after) result status faults (ends read tells) closes in
      record {
        outcome = outcome;
        whole = λ read tells zero_is. ran_whole zero_is (outcome read tells);
        begins = λ tells fine. begins_as g (nor.bytes old) result status fine (begins tells) closes;
        mends = λ tells may. mended_closed g result (mended_of g (nor.bytes old) (nor.bytes mid) result may (begins tells)) closes;
        behind = behind_closed behind closes;
        complete = λ read tells fine read_fine takes. complete_of fine read_fine takes (outcome read tells);
        refused = λ tells ending is.
            let r = refused tells ending is in
            (concludes [] ending result status r.tells faults cause r.speaks closes, none_closed r.kept closes);
        reads = reads_said lent.cache reads closes.says closes.cuts.faults;
      }
