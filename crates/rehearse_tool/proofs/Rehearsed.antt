-- What a rehearsal leaves that said what it came to.
use Rattle.std.proofs.Common.{◌≡◌, ◌≢◌, ◌⊎◌, ℕ, List, ◌++◌, ap, refl, subst, sym, ◌∙◌, arith, inl, inr, ⊎_elim, Bool, Some, Result, Ok, Err}
use Rattle.std.specs.Prelude.{min}
use Rattle.geometry.specs.declared.geometry.Geometry.{Geometry}
use Rattle.nor_core.specs.declared.state.NorState.{Ghosts as NorOf}
use Rattle.nor_core.specs.declared.source.Source.{Ghosts as SourceOf}
use Rattle.nor_core.specs.Count.{Rose}
use Rattle.nor_core.specs.Device.{OnlyReads}
use Rattle.table_model.specs.Table.{State}
use Rattle.call_script.specs.Lines.{lines}
use Rattle.promise_model.specs.Laws.{IsGood, places_of}
use Rattle.promise_model.specs.Verdicts.{Told, Tells, IsFaulty, MayBeTight, AllKept, NotKept, promise_count}
use Rattle.promise_model.proofs.Telling.{kept_is_good, broken_is_step}
use Rattle.promise_runs.specs.Runs.{volume_of, RunKeeps}
use Rattle.promise_runs.proofs.Runs.{runs_keep}
use Rattle.image_tool.proofs.Speaking.{says_one, front_one, says_after, front_after}
use Rattle.tool_parts.specs.declared.buffers.Lengths.{Lengths}
use Rattle.tool_parts.specs.declared.ending.Ending.{Ending}
use Rattle.tool_parts.specs.declared.ending.Ending.TheVariants.{NotAFs, Mixed, BoardFault, SourceFault}
use Rattle.tool_parts.specs.Closing.{status_of}
use Rattle.tool_parts.specs.Endings.{EndsWith, ClosesWith}
use Rattle.tool_parts.specs.Later.{IsLaterStatus}
use Rattle.tool_parts.specs.Refusals.{check_refusal}
use Rattle.tool_parts.proofs.Refusals.{refusal_is}
use Rattle.image_model.specs.Kinds.{spoiled_blocks}
use Rattle.image_model.specs.Shared.{shared_blocks}
use Rattle.rehearse_tool.specs.declared.input.Stop.{Stop}
use Rattle.rehearse_tool.specs.declared.input.Stop.TheVariants.{Ends, NoMemory}
use Rattle.rehearse_tool.specs.declared.answer.Answer.{Answer}
use Rattle.rehearse_tool.specs.Outcomes.{IsStop, IsVerdictOn, IsStopOn, IsOutcomeStatus, ComesTo, stop_status, outcome_text, outcome_status}
use Rattle.rehearse_tool.specs.Rehearsing.{EachRunKeeps, IsKept, HasBroken, DoesRehearse}
use Rattle.rehearse_tool.specs.Texts.{verdict_status, rehearsal_text}
use Rattle.rehearse_tool.proofs.Coming.{volume_with, later_among}

-- ---- the status

-- where there is no verdict the status is neither of these
refused_status : (g : Geometry) (image : List ℕ) (ending : Ending) → check_refusal g image ≡ Some ending → (status_of ending ≡ 3) ⊎ (status_of ending ≡ 4)
refused_status g image ending why = ⊎_elim
    (λ (e : ending ≡ NotAFs (spoiled_blocks g image)). inl (ap status_of e))
    (λ (e : ending ≡ Mixed (shared_blocks g image)). inr (ap status_of e))
    (refusal_is g image ending why)

stop_few : (g : Geometry) (image script : List ℕ) (stop : Stop) → IsStop g image script stop → (stop_status stop ≢ 0) × (stop_status stop ≢ 24)
stop_few g image script NoMemory why = (λ e. omega (arith, e), λ e. omega (arith, e))
stop_few g image script (Ends ending) why = ⊎_elim
    (λ (r : check_refusal g image ≡ Some ending). ⊎_elim (λ (s : status_of ending ≡ 3). (λ e. omega (arith, s, e), λ e. omega (arith, s, e))) (λ (s : status_of ending ≡ 4). (λ e. omega (arith, s, e), λ e. omega (arith, s, e))) (refused_status g image ending r))
    (λ more. ⊎_elim
    (λ (b : ending ≡ BoardFault). let s : status_of ending ≡ 7 = ap status_of b in (λ e. omega (arith, s, e), λ e. omega (arith, s, e)))
    (λ later. ⊎_elim
    (λ long. let s : status_of ending ≡ 11 = ap status_of long.0 in (λ e. omega (arith, s, e), λ e. omega (arith, s, e)))
    (λ (f : ending ≡ SourceFault). let s : status_of ending ≡ 8 = ap status_of f in (λ e. omega (arith, s, e), λ e. omega (arith, s, e)))
    later.1)
    more)
    why

-- the status that is wanted, where another than 7 came
wanted_is : {D : Type 0} (nor : NorOf D) (old new : D) (wanted status n : ℕ) → EndsWith nor old new wanted status → status ≡ n → n ≢ 7 → wanted ≡ n
wanted_is nor old new wanted status n ends is not = ⊎_elim
    (λ (e : status ≡ wanted). sym e ∙ is)
    (λ (r : (status ≡ 7) × Rose (nor.faults old) (nor.faults new)). absurd (not (sym is ∙ r.0)))
    ends

module _ (g : Geometry) (s : State) (script : List ℕ) where
  -- a verdict of status 0
  kept_told : (tables : Bool) (told : Told) (text : List ℕ) → Tells g s script told → text ≡ rehearsal_text tables told (places_of g s script) → verdict_status told ≡ 0 → IsKept g tables s script text
  kept_told tables (IsFaulty f) text tells said is = absurd (omega (arith, is))
  kept_told tables (MayBeTight line) text tells said is = absurd (omega (arith, is))
  kept_told tables (AllKept promises count) text tells said is = record {
    good = kept_is_good g s script promises count tells;
    said = said ∙ ap (λ (n : ℕ). rehearsal_text tables (AllKept n count) (places_of g s script)) tells.2 ∙ ap (λ (n : ℕ). rehearsal_text tables (AllKept (promise_count (lines script)) n) (places_of g s script)) tells.3;
  }
  kept_told tables (NotKept b) text tells said is = absurd (omega (arith, is))

  -- and one of status 24
  broken_told : (tables : Bool) (told : Told) (text : List ℕ) → Tells g s script told → text ≡ rehearsal_text tables told (places_of g s script) → verdict_status told ≡ 24 → HasBroken g tables s script text
  broken_told tables (IsFaulty f) text tells said is = absurd (omega (arith, is))
  broken_told tables (MayBeTight line) text tells said is = absurd (omega (arith, is))
  broken_told tables (AllKept promises count) text tells said is = absurd (omega (arith, is))
  broken_told tables (NotKept b) text tells said is = record { broken = b; is = broken_is_step g s script b tells; first = tells.1; said = said }

  why_of : (tables : Bool) (image : List ℕ) (outcome : Result Answer Stop) → ComesTo g tables s image script outcome → IsVerdictOn g tables s image script (outcome_text outcome) (outcome_status outcome) ⊎ IsStopOn g image script (outcome_text outcome) (outcome_status outcome)
  why_of tables image (Ok answer) comes = inl comes
  why_of tables image (Err stop) comes = inr (record { stop = stop; why = comes; text_is = refl; status_is = refl })

  kept_of : (tables : Bool) (image : List ℕ) (outcome : Result Answer Stop) → ComesTo g tables s image script outcome → outcome_status outcome ≡ 0 → IsKept g tables s script (outcome_text outcome)
  kept_of tables image (Ok answer) comes is = kept_told tables comes.judged.told answer.text.items comes.judged.tells comes.judged.text_is (sym comes.judged.status_is ∙ is)
  kept_of tables image (Err stop) comes is = absurd ((stop_few g image script stop comes).0 is)

  broken_of : (tables : Bool) (image : List ℕ) (outcome : Result Answer Stop) → ComesTo g tables s image script outcome → outcome_status outcome ≡ 24 → HasBroken g tables s script (outcome_text outcome)
  broken_of tables image (Ok answer) comes is = broken_told tables comes.judged.told answer.text.items comes.judged.tells comes.judged.text_is (sym comes.judged.status_is ∙ is)
  broken_of tables image (Err stop) comes is = absurd ((stop_few g image script stop comes).1 is)

-- ---- the runs

-- as many descriptors make the same volume of an image
same_volume : (g : Geometry) (lent memory : Lengths) (image was : List ℕ) → memory.slots ≡ lent.slots → was ≡ image → volume_of g memory was ≡ volume_of g lent image
same_volume g lent memory image was slots same = ap (volume_of g memory) same ∙ ap (λ (n : ℕ). volume_with g image (min 65535 n)) slots

each_run_keeps : {D X : Type 0} (nor : NorOf D) (source : SourceOf X) (g : Geometry) (lent : Lengths) (image script : List ℕ) → IsGood g (volume_of g lent image) script → EachRunKeeps nor source g lent image script
each_run_keeps nor source g lent image script good memory from to given rest status slots bytes left run told tells =
    subst (λ (s : State). IsGood g s script → RunKeeps nor g s script from to) (same_volume g lent memory image (nor.bytes from) slots bytes)
    (subst (λ (text : List ℕ). IsGood g (volume_of g memory (nor.bytes from)) text → RunKeeps nor g (volume_of g memory (nor.bytes from)) text from to) left
    (runs_keep nor source g memory from to given rest status run told tells))
    good

-- ---- the board

module _ {D X : Type 0} (nor : NorOf D) (source : SourceOf X) (g : Geometry) (lent : Lengths) (tables : Bool) (old mid new : D) (script after : X) (outcome : Result Answer Stop) (status : ℕ)
    (reads : OnlyReads nor old mid) (closes : ClosesWith nor mid new (outcome_text outcome) (outcome_status outcome) status) where
  -- the status that is wanted, or a fault
  ends_so : EndsWith nor old new (outcome_status outcome) status
  ends_so = ⊎_elim (λ (e : status ≡ outcome_status outcome). inl e) (λ (r : (status ≡ 7) × Rose (nor.faults mid) (nor.faults new)). inr (r.0, omega (arith, r.1, reads.faults))) closes.ends

  kept_so : (source.tells script → nor.tells old → ComesTo g tables (volume_of g lent (nor.bytes old)) (nor.bytes old) (source.left script) outcome) → source.tells script → nor.tells old → status ≡ 0
      → IsKept g tables (volume_of g lent (nor.bytes old)) (source.left script) (outcome_text outcome)
  kept_so comes tells told is = kept_of g (volume_of g lent (nor.bytes old)) (source.left script) tables (nor.bytes old) outcome (comes tells told) (wanted_is nor old new (outcome_status outcome) status 0 ends_so is (λ e. omega (arith, e)))

  pub does_rehearse : IsOutcomeStatus (outcome_status outcome) → (source.tells script → nor.tells old → ComesTo g tables (volume_of g lent (nor.bytes old)) (nor.bytes old) (source.left script) outcome) → DoesRehearse nor source g lent tables old new script after status
  does_rehearse among comes = record {
    text = outcome_text outcome;
    wanted = outcome_status outcome;
    says = says_after reads (says_one closes.says closes.cuts);
    ends = ends_so;
    told = λ told. record {
      ends = ends_so;
      whole = λ not. closes.whole (reads.told told) not ∙ ap (λ (l : List ℕ). l ++ outcome_text outcome) reads.said;
      front = front_after reads (front_one closes.says);
    };
    among = among;
    why = λ tells told. why_of g (volume_of g lent (nor.bytes old)) (source.left script) tables (nor.bytes old) outcome (comes tells told);
    kept = λ tells told is. kept_so comes tells told is;
    runs = λ tells told is. each_run_keeps nor source g lent (nor.bytes old) (source.left script) (kept_so comes tells told is).good;
    broken = λ tells told is. broken_of g (volume_of g lent (nor.bytes old)) (source.left script) tables (nor.bytes old) outcome (comes tells told) (wanted_is nor old new (outcome_status outcome) status 24 ends_so is (λ e. omega (arith, e)));
  }

  pub later_closed : IsOutcomeStatus (outcome_status outcome) → IsLaterStatus status
  later_closed among = ⊎_elim
      (λ (e : status ≡ outcome_status outcome). subst IsLaterStatus (sym e) (later_among (outcome_status outcome) among))
      (λ (r : (status ≡ 7) × Rose (nor.faults mid) (nor.faults new)). record { no_usage = λ e. omega (arith, e, r.0); no_geometry = λ e. omega (arith, e, r.0); no_short = λ e. omega (arith, e, r.0) })
      closes.ends

  pub rose_closed : status ≡ 7 → (outcome_status outcome ≡ 7 → Rose (nor.faults old) (nor.faults mid)) → Rose (nor.faults old) (nor.faults new)
  rose_closed is cause = ⊎_elim
      (λ (e : status ≡ outcome_status outcome). let r = cause (sym e ∙ is) in omega (arith, r, closes.cuts.faults))
      (λ (r : (status ≡ 7) × Rose (nor.faults mid) (nor.faults new)). omega (arith, r.1, reads.faults))
      closes.ends

  pub script_closed : status ≡ 8 → (outcome_status outcome ≡ 8 → Rose (source.faults script) (source.faults after)) → Rose (source.faults script) (source.faults after)
  script_closed is cause = ⊎_elim
      (λ (e : status ≡ outcome_status outcome). cause (sym e ∙ is))
      (λ (r : (status ≡ 7) × Rose (nor.faults mid) (nor.faults new)). absurd (omega (arith, is, r.0)))
      closes.ends
