-- What is judged of a run in memory, by how it ended.
use Rattle.std.proofs.Common.{◌≡◌, ◌≢◌, ℕ, suc, ◌+◌, ◌<◌, ◌≤◌, ◌⊎◌, List, [], ◌∷◌, ◌++◌, length, Option, Some, None, Bool, true, false, cond, refl, sym, ◌∙◌, ap, subst, arith, inl, inr, ⊎_elim, append-nil}
use Rattle.std.specs.Prelude.{nat_lt, min}
use Rattle.std.proofs.Math.Nat.{min_comm}
use Rattle.std.proofs.lemmas.Bool.{cases_Bool, cases_lt, lt-ltb}
use Rattle.geometry.specs.declared.geometry.Geometry.{Geometry}
use Rattle.table_model.specs.Ask.{Ask}
use Rattle.table_model.specs.Window.{Moment}
use Rattle.call_script.specs.Lines.{calls}
use Rattle.image_model.specs.Kinds.{spoiled_blocks}
use Rattle.image_laws.proofs.Uses.{spoiled-few}
use Rattle.run_model.specs.Runs.{RunCall, asks_of, replies}
use Rattle.trace_laws.specs.Counting.{replies_in}
use Rattle.trace_laws.proofs.Counting.{counts_all}
use Rattle.flash_trace.specs.declared.recorder.Recorder.{Recorder}
use Rattle.flash_trace.specs.declared.verdict.Verdict.{Verdict}
use Rattle.flash_trace.specs.declared.verdict.Verdict.TheVariants.{Legal, BadCut}
use Rattle.nor_memory.specs.contracts.memory.MemBoardNorState.TheImpl.{ghosts as mem}
use Rattle.flash_trace.specs.declared.event.Event.{Event}
use Rattle.flash_trace.specs.contracts.recorder.RecorderNorState.TheImpl.{ghosts as rec}
use Rattle.flash_trace.specs.contracts.script.HeldScriptSource.TheImpl.{ghosts as held}
use Rattle.flash_trace.specs.Events.{Standing, at_first}
use Rattle.flash_trace.specs.Good.{IsGood, IsLarge, first_moment}
use Rattle.flash_trace.specs.Verdicts.{IsTraceVerdict}
use Rattle.tool_parts.specs.declared.buffers.Lengths.{Lengths}
use Rattle.tool_parts.specs.declared.ending.Ending.{Ending}
use Rattle.tool_parts.specs.declared.ending.Ending.TheVariants.{NotAFs}
use Rattle.tool_parts.specs.Closing.{status_of}
use Rattle.tool_parts.specs.Refusals.{check_refusal, begin_refusal}
use Rattle.script_run.specs.Running.{BeginsAs, RanWhole}
use Rattle.trace_tool.specs.declared.ending.TraceEnding.{TraceEnding}
use Rattle.trace_tool.specs.Endings.{ending_status, ending_of}
use Rattle.trace_tool.specs.Copies.{volume_size}
use Rattle.trace_tool.specs.Rehearsed.{Rehearses, IsJudged, slots_of}
use Rattle.trace_tool.specs.Traces.{IsTraced}
use Rattle.trace_tool.proofs.Lawful.{is_legal}
use Rattle.trace_tool.proofs.Verdicts.{bad_first}

-- an image with two blocks without magic ends a run with status 3
refused_so : (g : Geometry) (was now : List ℕ) → 1 < spoiled_blocks g was → begin_refusal g was now ≡ Some (NotAFs (spoiled_blocks g was))
unfolding check_refusal
refused_so g was now more = rw (lt-ltb 1 (spoiled_blocks g was) more) refl

three_by : (o : Option Ending) (n status : ℕ) → o ≡ Some (NotAFs n) → BeginsAs o status → status ≡ 3
three_by (Some ending) n status is begins = let same : ending ≡ NotAFs n = cc in begins ∙ ap status_of same
three_by None n status is begins = absurd (cc)

module _ (g : Geometry) (lent : Lengths) (image script : List ℕ) (is : Recorder) (status : ℕ) (r : Rehearses g lent image script is status) where
  begins_so : BeginsAs (begin_refusal g (rec.bytes r.was) (rec.bytes is)) status
  begins_so = r.run.begins (tt {0}) r.no_board

  spoiled_is : spoiled_blocks g (rec.bytes r.was) ≡ spoiled_blocks g image
  spoiled_is = ap (spoiled_blocks g) r.image_is

  -- where such an image was run on
  pub three : 1 < spoiled_blocks g image → status ≡ 3
  three more = three_by (begin_refusal g (rec.bytes r.was) (rec.bytes is)) (spoiled_blocks g (rec.bytes r.was)) status (refused_so g (rec.bytes r.was) (rec.bytes is) (omega (arith, more, spoiled_is))) begins_so

  few_done : status ≡ 0 → spoiled_blocks g image ≤ 1
  few_done done = ⊎_elim
      (λ (more : 1 < spoiled_blocks g image). absurd (omega (arith, three more, done)))
      (λ (few : spoiled_blocks g image ≤ 1). few)
      (cases_lt 1 (spoiled_blocks g image))

  module _ (short : length script ≤ 16384) where
    -- the verdict, by the image and script of the run
    abbrev Legally : (first text : List ℕ) (v : Verdict) → Type 0
    Legally first text v = spoiled_blocks g first ≤ 1 → IsTraceVerdict g (slots_of lent) first text 0 is.events.items (at_first first) v
        → v ≡ Legal (length is.events.items) (replies_in g (first_moment g (slots_of lent) first) (calls text) (rec.said is))

    legally : (v : Verdict) → Legally image script v
    legally v =
        let few_bytes : length (held.left r.begun) ≤ 16384 = omega (arith, short, ap length r.script_is) in
        let here : Legally (rec.bytes r.was) (held.left r.begun) v = λ few verdict.
        is_legal g lent r.was is r.begun r.ended status r.fresh r.moment r.unit r.run r.none_failed r.no_board r.no_script few_bytes few v verdict in
        subst (λ (l : List ℕ). Legally l script v) r.image_is (subst (λ (l : List ℕ). Legally (rec.bytes r.was) l v) r.script_is here)

length-asks : (done : List RunCall) → length (asks_of done) ≡ length done
length-asks [] = refl
length-asks (x ∷ done) = ap suc (length-asks done)

module _ (g : Geometry) (lent : Lengths) (image script : List ℕ) (is : Recorder) (status : ℕ) (r : Rehearses g lent image script is status) where
  -- all replies of a run that ended with status 0 were said
  all_replies : status ≡ 0 → replies_in g (first_moment g (slots_of lent) image) (calls script) (rec.said is) ≡ length (calls script)
  all_replies done =
      subst (λ (l : List ℕ). replies_in g (first_moment g (slots_of lent) l) (calls script) (rec.said is) ≡ length (calls script)) r.image_is
      (subst (λ (l : List ℕ). replies_in g (first_moment g (slots_of lent) (rec.bytes r.was)) (calls l) (rec.said is) ≡ length (calls l)) r.script_is here)
    where
      ran : RanWhole rec g r.was is (first_moment g (slots_of lent) (rec.bytes r.was)) (held.left r.begun) (held.left r.ended)
      ran = r.run.whole (tt {0}) (tt {0}) done

      said : rec.said is ≡ replies g (first_moment g (slots_of lent) (rec.bytes r.was)) ran.done ++ []
      said = ran.said ∙ ap (λ (l : List ℕ). l ++ replies g (first_moment g (slots_of lent) (rec.bytes r.was)) ran.done) r.fresh.said ∙ sym (append-nil (replies g (first_moment g (slots_of lent) (rec.bytes r.was)) ran.done))

      here : replies_in g (first_moment g (slots_of lent) (rec.bytes r.was)) (calls (held.left r.begun)) (rec.said is) ≡ length (calls (held.left r.begun))
      here =
          ap (λ (l : List ℕ). replies_in g (first_moment g (slots_of lent) (rec.bytes r.was)) (calls (held.left r.begun)) l) said
          ∙ ap (λ (l : List Ask). replies_in g (first_moment g (slots_of lent) (rec.bytes r.was)) l (replies g (first_moment g (slots_of lent) (rec.bytes r.was)) ran.done ++ [])) ran.asks_are
          ∙ counts_all g (first_moment g (slots_of lent) (rec.bytes r.was)) ran.done [] ran.fair
          ∙ sym (ap length ran.asks_are ∙ length-asks ran.done)

  -- what is judged of such a run
  pub judged : (v : Verdict) → length script ≤ 16384 → IsTraceVerdict g (slots_of lent) image script 0 is.events.items (at_first image) v → IsJudged g lent image script is status v
  judged v short verdict = record {
    run = r;
    verdict = verdict;
    legal = λ few. legally g lent image script is status r short v few verdict;
    whole = λ done. legally g lent image script is status r short v (few_done g lent image script is status r done) verdict ∙ ap (Legal (length is.events.items)) (all_replies done);
    no_volume = λ more. bad_first (IsGood g (slots_of lent) image script) (replies_in g (first_moment g (slots_of lent) image) (calls script)) (length image) g.phys 0 is.events.items (at_first image) v
        (λ good. omega (arith, more, spoiled-few g image good.sound.magics)) verdict;
  }

-- how a trace ends by that: it is legal on a volume; else there is none, and its run ended with status 3
pub record EndsLegal (g : Geometry) (image : List ℕ) (ending : TraceEnding) (status : ℕ) : Type 0 where
  pub legal : spoiled_blocks g image ≤ 1 → ending_status ending ≡ 0
  pub either : (ending_status ending ≡ 0) ⊎ ((ending_status ending ≡ 19) × (status ≡ 3))

pub ends_legal : (g : Geometry) (lent : Lengths) (image script : List ℕ) (is : Recorder) (status : ℕ) (v : Verdict) (ending : TraceEnding) → ending ≡ ending_of v → IsJudged g lent image script is status v → EndsLegal g image ending status
ends_legal g lent image script is status v ending ending_is j = record {
  legal = λ few. ap ending_status ending_is ∙ ap (λ (x : Verdict). ending_status (ending_of x)) (j.legal few);
  either = ⊎_elim
      (λ (more : 1 < spoiled_blocks g image). inr (ap ending_status ending_is ∙ ap (λ (x : Verdict). ending_status (ending_of x)) (j.no_volume more), three g lent image script is status j.run more))
      (λ (few : spoiled_blocks g image ≤ 1). inl (ap ending_status ending_is ∙ ap (λ (x : Verdict). ending_status (ending_of x)) (j.legal few)))
      (cases_lt 1 (spoiled_blocks g image));
}

-- a trace ends by the verdict on what was recorded, whatever names the image, the script, the events and the descriptors have there
pub traced : (g : Geometry) (lent : Lengths) (image script : List ℕ) (is : Recorder) (status : ℕ) (v : Verdict) (ending : TraceEnding) (ran first text : List ℕ) (events : List Event) (slots : ℕ)
    → Rehearses g lent image ran is status → ran ≡ script → length image ≡ volume_size g → volume_size g ≤ 131072 → length script ≤ 16384
    → ((IsLarge first text → ⊥) → IsTraceVerdict g slots first text 0 events (at_first first) v) → first ≡ mem.lent is.board → text ≡ script → events ≡ is.events.items → slots ≡ min lent.slots 65535
    → ending ≡ ending_of v → IsTraced g lent image script ending status
traced g lent image script is status v ending ran first text events slots rehearsed ran_is size small short verdict first_is text_is events_are slots_are ending_is =
    let r : Rehearses g lent image script is status = subst (λ (l : List ℕ). Rehearses g lent image l is status) ran_is rehearsed in
    let same : first ≡ image = first_is ∙ (r.run.behind.cuts.lent ∙ (sym r.fresh.bytes ∙ r.image_is)) in
    let alike : slots ≡ slots_of lent = slots_are ∙ min_comm lent.slots 65535 in
    let few : IsLarge first text → ⊥ = λ large. ⊎_elim
    (λ (big : 131072 < length first). omega (arith, big, ap length same, size, small))
    (λ (long : 16384 < length text). omega (arith, long, ap length text_is, short))
    large in
    let by_image : IsTraceVerdict g slots image text 0 events (at_first image) v = subst (λ (l : List ℕ). IsTraceVerdict g slots l text 0 events (at_first l) v) same (verdict few) in
    let by_text : IsTraceVerdict g slots image script 0 events (at_first image) v = subst (λ (l : List ℕ). IsTraceVerdict g slots image l 0 events (at_first image) v) text_is by_image in
    let by_events : IsTraceVerdict g slots image script 0 is.events.items (at_first image) v = subst (λ (l : List Event). IsTraceVerdict g slots image script 0 l (at_first image) v) events_are by_text in
    let by_slots : IsTraceVerdict g (slots_of lent) image script 0 is.events.items (at_first image) v = subst (λ (k : ℕ). IsTraceVerdict g k image script 0 is.events.items (at_first image) v) alike by_events in
    record { is = is; verdict = v; judged = judged g lent image script is status r v short by_slots; ending_is = ending_is }
