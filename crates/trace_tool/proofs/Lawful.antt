-- Of a run on a volume all is judged legal.
use Rattle.std.proofs.Common.{◌≡◌, ◌≢◌, ℕ, zero, suc, ◌+◌, ◌<◌, ◌≤◌, List, [], ◌∷◌, ◌++◌, length, refl, sym, ◌∙◌, ap, subst, arith, inl, inr, ⊎_elim, append-nil}
use mathlib.Core.Logic.{∥∥₁_elim}
use mathlib.Core.HLevel.{⊥_prop}
use Rattle.geometry.specs.declared.geometry.Geometry.{Geometry}
use Rattle.nor_core.specs.Device.{Stands}
use Rattle.nor_memory.specs.contracts.memory.MemBoardNorState.TheImpl.{ghosts as mem}
use Rattle.nor_memory.specs.RecordLaws.{only_last}
use Rattle.table_model.specs.Ask.{Ask}
use Rattle.table_model.specs.Window.{Moment}
use Rattle.call_script.specs.Lines.{calls}
use Rattle.image_model.specs.Kinds.{spoiled_blocks}
use Rattle.trace_laws.specs.Counting.{replies_in}
use Rattle.flash_trace.specs.declared.event.Event.{Event}
use Rattle.flash_trace.specs.declared.recorder.Recorder.{Recorder}
use Rattle.flash_trace.specs.declared.script.HeldScript.{HeldScript}
use Rattle.flash_trace.specs.declared.verdict.Verdict.{Verdict}
use Rattle.flash_trace.specs.declared.verdict.Verdict.TheVariants.{Legal}
use Rattle.flash_trace.specs.contracts.recorder.RecorderNorState.TheImpl.{ghosts as rec}
use Rattle.flash_trace.specs.contracts.script.HeldScriptSource.TheImpl.{ghosts as held}
use Rattle.flash_trace.specs.Events.{Standing, at_first, after_event, after_events, EachStands, Fits, AllFit}
use Rattle.flash_trace.specs.Good.{IsGood, first_moment}
use Rattle.flash_trace.specs.Recorded.{Recorded, IsFresh, standing}
use Rattle.flash_trace.specs.Verdicts.{IsTraceVerdict}
use Rattle.flash_trace.proofs.Judged.{legal_all}
use Rattle.flash_trace.proofs.Pictures.{after_size}
use Rattle.flash_trace.proofs.Recording.{each_map}
use Rattle.flash_trace.proofs.Said.{GoesOn, each_is_front, each_both}
use Rattle.tool_parts.specs.declared.buffers.Lengths.{Lengths}
use Rattle.script_run.specs.Running.{DoesRun, Closes}
use Rattle.trace_tool.specs.Rehearsed.{slots_of}
use Rattle.trace_tool.proofs.Boundaries.{good_boundary}
use Rattle.trace_tool.proofs.Verdicts.{legal_by}

-- what a cut may leave, on a device in memory
abbrev Left : Recorder → Standing → Type 0
Left is s = mem.left_since is.board 0 s.image (length s.said)

-- what was recorded, where the unit and the first image are known by other names
record IsRecord (is : Recorder) (unit : ℕ) (first : List ℕ) : Type 0 where
  stands : after_events unit is.events.items (at_first first) ≡ standing is.board
  each : EachStands (Left is) unit is.events.items (at_first first)
  fit : AllFit unit is.events.items (at_first first)

record_as : (is : Recorder) (unit : ℕ) (first : List ℕ) → mem.unit is.board ≡ unit → mem.lent is.board ≡ first → Recorded is.board is.events.items → IsRecord is unit first
record_as is unit first unit_is first_is r =
    let here : IsRecord is (mem.unit is.board) (mem.lent is.board) = record { stands = r.stands; each = r.each; fit = r.fit } in
    subst (λ (k : ℕ). IsRecord is k first) unit_is (subst (λ (l : List ℕ). IsRecord is (mem.unit is.board) l) first_is here)

-- a device in memory stands as its calls left it
only_now : (r : Recorder) (image : List ℕ) (count : ℕ) → rec.left_since r (rec.moment r) image count → Stands rec r image count
only_now r image count left = record {
  all_bytes = λ tells. (only_last r.board.unit r.board.calls.items r.board.first.items 0 image count left).0 ∙ r.board.stands;
  all_said = (only_last r.board.unit r.board.calls.items r.board.first.items 0 image count left).1 ∙ r.board.spoken;
}

module _ (g : Geometry) (lent : Lengths) (was is : Recorder) (begun ended : HeldScript) (status : ℕ)
    (fresh : IsFresh was.board) (moment : rec.moment was ≡ 0) (unit : rec.unit was ≡ g.phys) (run : DoesRun rec held g lent was is begun ended status)
    (none_failed : is.faults ≡ 0) (no_board : status ≢ 7) (no_script : status ≢ 8) (short : length (held.left begun) ≤ 16384) where
  abbrev first : List ℕ
  first = rec.bytes was

  abbrev script : List ℕ
  script = held.left begun

  abbrev slots : ℕ
  slots = slots_of lent

  abbrev begins : Moment
  begins = first_moment g slots first

  abbrev counts : List ℕ → ℕ
  counts said = replies_in g begins (calls script) said

  unit_is : mem.unit is.board ≡ g.phys
  unit_is = run.behind.cuts.unit ∙ unit

  first_is : mem.lent is.board ≡ first
  first_is = run.behind.cuts.lent ∙ sym fresh.bytes

  closes : Closes rec g was is begins script (held.left ended) status
  closes = ⊎_elim (λ broke. absurd (no_board broke.status_is)) (λ came. came) (run.outcome (tt {0}) (tt {0}))

  module _ (few : spoiled_blocks g first ≤ 1) where
    good : (s : Standing) (rest : List ℕ) → Left is s → rec.said is ≡ s.said ++ rest → IsGood g slots first script s
    good s rest left end =
        good_boundary rec g slots was is script (held.left ended) status fresh.said few (tt {0}) no_board no_script (omega (arith, short)) (only_now was) closes s rest (subst (λ (t : ℕ). rec.left_since is t s.image (length s.said)) (sym moment) left) end

    legal_of : (v : Verdict) → IsTraceVerdict g slots first script 0 is.events.items (at_first first) v → IsRecord is g.phys first → v ≡ Legal (length is.events.items) (counts (rec.said is))
    legal_of v verdict r =
        let es = is.events.items in
        let s = at_first first in
        let said : rec.said is ≡ (after_events g.phys es s).said = ap (λ (b : Standing). b.said) (sym r.stands) in
        let both = each_both (Left is) (λ (b : Standing). GoesOn b.said (after_events g.phys es s).said) g.phys es s r.each (each_is_front g.phys es s) in
        let each : EachStands (λ b. (IsGood g slots first script b → ⊥) → ⊥) g.phys es s =
        each_map (λ (b : Standing). Left is b × GoesOn b.said (after_events g.phys es s).said) (λ (b : Standing). (IsGood g slots first script b → ⊥) → ⊥) g.phys es s (λ b here none. none (good b here.1.more here.0 (said ∙ here.1.is))) both in
        let keeps : (e : Event) (b : Standing) → length b.image ≡ length first → Fits g.phys e b → length (after_event g.phys e b).image ≡ length first = λ e b size fits. after_size g.phys e b.image fits.0 ∙ size in
        let is_legal = legal_all (IsGood g slots first script) counts (length first) g.phys 0 es s v keeps refl each r.fit verdict in
        let none : 0 + length es ≡ length es = omega arith in
        is_legal ∙ ap (λ (n : ℕ). Legal n (counts (after_events g.phys es s).said)) none ∙ ap (λ (l : List ℕ). Legal (length es) (counts l)) (sym said)

    -- the verdict, whatever it is told to be
    pub is_legal : (v : Verdict) → IsTraceVerdict g slots first script 0 is.events.items (at_first first) v → v ≡ Legal (length is.events.items) (replies_in g begins (calls script) (rec.said is))
    is_legal v verdict =
        legal_by v (length is.events.items) (counts (rec.said is)) (λ not.
        ∥∥₁_elim (is.recorded none_failed) ⊥_prop (λ r. not (legal_of v verdict (record_as is g.phys first unit_is first_is r))))
