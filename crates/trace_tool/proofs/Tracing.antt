-- What a trace leaves and answers.
use Rattle.std.proofs.Common.{◌≡◌, ◌≢◌, ℕ, ◌<◌, ◌≤◌, ◌⊎◌, List, [], ◌++◌, length, Option, Some, None, refl, sym, ◌∙◌, ap, subst, arith, inl, inr, ⊎_elim, append-nil}
use Rattle.geometry.specs.declared.geometry.Geometry.{Geometry}
use Rattle.nor_core.specs.Count.{Rose}
use Rattle.nor_core.specs.Device.{OnlyReads}
use Rattle.nor_core.specs.declared.state.NorState.{Ghosts as NorOf}
use Rattle.nor_core.specs.declared.source.Source.{Ghosts as SourceOf}
use Rattle.image_model.specs.Kinds.{spoiled_blocks}
use Rattle.image_tool.proofs.Speaking.{says_one, says_after, front_one, front_after}
use Rattle.tool_parts.specs.declared.buffers.Lengths.{Lengths}
use Rattle.tool_parts.specs.Endings.{EndsWith, ClosesWith, SaysWhole}
use Rattle.trace_tool.specs.declared.ending.TraceEnding.{TraceEnding}
use Rattle.trace_tool.specs.declared.ending.TraceEnding.TheVariants.{Legal, NotLegal, TooLarge, NoMemory, BoardFault, ScriptFault}
use Rattle.trace_tool.specs.declared.tool.Traced.{Traced}
use Rattle.trace_tool.specs.Endings.{ending_status, ending_line}
use Rattle.trace_tool.specs.Copies.{volume_size, volume_on, StopsCopy}
use Rattle.trace_tool.specs.Traces.{EndsByRun, RunsCopies, WhyTraced, HasLimits, Traces}
use Rattle.trace_tool.proofs.Judged.{EndsLegal, ends_legal}

-- the ending of a run on copies: no memory, or by its verdict
by_run : (g : Geometry) (lent : Lengths) (image script : List ℕ) (ending : TraceEnding) (run : Option ℕ) → EndsByRun g lent image script ending run → (ending ≡ NoMemory) ⊎ ((status : ℕ) × (run ≡ Some status) × EndsLegal g image ending status)
by_run g lent image script ending None ends = inl ends
by_run g lent image script ending (Some status) ends = inr (status, refl, ends_legal g lent image script ends.is status ends.verdict ending ends.ending_is ends.judged)

module _ {D X : Type 0} (nor : NorOf D) (source : SourceOf X) (g : Geometry) (lent : Lengths) (old mid : D) (script after : X) (ending : TraceEnding) (run : Option ℕ) (why : WhyTraced nor source g lent old mid script after ending run) where
  -- only a board that failed gives status 7 ..
  board_rose : ending_status ending ≡ 7 → Rose (nor.faults old) (nor.faults mid)
  board_rose seven = ⊎_elim
      (λ none. ⊎_elim
      (λ large. absurd (omega (arith, seven, ap ending_status large.ending_is)))
      (λ stops. ⊎_elim
      (λ volume. ⊎_elim (λ want. absurd (omega (arith, seven, ap ending_status want))) (λ fault. fault.1) volume)
      (λ text. ⊎_elim (λ want. absurd (omega (arith, seven, ap ending_status want))) (λ other. ⊎_elim (λ fault. absurd (omega (arith, seven, ap ending_status fault.0))) (λ long. absurd (omega (arith, seven, ap ending_status long.0))) other) text)
      stops.1)
      none.1)
      (λ copies. ⊎_elim
      (λ want. absurd (omega (arith, seven, ap ending_status want)))
      (λ by. ⊎_elim (λ legal. absurd (omega (arith, seven, legal))) (λ wrong. absurd (omega (arith, seven, wrong.0))) by.2.either)
      (by_run g lent copies.image copies.text ending run copies.ends))
      why

  -- .. only a script that can't be read 8 ..
  script_rose : ending_status ending ≡ 8 → Rose (source.faults script) (source.faults after)
  script_rose eight = ⊎_elim
      (λ none. ⊎_elim
      (λ large. absurd (omega (arith, eight, ap ending_status large.ending_is)))
      (λ stops. ⊎_elim
      (λ volume. ⊎_elim (λ want. absurd (omega (arith, eight, ap ending_status want))) (λ fault. absurd (omega (arith, eight, ap ending_status fault.0))) volume)
      (λ text. ⊎_elim (λ want. absurd (omega (arith, eight, ap ending_status want))) (λ other. ⊎_elim (λ fault. fault.1) (λ long. absurd (omega (arith, eight, ap ending_status long.0))) other) text)
      stops.1)
      none.1)
      (λ copies. ⊎_elim
      (λ want. absurd (omega (arith, eight, ap ending_status want)))
      (λ by. ⊎_elim (λ legal. absurd (omega (arith, eight, legal))) (λ wrong. absurd (omega (arith, eight, wrong.0))) by.2.either)
      (by_run g lent copies.image copies.text ending run copies.ends))
      why

  -- .. and only a run that ended with 3 gives 19
  wrong_three : ending_status ending ≡ 19 → run ≡ Some 3
  wrong_three nineteen = ⊎_elim
      (λ none. ⊎_elim
      (λ large. absurd (omega (arith, nineteen, ap ending_status large.ending_is)))
      (λ stops. ⊎_elim
      (λ volume. ⊎_elim (λ want. absurd (omega (arith, nineteen, ap ending_status want))) (λ fault. absurd (omega (arith, nineteen, ap ending_status fault.0))) volume)
      (λ text. ⊎_elim (λ want. absurd (omega (arith, nineteen, ap ending_status want))) (λ other. ⊎_elim (λ fault. absurd (omega (arith, nineteen, ap ending_status fault.0))) (λ long. absurd (omega (arith, nineteen, ap ending_status long.0))) other) text)
      stops.1)
      none.1)
      (λ copies. ⊎_elim
      (λ want. absurd (omega (arith, nineteen, ap ending_status want)))
      (λ by. ⊎_elim (λ legal. absurd (omega (arith, nineteen, legal))) (λ wrong. by.1 ∙ ap Some wrong.1) by.2.either)
      (by_run g lent copies.image copies.text ending run copies.ends))
      why

  -- within the limits a volume's run is legal, or something failed
  within : HasLimits nor source g old script → spoiled_blocks g (volume_on nor g old) ≤ 1 → (ending_status ending ≡ 0) ⊎ ((ending_status ending ≡ 15) ⊎ ((ending_status ending ≡ 7) ⊎ (ending_status ending ≡ 8)))
  within limits few = ⊎_elim
      (λ none. ⊎_elim
      (λ large. absurd (omega (arith, large.large, limits.small)))
      (λ stops. ⊎_elim
      (λ volume. ⊎_elim (λ want. inr (inl (ap ending_status want))) (λ fault. inr (inr (inl (ap ending_status fault.0)))) volume)
      (λ text. ⊎_elim (λ want. inr (inl (ap ending_status want))) (λ other. ⊎_elim (λ fault. inr (inr (inr (ap ending_status fault.0)))) (λ long. absurd (let more = long.1 limits.script_tells in omega (arith, more, limits.short))) other) text)
      stops.1)
      none.1)
      (λ copies. ⊎_elim
      (λ want. inr (inl (ap ending_status want)))
      (λ by. inl (by.2.legal (omega (arith, few, ap (spoiled_blocks g) (copies.image_is.told limits.board_tells)))))
      (by_run g lent copies.image copies.text ending run copies.ends))
      why

  module _ (new : D) (status : ℕ) (reads : OnlyReads nor old mid) (closes : ClosesWith nor mid new (ending_line ending) (ending_status ending) status) where
    ends : EndsWith nor old new (ending_status ending) status
    ends = ⊎_elim (λ told. inl told) (λ fault. inr (fault.0, omega (arith, fault.1, reads.faults))) closes.ends

    later : WhyTraced nor source g lent old new script after ending run
    later = ⊎_elim
        (λ none. inl (
          none.0,
          ⊎_elim
              (λ large. inl (record { ending_is = large.ending_is; large = large.large; unread = closes.says.reads ∙ large.unread; untaken = large.untaken }))
              (λ stops. inr (
                stops.0,
                ⊎_elim
                    (λ volume. inl (⊎_elim (λ want. inl want) (λ fault. inr (fault.0, omega (arith, fault.1, closes.cuts.faults))) volume))
                    (λ text. inr text)
                    stops.1,
              ))
              none.1,
        ))
        (λ copies. inr copies)
        why

    -- a fault of the board is told where one was counted
    pub trace_faults : status ≡ 7 → Rose (nor.faults old) (nor.faults new)
    trace_faults seven = ⊎_elim
        (λ told. let rose = board_rose (sym told ∙ seven) in omega (arith, rose, closes.cuts.faults))
        (λ fault. omega (arith, fault.1, reads.faults))
        closes.ends

    -- so is one of the script
    pub trace_script : status ≡ 8 → Rose (source.faults script) (source.faults after)
    trace_script eight = ⊎_elim (λ told. script_rose (sym told ∙ eight)) (λ fault. absurd (omega (arith, eight, fault.0))) closes.ends

    pub traces_to : Traces nor source g lent old new script after (record { status = status; run = run })
    traces_to = record {
      ending = ending;
      why = later;
      ends = ends;
      says = says_after reads (says_one closes.says closes.cuts);
      told = λ tells. record {
        ends = ends;
        whole = λ fine. closes.whole (reads.told tells) fine ∙ ap (λ (l : List ℕ). l ++ ending_line ending) reads.said;
        front = front_after reads (front_one closes.says);
      };
      lawful = λ nineteen. ⊎_elim (λ told. wrong_three (sym told ∙ nineteen)) (λ fault. absurd (omega (arith, nineteen, fault.0))) closes.ends;
      complete = λ limits few no_board no_script. ⊎_elim
          (λ told. ⊎_elim
          (λ legal. inl (told ∙ legal))
          (λ other. ⊎_elim
          (λ want. inr (told ∙ want))
          (λ failed. ⊎_elim (λ seven. absurd (no_board (told ∙ seven))) (λ eight. absurd (no_script (told ∙ eight))) failed)
          other)
          (within limits few))
          (λ fault. absurd (no_board fault.0))
          closes.ends;
    }

-- a trace has none of the statuses of a refusal
early : (e : TraceEnding) → (ending_status e ≢ 1) × (ending_status e ≢ 2) × (ending_status e ≢ 10)
early (Legal events replies) = (λ is. omega (arith, is), λ is. omega (arith, is), λ is. omega (arith, is))
early BoardFault = (λ is. omega (arith, is), λ is. omega (arith, is), λ is. omega (arith, is))
early ScriptFault = (λ is. omega (arith, is), λ is. omega (arith, is), λ is. omega (arith, is))
early NoMemory = (λ is. omega (arith, is), λ is. omega (arith, is), λ is. omega (arith, is))
early (NotLegal at) = (λ is. omega (arith, is), λ is. omega (arith, is), λ is. omega (arith, is))
early TooLarge = (λ is. omega (arith, is), λ is. omega (arith, is), λ is. omega (arith, is))

pub unrefused : {D X : Type 0} {nor : NorOf D} {source : SourceOf X} {g : Geometry} {lent : Lengths} {old new : D} {script after : X} {result : Traced} → Traces nor source g lent old new script after result → (result.status ≢ 1) × (result.status ≢ 2) × (result.status ≢ 10)
unrefused t = ⊎_elim
    (λ told. (λ is. (early t.ending).0 (sym told ∙ is), λ is. (early t.ending).1 (sym told ∙ is), λ is. (early t.ending).2 (sym told ∙ is)))
    (λ fault. (λ is. omega (arith, is, fault.0), λ is. omega (arith, is, fault.0), λ is. omega (arith, is, fault.0)))
    t.ends
