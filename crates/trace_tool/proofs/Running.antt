-- The run in memory, by the calls that make it.
use Rattle.std.proofs.Common.{◌≡◌, ℕ, List, [], sym, ◌∙◌, ap, arith}
use Rattle.geometry.specs.declared.geometry.Geometry.{Geometry}
use Rattle.nor_core.specs.Count.{Rose}
use Rattle.nor_memory.specs.declared.memory.MemBoard.{MemBoard}
use Rattle.nor_memory.specs.contracts.memory.MemBoardNorState.TheImpl.{ghosts as mem}
use Rattle.flash_trace.specs.declared.recorder.Recorder.{Recorder}
use Rattle.flash_trace.specs.declared.script.HeldScript.{HeldScript}
use Rattle.flash_trace.specs.contracts.recorder.RecorderNorState.TheImpl.{ghosts as rec}
use Rattle.flash_trace.specs.contracts.script.HeldScriptSource.TheImpl.{ghosts as held}
use Rattle.flash_trace.specs.Recorded.{IsFresh}
use Rattle.flash_trace.proofs.Steady.{none_rose}
use Rattle.tool_parts.specs.declared.buffers.Lengths.{Lengths}
use Rattle.script_run.specs.Running.{DoesRun}
use Rattle.trace_tool.specs.Rehearsed.{Rehearses}

-- a device in memory that was only made
pub fresh_board : (board : MemBoard) (image : List ℕ) → mem.bytes board ≡ image → mem.lent board ≡ image → mem.said board ≡ [] → IsFresh board
fresh_board board image bytes lent said = record { bytes = bytes ∙ sym lent; said = said }

module _ (g : Geometry) (lent : Lengths) (image script : List ℕ) (board : MemBoard) (was is : Recorder) (begun ended : HeldScript) (status : ℕ) where
  -- a run of which no call failed
  pub rehearses : IsFresh board → mem.bytes board ≡ image → mem.unit board ≡ g.phys → mem.moment board ≡ 0 → was.board ≡ board → was.events.items ≡ [] → was.faults ≡ 0 → held.left begun ≡ script → DoesRun rec held g lent was is begun ended status
      → (status ≡ 7 → Rose was.faults is.faults) → (status ≡ 8 → Rose 0 0) → is.faults ≡ 0 → Rehearses g lent image script is status
  rehearses fresh bytes unit moment board_is none_yet none begins run board_fault script_fault none_failed = record {
    was = was;
    begun = begun;
    ended = ended;
    fresh = record { bytes = ap mem.bytes board_is ∙ (fresh.bytes ∙ sym (ap mem.lent board_is)); said = ap mem.said board_is ∙ fresh.said };
    none_yet = none_yet;
    moment = ap mem.moment board_is ∙ moment;
    unit = ap mem.unit board_is ∙ unit;
    image_is = ap mem.bytes board_is ∙ bytes;
    script_is = begins;
    run = run;
    none_failed = none_failed;
    no_board = λ seven. let rose = board_fault seven in omega (arith, rose, none, none_failed);
    no_script = λ eight. none_rose (script_fault eight);
  }
