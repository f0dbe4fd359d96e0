-- What a trace leaves and answers.
use Rattle.std.specs.Prelude.{◌≡◌, ◌≢◌, ℕ, ◌≤◌, ◌⊎◌, List, length, Option, Some, None}
use Rattle.geometry.specs.declared.geometry.Geometry.{Geometry}
use Rattle.nor_core.specs.declared.state.NorState.{Ghosts as NorOf}
use Rattle.nor_core.specs.declared.source.Source.{Ghosts as SourceOf}
use Rattle.image_model.specs.Kinds.{spoiled_blocks}
use Rattle.image_tool.specs.Saying.{OnlySays}
use Rattle.flash_trace.specs.declared.recorder.Recorder.{Recorder}
use Rattle.flash_trace.specs.declared.verdict.Verdict.{Verdict}
use Rattle.tool_parts.specs.declared.buffers.Lengths.{Lengths}
use Rattle.tool_parts.specs.Asked.{Asked}
use Rattle.tool_parts.specs.Endings.{EndsWith, SaysWhole}
use Rattle.trace_tool.specs.declared.ending.TraceEnding.{TraceEnding}
use Rattle.trace_tool.specs.declared.ending.TraceEnding.TheVariants.{NoMemory}
use Rattle.trace_tool.specs.declared.tool.Traced.{Traced}
use Rattle.trace_tool.specs.Endings.{ending_status, ending_line, ending_of}
use Rattle.trace_tool.specs.Planned.{IsPlanned}
use Rattle.trace_tool.specs.Copies.{volume_size, volume_on, IsVolumeOf, IsScriptOf, StopsCopy}
use Rattle.trace_tool.specs.Rehearsed.{IsJudged}

-- a run in memory that ended with that status was judged, and that is how the trace ends
pub record IsTraced (g : Geometry) (lent : Lengths) (image script : List ℕ) (ending : TraceEnding) (status : ℕ) : Type 0 where
  pub is : Recorder
  pub verdict : Verdict
  pub judged : IsJudged g lent image script is status verdict
  pub ending_is : ending ≡ ending_of verdict

-- how a trace ends whose run in memory ended with that status, or whose run there was no memory for
abbrev pub EndsByRun : (g : Geometry) (lent : Lengths) (image script : List ℕ) (ending : TraceEnding) → Option ℕ → Type 0
EndsByRun g lent image script ending None = ending ≡ NoMemory
EndsByRun g lent image script ending (Some status) = IsTraced g lent image script ending status

-- that run is one of a script on a copy of a volume
pub record RunsCopies {D X : Type 0} (nor : NorOf D) (source : SourceOf X) (g : Geometry) (lent : Lengths) (old : D) (script : X) (ending : TraceEnding)
    (run : Option ℕ) : Type 0 where
  pub image : List ℕ
  pub text : List ℕ
  pub image_is : IsVolumeOf nor g old image
  pub text_is : IsScriptOf source script text
  pub ends : EndsByRun g lent image text ending run

-- why a trace ends so: there are no copies, or the run on them was judged
abbrev pub WhyTraced : {D X : Type 0} (nor : NorOf D) (source : SourceOf X) (g : Geometry) (lent : Lengths) (old new : D) (script after : X)
    (ending : TraceEnding) (run : Option ℕ) → Type 0
WhyTraced nor source g lent old new script after ending run =
    ((run ≡ None) × StopsCopy nor source g old new script after ending) ⊎ RunsCopies nor source g lent old script ending run

-- the volume and the script have no more bytes than are traced
pub record HasLimits {D X : Type 0} (nor : NorOf D) (source : SourceOf X) (g : Geometry) (old : D) (script : X) : Type 0 where
  pub board_tells : nor.tells old
  pub script_tells : source.tells script
  pub small : volume_size g ≤ 131072
  pub short : length (source.left script) ≤ 16384

-- A trace of a run on a volume of that geometry: the board is only read, and a line is said.
pub record Traces {D X : Type 0} (nor : NorOf D) (source : SourceOf X) (g : Geometry) (lent : Lengths) (old new : D) (script after : X)
    (result : Traced) : Type 0 where
  -- how it ends, and why
  pub ending : TraceEnding
  pub why : WhyTraced nor source g lent old new script after ending result.run
  -- the status of that, or 7 where a fault of the board rose
  pub ends : EndsWith nor old new (ending_status ending) result.status
  -- the bytes stay, and a cut leaves them and a front of the line
  pub says : OnlySays nor old new (ending_line ending)
  -- the line is said
  pub told : nor.tells old → SaysWhole nor old new (ending_line ending) (ending_status ending) result.status
  -- no run is found to be wrong but one of an image that isn't mounted ..
  pub lawful : result.status ≡ 19 → result.run ≡ Some 3
  -- .. and within the limits one on a volume, of which at most one block lacks its magic, is told to be legal, unless there is no memory or
  -- something can't be read
  pub complete : HasLimits nor source g old script → spoiled_blocks g (volume_on nor g old) ≤ 1 → result.status ≢ 7 → result.status ≢ 8 →
      (result.status ≡ 0) ⊎ (result.status ≡ 15)

-- the same, for the volume that the words spell
pub record TracesAsked {D X : Type 0} (nor : NorOf D) (source : SourceOf X) (a : Asked) (lent : Lengths) (old new : D) (script after : X)
    (result : Traced) : Type 0 where
  pub geometry : Geometry
  pub planned : IsPlanned a geometry
  pub traces : Traces nor source geometry lent old new script after result
