-- The run of a script on an image in memory, and what is judged of it.
use Rattle.std.specs.Prelude.{◌≡◌, ◌≢◌, ℕ, ◌<◌, ◌≤◌, List, [], length, min}
use Rattle.geometry.specs.declared.geometry.Geometry.{Geometry}
use Rattle.call_script.specs.Lines.{calls}
use Rattle.image_model.specs.Kinds.{spoiled_blocks}
use Rattle.trace_laws.specs.Counting.{replies_in}
use Rattle.flash_trace.specs.declared.recorder.Recorder.{Recorder}
use Rattle.flash_trace.specs.declared.script.HeldScript.{HeldScript}
use Rattle.flash_trace.specs.declared.verdict.Verdict.{Verdict}
use Rattle.flash_trace.specs.declared.verdict.Verdict.TheVariants.{Legal, BadCut}
use Rattle.flash_trace.specs.contracts.recorder.RecorderNorState.TheImpl.{ghosts as rec}
use Rattle.flash_trace.specs.contracts.script.HeldScriptSource.TheImpl.{ghosts as held}
use Rattle.flash_trace.specs.Events.{at_first}
use Rattle.flash_trace.specs.Good.{first_moment}
use Rattle.flash_trace.specs.Recorded.{IsFresh}
use Rattle.flash_trace.specs.Verdicts.{IsTraceVerdict}
use Rattle.tool_parts.specs.declared.buffers.Lengths.{Lengths}
use Rattle.script_run.specs.Running.{DoesRun}

-- A recorder without events over a device that held an image, and a script from memory: the run of the one on the other ended with that status, and
-- no call failed.
pub record Rehearses (g : Geometry) (lent : Lengths) (image script : List ℕ) (is : Recorder) (status : ℕ) : Type 0 where
  pub was : Recorder
  pub begun : HeldScript
  pub ended : HeldScript
  pub fresh : IsFresh was.board
  pub none_yet : was.events.items ≡ []
  pub moment : rec.moment was ≡ 0
  pub unit : rec.unit was ≡ g.phys
  pub image_is : rec.bytes was ≡ image
  pub script_is : held.left begun ≡ script
  pub run : DoesRun rec held g lent was is begun ended status
  pub none_failed : is.faults ≡ 0
  pub no_board : status ≢ 7
  pub no_script : status ≢ 8

-- the descriptors that a run gets
abbrev pub slots_of : Lengths → ℕ
slots_of lent = min 65535 lent.slots

-- The verdict on the events of such a run. On a volume, of which at most one block lacks its magic, it is always that all are legal; and where the
-- run ended with status 0, there are as many replies as the script has calls. On an image that is no volume what stands first is none.
pub record IsJudged (g : Geometry) (lent : Lengths) (image script : List ℕ) (is : Recorder) (status : ℕ) (v : Verdict) : Type 0 where
  pub run : Rehearses g lent image script is status
  pub verdict : IsTraceVerdict g (slots_of lent) image script 0 is.events.items (at_first image) v
  pub legal : spoiled_blocks g image ≤ 1 → v ≡ Legal (length is.events.items) (replies_in g (first_moment g (slots_of lent) image) (calls script) (rec.said is))
  pub whole : status ≡ 0 → v ≡ Legal (length is.events.items) (length (calls script))
  pub no_volume : 1 < spoiled_blocks g image → v ≡ BadCut 0
