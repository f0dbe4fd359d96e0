-- What the command leaves and answers.
use Rattle.std.specs.Prelude.{ℕ, ◌≡◌, ◌⊎◌, List, Bool, Some}
use Rattle.geometry.specs.declared.geometry.Geometry.{Geometry}
use Rattle.nor_core.specs.declared.state.NorState.{Ghosts as NorOf}
use Rattle.nor_core.specs.declared.source.Source.{Ghosts as SourceOf}
use Rattle.table_model.specs.Table.{State}
use Rattle.call_script.specs.Lines.{lines}
use Rattle.promise_model.specs.Laws.{IsGood, places_of}
use Rattle.promise_model.specs.Verdicts.{Broken, IsBroken, FindsPlace, AllKept, NotKept, promise_count, table_count}
use Rattle.promise_runs.specs.Runs.{volume_of, RunKeeps}
use Rattle.image_tool.specs.Saying.{OnlySays}
use Rattle.tool_parts.specs.declared.buffers.Lengths.{Lengths}
use Rattle.tool_parts.specs.Endings.{EndsWith, SaysWhole}
use Rattle.tool_parts.specs.Asked.{Asked}
use Rattle.script_run.specs.Running.{DoesRun}
use Rattle.rehearse_tool.specs.Outcomes.{IsVerdictOn, IsStopOn, IsOutcomeStatus}
use Rattle.rehearse_tool.specs.Texts.{rehearsal_text}
use Rattle.rehearse_tool.specs.Words.{wants_tables, IsPlanned}

-- Each run of a script on that image, with as many descriptors, keeps the promises: what a power cut at any moment of it leaves keeps each
-- promise that is in force there.
abbrev pub EachRunKeeps : {D X : Type 0} → NorOf D → SourceOf X → Geometry → Lengths → (image script : List ℕ) → Type 0
EachRunKeeps {D} {X} nor source g lent image script = (memory : Lengths) (from to : D) (given rest : X) (status : ℕ) → memory.slots ≡ lent.slots →
    nor.bytes from ≡ image → source.left given ≡ script →
    DoesRun nor source g memory from to given rest status → source.tells given → nor.tells from → RunKeeps nor g (volume_of g lent image) script from to

-- The promises of a script are kept at each of its places, and how many promises and tables there are is said.
pub record IsKept (g : Geometry) (tables : Bool) (s : State) (script text : List ℕ) : Type 0 where
  pub good : IsGood g s script
  pub said : text ≡ rehearsal_text tables (AllKept (promise_count (lines script)) (table_count (places_of g s script))) (places_of g s script)

-- A table that a cut may leave breaks a promise, and is the first one that does; which it is, and its files, is said.
pub record HasBroken (g : Geometry) (tables : Bool) (s : State) (script text : List ℕ) : Type 0 where
  pub broken : Broken
  pub is : IsBroken (places_of g s script) broken
  pub first : FindsPlace (places_of g s script) (Some broken)
  pub said : text ≡ rehearsal_text tables (NotKept broken) (places_of g s script)

-- A rehearsal of a script on the volume of a device, which is only read; then one text is said, or a front of it where the device failed.
pub record DoesRehearse {D X : Type 0} (nor : NorOf D) (source : SourceOf X) (g : Geometry) (lent : Lengths) (tables : Bool) (old new : D) (script after : X)
    (status : ℕ) : Type 0 where
  pub text : List ℕ
  pub wanted : ℕ
  -- nothing is written, and a cut leaves a front of the text
  pub says : OnlySays nor old new text
  pub ends : EndsWith nor old new wanted status
  pub told : nor.tells old → SaysWhole nor old new text wanted status
  -- whatever board and script tell, it is the status of a verdict, or one of few others
  pub among : IsOutcomeStatus wanted
  -- the verdict on the script, on the table of the chip's bytes, or why there is none
  pub why : source.tells script → nor.tells old → IsVerdictOn g tables (volume_of g lent (nor.bytes old)) (nor.bytes old) (source.left script) text wanted
      ⊎ IsStopOn g (nor.bytes old) (source.left script) text wanted
  -- with status 0 the promises are kept at each place ..
  pub kept : source.tells script → nor.tells old → status ≡ 0 → IsKept g tables (volume_of g lent (nor.bytes old)) (source.left script) text
  -- .. so that each power cut in each run of the script on that image keeps them
  pub runs : source.tells script → nor.tells old → status ≡ 0 → EachRunKeeps nor source g lent (nor.bytes old) (source.left script)
  -- with status 24 the first table is told that breaks one
  pub broken : source.tells script → nor.tells old → status ≡ 24 → HasBroken g tables (volume_of g lent (nor.bytes old)) (source.left script) text

-- It does so on the volume of the geometry that the words give.
pub record Rehearses {D X : Type 0} (nor : NorOf D) (source : SourceOf X) (a : Asked) (old new : D) (script after : X) (status : ℕ) : Type 0 where
  pub geometry : Geometry
  pub planned : IsPlanned a geometry
  pub does : DoesRehearse nor source geometry a.lent (wants_tables a.words) old new script after status
