-- What a rehearsal comes to: a text and a status, or why there is no verdict.
use Rattle.std.specs.Prelude.{ℕ, ◌≡◌, ◌⊎◌, ◌<◌, ◌≤◌, List, length, codes, Bool, Option, Some, None, Result, Ok, Err}
use Rattle.geometry.specs.declared.geometry.Geometry.{Geometry}
use Rattle.table_model.specs.Table.{State}
use Rattle.promise_model.specs.Laws.{places_of}
use Rattle.promise_model.specs.Verdicts.{Told, Tells}
use Rattle.tool_parts.specs.declared.ending.Ending.{Ending}
use Rattle.tool_parts.specs.declared.ending.Ending.TheVariants.{NotAFs, Mixed, BoardFault, SourceFault, TooLong}
use Rattle.tool_parts.specs.Closing.{status_of, closing_line_of}
use Rattle.tool_parts.specs.Refusals.{check_refusal}
use Rattle.rehearse_tool.specs.declared.input.Stop.{Stop}
use Rattle.rehearse_tool.specs.declared.input.Stop.TheVariants.{Ends, NoMemory}
use Rattle.rehearse_tool.specs.declared.answer.Answer.{Answer}
use Rattle.rehearse_tool.specs.Texts.{verdict_status, rehearsal_text}

-- A script was judged on a volume: what is told of it is said, with its status.
pub record IsJudged (g : Geometry) (tables : Bool) (s : State) (script text : List ℕ) (status : ℕ) : Type 0 where
  pub told : Told
  pub tells : Tells g s script told
  pub text_is : text ≡ rehearsal_text tables told (places_of g s script)
  pub status_is : status ≡ verdict_status told

-- the closing line where there is no verdict
abbrev pub stop_line : Stop → List ℕ
stop_line (Ends ending) = closing_line_of ending
stop_line NoMemory = codes "! memory\n"

abbrev pub stop_status : Stop → ℕ
stop_status (Ends ending) = status_of ending
stop_status NoMemory = 15

-- Why there is none on that image and script: `run` doesn't take the image, or the chip can't be read; or, of an image that it takes, the script is
-- too long or can't be read; or there is no memory.
abbrev pub IsStop : Geometry → (image script : List ℕ) → Stop → Type 0
IsStop g image script (Ends ending) =
    (check_refusal g image ≡ Some ending)
    ⊎ ((ending ≡ BoardFault) ⊎ ((check_refusal g image ≡ None) × (((ending ≡ TooLong) × (16777216 < length script)) ⊎ (ending ≡ SourceFault))))
IsStop g image script NoMemory = Unit {0}

-- the text and the status that a rehearsal comes to
abbrev pub outcome_text : Result Answer Stop → List ℕ
outcome_text (Ok answer) = answer.text.items
outcome_text (Err stop) = stop_line stop

abbrev pub outcome_status : Result Answer Stop → ℕ
outcome_status (Ok answer) = answer.status
outcome_status (Err stop) = stop_status stop

-- The verdict on a script that isn't too long, on a volume of an image that `run` takes; or why there is none.
pub record IsVerdictOn (g : Geometry) (tables : Bool) (s : State) (image script text : List ℕ) (status : ℕ) : Type 0 where
  pub taken : check_refusal g image ≡ None
  pub few : length script ≤ 16777216
  pub judged : IsJudged g tables s script text status

pub record IsStopOn (g : Geometry) (image script text : List ℕ) (status : ℕ) : Type 0 where
  pub stop : Stop
  pub why : IsStop g image script stop
  pub text_is : text ≡ stop_line stop
  pub status_is : status ≡ stop_status stop

-- an image is refused so, or there is no memory to tell
abbrev pub IsRefusedBy : Option Ending → Stop → Type 0
IsRefusedBy refusal (Ends ending) = refusal ≡ Some ending
IsRefusedBy refusal NoMemory = Unit {0}

-- why there may be none at all, whatever board and script tell
abbrev pub MayStop : Stop → Type 0
MayStop NoMemory = Unit {0}
MayStop (Ends (NotAFs spoiled)) = Unit {0}
MayStop (Ends (Mixed blocks)) = Unit {0}
MayStop (Ends BoardFault) = Unit {0}
MayStop (Ends SourceFault) = Unit {0}
MayStop (Ends TooLong) = Unit {0}
MayStop (Ends _) = ⊥

-- the status of a verdict, or that of such a stop
abbrev pub IsOutcomeStatus : ℕ → Type 0
IsOutcomeStatus status = ((told : Told) × (status ≡ verdict_status told)) ⊎ ((stop : Stop) × MayStop stop × (status ≡ stop_status stop))

-- what a rehearsal on that image comes to
abbrev pub ComesTo : Geometry → Bool → State → (image script : List ℕ) → Result Answer Stop → Type 0
ComesTo g tables s image script (Ok answer) = IsVerdictOn g tables s image script answer.text.items answer.status
ComesTo g tables s image script (Err stop) = IsStop g image script stop
