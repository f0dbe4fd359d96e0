-- What a turn of a run leaves, and many turns.
use Rattle.std.specs.Prelude.{ℕ, ◌≡◌, ◌+◌, ◌<◌, ◌≤◌, ◌⊎◌, List, [], ◌∷◌, ◌++◌, length, slice_range, Option, Some, None, Result, IfOk, IfErr}
use Rattle.geometry.specs.declared.geometry.Geometry.{Geometry}
use Rattle.nor_core.specs.declared.state.NorState.{Ghosts as NorOf}
use Rattle.nor_core.specs.Device.{Changes}
use Rattle.table_model.specs.Ask.{Ask}
use Rattle.table_model.specs.Window.{Moment}
use Rattle.call_script.specs.Lines.{Bad, lines, of_line, calls_of, NoBreak}
use Rattle.call_model.specs.Memory.{Memory}
use Rattle.run_model.specs.Ran.{RunStands, RunPublishes, IsTold, Reached, SaidPart}
use Rattle.file_calls.specs.declared.told.Told.{Told}
use Rattle.file_calls.specs.Replies.{shown_by}
use Rattle.script_run.specs.Runs.{result_err, StandsNow, WorksTo}
use Rattle.tool_parts.specs.declared.ending.Ending.{Ending}
use Rattle.tool_parts.specs.declared.ending.Ending.TheVariants.{Done, BadLine, BoardFault, SourceFault, TooLong}

-- What doing a call leaves: what a run may at each cut, and its answer, or that the board failed. `lent` are the bytes for what is read.
pub record DoesCall {D : Type 0} (nor : NorOf D) (g : Geometry) (old new : D) (was now : Memory) (ask : Ask) (result : Result Told Ending)
    (lent : List ℕ) : Type 0 where
  pub changes : (m : Moment) → Changes nor old new (RunPublishes g was m ask)
  pub answers : (m : Moment) → RunStands nor g old was m → IfOk result (λ told. IsTold nor g old new now m ask (shown_by told lent))
  pub stops : (m : Moment) → RunStands nor g old was m → IfErr result (λ ending. ending ≡ BoardFault)
  -- whatever the moment, it goes on standing
  pub works : StandsNow nor g old was → WorksTo nor g new now (result_err result)

-- what doing the line of that number leaves, by how the run ends there
abbrev pub DidLine : {D : Type 0} (nor : NorOf D) (g : Geometry) (old new : D) (was now : Memory) (m : Moment) (line : List ℕ) (number : ℕ) → Option Ending →
    Type 0
DidLine nor g old new was now m line number None = (of_line line ≡ Bad → ⊥) × Reached nor g old new now m (calls_of (line ∷ []))
DidLine nor g old new was now m line number (Some (BadLine n)) = (of_line line ≡ Bad) × (n ≡ number) × Reached nor g old new now m []
DidLine nor g old new was now m line number (Some BoardFault) = (of_line line ≡ Bad → ⊥) × SaidPart nor g old new m (calls_of (line ∷ []))
DidLine nor g old new was now m line number _ = ⊥

-- each line is in the grammar
unfoldable pub AllGood : List (List ℕ) → Type 0
AllGood [] = Unit {0}
AllGood (line ∷ ls) = (of_line line ≡ Bad → ⊥) × AllGood ls

-- the first line of these bytes is outside the grammar
pub record BeginsBad (tail : List ℕ) : Type 0 where
  pub bad : List ℕ
  pub others : List (List ℕ)
  pub lines_are : lines tail ≡ bad ∷ others
  pub is_bad : of_line bad ≡ Bad

-- these bytes are some that end no line and are 4,096 at most, and others
pub record Short (tail a b : List ℕ) : Type 0 where
  pub tail_is : tail ≡ a ++ b
  pub no_break : NoBreak a
  pub few : length a ≤ 4096

-- A run between two turns: the device, what the volume remembers beside it, the bytes that were taken and are in no line that was done,
-- those that the script has left, how many were taken, and how many lines were handed out.
pub record At (D : Type 0) : Type 0 where
  pub device : D
  pub memory : Memory
  pub pending : List ℕ
  pub left : List ℕ
  pub taken : ℕ
  pub handed : ℕ

-- a run by its device and memory, the bytes in its buffer, and what its script has left
abbrev pub at_run : {D : Type 0} (d : D) (memory : Memory) (buf : List ℕ) (start end taken handed : ℕ) (left : List ℕ) → At D
at_run d memory buf start end taken handed left =
    record { device = d; memory = memory; pending = slice_range buf start end; left = left; taken = taken; handed = handed }

-- which bytes may stand behind the lines that were done, so that the lines are still these
abbrev pub Follows : Option Ending → List ℕ → List ℕ → Type 0
Follows (Some Done) tail more = more ≡ tail
Follows (Some BoardFault) tail more = more ≡ tail
Follows _ tail more = Unit {0}

-- the lines that were done are counted, and a line outside the grammar is told by its number
abbrev pub CountsLines : Option Ending → (before now done : ℕ) → Type 0
CountsLines None before now done = now ≡ before + done
CountsLines (Some (BadLine n)) before now done = n ≡ before + done + 1
CountsLines _ before now done = Unit {0}

-- the first line of a tail is seen to be outside the grammar by bytes that were taken of it: it is ended in them, they are more than a line
-- has, or nothing is behind them
pub record IsSeen {D : Type 0} (a b : At D) (seg tail : List ℕ) : Type 0 where
  pub taken : List ℕ
  pub tail_is : tail ≡ taken ++ b.left
  pub count : b.taken + length a.pending ≡ a.taken + length seg + length taken
  pub few : b.taken ≤ 16777216
  pub seen : (bad : List ℕ) (others : List (List ℕ)) → lines tail ≡ bad ∷ others → (length bad < length taken) ⊎ ((4096 < length taken) ⊎ (b.left ≡ []))

-- The bytes that were taken are those of the lines that were done, and the pending ones; at the script's end all of them are
-- those of lines, and no more than the limit.
abbrev pub CountsBytes : Option Ending → {D : Type 0} → (a b : At D) (seg tail : List ℕ) → Type 0
CountsBytes None a b seg tail = b.taken + length a.pending ≡ a.taken + length seg + length b.pending
CountsBytes (Some Done) a b seg tail = (a.taken + length seg ≡ b.taken + length a.pending) × (b.taken ≤ 16777216)
CountsBytes (Some TooLong) a b seg tail = b.taken + length a.pending ≡ a.taken + length seg + length b.pending
CountsBytes (Some (BadLine n)) a b seg tail = IsSeen a b seg tail
CountsBytes _ a b seg tail = Unit {0}

-- why a run stands where it does before these bytes
abbrev pub WhyHere : {D : Type 0} (b : At D) (tail : List ℕ) → Option Ending → Type 0
WhyHere b tail None = tail ≡ b.pending ++ b.left
WhyHere b tail (Some Done) = (tail ≡ []) × (b.left ≡ [])
WhyHere b tail (Some (BadLine n)) = BeginsBad tail
WhyHere b tail (Some TooLong) = (x : ℕ) × (xs : List ℕ) × Short tail b.pending (x ∷ xs) × (b.taken ≡ 16777216)
WhyHere b tail (Some SourceFault) = Short tail b.pending b.left
WhyHere b tail _ = ⊥

-- a run came to the moment after these calls, or the board failed in them
abbrev pub Stops : {D : Type 0} (nor : NorOf D) (g : Geometry) (m : Moment) (a b : At D) (asks : List Ask) (tail : List ℕ) → Option Ending → Type 0
Stops nor g m a b asks tail ending =
    ((ending ≡ Some BoardFault) × SaidPart nor g a.device b.device m asks)
    ⊎ (Reached nor g a.device b.device b.memory m asks × WhyHere b tail ending)

-- From one place of a run to another these lines were done.
pub record Turned {D : Type 0} (nor : NorOf D) (g : Geometry) (ending : Option Ending) (m : Moment) (a b : At D) : Type 0 where
  pub seg : List ℕ
  pub done : List (List ℕ)
  pub tail : List ℕ
  pub rest_is : a.pending ++ a.left ≡ seg ++ tail
  pub lines_are : (more : List ℕ) → Follows ending tail more → lines (seg ++ more) ≡ done ++ lines more
  pub good : AllGood done
  pub number : CountsLines ending a.handed b.handed (length done)
  pub bytes : CountsBytes ending a b seg tail
  pub stops : Stops nor g m a b (calls_of done) tail ending

-- from any moment at which the volume stands these lines were done
abbrev pub Turns : {D : Type 0} (nor : NorOf D) (g : Geometry) (ending : Option Ending) (a b : At D) → Type 0
Turns nor g ending a b = (m : Moment) → RunStands nor g a.device a.memory m → Turned nor g ending m a b

-- one byte more was left
pub record OneMore (old new : List ℕ) : Type 0 where
  pub byte : ℕ
  pub rest : List ℕ
  pub old_is : old ≡ byte ∷ rest

-- at the end of the script the last line was done
abbrev pub ended_turn : Option Ending → Ending
ended_turn None = Done
ended_turn (Some ending) = ending
