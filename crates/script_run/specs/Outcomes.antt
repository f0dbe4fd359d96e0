-- What a run leaves, by how it ends.
use Rattle.std.specs.Prelude.{ℕ, ◌≡◌, ◌+◌, ◌<◌, ◌≤◌, ◌⊎◌, List, [], ◌∷◌, ◌++◌, length, replicate, Some, None}
use Rattle.geometry.specs.declared.geometry.Geometry.{Geometry}
use Rattle.nor_core.specs.declared.state.NorState.{Ghosts as NorOf}
use Rattle.nor_core.specs.Device.{Leaves}
use Rattle.table_model.specs.Ask.{Ask}
use Rattle.table_model.specs.Window.{Moment, settled_at, from_settled, IsAmong}
use Rattle.call_script.specs.Lines.{Bad, lines, of_line, calls, NoBreak}
use Rattle.image_model.specs.Tables.{table_of}
use Rattle.image_model.specs.Tidy.{IsTidy}
use Rattle.image_model.specs.Collect.{chosen_block}
use Rattle.run_model.specs.Runs.{RunCall, AreFair, asks_of, after_all, replies}
use Rattle.call_model.specs.Memory.{Memory}
use Rattle.call_model.specs.Safe.{IsSafe, HoldsImage}
use Rattle.run_model.specs.Ran.{CutIn, Reached, SaidPart}
use Rattle.tool_parts.specs.declared.ending.Ending.{Ending}
use Rattle.tool_parts.specs.declared.ending.Ending.TheVariants.{Done, BadLine, BoardFault, SourceFault, TooLong, Tight}
use Rattle.tool_parts.specs.Refusals.{begin_refusal}
use Rattle.tool_parts.specs.Closing.{status_of}
use Rattle.tool_parts.specs.Mounting.{IsMendable}
use Rattle.tool_parts.specs.Endings.{Speaks, WritesNone}
use Rattle.script_run.specs.Turns.{AllGood}

-- a line of a script is outside the grammar, the first such, by its number from 1
pub record HasBad (script : List ℕ) (number : ℕ) : Type 0 where
  pub done : List (List ℕ)
  pub bad : List ℕ
  pub others : List (List ℕ)
  pub lines_are : lines script ≡ done ++ (bad ∷ others)
  pub good : AllGood done
  pub is_bad : of_line bad ≡ Bad
  pub number_is : number ≡ length done + 1

-- Such a line is seen in the first 16,777,216 bytes: it is ended in them, more than 4,096 of them are its own, or the script has no more.
pub record HasSeenBad (script : List ℕ) (number : ℕ) : Type 0 where
  pub bad_line : HasBad script number
  pub whole : List ℕ
  pub tail : List ℕ
  pub script_is : script ≡ whole ++ tail
  pub ended : (more : List ℕ) → lines (whole ++ more) ≡ bad_line.done ++ lines more
  pub seen : (length whole + length bad_line.bad < 16777216) ⊎ ((length whole + 4096 < 16777216) ⊎ (length script ≤ 16777216))

-- A script is whole lines in the grammar, a front of the next of at most 4,096 bytes, and what is left.
pub record IsTaken (script whole rest left : List ℕ) : Type 0 where
  pub script_is : script ≡ whole ++ (rest ++ left)
  pub ended : (more : List ℕ) → lines (whole ++ more) ≡ lines whole ++ lines more
  pub good : AllGood (lines whole)
  pub no_break : NoBreak rest
  pub few : length rest ≤ 4096

-- a script was taken up to what is left, and these are the calls of its lines so far
pub record IsTakenTo (script left : List ℕ) (front : List Ask) : Type 0 where
  pub whole : List ℕ
  pub rest : List ℕ
  pub taken : IsTaken script whole rest left
  pub calls_are : calls whole ≡ front

-- 16,777,216 bytes of a script were taken, it has more, and these are the calls of its lines so far
pub record IsTooLong (script : List ℕ) (front : List Ask) : Type 0 where
  pub whole : List ℕ
  pub rest : List ℕ
  pub byte : ℕ
  pub left : List ℕ
  pub taken : IsTaken script whole rest (byte ∷ left)
  pub count : length whole + length rest ≡ 16777216
  pub calls_are : calls whole ≡ front

-- why a run ends after some calls and before others
abbrev pub WhyEnds : (script left : List ℕ) (front later : List Ask) → Ending → Type 0
WhyEnds script left front later Done = (later ≡ []) × AllGood (lines script) × (left ≡ []) × (length script ≤ 16777216)
WhyEnds script left front later (BadLine number) = (later ≡ []) × HasSeenBad script number
WhyEnds script left front later TooLong = IsTooLong script front
WhyEnds script left front later SourceFault = IsTakenTo script left front
WhyEnds script left front later _ = ⊥

-- a run came to the moment after the first of its script's calls, and ends there
pub record Went {D : Type 0} (nor : NorOf D) (g : Geometry) (old new : D) (was now : Memory) (m : Moment) (script left : List ℕ)
    (ending : Ending) : Type 0 where
  pub front : List Ask
  pub later : List Ask
  pub asks_are : calls script ≡ front ++ later
  pub reached : Reached nor g old new now m front
  pub why : WhyEnds script left front later ending

-- the board failed in the calls, or it came there
abbrev pub RunEnds : {D : Type 0} (nor : NorOf D) (g : Geometry) (old new : D) (was now : Memory) (m : Moment) (script left : List ℕ) → Ending → Type 0
RunEnds nor g old new was now m script left ending =
    ((ending ≡ BoardFault) × SaidPart nor g old new m (calls script)) ⊎ Went nor g old new was now m script left ending

-- The images end the run: the first isn't taken, or the check left too few free blocks. The first isn't one that the check gives two.
pub record ImagesEnd (g : Geometry) (was now : List ℕ) (ending : Ending) : Type 0 where
  pub refusal : begin_refusal g was now ≡ Some ending
  pub mends_not : IsMendable g was → ⊥

-- Why a run ends after some calls and before others: for its images before the first call, or for what it met.
abbrev pub WhyRan : (g : Geometry) (first image script left : List ℕ) (front : List RunCall) (later : List Ask) → Ending → Type 0
WhyRan g first image script left front later ending =
    ((front ≡ []) × ImagesEnd g first image ending)
    ⊎ ((begin_refusal g first image ≡ None) × WhyEnds script left (asks_of front) later ending)

-- A cut in a run: one in its calls. Once the check has ended, another takes the image and gives it two free blocks; before that nothing is said,
-- and the table is the first one.
pub record RunCut {D : Type 0} (nor : NorOf D) (g : Geometry) (old : D) (m : Moment) (calls : List RunCall) (image : List ℕ) (count : ℕ) : Type 0 where
  pub cut : CutIn nor g old m calls image count
  pub mends : IsMendable g image ⊎ ((cut.part ≡ []) × (table_of g image ≡ table_of g (nor.bytes old)))

-- A run that came to its closing line: the replies to some first calls were said, and the table is the one after them, which was settled or
-- waited. The image is tidy, unless the images end the run. Where too few blocks are free, no block that is worth cleaning can be cleaned.
pub record Came {D : Type 0} (nor : NorOf D) (g : Geometry) (old new : D) (m : Moment) (script left : List ℕ) (ending : Ending) : Type 0 where
  pub front : List RunCall
  pub later : List Ask
  pub asks_are : calls script ≡ asks_of front ++ later
  pub fair : AreFair g m front
  pub said : nor.said new ≡ nor.said old ++ replies g m front
  pub tells : nor.tells new
  pub among : IsAmong (table_of g (nor.bytes new)) (from_settled (after_all g m front) [])
  pub table : table_of g (nor.bytes new) ≡ (after_all g m front).state.table
  pub tidy : begin_refusal g (nor.bytes old) (nor.bytes new) ≡ None → IsTidy g (nor.bytes new)
  pub stuck : (n : ℕ) → ending ≡ Tight n → chosen_block g (nor.bytes new) ≡ None
  pub why : WhyRan g (nor.bytes old) (nor.bytes new) script left front later ending
  pub untouched : front ≡ [] → table_of g (nor.bytes new) ≡ table_of g (nor.bytes old)
  pub holds : HoldsImage g (nor.bytes old) (nor.bytes new)
  pub safe : IsSafe g (nor.bytes old) (nor.bytes new)
  pub cuts : Leaves nor old new (RunCut nor g old m front)

-- the board failed in the calls
pub record Broke {D : Type 0} (nor : NorOf D) (g : Geometry) (old new : D) (m : Moment) (asks : List Ask) : Type 0 where
  pub said : SaidPart nor g old new m asks
  pub cuts : Leaves nor old new (RunCut nor g old m said.calls)

-- the board failed in the calls, or it came there
abbrev pub RunsTo : {D : Type 0} (nor : NorOf D) (g : Geometry) (old new : D) (m : Moment) (script left : List ℕ) → Ending → Type 0
RunsTo nor g old new m script left ending =
    ((ending ≡ BoardFault) × Broke nor g old new m (calls script)) ⊎ Came nor g old new m script left ending

-- the status of a script that was run on an image that the check left fit to be worked on: 0, 5, 8 or 11
abbrev pub IsOfScript : ℕ → Type 0
IsOfScript status = (status ≡ 0) ⊎ ((status ≡ 5) ⊎ ((status ≡ 8) ⊎ (status ≡ 11)))

-- before its closing line: the board failed, or the images ended the run, or else the script
abbrev pub EndsByImages : Geometry → (was now : List ℕ) → Ending → Type 0
EndsByImages g was now ending = (ending ≡ BoardFault) ⊎ (ImagesEnd g was now ending ⊎ ((begin_refusal g was now ≡ None) × IsOfScript (status_of ending)))

-- before the first call: what an image that isn't taken leaves of a run
pub record Refused {D : Type 0} (nor : NorOf D) (g : Geometry) (old new : D) (ending result : Ending) : Type 0 where
  pub tells : nor.tells new
  pub speaks : Speaks nor old new [] ending result
  pub kept : WritesNone nor old new
