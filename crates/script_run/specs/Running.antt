-- What a run leaves and answers.
use Rattle.std.specs.Prelude.{ℕ, ◌≡◌, ◌≢◌, ◌+◌, ◌<◌, ◌≤◌, ◌⊎◌, List, [], ◌++◌, length, min, Option, None, Some}
use Rattle.geometry.specs.declared.geometry.Geometry.{Geometry}
use Rattle.nor_core.specs.declared.state.NorState.{Ghosts as NorOf}
use Rattle.nor_core.specs.declared.source.Source.{Ghosts as SourceOf}
use Rattle.nor_core.specs.Device.{Leaves}
use Rattle.table_model.specs.Ask.{Ask}
use Rattle.table_model.specs.Window.{Moment}
use Rattle.call_script.specs.Lines.{lines, calls}
use Rattle.image_model.specs.Tables.{table_of}
use Rattle.image_model.specs.Tidy.{IsTidy, HasReserve}
use Rattle.image_model.specs.Collect.{chosen_block}
use Rattle.flash_view.specs.Same.{StaysBehind}
use Rattle.run_model.specs.Runs.{RunCall, AreFair, asks_of, after_all, replies, IsCut}
use Rattle.call_model.specs.Safe.{IsSafe, HoldsImage}
use Rattle.run_model.specs.Ran.{SaidPart}
use Rattle.tool_parts.specs.declared.buffers.Lengths.{Lengths}
use Rattle.tool_parts.specs.declared.ending.Ending.{Ending}
use Rattle.tool_parts.specs.declared.ending.Ending.TheVariants.{Tight}
use Rattle.tool_parts.specs.Closing.{status_of, closing_line_of}
use Rattle.tool_parts.specs.Endings.{EndsAs, Concludes, WritesNone, HasMended}
use Rattle.tool_parts.specs.Mounting.{IsMendable}
use Rattle.tool_parts.specs.Reads.{ReadsOnce}
use Rattle.tool_parts.specs.Refusals.{check_refusal, begin_refusal}
use Rattle.script_run.specs.Turns.{AllGood}
use Rattle.script_run.specs.Outcomes.{HasBad, IsTooLong, WhyRan, IsOfScript}
use Rattle.tool_parts.specs.Begins.{first_moment}

-- A cut in the calls: the image may follow the first one, and the replies said and its table are those of a cut in the calls. Once the check has
-- ended, another takes it and gives it two free blocks; while it is under way nothing is said, and the table is that of the first image.
pub record CallCut {D : Type 0} (nor : NorOf D) (g : Geometry) (old : D) (m : Moment) (done : List RunCall) (image : List ℕ) (count : ℕ) : Type 0 where
  pub said : List ℕ
  pub count_is : count ≡ length (nor.said old) + length said
  pub safe : IsSafe g (nor.bytes old) image
  pub mends : IsMendable g image ⊎ ((said ≡ []) × (table_of g image ≡ table_of g (nor.bytes old)))
  pub cut : IsCut g m done said image

-- A cut in the closing line: the last image, and so many bytes of that line behind what was said before it. Two blocks are free, where
-- the first image is one that the check gives them, and where a reply was said.
pub record ClosingCut {D : Type 0} (nor : NorOf D) (g : Geometry) (old new : D) (before closing : List ℕ) (image : List ℕ) (count : ℕ) : Type 0 where
  pub image_is : image ≡ nor.bytes new
  pub reserve : IsMendable g (nor.bytes old) ⊎ (0 < length before) → HasReserve g image
  pub part : List ℕ
  pub rest : List ℕ
  pub closing_is : closing ≡ part ++ rest
  pub some : 0 < length part
  pub count_is : count ≡ length (nor.said old) + length (before ++ part)

-- the board failed in a call: a front of the replies was said, and a cut leaves what one in the calls may
pub record Breaks {D : Type 0} (nor : NorOf D) (g : Geometry) (old new : D) (m : Moment) (script : List ℕ) (status : ℕ) : Type 0 where
  pub status_is : status ≡ 7
  pub said : SaidPart nor g old new m (calls script)
  pub cuts : Leaves nor old new (CallCut nor g old m said.calls)

-- A run was done up to some call: the replies before it were said, and then its closing line, or a front of that where the board failed. The
-- image's table is that of the state after these calls. It is tidy, unless the images end the run (`begin_refusal`). Where the run ends for too
-- few free blocks, no block that is worth cleaning can be cleaned. A cut leaves what one in these calls may, or one in that line.
pub record Closes {D : Type 0} (nor : NorOf D) (g : Geometry) (old new : D) (m : Moment) (script left : List ℕ) (status : ℕ) : Type 0 where
  pub ending : Ending
  pub ends : EndsAs nor old new ending status
  pub front : List RunCall
  pub later : List Ask
  pub asks_are : calls script ≡ asks_of front ++ later
  pub fair : AreFair g m front
  pub why : WhyRan g (nor.bytes old) (nor.bytes new) script left front later ending
  pub whole : status ≢ 7 → nor.said new ≡ nor.said old ++ (replies g m front ++ closing_line_of ending)
  pub part : List ℕ
  pub rest : List ℕ
  pub closing_is : closing_line_of ending ≡ part ++ rest
  pub said : nor.said new ≡ nor.said old ++ (replies g m front ++ part)
  pub table : table_of g (nor.bytes new) ≡ (after_all g m front).state.table
  pub tidy : begin_refusal g (nor.bytes old) (nor.bytes new) ≡ None → IsTidy g (nor.bytes new)
  pub stuck : (n : ℕ) → ending ≡ Tight n → chosen_block g (nor.bytes new) ≡ None
  pub holds : HoldsImage g (nor.bytes old) (nor.bytes new)
  pub cuts : Leaves nor old new
      (λ image count. CallCut nor g old m front image count ⊎ ClosingCut nor g old new (replies g m front) (closing_line_of ending) image count)

-- what a run leaves and answers
abbrev pub Outcome : {D : Type 0} (nor : NorOf D) (g : Geometry) (old new : D) (m : Moment) (script left : List ℕ) (status : ℕ) → Type 0
Outcome nor g old new m script left status = Breaks nor g old new m script status ⊎ Closes nor g old new m script left status

-- The whole script was run, of at most 16,777,216 bytes: all replies were said and nothing else, and the image's table is that of
-- the last state.
pub record RanWhole {D : Type 0} (nor : NorOf D) (g : Geometry) (old new : D) (m : Moment) (script left : List ℕ) : Type 0 where
  pub good : AllGood (lines script)
  pub none_left : left ≡ []
  pub few : length script ≤ 16777216
  pub done : List RunCall
  pub asks_are : calls script ≡ asks_of done
  pub fair : AreFair g m done
  pub said : nor.said new ≡ nor.said old ++ replies g m done
  pub table : table_of g (nor.bytes new) ≡ (after_all g m done).state.table

-- the moment at which a volume of that image stands with the lent descriptors
abbrev pub first_of : Geometry → Lengths → List ℕ → Moment
first_of g lent image = first_moment g (min 65535 lent.slots) image

-- the status is that of a refusal, or one of a script
abbrev pub BeginsAs : (refusal : Option Ending) (status : ℕ) → Type 0
BeginsAs (Some ending) status = status ≡ status_of ending
BeginsAs None status = IsOfScript status

-- A run whose images are worked on, and neither the board nor the script failed. The status is 0 for a script of at most 16,777,216 bytes of which
-- every line is in the grammar, 11 for a longer one, also where its first 16,777,216 bytes are in it and what is behind them is not, and 5 for one
-- that isn't longer with a line outside.
pub record IsComplete (script : List ℕ) (status : ℕ) : Type 0 where
  pub done : length script ≤ 16777216 → AllGood (lines script) → status ≡ 0
  pub long : 16777216 < length script → AllGood (lines script) → status ≡ 11
  pub too_long : (front : List Ask) → IsTooLong script front → status ≡ 11
  pub bad_line : length script ≤ 16777216 → (number : ℕ) → HasBad script number → status ≡ 5

-- A run mounts and checks the volume, and does the calls of the script.
pub record DoesRun {D X : Type 0} (nor : NorOf D) (source : SourceOf X) (g : Geometry) (lent : Lengths) (old new : D) (script after : X)
    (status : ℕ) : Type 0 where
  -- The replies to some first calls are said, then a closing line, whose cause stands beside it; the table is that after these calls, and a
  -- cut at any moment leaves what they may. Each is answered as the flat table is with two free blocks, but in the corner, where the table has
  -- no room for the index page that a cut of a file needs: there it may be Tight.
  pub outcome : source.tells script → nor.tells old → Outcome nor g old new (first_of g lent (nor.bytes old)) (source.left script) (source.left after) status
  -- with status 0 it was the whole script
  pub whole : source.tells script → nor.tells old → status ≡ 0 →
      RanWhole nor g old new (first_of g lent (nor.bytes old)) (source.left script) (source.left after)
  -- the status, if it isn't 7, is that of the images, where they end the run, or else one of a script ..
  pub begins : nor.tells old → status ≢ 7 → BeginsAs (begin_refusal g (nor.bytes old) (nor.bytes new)) status
  -- .. and, if it isn't 8, that of this script
  pub complete : source.tells script → nor.tells old → status ≢ 7 → status ≢ 8 →
      begin_refusal g (nor.bytes old) (nor.bytes new) ≡ None → IsComplete (source.left script) status
  -- an image that isn't taken stays, where the board fails too, and its closing line is said alone
  pub refused : nor.tells old → (ending : Ending) → check_refusal g (nor.bytes old) ≡ Some ending →
      Concludes nor old new [] ending status × WritesNone nor old new
  -- an image that the check takes and gives two free blocks has them after the check, and so has the last one, if the board didn't fail
  pub mends : nor.tells old → IsMendable g (nor.bytes old) → HasMended nor g new status
  -- whatever is told, time goes on, and the bytes behind the volume stay
  pub behind : StaysBehind nor g old new
  -- each page is read once at most
  pub reads : ReadsOnce nor g lent.cache old new
