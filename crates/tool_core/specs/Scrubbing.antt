-- What a scrub leaves and says.
use Rattle.std.specs.Prelude.{ℕ, zero, suc, ◌≡◌, ◌≢◌, ◌+◌, ◌<◌, ◌≤◌, ◌⊎◌, List, ◌∷◌, [], ◌++◌, length, Bool, true, false, ◌==◌, if◌then◌else◌, codes, decimal, Option, Some, None, unwrap_or}
use Rattle.std.specs.Prelude.{Result, OnOk, MatchResult}
use Rattle.geometry.specs.declared.geometry.Geometry.{Geometry}
use Rattle.nor_core.specs.declared.state.NorState.{Ghosts as NorOf}
use Rattle.nor_core.specs.Device.{Leaves, Changes, InSay, Says}
use Rattle.image_model.specs.Tables.{table_of}
use Rattle.image_model.specs.Tidy.{IsTidy, HasReserve, free_blocks}
use Rattle.flash_view.specs.Same.{StaysBehind}
use Rattle.call_model.specs.Memory.{Memory}
use Rattle.call_model.specs.Safe.{IsSafe, HoldsImage}
use Rattle.wear_scrub.specs.declared.scrubs.Scrub.{Scrub}
use Rattle.wear_scrub.specs.declared.scrubs.Scrub.TheVariants.{NoRoom, Rested, Moved}
use Rattle.wear_scrub.specs.Scrubs.{ScrubDone}
use Rattle.tool_parts.specs.declared.ending.Ending.{Ending}
use Rattle.tool_parts.specs.declared.ending.Ending.TheVariants.{Done, BoardFault}
use Rattle.tool_core.specs.declared.scrubbing.Steps.{Steps}
use Rattle.tool_core.specs.declared.scrubbing.Tally.{Tally}
use Rattle.tool_parts.specs.Closing.{status_of, closing_line_of}
use Rattle.tool_parts.specs.Endings.{Speaks, Concludes, WritesNone, HasMended}
use Rattle.tool_parts.specs.Mounting.{IsMendable}
use Rattle.tool_parts.specs.Begins.{CheckLeaves, closed_memory}
use Rattle.tool_parts.specs.Reads.{ReadsOnce}
use Rattle.tool_parts.specs.Refusals.{check_refusal, begin_refusal, unless_refused}

-- why a step moved no block, as a line: no block is old enough, or none that is may be moved
abbrev pub why_text : Option Scrub → List ℕ
why_text None = []
why_text (Some Rested) = codes "level" ++ (10 ∷ [])
why_text (Some (NoRoom free)) = codes "no room" ++ (10 ∷ [])
why_text (Some (Moved block age)) = []

-- the line of a scrub: how many steps moved a block, and how many blocks are free; and where none did, why the last one moved none
abbrev pub scrub_text : (moved free : ℕ) → (last : Option Scrub) → List ℕ
scrub_text moved free last = (codes "moved " ++ decimal moved) ++ (codes " free " ++ decimal free) ++ (10 ∷ []) ++ (if moved == 0 then why_text last else [])

-- what a scrub says before its closing line: that, where its images don't end it
abbrev pub moved_text : Geometry → (was now : List ℕ) → (moved : ℕ) → (last : Option Scrub) → List ℕ
moved_text g was now moved last = unless_refused (begin_refusal g was now) (scrub_text moved (free_blocks g now) last)

-- how a scrub ends that found one image and left another
abbrev pub scrub_ending : Geometry → (was now : List ℕ) → Ending
scrub_ending g was now = unwrap_or (begin_refusal g was now) Done

-- ---- the steps

-- the step moved a block, or none
abbrev pub has_moved : Scrub → Bool
has_moved (Moved block age) = true
has_moved _ = false

-- That scrub step was done from one image to another, by the counts of programs and erases before and after.
pub record IsStep (g : Geometry) (limit : ℕ) (was now : List ℕ) (scrub : Scrub) : Type 0 where
  pub before : ℕ
  pub after : ℕ
  pub done : ScrubDone g limit before after was now scrub

-- one that moved a block
pub record HasMoved (g : Geometry) (limit : ℕ) (was now : List ℕ) : Type 0 where
  pub scrub : Scrub
  pub is : has_moved scrub ≡ true
  pub step : IsStep g limit was now scrub

-- Each of so many steps moved a block, the last one behind the others.
unfoldable pub EachMoved : Geometry → (limit : ℕ) → (moved : ℕ) → (was now : List ℕ) → Type 0
EachMoved g limit zero was now = now ≡ was
EachMoved g limit (suc moved) was now = (mid : List ℕ) × EachMoved g limit moved was mid × HasMoved g limit mid now

-- So many steps moved blocks: the image is tidy with its table and follows the first one.
pub record StepsMade (g : Geometry) (limit moved : ℕ) (was now : List ℕ) : Type 0 where
  pub tidy : IsTidy g now
  pub table : table_of g now ≡ table_of g was
  pub holds : HoldsImage g was now
  pub each : EachMoved g limit moved was now

-- A step was made of a tidy image: it is tidy with its table, and follows it.
pub record IsStepDone (g : Geometry) (limit : ℕ) (was now : List ℕ) (scrub : Scrub) : Type 0 where
  pub tidy : IsTidy g now
  pub table : table_of g now ≡ table_of g was
  pub holds : HoldsImage g was now
  pub step : IsStep g limit was now scrub

-- as many steps were made as there are blocks, or one more that moved none
abbrev pub Stops : Geometry → (limit moved : ℕ) → (mid now : List ℕ) → Option Scrub → Type 0
Stops g limit moved mid now None = (moved ≡ g.blocks) × (now ≡ mid)
Stops g limit moved mid now (Some scrub) = (has_moved scrub ≡ false) × IsStep g limit mid now scrub

-- So many steps of an image moved blocks, and then no more were made. The image is tidy with its table and two free blocks, and follows the first.
pub record Scrubbed (g : Geometry) (limit : ℕ) (was now : List ℕ) (moved : ℕ) (last : Option Scrub) : Type 0 where
  pub mid : List ℕ
  pub made : StepsMade g limit moved was mid
  pub few : moved ≤ g.blocks
  pub stops : Stops g limit moved mid now last
  pub tidy : IsTidy g now
  pub table : table_of g now ≡ table_of g was
  pub holds : HoldsImage g was now
  pub reserve : HasReserve g now

-- the same
abbrev pub AreSteps : Geometry → (limit : ℕ) → (was now : List ℕ) → Steps → Type 0
AreSteps g limit was now steps = Scrubbed g limit was now steps.moved steps.last

-- .. and so many blocks are free
pub record IsTally (g : Geometry) (limit : ℕ) (was now : List ℕ) (tally : Tally) : Type 0 where
  pub scrubbed : Scrubbed g limit was now tally.moved tally.last
  pub free : tally.free ≡ free_blocks g now

-- a cut in steps from a tidy image with its reserve leaves its files, and what may follow it
abbrev pub KeepsFiles : Geometry → (was image : List ℕ) → Type 0
KeepsFiles g was image = IsTidy g was → HasReserve g was → IsSafe g was image × (table_of g image ≡ table_of g was)

-- Steps on a volume whose descriptors are closed: a cut keeps the files, and it is done, or the board failed. `now` is what the volume remembers
-- then.
pub record Makes {D T : Type 0} (nor : NorOf D) (g : Geometry) (slots : ℕ) (old new : D) (now : Memory) (result : Result T Ending)
    (Is : List ℕ → List ℕ → T → Type 0) : Type 0 where
  pub memory : OnOk result (now ≡ closed_memory slots)
  pub changes : Changes nor old new (KeepsFiles g)
  pub done : nor.tells old → IsTidy g (nor.bytes old) → HasReserve g (nor.bytes old) →
      MatchResult result (Is (nor.bytes old) (nor.bytes new)) (λ ending. ending ≡ BoardFault)

-- ---- with the check before them, and what is said

-- A cut before all of a text was said: an image that may follow the first one, with its table, and a front of that text; once a byte of it was
-- said, the last image.
pub record ScrubCut {D : Type 0} (nor : NorOf D) (g : Geometry) (old new : D) (text : List ℕ) (image : List ℕ) (count : ℕ) : Type 0 where
  pub table : table_of g image ≡ table_of g (nor.bytes old)
  pub safe : IsSafe g (nor.bytes old) image
  pub least : length (nor.said old) ≤ count
  pub most : count ≤ length (nor.said old) + length text
  pub once_said : length (nor.said old) < count → image ≡ nor.bytes new

-- The steps on a checked volume were made, and their line was said, or the board failed there.
pub record SaysScrub {D : Type 0} (nor : NorOf D) (g : Geometry) (limit : ℕ) (old new : D) (result : Ending) : Type 0 where
  pub moved : ℕ
  pub last : Option Scrub
  pub free : ℕ
  pub mid : D
  pub changes : Changes nor old mid (KeepsFiles g)
  pub made : nor.tells old → IsTidy g (nor.bytes old) → HasReserve g (nor.bytes old) →
      Scrubbed g limit (nor.bytes old) (nor.bytes mid) moved last × (free ≡ free_blocks g (nor.bytes mid))
  pub says : Says nor mid new (scrub_text moved free last)
  pub cuts : Leaves nor mid new (InSay nor mid (scrub_text moved free last))
  pub ends : (result ≡ BoardFault) ⊎ ((result ≡ Done) × (nor.tells mid → nor.said new ≡ nor.said mid ++ scrub_text moved free last))

-- the board failed in the steps, and nothing was said
pub record StopsScrub {D : Type 0} (nor : NorOf D) (g : Geometry) (old new : D) (result : Ending) : Type 0 where
  pub changes : Changes nor old new (KeepsFiles g)
  pub fault : nor.tells old → IsTidy g (nor.bytes old) → HasReserve g (nor.bytes old) → result ≡ BoardFault

-- either of these
abbrev pub ScrubEnds : {D : Type 0} (nor : NorOf D) (g : Geometry) (limit : ℕ) (old new : D) (result : Ending) → Type 0
ScrubEnds nor g limit old new result = StopsScrub nor g old new result ⊎ SaysScrub nor g limit old new result

-- so many steps were made of the image that the check left of the first one
pub record ScrubbedAfter (g : Geometry) (limit moved : ℕ) (last : Option Scrub) (was now : List ℕ) : Type 0 where
  pub checked : List ℕ
  pub check : CheckLeaves g was checked
  pub scrubbed : Scrubbed g limit checked now moved last

-- before its closing line: it said its line, the board failed, or the images ended it
pub record ScrubsTo {D : Type 0} (nor : NorOf D) (g : Geometry) (limit : ℕ) (old new : D) (result : Ending) : Type 0 where
  pub moved : ℕ
  pub last : Option Scrub
  pub cuts : Leaves nor old new (λ image count. nor.tells old → ScrubCut nor g old new (moved_text g (nor.bytes old) (nor.bytes new) moved last) image count)
  pub speaks : nor.tells old → Speaks nor old new (moved_text g (nor.bytes old) (nor.bytes new) moved last) (scrub_ending g (nor.bytes old) (nor.bytes new)) result
  pub done : nor.tells old → result ≡ Done → ScrubbedAfter g limit moved last (nor.bytes old) (nor.bytes new)
  pub table : nor.tells old → table_of g (nor.bytes new) ≡ table_of g (nor.bytes old)
  pub safe : nor.tells old → IsSafe g (nor.bytes old) (nor.bytes new)
  pub holds : nor.tells old → (result ≡ BoardFault) ⊎ HoldsImage g (nor.bytes old) (nor.bytes new)
  pub mends : nor.tells old → IsMendable g (nor.bytes old) → (result ≡ BoardFault) ⊎ (HasReserve g (nor.bytes new) × (status_of result ≢ 14))
  pub kept : nor.tells old → (ending : Ending) → check_refusal g (nor.bytes old) ≡ Some ending → WritesNone nor old new

-- A scrub checks the volume, moves the least worn blocks that hold files while they are so much less worn than the free ones, and says how many
-- it moved and how many blocks are free then, and if it moved none why not. `moved` is how many steps moved one, and `last` a step after them that
-- moved none.
pub record DoesScrub {D : Type 0} (nor : NorOf D) (g : Geometry) (cache limit : ℕ) (old new : D) (status : ℕ) : Type 0 where
  pub moved : ℕ
  pub last : Option Scrub
  -- the line of the steps is said, where the images don't end the command, or its closing line
  pub told : nor.tells old → Concludes nor old new (moved_text g (nor.bytes old) (nor.bytes new) moved last) (scrub_ending g (nor.bytes old) (nor.bytes new)) status
  -- with status 0 the volume was checked, and so many steps were made, and then no more
  pub done : nor.tells old → status ≡ 0 → ScrubbedAfter g limit moved last (nor.bytes old) (nor.bytes new)
  -- the last image has the table of the first one; it may be left by a cut in it, and where the board didn't fail it follows it
  pub table : nor.tells old → table_of g (nor.bytes new) ≡ table_of g (nor.bytes old)
  pub safe : nor.tells old → IsSafe g (nor.bytes old) (nor.bytes new)
  pub holds : nor.tells old → status ≢ 7 → HoldsImage g (nor.bytes old) (nor.bytes new)
  -- it has two free blocks where the check takes the first one and leaves it two, if the board didn't fail
  pub mends : nor.tells old → IsMendable g (nor.bytes old) → HasMended nor g new status
  -- an image that isn't taken stays, where the board fails too
  pub kept : nor.tells old → (ending : Ending) → check_refusal g (nor.bytes old) ≡ Some ending → WritesNone nor old new
  -- what a cut at any moment leaves
  pub cuts : Leaves nor old new (λ image count. nor.tells old →
      ScrubCut nor g old new
      (moved_text g (nor.bytes old) (nor.bytes new) moved last ++ closing_line_of (scrub_ending g (nor.bytes old) (nor.bytes new))) image count)
  -- the bytes behind the volume stay
  pub behind : StaysBehind nor g old new
  -- each page is read once at most
  pub reads : ReadsOnce nor g cache old new
