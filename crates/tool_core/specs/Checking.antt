-- What a check leaves and says.
use Rattle.std.specs.Prelude.{ℕ, ◌≡◌, ◌+◌, ◌<◌, ◌≤◌, ◌⊎◌, List, ◌∷◌, [], ◌++◌, length, Bool, codes, decimal, nat_lt, Some, None, if◌then◌else◌}
use Rattle.geometry.specs.declared.geometry.Geometry.{Geometry}
use Rattle.nor_core.specs.declared.state.NorState.{Ghosts as NorOf}
use Rattle.nor_core.specs.Device.{Leaves}
use Rattle.image_model.specs.Tables.{table_of, damaged_of}
use Rattle.image_model.specs.Tidy.{IsTidy, HasReserve, free_blocks}
use Rattle.image_model.specs.Kinds.{spoiled_blocks}
use Rattle.image_model.specs.Killed.{killed_of}
use Rattle.image_model.specs.Collect.{chosen_block}
use Rattle.flash_view.specs.Same.{StaysBehind}
use Rattle.call_model.specs.Safe.{IsSafe, HoldsImage}
use Rattle.tool_parts.specs.declared.ending.Ending.{Ending}
use Rattle.tool_parts.specs.declared.ending.Ending.TheVariants.{BoardFault}
use Rattle.tool_parts.specs.Closing.{closing_line_of}
use Rattle.tool_parts.specs.Endings.{Speaks, Concludes, WritesNone, HasMended}
use Rattle.tool_parts.specs.Reads.{ReadsOnce}
use Rattle.tool_parts.specs.Refusals.{check_refusal, check_ending, unless_refused}
use Rattle.tool_parts.specs.Mounting.{Checks, IsMendable}

-- the line of a report: whether a block was erased, how many entries were killed, how many files were damaged, and how many blocks
-- are free
abbrev pub report_text : (erased : Bool) (killed damaged free : ℕ) → List ℕ
report_text erased killed damaged free =
    (codes "erased " ++ decimal (if erased then 1 else 0)) ++ (codes " killed " ++ decimal killed) ++ (codes " damaged " ++ decimal damaged)
    ++ (codes " free " ++ decimal free) ++ (10 ∷ [])

-- The line of a check that found one image and left another: 1 where a block lacked its magic, the kills and the damaged files of the
-- first one, and the free blocks of the last one.
abbrev pub check_text : Geometry → (was now : List ℕ) → List ℕ
check_text g was now = report_text (nat_lt 0 (spoiled_blocks g was)) (killed_of g was) (length (damaged_of g was)) (free_blocks g now)

-- what a check says before its closing line: the line of its report, where it takes the first image
abbrev pub reported_text : Geometry → (was now : List ℕ) → List ℕ
reported_text g was now = unless_refused (check_refusal g was) (check_text g was now)

-- A cut before the closing line: an image that the check may leave of the first one, and a front of its line; once a byte of that was
-- said, the last image.
pub record ReportCut {D : Type 0} (nor : NorOf D) (g : Geometry) (old new : D) (image : List ℕ) (count : ℕ) : Type 0 where
  pub leaves : Checks g (nor.bytes old) image
  pub least : length (nor.said old) ≤ count
  pub most : count ≤ length (nor.said old) + length (reported_text g (nor.bytes old) (nor.bytes new))
  pub once_said : length (nor.said old) < count → image ≡ nor.bytes new

-- An image in order: it is tidy, and two blocks are free, or no block that is worth cleaning can be cleaned.
pub record IsOrdered (g : Geometry) (image : List ℕ) : Type 0 where
  pub tidy : IsTidy g image
  pub stopped : HasReserve g image ⊎ (chosen_block g image ≡ None)

-- where the line of its report was said whole, a check left an image in order
abbrev pub IsOrderedOnceSaid : {D : Type 0} (nor : NorOf D) (g : Geometry) (old new : D) → Type 0
IsOrderedOnceSaid nor g old new = (tail : List ℕ) → nor.said new ≡ nor.said old ++ (check_text g (nor.bytes old) (nor.bytes new) ++ tail) →
    IsOrdered g (nor.bytes new)

-- before its closing line: it said the line of its report
pub record ChecksTo {D : Type 0} (nor : NorOf D) (g : Geometry) (old new : D) (result : Ending) : Type 0 where
  pub cuts : Leaves nor old new (λ image count. nor.tells old → ReportCut nor g old new image count)
  pub speaks : nor.tells old → Speaks nor old new (reported_text g (nor.bytes old) (nor.bytes new)) (check_ending g (nor.bytes old) (nor.bytes new)) result
  pub kept : nor.tells old → (ending : Ending) → check_refusal g (nor.bytes old) ≡ Some ending → WritesNone nor old new
  pub idle : nor.tells old → IsTidy g (nor.bytes old) → HasReserve g (nor.bytes old) → WritesNone nor old new
  pub leaves : nor.tells old → Checks g (nor.bytes old) (nor.bytes new)
  pub ordered : nor.tells old → IsOrderedOnceSaid nor g old new
  pub mends : nor.tells old → IsMendable g (nor.bytes old) → (result ≡ BoardFault) ⊎ HasReserve g (nor.bytes new)

-- What a cut in a check leaves: an image with the table of the first one, which it may follow, and a front of what the check says;
-- once a byte of it was said, the last image.
pub record CheckCut {D : Type 0} (nor : NorOf D) (g : Geometry) (old new : D) (image : List ℕ) (count : ℕ) : Type 0 where
  pub table : table_of g image ≡ table_of g (nor.bytes old)
  pub safe : IsSafe g (nor.bytes old) image
  pub least : length (nor.said old) ≤ count
  pub most : count
      ≤ length (nor.said old) + length (reported_text g (nor.bytes old) (nor.bytes new) ++ closing_line_of (check_ending g (nor.bytes old) (nor.bytes new)))
  pub once_said : length (nor.said old) < count → image ≡ nor.bytes new

-- A check leaves the files of the image that it finds, brings that into order, and says a report and a closing line.
pub record DoesCheck {D : Type 0} (nor : NorOf D) (g : Geometry) (cache : ℕ) (old new : D) (status : ℕ) : Type 0 where
  -- the report and the closing line of the two images are said
  pub told : nor.tells old → Concludes nor old new (reported_text g (nor.bytes old) (nor.bytes new)) (check_ending g (nor.bytes old) (nor.bytes new)) status
  -- the last image has the table of the first one, which it may follow
  pub table : nor.tells old → table_of g (nor.bytes new) ≡ table_of g (nor.bytes old)
  pub holds : nor.tells old → HoldsImage g (nor.bytes old) (nor.bytes new)
  -- it is in order, once the report was said
  pub ordered : nor.tells old → IsOrderedOnceSaid nor g old new
  -- it has two free blocks where the check takes the first one and leaves it two, if the board didn't fail
  pub mends : nor.tells old → IsMendable g (nor.bytes old) → HasMended nor g new status
  -- an image that isn't taken stays, where the board fails too
  pub kept : nor.tells old → (ending : Ending) → check_refusal g (nor.bytes old) ≡ Some ending → WritesNone nor old new
  -- a tidy image with two free blocks is only read
  pub idle : nor.tells old → IsTidy g (nor.bytes old) → HasReserve g (nor.bytes old) → WritesNone nor old new
  -- what a cut at any moment leaves
  pub cuts : Leaves nor old new (λ image count. nor.tells old → CheckCut nor g old new image count)
  -- the bytes behind the volume stay
  pub behind : StaysBehind nor g old new
  -- each page is read once at most
  pub reads : ReadsOnce nor g cache old new
