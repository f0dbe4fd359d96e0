-- What a copy leaves and answers.
use Rattle.std.specs.Prelude.{ℕ, ◌≡◌, ◌<◌, ◌≤◌, ◌⊎◌, List, [], length, true, false, Some, None}
use Rattle.geometry.specs.declared.geometry.Geometry.{Geometry}
use Rattle.nor_core.specs.declared.state.NorState.{Ghosts as NorOf}
use Rattle.nor_core.specs.Count.{Rose}
use Rattle.nor_core.specs.Device.{Leaves}
use Rattle.table_model.specs.Room.{has_room}
use Rattle.image_model.specs.Tables.{table_of}
use Rattle.image_model.specs.Tidy.{IsTidy, HasReserve}
use Rattle.image_model.specs.Collect.{chosen_block}
use Rattle.call_model.specs.Safe.{IsSafe, ComesBack}
use Rattle.flash_view.specs.Same.{StaysBehind}
use Rattle.copy_model.specs.Copying.{working, without_name, copied}
use Rattle.copy_model.specs.Under.{IsUnder, IsCopied, IsPart, IsAllThere}
use Rattle.vol_copy.specs.Ends.{alike_of}
use Rattle.tool_parts.specs.declared.ending.Ending.{Ending}
use Rattle.tool_parts.specs.declared.ending.Ending.TheVariants.{SourceChipFault}
use Rattle.tool_parts.specs.Endings.{Concludes, WritesNone}
use Rattle.tool_parts.specs.Reads.{ReadsOnce}
use Rattle.tool_parts.specs.Refusals.{mount_refusal, check_refusal}
use Rattle.copy_tool.specs.Endings.{copy_ending, copy_text}

-- Each name of the target's table has what it may have while the source's files are copied onto it.
abbrev pub KeepsNames : (gf g : Geometry) (source was now : List ℕ) → Type 0
KeepsNames gf g source was now = IsUnder (alike_of gf g) (table_of gf source) (table_of g was) (table_of g now)

-- The target has a copy of each of the source's files, as the flat tables have it, and is tidy with two free blocks.
pub record HasCopies (gf g : Geometry) (source was now : List ℕ) : Type 0 where
  pub table : table_of g now ≡ copied g (alike_of gf g) (table_of gf source) (without_name working (table_of g was))
  pub each : IsCopied (alike_of gf g) (table_of gf source) (table_of g was) (table_of g now)
  pub tidy : IsTidy g now
  pub reserve : HasReserve g now

-- It has no room for the next step: it is tidy with two free blocks. If it had room at first, the files of the source before the next have their
-- copies, all others are as before, and no file has the working name; else each file is as before.
pub record IsFull (gf g : Geometry) (source was now : List ℕ) : Type 0 where
  pub part : has_room g (table_of g was) ≡ true → IsPart (alike_of gf g) (table_of gf source) (table_of g was) (table_of g now)
  pub same : has_room g (table_of g was) ≡ false → table_of g now ≡ table_of g was
  pub tidy : IsTidy g now
  pub reserve : HasReserve g now

-- A file of the source has the working name: the target is tidy with its files and two free blocks.
pub record IsKept (g : Geometry) (was now : List ℕ) : Type 0 where
  pub table : table_of g now ≡ table_of g was
  pub tidy : IsTidy g now
  pub reserve : HasReserve g now

-- A check left fewer than two free blocks: each file is as before, no block that is worth cleaning can be cleaned, and the first image isn't one
-- that an uncut check gives two free blocks.
pub record IsStuck (g : Geometry) (was now : List ℕ) : Type 0 where
  pub table : table_of g now ≡ table_of g was
  pub stuck : chosen_block g now ≡ None
  pub recovers_not : ComesBack g was → ⊥

-- what a copy leaves, by its status
pub record LeavesBy (gf g : Geometry) (source was now : List ℕ) (status : ℕ) : Type 0 where
  pub done : (status ≡ 0) ⊎ (status ≡ 12) → HasCopies gf g source was now
  pub full : status ≡ 6 → IsFull gf g source was now
  pub named : status ≡ 13 → IsKept g was now
  pub tight : status ≡ 14 → IsStuck g was now

-- What stands, or a cut leaves, may follow the first image; where the source tells its files, each name has what it may have.
pub record CopyLeaves {S : Type 0} (from : NorOf S) (gf g : Geometry) (source : S) (was image : List ℕ) : Type 0 where
  pub safe : IsSafe g was image
  pub names : from.tells source → KeepsNames gf g (from.bytes source) was image

-- A cut in a copy: such an image; once a byte was said, the last one.
pub record CopyCut {S D : Type 0} (from : NorOf S) (nor : NorOf D) (gf g : Geometry) (source : S) (old new : D) (image : List ℕ) (count : ℕ) : Type 0 where
  pub leaves : CopyLeaves from gf g source (nor.bytes old) image
  pub least : length (nor.said old) ≤ count
  pub once_said : length (nor.said old) < count → image ≡ nor.bytes new

-- The target has all already: each file of the source has its copy, no file has the working name, it is tidy, and two blocks are free.
pub record HasAll (gf g : Geometry) (source was : List ℕ) : Type 0 where
  pub all : IsAllThere (alike_of gf g) (table_of gf source) (table_of g was)
  pub tidy : IsTidy g was
  pub reserve : HasReserve g was

-- the source's device failed, and only that is said
pub record EndsUnread {S D : Type 0} (from : NorOf S) (nor : NorOf D) (source after : S) (old new : D) (status : ℕ) : Type 0 where
  pub concludes : Concludes nor old new [] SourceChipFault status
  pub cause : Rose (from.faults source) (from.faults after)

-- A copy checks the target, and puts the files of the source onto it, one after the other, each under a working name until it is whole.
pub record DoesCopy {S D : Type 0} (from : NorOf S) (nor : NorOf D) (gf g : Geometry) (source_cache cache : ℕ) (source after : S) (old new : D)
    (status : ℕ) : Type 0 where
  -- the summary and the closing line of the images are said, or a front of these, and 7, where a fault of the target rose; or the source failed
  pub told : from.tells source → nor.tells old → Concludes nor old new (copy_text gf g (from.bytes source) (nor.bytes old) (nor.bytes new))
      (copy_ending gf g (from.bytes source) (nor.bytes old) (nor.bytes new)) status ⊎ EndsUnread from nor source after old new status
  -- with status 0 or 12 each file of the source has its copy; what 6, 13 and 14 leave
  pub leaves : from.tells source → nor.tells old → LeavesBy gf g (from.bytes source) (nor.bytes old) (nor.bytes new) status
  -- whatever the status, the last image may follow the first one, and each name has what it may have
  pub left : nor.tells old → CopyLeaves from gf g source (nor.bytes old) (nor.bytes new)
  -- so has what a cut at any moment leaves
  pub cuts : Leaves nor old new (λ image count. nor.tells old → CopyCut from nor gf g source old new image count)
  -- a target that has all already is only read, where a device fails too
  pub idle : from.tells source → nor.tells old → HasAll gf g (from.bytes source) (nor.bytes old) → WritesNone nor old new
  -- a target that mounting and the check don't take stays, whatever is known of the source, where a device fails too
  pub kept : nor.tells old → (ending : Ending) → check_refusal g (nor.bytes old) ≡ Some ending → WritesNone nor old new
  -- so does every target of a source that isn't mounted
  pub unmounted : from.tells source → (ending : Ending) → mount_refusal gf (from.bytes source) ≡ Some ending → WritesNone nor old new
  -- the bytes behind the volume stay
  pub behind : StaysBehind nor g old new
  -- each page of either volume is read once at most
  pub source_reads : ReadsOnce from gf source_cache source after
  pub reads : ReadsOnce nor g cache old new
