-- How a copy ends.
use Rattle.std.specs.Prelude.{◌≡◌, ◌<◌, ◌+◌, ℕ, List, length, Bool, true, false, ◌==◌, Some, None, Result, Ok, Err}
use Rattle.geometry.specs.declared.geometry.Geometry.{Geometry}
use Rattle.nor_core.specs.declared.state.NorState.{Ghosts as NorOf}
use Rattle.nor_core.specs.Device.{Changes, OnlyReads}
use Rattle.table_model.specs.Table.{File}
use Rattle.table_model.specs.Room.{has_room}
use Rattle.image_model.specs.Tables.{table_of}
use Rattle.call_model.specs.Safe.{IsSafe}
use Rattle.call_model.specs.Closed.{with_files}
use Rattle.vol_mount.specs.declared.reader.Reader.{Reader}
use Rattle.volume.specs.declared.volume.Volume.{Volume}
use Rattle.copy_model.specs.Copying.{working, without_name, copied, kept_count}
use Rattle.copy_model.specs.Under.{IsUnder, IsCopied, IsPart, IsAllThere}
use Rattle.volume_run.specs.Resting.{IsAtRest}
use Rattle.copy_model.specs.declared.err.Copied.{Copied}
use Rattle.copy_model.specs.declared.err.CopyErr.{CopyErr}
use Rattle.copy_model.specs.declared.err.CopyErr.TheVariants.{BadName, Full, FromFault, ToFault, Damaged, Refused}
use Rattle.copy_model.specs.Stops.{copy_stop}

-- a reader's device tells these records
abbrev pub TellsFiles : {N : Type 0} (nor : NorOf N) → Reader N nor → List File → Type 0
TellsFiles nor r source = nor.tells r.nor.now × (table_of r.geometry (nor.bytes r.nor.now) ≡ source)

-- both volumes have as many meta bytes
abbrev pub alike_of : Geometry → Geometry → Bool
alike_of gf g = gf.meta == g.meta

module _ {M : Type 0} {nor : NorOf M} where
  -- A cut leaves a target that may follow the one before, and where the source tells its records, what a copy of these may leave.
  abbrev pub CutsCopy : (told : List File → Type 0) (alike : Bool) (old new : Volume M nor) → Type 0
  CutsCopy told alike old new =
      Changes nor old.nor.now new.nor.now (λ was image. (g : Geometry) (slots : ℕ) (first : List File) → 0 < slots → IsAtRest g old (with_files slots first) →
      IsSafe g was image × ((source : List File) → told source → IsUnder alike source first (table_of g image)))

  module _ (alike : Bool) (source first : List File) (g : Geometry) (slots : ℕ) (old new : Volume M nor) where
    -- It is done, as on the flat tables.
    pub record IsDone (c : Copied) : Type 0 where
      pub none : copy_stop g alike source first ≡ None
      pub rest : IsAtRest g new (with_files slots (copied g alike source (without_name working first)))
      pub is_copied : IsCopied alike source first (copied g alike source (without_name working first))
      pub kept_is : c.kept ≡ kept_count alike source first
      pub copied_is : c.copied + c.kept ≡ length source

    -- It stopped for want of room, and the target is at rest. If it had room at first, the records before have their copies, and no file has the
    -- working name; else all is as before.
    pub record IsFull (why : CopyErr) : Type 0 where
      pub stops : copy_stop g alike source first ≡ Some why
      pub left : List File
      pub rest : IsAtRest g new (with_files slots left)
      pub part : has_room g first ≡ true → IsPart alike source first left
      pub same : has_room g first ≡ false → left ≡ first

    -- how a copy ends on devices that tell
    abbrev pub Ends : Result Copied CopyErr → Type 0
    Ends (Ok c) = IsDone c
    Ends (Err (BadName at)) = (copy_stop g alike source first ≡ Some (BadName at)) × OnlyReads nor old.nor.now new.nor.now
    Ends (Err (Full index pages)) = IsFull (Full index pages)
    Ends (Err FromFault) = Unit {0}
    Ends (Err ToFault) = Unit {0}
    Ends (Err (Damaged d)) = ⊥
    Ends (Err Refused) = ⊥

  -- Of a target at rest whose descriptors are closed; and one that has all already is only read, where a device fails too.
  pub record EndsFrom (alike : Bool) (source : List File) (old new : Volume M nor) (result : Result Copied CopyErr) : Type 0 where
    pub ends : (g : Geometry) (slots : ℕ) (first : List File) → 0 < slots → IsAtRest g old (with_files slots first) →
        Ends alike source first g slots old new result
    pub idle : (g : Geometry) (slots : ℕ) (first : List File) → 0 < slots → IsAtRest g old (with_files slots first) → IsAllThere alike source first →
        OnlyReads nor old.nor.now new.nor.now
