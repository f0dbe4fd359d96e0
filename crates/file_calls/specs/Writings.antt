-- Files that get bytes.
use Rattle.std.specs.Prelude.{◌≡◌, ◌⊎◌, ℕ, ◌+◌, ◌%◌, ◌<◌, ◌≤◌, List, ◌∷◌, length, Bool, true, false, Some, Result, IsErr, IsErrOf, IfErr, OnOk, MatchResult}
use Rattle.nor_core.specs.declared.state.NorState.{Ghosts as NorOf}
use Rattle.nor_core.specs.Count.{Rose}
use Rattle.nor_core.specs.Device.{Changes, OnlyReads}
use Rattle.table_model.specs.declared.error.FsErr.{FsErr}
use Rattle.table_model.specs.declared.error.FsErr.TheVariants.{DeviceFault}
use Rattle.geometry.specs.declared.geometry.Geometry.{Geometry}
use Rattle.geometry.specs.Numbers.{body}
use Rattle.table_model.specs.Table.{File, file_of, has_id, put_file}
use Rattle.table_model.specs.Files.{written}
use Rattle.table_model.specs.Room.{has_room}
use Rattle.table_model.specs.Steps.{file_steps}
use Rattle.table_model.specs.Window.{IsAmong}
use Rattle.image_model.specs.Tables.{table_of}
use Rattle.image_model.specs.Tidy.{IsTidy, HasReserve}
use Rattle.image_model.specs.Sound.{IsSound}
use Rattle.room_laws.specs.Recovery.{Recovers}
use Rattle.renew_laws.specs.Tails.{IsTailReady}
use Rattle.file_write.specs.Appends.{append_room}
use Rattle.trim_laws.specs.Upkeep.{Upkeep}
use Rattle.flash_view.specs.Steps.{Step}
use Rattle.file_calls.specs.Cuts.{JobCut}
use Rattle.file_calls.specs.Collecting.{CanTakePages, MayStop}
use Rattle.file_calls.specs.Cleans.{CleansInTurns, NeedsNoTail, part_count}

-- Bytes can be written: the image is tidy with its reserve, its table has this file under the id, they are some and begin inside it or at
-- its end, and the table after them has room.
pub record CanWrite (g : Geometry) (image : List ℕ) (id at : ℕ) (bytes : List ℕ) (f : File) : Type 0 where
  pub tidy : IsTidy g image
  pub reserve : HasReserve g image
  pub there : file_of id (table_of g image) ≡ Some f
  pub some : 0 < length bytes
  pub from : at ≤ length f.bytes
  pub room : has_room g (put_file (written at bytes f) (table_of g image)) ≡ true

-- They are one part of a write: they end in the data page in which they begin, inside the file, or they begin at its end and one page step adds them.
-- Where the tail is known to be ready, it is.
pub record CanWritePart (g : Geometry) (image : List ℕ) (id : ℕ) (known : Bool) (at : ℕ) (bytes : List ℕ) (f : File) : Type 0 where
  pub can : CanWrite g image id at bytes f
  pub inside : ((at + length bytes ≤ length f.bytes) × (at % body g + length bytes ≤ body g)) ⊎ ((at ≡ length f.bytes) × (length bytes ≤ append_room g at))
  pub ready : known ≡ true → IsTailReady g image id

-- What is left done: a tidy image with its reserve, and a table.
pub record JobDone (g : Geometry) (after : List File) (now : List ℕ) : Type 0 where
  pub tidy : IsTidy g now
  pub table : table_of g now ≡ after
  pub reserve : HasReserve g now

-- What a cut in a write may leave: a sound image with the table before it or that of a step of the write; where two blocks were free it
-- recovers.
pub record WriteCut (g : Geometry) (at : ℕ) (bytes : List ℕ) (f : File) (was image : List ℕ) : Type 0 where
  pub sound : IsSound g image was
  pub table : IsAmong (table_of g image) (table_of g was ∷ file_steps g at bytes f (table_of g was))
  pub mends : HasReserve g was → Recovers g image

-- What a write leaves done: a tidy image with its reserve, and the bytes in the table. The tail of the file is ready where the write ends behind the
-- old end, and where it was ready.
pub record WriteDone (g : Geometry) (id at : ℕ) (bytes : List ℕ) (f : File) (was now : List ℕ) : Type 0 where
  pub tidy : IsTidy g now
  pub table : table_of g now ≡ put_file (written at bytes f) (table_of g was)
  pub reserve : HasReserve g now
  pub ready : length f.bytes < at + length bytes → IsTailReady g now id
  pub kept : IsTailReady g was id → IsTailReady g now id

-- ---- the steps: one part of a write, at the place `at` of the file of an id, and a whole write

abbrev pub writing_part : (id : ℕ) → Bool → (at : ℕ) → List ℕ → File → Step (Unit {0})
writing_part id known at bytes f = record {
  needs = λ g was. CanWritePart g was id known at bytes f;
  cut = λ g was image. JobCut g (put_file (written at bytes f) (table_of g was)) was image;
  done = λ g was now ok. WriteDone g id at bytes f was now;
}

abbrev pub writing : (id at : ℕ) → List ℕ → File → Step (Unit {0})
writing id at bytes f = record {
  needs = λ g was. CanWrite g was id at bytes f;
  cut = λ g was image. WriteCut g at bytes f was image;
  done = λ g was now ok. WriteDone g id at bytes f was now;
}

-- the tail of a file is ready, of an image that is tidy with its reserve, and has room for two pages
pub record CanHaveTail (g : Geometry) (image : List ℕ) (id : ℕ) : Type 0 where
  pub can : CanTakePages g 1 1 image
  pub there : has_id id (table_of g image) ≡ true

pub record HasTail (g : Geometry) (id : ℕ) (was now : List ℕ) : Type 0 where
  pub done : JobDone g (table_of g was) now
  pub ready : IsTailReady g now id

-- The same where it may be known to be ready: then it is.
pub record CanNeedTail (g : Geometry) (image : List ℕ) (id : ℕ) (known : Bool) : Type 0 where
  pub can : CanHaveTail g image id
  pub ready : known ≡ true → IsTailReady g image id

abbrev pub needing_tail : (id : ℕ) → Bool → Step (Unit {0})
needing_tail id known = record {
  needs = λ g was. CanNeedTail g was id known;
  cut = λ g was image. JobCut g (table_of g was) was image;
  done = λ g was now ok. HasTail g id was now;
}

abbrev pub having_tail : (id : ℕ) → Step (Unit {0})
having_tail id =
    record { needs = λ g was. CanHaveTail g was id; cut = λ g was image. JobCut g (table_of g was) was image; done = λ g was now ok. HasTail g id was now }

-- What a write does to a device, as a step of it. `stood` and `stands` say whether the table of block counts stands before and after it.
pub record WritesOn {D : Type 0} (nor : NorOf D) (g : Geometry) (id at : ℕ) (bytes : List ℕ) (f : File) (old new : D) (wrote stood stands : Bool)
    (result : Result (Unit {0}) FsErr) : Type 0 where
  pub untouched : wrote ≡ false → OnlyReads nor old new
  pub cause : IsErrOf result DeviceFault → Rose (nor.faults old) (nor.faults new)
  pub means : IfErr result MayStop
  pub cuts : Changes nor old new (λ was image. CanWrite g was id at bytes f → WriteCut g at bytes f was image)
  pub upkeep : Changes nor old new (λ was image. CanWrite g was id at bytes f → Upkeep g was image)
  pub counted : nor.tells old → CanWrite g (nor.bytes old) id at bytes f → stood ≡ true → OnOk result (stands ≡ true)
  pub ends : nor.tells old → CanWrite g (nor.bytes old) id at bytes f →
      MatchResult result (λ ok. WriteDone g id at bytes f (nor.bytes old) (nor.bytes new)) (λ why. why ≡ DeviceFault)
  pub turns : nor.tells old → CanWrite g (nor.bytes old) id at bytes f →
      CleansInTurns nor g (NeedsNoTail id (length f.bytes) (at + length bytes) g (nor.bytes old)) (part_count g (length f.bytes) at (length bytes)) old new
      (IsErr result)
