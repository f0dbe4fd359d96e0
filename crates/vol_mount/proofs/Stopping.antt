-- The error of a read of a file, handed on as that of a call.
use Rattle.std.specs.Prelude.{◌≡◌, ℕ, List, Result, Ok, Err, IsErrAnd}
use Rattle.geometry.specs.declared.geometry.Geometry.{Geometry}
use Rattle.table_model.specs.declared.error.FsErr.{FsErr}
use Rattle.flash_view.specs.declared.kinds.StepErr.{StepErr}
use Rattle.flash_view.specs.declared.kinds.StepErr.TheVariants.{DeviceFault, Damaged}
use Rattle.flash_view.specs.Steps.{as_fs_err}
use Rattle.file_read.specs.Missing.{HoldsOrFault}
use Rattle.vol_mount.specs.Reads.{ReadAnswers}

-- it answers a read of an id where the read of the file was right
pub read_stops : (g : Geometry) (image : List ℕ) (id at : ℕ) (old new : List ℕ) (P : ℕ → Type 0) (e : StepErr) (r : Result ℕ FsErr) → IsErrAnd r (λ why. why ≡ as_fs_err e) → HoldsOrFault {T = ℕ} (Err e) P → ReadAnswers g image id at old new r
read_stops g image id at old new P e (Ok x) same told = absurd same
read_stops g image id at old new P DeviceFault (Err why) same told = rw same tt
read_stops g image id at old new P (Damaged d) (Err why) same told = absurd told
