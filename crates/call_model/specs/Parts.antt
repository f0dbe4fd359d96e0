-- The parts of a write, one after another.
use Rattle.std.specs.Prelude.{◌≡◌, ℕ, ◌+◌, ◌-◌, ◌%◌, ◌<◌, ◌≤◌, ◌⊎◌, List, ◌++◌, length, take, drop, Some}
use Rattle.geometry.specs.declared.geometry.Geometry.{Geometry}
use Rattle.geometry.specs.Numbers.{body}
use Rattle.table_model.specs.Table.{File, file_of, put_file}
use Rattle.table_model.specs.Files.{written}
use Rattle.table_model.specs.Steps.{file_steps, written_up_to}
use Rattle.table_model.specs.Window.{IsAmong}

-- A write of so many bytes at a place is cut there: where a data page ends, at the old end of the file, and at its own end.
pub record IsPartEnd (page size at len e : ℕ) : Type 0 where
  pub from : at < e
  pub to : e ≤ at + len
  pub ends : (e % page ≡ 0) ⊎ ((e ≡ size) ⊎ (e ≡ at + len))

-- a step of a write has the bytes up to one of these ends
pub record IsStep (g : Geometry) (at : ℕ) (bytes : List ℕ) (f : File) (files t : List File) : Type 0 where
  pub end : ℕ
  pub is_end : IsPartEnd (body g) (length f.bytes) at (length bytes) end
  pub table : t ≡ written_up_to at bytes f files end

abbrev pub AmongSteps : Geometry → Type 0
AmongSteps g = (at : ℕ) (bytes : List ℕ) (f : File) (files t : List File) → IsAmong t (file_steps g at bytes f files) → IsStep g at bytes f files t

-- and what has them is a step
abbrev pub StepsAmong : Geometry → Type 0
StepsAmong g = (at : ℕ) (bytes : List ℕ) (f : File) (files : List File) (e : ℕ) → IsPartEnd (body g) (length f.bytes) at (length bytes) e →
    IsAmong (written_up_to at bytes f files e) (file_steps g at bytes f files)

-- The last step of a write that has a byte is the table after it.
abbrev pub WholeAmong : Geometry → Type 0
WholeAmong g = (at : ℕ) (bytes : List ℕ) (f : File) (files : List File) → 0 < length bytes →
    IsAmong (put_file (written at bytes f) files) (file_steps g at bytes f files)

-- A file that is written, and written on where that ends, is written at once.
abbrev pub WrittenOn : Type 0
WrittenOn = (at : ℕ) (xs ys : List ℕ) (f : File) → at ≤ length f.bytes → written (at + length xs) ys (written at xs f) ≡ written at (xs ++ ys) f

-- so the bytes up to an end, and those up to a later one behind them, are those up to the later one
abbrev pub WrittenNext : Type 0
WrittenNext = (at e next : ℕ) (bytes : List ℕ) (f : File) → at ≤ length f.bytes → at ≤ e → e ≤ next → next ≤ at + length bytes →
    written e (take (next - e) (drop (e - at) bytes)) (written at (take (e - at) bytes) f) ≡ written at (take (next - at) bytes) f

-- Of two files of one id that are put into a table the second stays.
abbrev pub PutTwice : Type 0
PutTwice = (f old : File) (files : List File) → f.id ≡ old.id → put_file f (put_file old files) ≡ put_file f files

-- A file that was put there is the one of its id, and each other id has the file that it had.
abbrev pub PutIsThere : Type 0
PutIsThere = (f : File) (files : List File) → file_of f.id (put_file f files) ≡ Some f

abbrev pub PutLeavesOthers : Type 0
PutLeavesOthers = (id : ℕ) (f : File) (files : List File) → (f.id ≡ id → ⊥) → file_of id (put_file f files) ≡ file_of id files
