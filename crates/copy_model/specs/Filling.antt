-- A target while a record is copied: its files, and at most its first descriptor open.
use Rattle.std.specs.Prelude.{ℕ, List}
use Rattle.geometry.specs.declared.geometry.Geometry.{Geometry}
use Rattle.table_model.specs.Table.{File, Open, State, least_id}
use Rattle.table_model.specs.Files.{with_open}
use Rattle.call_model.specs.Closed.{with_files}
use Rattle.copy_model.specs.Copying.{begun}

-- these files, and the first descriptor open
abbrev pub with_first : (slots : ℕ) → Open → List File → State
with_first slots d files = with_open 1 d (with_files slots files)

-- a descriptor at a place of a file that was opened to be made (4) and written (16), with no bytes that wait (32)
abbrev pub filler : (id at : ℕ) → Open
filler id at = record { id = id; flags = 52; offset = at }

-- a descriptor at a place of a file that was opened to be read
abbrev pub looker : (id at : ℕ) → Open
looker id at = record { id = id; flags = 8; offset = at }

-- the first bytes of a record stand under the working name, and the first descriptor is open behind them
abbrev pub filling : Geometry → (slots : ℕ) → (f : File) → (files : List File) → (at : ℕ) → State
filling g slots f files at = with_first slots (filler (least_id files) at) (begun g f files at)

-- the first descriptor is open at a place of a file, to be read
abbrev pub looking : (slots : ℕ) → (x : File) → (files : List File) → (at : ℕ) → State
looking slots x files at = with_first slots (looker x.id at) files
