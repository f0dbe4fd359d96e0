-- What the flat table answers to the calls of a copy, and the state after each: two blocks are free, and only the first descriptor is ever open.
use Rattle.std.specs.Prelude.{◌≡◌, ◌≢◌, ℕ, ◌+◌, ◌<◌, List, length, Bool, true, Some, None, if◌then◌else◌}
use Rattle.geometry.specs.declared.geometry.Geometry.{Geometry}
use Rattle.table_model.specs.declared.error.FsErr.TheVariants.{NotFound, Full}
use Rattle.table_model.specs.Table.{File, Open, State, file_named, file_of, put_file, drop_file}
use Rattle.table_model.specs.Names.{name_refusal}
use Rattle.table_model.specs.Room.{has_room}
use Rattle.table_model.specs.Files.{bytes_at, stat_of}
use Rattle.table_model.specs.Calls.{info_of}
use Rattle.table_model.specs.Ask.{Opens, Reads, Writes, Closes, Removes, Renames, Stats, Informs, SetsMeta}
use Rattle.table_model.specs.Reply.{Fine, Tells, Gives, Shows, Counts}
use Rattle.table_model.specs.Outcome.{Outcome, refused, gives}
use Rattle.table_model.specs.Flat.{answer}
use Rattle.call_model.specs.Closed.{with_files}
use Rattle.copy_model.specs.Copying.{working, begun, marked, cleared, placed, without_name}
use Rattle.copy_model.specs.Filling.{with_first, filling, looking}

-- an outcome, where the table after it has room; else the call is refused
abbrev pub or_full : Geometry → State → Outcome → Outcome
or_full g s done = if has_room g done.next.table then done else refused Full s

-- bytes of a record from a place on
abbrev pub IsPiece : File → (at : ℕ) → List ℕ → Type 0
IsPiece f at bytes = bytes ≡ bytes_at (length bytes) at f

-- ---- the working file is filled

-- The working file is made, empty, under a descriptor of its own.
abbrev pub OpensWorking : Geometry → Type 0
OpensWorking g = (slots : ℕ) (f : File) (files : List File) → 0 < slots → file_named working files ≡ None →
    answer g true (with_files slots files) (Opens working 52) ≡ or_full g (with_files slots files) (gives (Tells 1) (filling g slots f files 0))

-- The next bytes of the record are written behind it.
abbrev pub PutsPiece : Geometry → Type 0
PutsPiece g = (slots : ℕ) (f : File) (files : List File) (at : ℕ) (bytes : List ℕ) → 0 < slots → 0 < length bytes → IsPiece f at bytes →
    answer g true (filling g slots f files at) (Writes 1 bytes)
    ≡ or_full g (filling g slots f files at) (gives (Tells (length bytes)) (filling g slots f files (at + length bytes)))

-- The first descriptor is closed.
abbrev pub ClosesFirst : Geometry → Type 0
ClosesFirst g = (slots : ℕ) (d : Open) (files : List File) → 0 < slots →
    answer g true (with_first slots d files) (Closes 1) ≡ gives Fine (with_files slots files)

-- The working file is removed while it is open: what was there before it is left.
abbrev pub GivesUp : Geometry → Type 0
GivesUp g = (slots : ℕ) (f : File) (files : List File) (at : ℕ) → 0 < slots → file_named working files ≡ None →
    answer g true (filling g slots f files at) (Removes working) ≡ gives Fine (with_files slots files)

-- It gets the record's meta bytes,
abbrev pub Marks : Geometry → Type 0
Marks g = (slots : ℕ) (f : File) (files : List File) → file_named working files ≡ None → length f.meta ≡ g.meta →
    answer g true (with_files slots (begun g f files (length f.bytes))) (SetsMeta working f.meta)
    ≡ or_full g (with_files slots (begun g f files (length f.bytes))) (gives Fine (with_files slots (put_file (marked g true f files) files)))

-- and its name, where no other file has that.
abbrev pub Places : Geometry → Type 0
Places g = (slots : ℕ) (alike : Bool) (f : File) (files : List File) → f.name ≢ working → name_refusal f.name ≡ None → file_named working files ≡ None →
    file_named f.name (cleared g alike f files) ≡ None →
    answer g true (with_files slots (cleared g alike f files)) (Renames working f.name)
    ≡ or_full g (with_files slots (cleared g alike f files)) (gives Fine (with_files slots (placed g alike f files)))

-- ---- files by their names

-- A removal leaves the table without the file of that name.
abbrev pub Clears : Geometry → Type 0
Clears g = (slots : ℕ) (name : List ℕ) (files : List File) → name_refusal name ≡ None →
    (answer g true (with_files slots files) (Removes name)).next ≡ with_files slots (without_name name files)

-- It is fine where there is one, else refused.
abbrev pub RemovesFile : Geometry → Type 0
RemovesFile g = (slots : ℕ) (name : List ℕ) (files : List File) (x : File) → name_refusal name ≡ None → file_named name files ≡ Some x →
    answer g true (with_files slots files) (Removes name) ≡ gives Fine (with_files slots (drop_file x.id files))

abbrev pub RemovesNone : Geometry → Type 0
RemovesNone g = (slots : ℕ) (name : List ℕ) (files : List File) → name_refusal name ≡ None → file_named name files ≡ None →
    answer g true (with_files slots files) (Removes name) ≡ refused NotFound (with_files slots files)

-- What a name's record tells.
abbrev pub StatsFile : Geometry → Type 0
StatsFile g = (s : State) (name : List ℕ) (x : File) → name_refusal name ≡ None → file_named name s.table ≡ Some x →
    answer g true s (Stats name) ≡ gives (Shows (stat_of x)) s

abbrev pub StatsNone : Geometry → Type 0
StatsNone g = (s : State) (name : List ℕ) → name_refusal name ≡ None → file_named name s.table ≡ None → answer g true s (Stats name) ≡ refused NotFound s

-- How full the volume is.
abbrev pub Informed : Geometry → Type 0
Informed g = (s : State) → answer g true s Informs ≡ gives (Counts (info_of g s.table)) s

-- A file is opened to be read, and read on.
abbrev pub OpensFile : Geometry → Type 0
OpensFile g = (slots : ℕ) (name : List ℕ) (files : List File) (x : File) → 0 < slots → name_refusal name ≡ None → file_named name files ≡ Some x →
    answer g true (with_files slots files) (Opens name 8) ≡ gives (Tells 1) (looking slots x files 0)

abbrev pub OpensNone : Geometry → Type 0
OpensNone g = (slots : ℕ) (name : List ℕ) (files : List File) → 0 < slots → name_refusal name ≡ None → file_named name files ≡ None →
    answer g true (with_files slots files) (Opens name 8) ≡ refused NotFound (with_files slots files)

abbrev pub ReadsOn : Geometry → Type 0
ReadsOn g = (slots : ℕ) (x : File) (files : List File) (at count : ℕ) → 0 < slots → file_of x.id files ≡ Some x →
    answer g true (looking slots x files at) (Reads 1 count) ≡ gives (Gives (bytes_at count at x)) (looking slots x files (at + length (bytes_at count at x)))
