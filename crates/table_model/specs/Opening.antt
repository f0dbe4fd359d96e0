-- How a file is opened.
use Rattle.std.specs.Prelude.{ℕ, List, Option, Some, None, Bool, true, not, ◌&&◌, if◌then◌else◌}
use Rattle.geometry.specs.declared.geometry.Geometry.{Geometry}
use Rattle.table_model.specs.declared.error.FsErr.TheVariants.{BadFlags, OutOfDescriptors, NotFound, FileExists}
use Rattle.table_model.specs.Table.{File, State, file_named, least_id}
use Rattle.table_model.specs.Names.{name_refusal}
use Rattle.table_model.specs.Descriptors.{empties, makes, is_exclusive, is_bad_flags, lowest_closed, new_open}
use Rattle.table_model.specs.Files.{created, is_empty, with_open, cut_to}
use Rattle.table_model.specs.Reply.{Tells}
use Rattle.table_model.specs.Outcome.{Outcome, refused, gives, unless, with_page}

-- a descriptor is opened on a file, and its number told
abbrev pub opens : ℕ → ℕ → ℕ → State → Outcome
opens fd flags id s = gives (Tells fd) (with_open fd (new_open id flags) s)

-- an opening takes the bytes of a file: it empties one that isn't empty
abbrev pub takes_bytes : ℕ → File → Bool
takes_bytes flags f = empties flags && not (is_empty f)

-- an opening of a missing file: it is made where the flags say so
abbrev pub open_missing : Geometry → Bool → State → List ℕ → ℕ → ℕ → Outcome
open_missing g spare s name flags fd =
    if not (makes flags) then refused NotFound s
    else with_page g spare s (opens fd flags (least_id s.table) (record s { table = created g name s.table }))

-- an opening of a file that is there
abbrev pub open_there : Geometry → Bool → State → File → ℕ → ℕ → Outcome
open_there g spare s f flags fd =
    if makes flags && is_exclusive flags then refused FileExists s
    else if takes_bytes flags f then with_page g spare s (opens fd flags f.id (cut_to 0 f s))
    else opens fd flags f.id s

-- an opening under a descriptor that is closed
abbrev pub open_as : Geometry → Bool → State → List ℕ → ℕ → ℕ → Option File → Outcome
open_as g spare s name flags fd None = open_missing g spare s name flags fd
open_as g spare s name flags fd (Some f) = open_there g spare s f flags fd

-- an opening under the lowest closed descriptor, if there is one
abbrev pub open_lowest : Geometry → Bool → State → List ℕ → ℕ → Option ℕ → Outcome
open_lowest g spare s name flags None = refused OutOfDescriptors s
open_lowest g spare s name flags (Some fd) = open_as g spare s name flags fd (file_named name s.table)

-- an opening
unfoldable pub answer_open : Geometry → Bool → State → List ℕ → ℕ → Outcome
answer_open g spare s name flags =
    unless (name_refusal name) s (
    if is_bad_flags flags then refused BadFlags s
    else open_lowest g spare s name flags (lowest_closed s.slots))

-- an opening that isn't refused makes the file or takes its bytes
abbrev pub open_changes : ℕ → Option File → Bool
open_changes flags None = true
open_changes flags (Some f) = takes_bytes flags f
