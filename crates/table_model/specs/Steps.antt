-- The published steps of a call: the tables that a power cut in it may leave behind the one before it, in order.
use Rattle.std.specs.Prelude.{ℕ, ◌+◌, ◌-◌, ◌%◌, List, [], ◌∷◌, length, map, take, replicate, filter, Option, Some, None, Bool, true, false, nat_lt, ◌==◌, ◌||◌}
use Rattle.std.specs.Prelude.{if◌then◌else◌}
use Rattle.std.specs.List.{range_with_len}
use Rattle.geometry.specs.declared.geometry.Geometry.{Geometry}
use Rattle.geometry.specs.Numbers.{body}
use Rattle.table_model.specs.Table.{File, Open, State, file_named, file_of, put_file}
use Rattle.table_model.specs.Descriptors.{open_at, empties}
use Rattle.table_model.specs.Files.{write_place, written}
use Rattle.table_model.specs.Opening.{open_changes}
use Rattle.table_model.specs.Ask.{Ask, Creates, Opens, Writes, Fills, Truncates, Removes, RemovesOpen, Renames, SetsMeta, SetsMetaOpen}
use Rattle.table_model.specs.Reply.{Answer, Refuses}
use Rattle.table_model.specs.Outcome.{Outcome}
use Rattle.table_model.specs.Flat.{answer}

-- where a write of `len` bytes at a place is cut: where a data page ends, at the old end of the file, and at its own end
abbrev pub part_ends : ℕ → ℕ → ℕ → ℕ → List ℕ
part_ends page size at len = filter (λ e. (e % page == 0) || (e == size) || (e == at + len)) (range_with_len (at + 1) len)

-- the table once the bytes of a write before a place are written
abbrev pub written_up_to : ℕ → List ℕ → File → List File → ℕ → List File
written_up_to at bytes f files end = put_file (written at (take (end - at) bytes) f) files

-- the steps of a write at a place of a file: one for each part, with the bytes so far
unfoldable pub file_steps : Geometry → ℕ → List ℕ → File → List File → List (List File)
file_steps g at bytes f files = map (written_up_to at bytes f files) (part_ends (body g) (length f.bytes) at (length bytes))

-- the file of a descriptor
unfoldable pub open_file : State → Option Open → Option File
open_file s None = None
open_file s (Some d) = file_of d.id s.table

-- the size of a file; 0 without one
abbrev pub size_or_zero : Option File → ℕ
size_or_zero None = 0
size_or_zero (Some f) = length f.bytes

-- the steps of a write through a descriptor on its file, if there are these
abbrev pub through_steps : Geometry → Option Open → Option File → List ℕ → List File → List (List File)
through_steps g (Some d) (Some f) bytes files = file_steps g (write_place d f) bytes f files
through_steps g d f bytes files = []

-- the steps of a write
unfoldable pub write_steps : Geometry → State → ℕ → List ℕ → List (List File)
write_steps g s fd bytes = through_steps g (open_at s.slots fd) (open_file s (open_at s.slots fd)) bytes s.table

-- one step, if something changes
abbrev pub one_if : Bool → List File → List (List File)
one_if true files = files ∷ []
one_if false files = []

-- the steps of a call that isn't refused, where the table after it is the last argument
unfoldable pub done_steps : Geometry → State → Ask → List File → List (List File)
done_steps g s (Writes fd bytes) files = write_steps g s fd bytes
done_steps g s (Fills fd count byte) files = write_steps g s fd (replicate count byte)
done_steps g s (Creates name) files = files ∷ []
done_steps g s (Opens name flags) files = one_if (open_changes flags (file_named name s.table)) files
done_steps g s (Truncates fd size) files = one_if (nat_lt size (size_or_zero (open_file s (open_at s.slots fd)))) files
done_steps g s (Removes name) files = files ∷ []
done_steps g s (RemovesOpen fd) files = files ∷ []
done_steps g s (Renames old_name new_name) files = files ∷ []
done_steps g s (SetsMeta name meta) files = files ∷ []
done_steps g s (SetsMetaOpen fd meta) files = files ∷ []
done_steps g s _ files = []

-- an answer is a refusal
abbrev pub is_refusal : Answer → Bool
is_refusal (Refuses why) = true
is_refusal _ = false

-- the steps that an outcome publishes: none where it is a refusal
abbrev pub steps_of : Geometry → State → Ask → Outcome → List (List File)
steps_of g s ask outcome = if is_refusal outcome.answer then [] else done_steps g s ask outcome.next.table

-- the published steps of a call
unfoldable pub steps : Geometry → Bool → State → Ask → List (List File)
steps g spare s ask = steps_of g s ask (answer g spare s ask)

-- the calls that may take bytes of a file away: an opening that empties it, and a truncate
abbrev pub cuts_file : Ask → Bool
cuts_file (Opens name flags) = empties flags
cuts_file (Truncates fd size) = true
cuts_file _ = false
