-- Descriptors, numbered from 1, and the flags of an opening, with SPIFFS's own numbers.
use Rattle.std.specs.Prelude.{ℕ, ◌+◌, ◌-◌, min, List, [], ◌∷◌, slice_set, slice_index_or, Option, Some, None, Bool, not, nat_lt, ◌==◌, ◌&&◌, ◌||◌}
use Rattle.std.specs.Prelude.{if◌then◌else◌, bit_and}
use Rattle.table_model.specs.Table.{Open}

-- each write goes to the file's end
abbrev pub appends : ℕ → Bool
appends flags = not (bit_and flags 1 == 0)

-- the file becomes empty as it is opened
abbrev pub empties : ℕ → Bool
empties flags = not (bit_and flags 2 == 0)

-- the file is made where it is missing
abbrev pub makes : ℕ → Bool
makes flags = not (bit_and flags 4 == 0)

-- the descriptor may read
abbrev pub may_read : ℕ → Bool
may_read flags = not (bit_and flags 8 == 0)

-- the descriptor may write
abbrev pub may_write : ℕ → Bool
may_write flags = not (bit_and flags 16 == 0)

-- no byte that is written through the descriptor waits in the write window
abbrev pub is_direct : ℕ → Bool
is_direct flags = not (bit_and flags 32 == 0)

-- a file that is there is refused, where the flag to make one is set too
abbrev pub is_exclusive : ℕ → Bool
is_exclusive flags = not (bit_and flags 64 == 0)

-- flags with a bit above the seven, or to empty a file that may not be written
abbrev pub is_bad_flags : ℕ → Bool
is_bad_flags flags = nat_lt 127 flags || (empties flags && not (may_write flags))

-- the descriptor of a number; the first is 1
unfoldable pub open_at : List (Option Open) → ℕ → Option Open
open_at all fd = if fd == 0 then None else slice_index_or all (fd - 1) None

-- the descriptors with another in the place of a number
unfoldable pub put_at : List (Option Open) → ℕ → Option Open → List (Option Open)
put_at all fd new = slice_set all (fd - 1) new

-- the lowest closed number, where the first is `n`
abbrev pub lowest_from : ℕ → List (Option Open) → Option ℕ
lowest_from n [] = None
lowest_from n (None ∷ all) = Some n
lowest_from n (Some d ∷ all) = lowest_from (n + 1) all

-- the lowest closed number; there is none exactly where all are open
unfoldable pub lowest_closed : List (Option Open) → Option ℕ
lowest_closed all = lowest_from 1 all

-- a new descriptor on a file, at its first byte
abbrev pub new_open : ℕ → ℕ → Open
new_open id flags = record { id = id; flags = flags; offset = 0 }

-- a descriptor at another offset
abbrev pub at_offset : ℕ → Open → Open
at_offset offset d = record d { offset = offset }

-- closed, where it is on that file
abbrev pub without_file : ℕ → Option Open → Option Open
without_file id None = None
without_file id (Some d) = if d.id == id then None else Some d

-- pulled back to that offset at most, where it is on that file
abbrev pub pulled_back : ℕ → ℕ → Option Open → Option Open
pulled_back id size None = None
pulled_back id size (Some d) = if d.id == id then Some (at_offset (min d.offset size) d) else Some d
