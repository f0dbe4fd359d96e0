-- What a call makes of a file, of the table and of the descriptors.
use Rattle.std.specs.Prelude.{ℕ, ℤ, pos, negsuc, ◌+ℤ◌, ◌+◌, List, [], ◌++◌, length, take, drop, map, replicate, Option, Some, None, Bool, nat_le, ◌==◌}
use Rattle.std.specs.Prelude.{if◌then◌else◌}
use Rattle.geometry.specs.declared.geometry.Geometry.{Geometry}
use Rattle.table_model.specs.declared.call.Whence.{Whence}
use Rattle.table_model.specs.declared.call.Whence.TheVariants.{Set, Cur, End}
use Rattle.table_model.specs.declared.reply.Stat.{Stat}
use Rattle.table_model.specs.Table.{File, Open, State, least_id, put_file, drop_file}
use Rattle.table_model.specs.Descriptors.{appends, put_at, without_file, pulled_back}

-- a new file: of type 1, empty, with meta bytes of 0xFF
abbrev pub new_file : Geometry → ℕ → List ℕ → File
new_file g id name = record { id = id; name = name; kind = 1; meta = replicate g.meta 0xFF; bytes = [] }

-- the table with a new file of that name, under the least unused id
abbrev pub created : Geometry → List ℕ → List File → List File
created g name files = put_file (new_file g (least_id files) name) files

-- what a file's record tells
abbrev pub stat_of : File → Stat
stat_of f = record { id = f.id; kind = f.kind; size = length f.bytes; name = f.name; meta = f.meta }

-- a file has no bytes
abbrev pub is_empty : File → Bool
is_empty f = length f.bytes == 0

-- the state with a file changed
abbrev pub with_file : File → State → State
with_file f s = record s { table = put_file f s.table }

-- the state with a descriptor changed
abbrev pub with_open : ℕ → Open → State → State
with_open fd d s = record s { slots = put_at s.slots fd (Some d) }

-- the state with a closed descriptor
abbrev pub closed : ℕ → State → State
closed fd s = record s { slots = put_at s.slots fd None }

-- the state after a file is cut: descriptors beyond its end stand at it
unfoldable pub cut_to : ℕ → File → State → State
cut_to size f s = record { table = put_file (record f { bytes = take size f.bytes }) s.table; slots = map (pulled_back f.id size) s.slots }

-- the state without a file: each descriptor on it is closed
unfoldable pub without : File → State → State
without f s = record { table = drop_file f.id s.table; slots = map (without_file f.id) s.slots }

-- the bytes that a read gives: at most so many from that place
abbrev pub bytes_at : ℕ → ℕ → File → List ℕ
bytes_at count at f = take count (drop at f.bytes)

-- where a write begins: at the file's end where the descriptor appends, else at its offset
abbrev pub write_place : Open → File → ℕ
write_place d f = if appends d.flags then length f.bytes else d.offset

-- a file with bytes written at a place inside it: those before, the new ones, the old ones behind them
abbrev pub written : ℕ → List ℕ → File → File
written at bytes f = record f { bytes = take at f.bytes ++ bytes ++ drop (at + length bytes) f.bytes }

-- from where a seek counts
abbrev pub seek_base : Whence → Open → File → ℕ
seek_base Set d f = 0
seek_base Cur d f = d.offset
seek_base End d f = length f.bytes

-- a number that is a place from 0 to a size
abbrev pub place_within : ℕ → ℤ → Option ℕ
place_within size (pos n) = if nat_le n size then Some n else None
place_within size (negsuc n) = None

-- where a seek leads, where that is a place of the file
abbrev pub seek_place : ℤ → Whence → Open → File → Option ℕ
seek_place offset from d f = place_within (length f.bytes) (pos (seek_base from d f) +ℤ offset)
