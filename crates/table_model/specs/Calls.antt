-- What each call but an opening answers, and the state after it: its refusals come first, in the one order of refusals.
use Rattle.std.specs.Prelude.{ℕ, ℤ, ◌+◌, ◌-◌, ◌*◌, List, length, Option, Some, None, Bool, not, nat_lt, ◌==◌, if◌then◌else◌}
use Rattle.geometry.specs.declared.geometry.Geometry.{Geometry}
use Rattle.geometry.specs.Numbers.{entries}
use Rattle.table_model.specs.declared.call.Whence.{Whence}
use Rattle.table_model.specs.declared.reply.Info.{Info}
use Rattle.table_model.specs.declared.error.FsErr.TheVariants.{BadFlags, ConflictingName, NotReadable, NotWritable, SeekBounds}
use Rattle.table_model.specs.Table.{File, Open, State, has_name, file_above}
use Rattle.table_model.specs.Room.{index_count, data_count}
use Rattle.table_model.specs.Names.{name_refusal, names_refusal}
use Rattle.table_model.specs.Descriptors.{may_read, may_write, at_offset}
use Rattle.table_model.specs.Files.{created, stat_of, with_file, with_open, closed, cut_to, without, bytes_at, write_place, written, seek_place}
use Rattle.table_model.specs.Reply.{Answer, Fine, Tells, Gives, Shows, Ends}
use Rattle.table_model.specs.Outcome.{Outcome, refused, gives, unless, on_name, on_open, on_open_file, with_page}

-- a create: `spare` says whether at least two blocks are free
unfoldable pub answer_create : Geometry → Bool → State → List ℕ → Outcome
answer_create g spare s name =
    unless (name_refusal name) s (
    if has_name name s.table then refused ConflictingName s
    else with_page g spare s (gives Fine (record s { table = created g name s.table })))

-- a read: the bytes from the offset, as many as there are; the offset moves behind them
unfoldable pub answer_read : State → ℕ → ℕ → Outcome
answer_read s fd count = on_open_file fd s (λ d f.
    if not (may_read d.flags) then refused NotReadable s
    else let bytes = bytes_at count d.offset f in
    gives (Gives bytes) (with_open fd (at_offset (d.offset + length bytes) d) s))

-- the state after bytes are written: the offset stands behind them
abbrev pub write_into : ℕ → Open → File → List ℕ → State → State
write_into fd d f bytes s =
    let at = write_place d f in
    with_open fd (at_offset (at + length bytes) d) (with_file (written at bytes f) s)

-- a write: all bytes are written, and their number is told; without a byte nothing changes
unfoldable pub answer_write : Geometry → Bool → State → ℕ → List ℕ → Outcome
answer_write g spare s fd bytes = on_open_file fd s (λ d f.
    if not (may_write d.flags) then refused NotWritable s
    else if length bytes == 0 then gives (Tells 0) s
    else with_page g spare s (gives (Tells (length bytes)) (write_into fd d f bytes s)))

-- a descriptor is moved to a place, where there is one
abbrev pub move_to : ℕ → Open → Option ℕ → State → Outcome
move_to fd d None s = refused SeekBounds s
move_to fd d (Some at) s = gives (Tells at) (with_open fd (at_offset at d) s)

-- a seek: the new offset is told
unfoldable pub answer_seek : State → ℕ → ℤ → Whence → Outcome
answer_seek s fd offset from = on_open_file fd s (λ d f. move_to fd d (seek_place offset from d f) s)

-- the offset of a descriptor
unfoldable pub answer_tell : State → ℕ → Outcome
answer_tell s fd = on_open fd s (λ d. gives (Tells d.offset) s)

-- a truncation: the file is cut; to its own size nothing changes
unfoldable pub answer_truncate : Geometry → Bool → State → ℕ → ℕ → Outcome
answer_truncate g spare s fd size = on_open_file fd s (λ d f.
    if not (may_write d.flags) then refused NotWritable s
    else if nat_lt (length f.bytes) size then refused SeekBounds s
    else if size == length f.bytes then gives Fine s
    else with_page g spare s (gives Fine (cut_to size f s)))

-- a flush changes no state
unfoldable pub answer_flush : State → ℕ → Outcome
answer_flush s fd = on_open fd s (λ d. gives Fine s)

-- a closing: the number is free again
unfoldable pub answer_close : State → ℕ → Outcome
answer_close s fd = on_open fd s (λ d. gives Fine (closed fd s))

-- a removal by name: it needs no page
unfoldable pub answer_remove : State → List ℕ → Outcome
answer_remove s name = unless (name_refusal name) s (on_name name s (λ f. gives Fine (without f s)))

-- a removal by descriptor
unfoldable pub answer_fremove : State → ℕ → Outcome
answer_fremove s fd = on_open_file fd s (λ d f. gives Fine (without f s))

-- a rename: id, bytes and descriptors stay; a file's own name conflicts too
unfoldable pub answer_rename : Geometry → Bool → State → List ℕ → List ℕ → Outcome
answer_rename g spare s old_name new_name = unless (names_refusal old_name new_name) s (on_name old_name s (λ f.
    if has_name new_name s.table then refused ConflictingName s
    else with_page g spare s (gives Fine (with_file (record f { name = new_name }) s))))

-- the record of a file
unfoldable pub answer_stat : State → List ℕ → Outcome
answer_stat s name = unless (name_refusal name) s (on_name name s (λ f. gives (Shows (stat_of f)) s))

-- the record of a descriptor's file
unfoldable pub answer_fstat : State → ℕ → Outcome
answer_fstat s fd = on_open_file fd s (λ d f. gives (Shows (stat_of f)) s)

-- a file's record, if there is one
abbrev pub shown : Option File → Answer
shown None = Ends
shown (Some f) = Shows (stat_of f)

-- the record of the least id above one, if there is one
unfoldable pub answer_next : State → ℕ → Outcome
answer_next s after = gives (shown (file_above after s.table)) s

-- how full the volume is: files, index pages and data pages of the table, and the entry pages of all blocks but two
abbrev pub info_of : Geometry → List File → Info
info_of g files = record { files = length files; index_pages = index_count g files; data_pages = data_count g files; usable_pages = (g.blocks - 2) * entries g }

-- a file's meta bytes are set
abbrev pub set_meta : Geometry → Bool → State → List ℕ → File → Outcome
set_meta g spare s meta f = with_page g spare s (gives Fine (with_file (record f { meta = meta }) s))

-- a change of meta bytes by name: they are as many as the geometry has
unfoldable pub answer_meta : Geometry → Bool → State → List ℕ → List ℕ → Outcome
answer_meta g spare s name meta = unless (name_refusal name) s (
    if not (length meta == g.meta) then refused BadFlags s
    else on_name name s (set_meta g spare s meta))

-- a change of meta bytes by descriptor
unfoldable pub answer_fmeta : Geometry → Bool → State → ℕ → List ℕ → Outcome
answer_fmeta g spare s fd meta =
    if not (length meta == g.meta) then refused BadFlags s
    else on_open_file fd s (λ d f.
    if not (may_write d.flags) then refused NotWritable s
    else set_meta g spare s meta f)
