-- How a call may be answered at all, whatever the device tells.
use Rattle.std.specs.Prelude.{◌≡◌, ◌≤◌, ℕ, List, length, take, Bool, true, false, not, nat_lt, ◌==◌, ◌&&◌, ◌||◌, Option, Some, None, Result, Ok, Err}
use Rattle.table_model.specs.declared.error.FsErr.{FsErr}
use Rattle.table_model.specs.declared.error.FsErr.TheVariants.{BadName, NameTooLong, BadFlags, BadDescriptor, OutOfDescriptors, NotFound, FileExists}
use Rattle.table_model.specs.declared.error.FsErr.TheVariants.{ConflictingName, NotReadable, NotWritable, SeekBounds, Tight, Full, DeviceFault, Damaged}
use Rattle.table_model.specs.declared.reply.Stat.{Stat}
use Rattle.file_calls.specs.declared.told.Told.{Told}
use Rattle.file_calls.specs.declared.told.Told.TheVariants.{Done, Number as AsNumber, Bytes, File as AsFile, NoMore, Room, Refusal}
use Rattle.table_model.specs.declared.call.Whence.{Whence}
use Rattle.table_model.specs.declared.call.Whence.TheVariants.{Set, Cur, End}
use Rattle.table_model.specs.Descriptors.{empties, makes}
use Rattle.table_model.specs.Names.{name_refusal, names_refusal}
use Rattle.table_model.specs.Reply.{Answer, Fine, Tells as Number, Gives, Shows, Ends, Counts, Refuses}
use Rattle.table_model.specs.Ask.{Ask, Creates, Opens, Reads, Writes, Fills, Seeks, Tells, Truncates, Flushes, Closes, Removes, RemovesOpen, Renames, Stats}
use Rattle.table_model.specs.Ask.{StatsOpen, NextAbove, Informs, Collects, SetsMeta, SetsMetaOpen}

-- what a call told; bytes that were read stand at the front of those that were lent
abbrev pub shown_by : Told → List ℕ → Answer
shown_by Done into = Fine
shown_by (AsNumber n) into = Number n
shown_by (Bytes n) into = Gives (take n into)
shown_by (AsFile stat) into = Shows stat
shown_by NoMore into = Ends
shown_by (Room info) into = Counts info
shown_by (Refusal why) into = Refuses why

-- what a result answers
abbrev pub reply_of : Result Told FsErr → List ℕ → Answer
reply_of (Ok told) into = shown_by told into
reply_of (Err why) into = Refuses why

-- a refusal of a name
abbrev pub is_of_name : FsErr → Bool
is_of_name BadName = true
is_of_name NameTooLong = true
is_of_name _ = false

-- a refusal that needs no byte of the device: of a name, of flags or meta bytes, or of a descriptor
abbrev pub is_of_slots : FsErr → Bool
is_of_slots BadName = true
is_of_slots NameTooLong = true
is_of_slots BadFlags = true
is_of_slots BadDescriptor = true
is_of_slots OutOfDescriptors = true
is_of_slots NotReadable = true
is_of_slots NotWritable = true
is_of_slots _ = false

-- a page reads otherwise than it was written
abbrev pub is_damage : FsErr → Bool
is_damage (Damaged differ) = true
is_damage _ = false

-- the device failed
abbrev pub is_fault : FsErr → Bool
is_fault DeviceFault = true
is_fault _ = false

-- there is no such file
abbrev pub is_missing : FsErr → Bool
is_missing NotFound = true
is_missing _ = false

-- there is no page for a new file, or for a header page that is renewed
abbrev pub is_of_new_page : FsErr → Bool
is_of_new_page Tight = true
is_of_new_page Full = true
is_of_new_page _ = false

-- the name of a new file is there, or there is no page for it
abbrev pub is_of_new_file : FsErr → Bool
is_of_new_file ConflictingName = true
is_of_new_file why = is_of_new_page why

-- what stands against an opening, beside the name
abbrev pub is_of_opening : FsErr → Bool
is_of_opening BadFlags = true
is_of_opening OutOfDescriptors = true
is_of_opening NotFound = true
is_of_opening FileExists = true
is_of_opening why = is_of_new_page why

-- no file has the first name of a rename, one has the second, or there is no page
abbrev pub is_of_renaming : FsErr → Bool
is_of_renaming NotFound = true
is_of_renaming why = is_of_new_file why

-- meta bytes are not as many as the volume has, there is no such file, or no page
abbrev pub is_of_meta : FsErr → Bool
is_of_meta BadFlags = true
is_of_meta NotFound = true
is_of_meta why = is_of_new_page why

-- .. or no such descriptor, or it may not write
abbrev pub is_of_meta_open : FsErr → Bool
is_of_meta_open BadFlags = true
is_of_meta_open BadDescriptor = true
is_of_meta_open NotWritable = true
is_of_meta_open why = is_of_new_page why

-- no descriptor of that number is open
abbrev pub is_of_descriptor : FsErr → Bool
is_of_descriptor BadDescriptor = true
is_of_descriptor _ = false

-- .. or it may not be read
abbrev pub is_of_reading : FsErr → Bool
is_of_reading BadDescriptor = true
is_of_reading NotReadable = true
is_of_reading _ = false

-- .. or the place isn't in the file
abbrev pub is_of_seeking : FsErr → Bool
is_of_seeking BadDescriptor = true
is_of_seeking SeekBounds = true
is_of_seeking _ = false

-- .. or it may not write, or the size is beyond the file's end, or there is no page
abbrev pub is_of_truncating : FsErr → Bool
is_of_truncating BadDescriptor = true
is_of_truncating NotWritable = true
is_of_truncating SeekBounds = true
is_of_truncating why = is_of_new_page why

-- .. or it may not write, or there is no page
abbrev pub is_of_writing : FsErr → Bool
is_of_writing BadDescriptor = true
is_of_writing NotWritable = true
is_of_writing why = is_of_new_page why

-- there is too little room
abbrev pub is_tight : FsErr → Bool
is_tight Tight = true
is_tight _ = false

-- a refusal that is met by a look at the device, before a program or an erase is asked for
abbrev pub is_early : FsErr → Bool
is_early why = not (is_of_slots why) && not (is_damage why)

-- what stands against each call once its names are accepted
abbrev pub meets : Ask → FsErr → Bool
meets (Creates name) why = is_of_new_file why || is_fault why
meets (Opens name flags) why = is_of_opening why || is_fault why
meets (Reads fd count) why = is_of_reading why || is_fault why
meets (Writes fd bytes) why = is_of_writing why || is_fault why
meets (Fills fd count byte) why = is_of_writing why || is_fault why
meets (Seeks fd offset from) why = is_of_seeking why || is_fault why
meets (Tells fd) why = is_of_descriptor why
meets (Truncates fd size) why = is_of_truncating why || is_fault why
meets (Flushes fd) why = is_of_descriptor why
meets (Closes fd) why = is_of_descriptor why
meets (Removes name) why = is_missing why || is_fault why
meets (RemovesOpen fd) why = is_of_descriptor why || is_fault why
meets (Renames old_name new_name) why = is_of_renaming why || is_fault why
meets (Stats name) why = is_missing why || is_fault why
meets (StatsOpen fd) why = is_of_descriptor why || is_fault why
meets (NextAbove after) why = is_fault why
meets Informs why = is_fault why
meets Collects why = is_tight why || is_fault why
meets (SetsMeta name meta) why = is_of_meta why || is_fault why
meets (SetsMetaOpen fd meta) why = is_of_meta_open why || is_fault why

-- of these, the ones that a look meets
abbrev pub may_meet : Ask → FsErr → Bool
may_meet ask why = is_early why && meets ask why

-- calls that take a page may meet this
abbrev pub MeetsPage : FsErr → Type 0
MeetsPage why = (name other : List ℕ) (flags fd size : ℕ) →
    (may_meet (Creates name) why ≡ true) × (may_meet (Opens name flags) why ≡ true) × (may_meet (Truncates fd size) why ≡ true)
    × (may_meet (Renames name other) why ≡ true) × (may_meet (SetsMeta name other) why ≡ true) × (may_meet (SetsMetaOpen fd other) why ≡ true)

-- calls by the name of a file that is there may
abbrev pub MeetsNamed : List ℕ → FsErr → Type 0
MeetsNamed name why = (other : List ℕ) →
    (may_meet (Removes name) why ≡ true) × (may_meet (Renames name other) why ≡ true) × (may_meet (SetsMeta name other) why ≡ true)

-- and those that give a name
abbrev pub MeetsKnown : List ℕ → FsErr → Type 0
MeetsKnown name why = (other : List ℕ) → (may_meet (Creates name) why ≡ true) × (may_meet (Renames other name) why ≡ true)

-- calls that may ask for a program or an erase
abbrev pub is_change : Ask → Bool
is_change (Creates name) = true
is_change (Opens name flags) = makes flags || empties flags
is_change (Writes fd bytes) = true
is_change (Fills fd count byte) = true
is_change (Truncates fd size) = true
is_change (Removes name) = true
is_change (RemovesOpen fd) = true
is_change (Renames old_name new_name) = true
is_change Collects = true
is_change (SetsMeta name meta) = true
is_change (SetsMetaOpen fd meta) = true
is_change _ = false

-- calls that write bytes
abbrev pub is_write : Ask → Bool
is_write (Writes fd bytes) = true
is_write (Fills fd count byte) = true
is_write _ = false

-- calls that read the pages of a descriptor's file
abbrev pub reads_file : Ask → Bool
reads_file (Reads fd count) = true
reads_file (Seeks fd offset from) = true
reads_file (StatsOpen fd) = true
reads_file _ = false

-- calls that leave the descriptors
abbrev pub keeps_slots : Ask → Bool
keeps_slots (Opens name flags) = false
keeps_slots (Reads fd count) = false
keeps_slots (Writes fd bytes) = false
keeps_slots (Fills fd count byte) = false
keeps_slots (Seeks fd offset from) = false
keeps_slots (Truncates fd size) = false
keeps_slots (Closes fd) = false
keeps_slots (Removes name) = false
keeps_slots (RemovesOpen fd) = false
keeps_slots _ = true

-- calls that take a name
abbrev pub has_name : Ask → Bool
has_name (Creates name) = true
has_name (Opens name flags) = true
has_name (Removes name) = true
has_name (Renames old_name new_name) = true
has_name (Stats name) = true
has_name (SetsMeta name meta) = true
has_name _ = false

-- .. and the ones that need no look, with those of a name
abbrev pub may_show : Ask → FsErr → Bool
may_show ask why = (has_name ask && is_of_name why) || (is_of_slots why && meets ask why)

-- how a call may be refused
abbrev pub may_refuse : Ask → FsErr → Bool
may_refuse ask why = may_meet ask why || (may_show ask why || ((is_change ask || reads_file ask) && is_damage why))

-- how a call may be answered
abbrev pub may_answer : Ask → Answer → Bool
may_answer ask (Refuses why) = may_refuse ask why
may_answer (Creates name) Fine = true
may_answer (Opens name flags) (Number fd) = nat_lt fd 65536
may_answer (Reads fd count) (Gives bytes) = true
may_answer (Writes fd bytes) (Number n) = n == length bytes
may_answer (Fills fd count byte) (Number n) = n == count
may_answer (Seeks fd offset from) (Number at) = true
may_answer (Tells fd) (Number at) = true
may_answer (Truncates fd size) Fine = true
may_answer (Flushes fd) Fine = true
may_answer (Closes fd) Fine = true
may_answer (Removes name) Fine = true
may_answer (RemovesOpen fd) Fine = true
may_answer (Renames old_name new_name) Fine = true
may_answer (Stats name) (Shows stat) = true
may_answer (StatsOpen fd) (Shows stat) = true
may_answer (NextAbove after) (Shows stat) = true
may_answer (NextAbove after) Ends = true
may_answer Informs (Counts info) = true
may_answer Collects Fine = true
may_answer (SetsMeta name meta) Fine = true
may_answer (SetsMetaOpen fd meta) Fine = true
may_answer _ _ = false

-- why the names of a call are refused, if they are
abbrev pub names_fault : Ask → Option FsErr
names_fault (Creates name) = name_refusal name
names_fault (Opens name flags) = name_refusal name
names_fault (Removes name) = name_refusal name
names_fault (Renames old_name new_name) = names_refusal old_name new_name
names_fault (Stats name) = name_refusal name
names_fault (SetsMeta name meta) = name_refusal name
names_fault _ = None

-- a record, or the end of the table
abbrev pub shown_or_end : Option Stat → Answer
shown_or_end None = Ends
shown_or_end (Some stat) = Shows stat

-- the answer of a call that asks nothing of the device: no descriptor is open, or a number, or that it is done
abbrev pub is_calm : Answer → Bool
is_calm (Refuses why) = is_of_descriptor why
is_calm (Number n) = true
is_calm Fine = true
is_calm _ = false

-- the offset that a seek counts from, of a descriptor at an offset in a file of a size
abbrev pub base_at : Whence → (offset size : ℕ) → ℕ
base_at Set offset size = 0
base_at Cur offset size = offset
base_at End offset size = size

-- the bytes that are lent are enough for what is read, or for those of a fill
abbrev pub HasRoomFor : Ask → ℕ → Type 0
HasRoomFor (Reads fd count) n = count ≤ n
HasRoomFor (Fills fd count byte) n = count ≤ n
HasRoomFor ask n = Unit {0}
