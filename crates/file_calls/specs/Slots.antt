-- Refusals that need no byte of the device: the arguments of a call and the descriptors show them.
use Rattle.std.specs.Prelude.{◌≡◌, ℕ, List, length, Bool, true, false, ◌==◌, Option, Some, None, if◌then◌else◌}
use Rattle.geometry.specs.declared.geometry.Geometry.{Geometry}
use Rattle.table_model.specs.declared.error.FsErr.{FsErr}
use Rattle.table_model.specs.declared.error.FsErr.TheVariants.{BadFlags, BadDescriptor, OutOfDescriptors, NotReadable, NotWritable}
use Rattle.table_model.specs.Table.{Open}
use Rattle.table_model.specs.Names.{name_refusal, names_refusal}
use Rattle.table_model.specs.Descriptors.{is_bad_flags, may_read, may_write, open_at, lowest_closed}
use Rattle.table_model.specs.Reply.{Answer, Refuses}
use Rattle.table_model.specs.Ask.{Ask, Creates, Opens, Reads, Writes, Fills, Seeks, Tells, Truncates, Flushes, Closes, Removes, RemovesOpen, Renames, Stats}
use Rattle.table_model.specs.Ask.{StatsOpen, NextAbove, Informs, Collects, SetsMeta, SetsMetaOpen}
use Rattle.fd_table.specs.declared.slot.FdSlot.{FdSlot}
use Rattle.fd_table.specs.Slots.{descriptors}
use Rattle.file_calls.specs.Replies.{is_of_slots}

-- the first of two refusals
abbrev pub first_of : Option FsErr → Option FsErr → Option FsErr
first_of None next = next
first_of (Some why) next = Some why

-- a refusal, unless something is so
abbrev pub fault_unless : Bool → FsErr → Option FsErr
fault_unless true why = None
fault_unless false why = Some why

-- no descriptor of a number is open
abbrev pub closed_fault : Option Open → Option FsErr
closed_fault None = Some BadDescriptor
closed_fault (Some d) = None

-- .. or it may not read
abbrev pub read_fault : Option Open → Option FsErr
read_fault None = Some BadDescriptor
read_fault (Some d) = fault_unless (may_read d.flags) NotReadable

-- .. or it may not write
abbrev pub write_fault : Option Open → Option FsErr
write_fault None = Some BadDescriptor
write_fault (Some d) = fault_unless (may_write d.flags) NotWritable

-- no descriptor is closed
abbrev pub full_fault : Option ℕ → Option FsErr
full_fault None = Some OutOfDescriptors
full_fault (Some fd) = None

-- why an opening gets no descriptor: its flags, or that none is closed
abbrev pub opening_fault : (flags : ℕ) → List (Option Open) → Option FsErr
opening_fault flags slots = if is_bad_flags flags then Some BadFlags else full_fault (lowest_closed slots)

-- meta bytes are not as many as the volume has
abbrev pub meta_fault : Geometry → List ℕ → Option FsErr
meta_fault g meta = fault_unless (length meta == g.meta) BadFlags

-- Why a call is refused by its arguments and the descriptors alone, if it is: before it looks at the device, in the order of the flat table.
abbrev pub slots_fault : Geometry → List (Option Open) → Ask → Option FsErr
slots_fault g slots (Creates name) = name_refusal name
slots_fault g slots (Opens name flags) = first_of (name_refusal name) (opening_fault flags slots)
slots_fault g slots (Reads fd count) = read_fault (open_at slots fd)
slots_fault g slots (Writes fd bytes) = write_fault (open_at slots fd)
slots_fault g slots (Fills fd count byte) = write_fault (open_at slots fd)
slots_fault g slots (Seeks fd offset from) = closed_fault (open_at slots fd)
slots_fault g slots (Tells fd) = closed_fault (open_at slots fd)
slots_fault g slots (Truncates fd size) = write_fault (open_at slots fd)
slots_fault g slots (Flushes fd) = closed_fault (open_at slots fd)
slots_fault g slots (Closes fd) = closed_fault (open_at slots fd)
slots_fault g slots (Removes name) = name_refusal name
slots_fault g slots (RemovesOpen fd) = closed_fault (open_at slots fd)
slots_fault g slots (Renames old_name new_name) = names_refusal old_name new_name
slots_fault g slots (Stats name) = name_refusal name
slots_fault g slots (StatsOpen fd) = closed_fault (open_at slots fd)
slots_fault g slots (NextAbove after) = None
slots_fault g slots Informs = None
slots_fault g slots Collects = None
slots_fault g slots (SetsMeta name meta) = first_of (name_refusal name) (meta_fault g meta)
slots_fault g slots (SetsMetaOpen fd meta) = first_of (meta_fault g meta) (write_fault (open_at slots fd))

-- A call is refused for a name, for flags or meta bytes, or for a descriptor exactly where these show it, and then it has asked for no
-- program and no erase. `wrote` says whether it has.
pub record IsNumbered (g : Geometry) (slots : List FdSlot) (ask : Ask) (reply : Answer) (wrote : Bool) : Type 0 where
  pub refused : (why : FsErr) → slots_fault g (descriptors slots) ask ≡ Some why → (reply ≡ Refuses why) × (wrote ≡ false)
  pub only : (why : FsErr) → is_of_slots why ≡ true → reply ≡ Refuses why → slots_fault g (descriptors slots) ask ≡ Some why
