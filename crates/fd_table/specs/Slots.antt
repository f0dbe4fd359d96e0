-- Descriptors as a list of closed and open ones, numbered from 1.
use Rattle.std.specs.Prelude.{List, map, take, Option, Some, None, if◌then◌else◌}
use Rattle.fd_table.specs.declared.slot.FdSlot.{FdSlot}
use Rattle.table_model.specs.Table.{Open}
unfoldable pub use Rattle.table_model.specs.Descriptors.{open_at, put_at, lowest_closed}
pub use Rattle.table_model.specs.Descriptors.{lowest_from, new_open, at_offset, without_file, pulled_back}

-- what an open slot tells
abbrev pub opened : FdSlot → Open
opened s = record { id = s.id; flags = s.flags; offset = s.offset }

-- what a slot holds: a descriptor, or none where it isn't used
abbrev pub held : FdSlot → Option Open
held s = if s.used then Some (opened s) else None

-- the descriptors in lent slots, of which the first 65,535 count
unfoldable pub descriptors : List FdSlot → List (Option Open)
descriptors slots = map held (take 65535 slots)
