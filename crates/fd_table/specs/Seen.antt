-- What a table of descriptors shows.
use Rattle.std.specs.Prelude.{List, Option}
use Rattle.fd_table.specs.declared.table.FdTable.{FdTable}
use Rattle.fd_table.specs.Slots.{descriptors}
use Rattle.table_model.specs.Table.{Open}

-- its descriptors
abbrev pub seen : FdTable → List (Option Open)
seen t = descriptors t.slots.now
