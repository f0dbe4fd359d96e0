-- The tables so far are copied.
use Rattle.std.proofs.Common.{◌≡◌, map, take}
use Rattle.plain_table.specs.Seen.{files_of}
use Rattle.plain_table.proofs.copies.tables_copied.Given as goal

abbrev pub invariant-loop-table : goal.invariant-loop-table
invariant-loop-table l = map files_of l.copies.items ≡ map files_of (take l.table-index l.tables)
