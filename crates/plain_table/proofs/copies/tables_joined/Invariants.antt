-- The further tables so far stand behind the first ones.
use Rattle.std.proofs.Common.{◌≡◌, ◌++◌, map, take}
use Rattle.plain_table.specs.Seen.{files_of}
use Rattle.plain_table.proofs.copies.tables_joined.Given as goal

abbrev pub invariant-loop-table : goal.invariant-loop-table
invariant-loop-table l = map files_of l.joined.items ≡ map files_of l.tables ++ map files_of (take l.table-index l.more)
