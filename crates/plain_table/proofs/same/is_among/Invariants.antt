-- The table is one of all these where it is one of those from `other` on.
use Rattle.std.proofs.Common.{◌↔◌, map, drop}
use Rattle.table_model.specs.Window.{IsAmong}
use Rattle.plain_table.specs.Seen.{file, files_of}
use Rattle.plain_table.proofs.same.is_among.Given as goal

abbrev pub invariant-loop-other : goal.invariant-loop-other
invariant-loop-other l = IsAmong (map file l.table) (map files_of (drop l.other-index l.tables)) ↔ IsAmong (map file l.table) (map files_of l.tables)
