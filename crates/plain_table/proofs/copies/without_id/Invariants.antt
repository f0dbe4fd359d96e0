-- The files so far are copied, but for those of that id.
use Rattle.std.proofs.Common.{◌≡◌, map, take}
use Rattle.table_model.specs.Table.{drop_file}
use Rattle.plain_table.specs.Seen.{file}
use Rattle.plain_table.proofs.copies.without_id.Given as goal

abbrev pub invariant-loop-f : goal.invariant-loop-f
invariant-loop-f l = map file l.next.items ≡ drop_file l.id (map file (take l.f-index l.files))
