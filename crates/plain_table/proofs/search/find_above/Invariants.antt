-- The search from `f` on gives the answer.
use Rattle.std.proofs.Common.{◌≡◌, map, drop}
use Rattle.table_model.specs.Table.{file_above}
use Rattle.plain_table.specs.Seen.{file}
use Rattle.plain_table.proofs.search.find_above.Given as goal

abbrev pub invariant-loop-f : goal.invariant-loop-f
invariant-loop-f l = file_above l.after (map file (drop l.f-index l.files)) ≡ file_above l.after (map file l.files)
