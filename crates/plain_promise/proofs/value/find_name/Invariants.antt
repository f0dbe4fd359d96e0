-- The search from `f` on gives the answer.
use Rattle.std.proofs.Common.{◌≡◌, map, drop}
use Rattle.table_model.specs.Table.{file_named}
use Rattle.plain_table.specs.Seen.{file}
use Rattle.plain_promise.proofs.value.find_name.Given as goal

abbrev pub invariant-loop-f : goal.invariant-loop-f
invariant-loop-f l = file_named l.name (map file (drop l.f-index l.files)) ≡ file_named l.name (map file l.files)
