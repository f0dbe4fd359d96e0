-- The files so far are copied.
use Rattle.std.proofs.Common.{◌≡◌, map, take}
use Rattle.plain_table.specs.Seen.{file}
use Rattle.plain_image.specs.Seen.{file as record_file}
use Rattle.rehearse_tool.proofs.files.files_of.Given as goal

abbrev pub invariant-loop-r : goal.invariant-loop-r
invariant-loop-r l = map file l.files.items ≡ map record_file (take l.r-index l.records)
