-- The text so far, and what is to come.
use Rattle.std.proofs.Common.{◌≡◌, ◌++◌, drop, map, string_bytes}
use Rattle.std.specs.List.{flat_map}
use Rattle.plain_image.specs.Seen.{file}
use Rattle.plain_explain.specs.Report.{file_line}
use Rattle.plain_explain.proofs.report.push_files.Given as goal

abbrev pub invariant-loop-listed : goal.invariant-loop-listed
invariant-loop-listed l = string_bytes l.text ++ flat_map file_line (map file (drop l.listed-index l.table)) ≡ string_bytes l.initial.text ++ flat_map file_line (map file l.table)
