-- The files so far are copied.
use Rattle.std.proofs.Common.{◌≡◌, map, take}
use Rattle.plain_image.specs.Seen.{file as the_file}
use Rattle.plain_table.specs.Seen.{file as the_plain}
use Rattle.flash_trace.proofs.picture.plain_files.Given as goal

abbrev pub invariant-loop-f : goal.invariant-loop-f
invariant-loop-f l = map the_plain l.plain.items ≡ map the_file (take l.f-index l.files)
