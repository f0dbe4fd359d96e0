-- The files so far are copied.
use Rattle.std.proofs.Common.{◌≡◌, map, take}
use Rattle.plain_table.specs.Seen.{file}
use Rattle.plain_table.proofs.copies.copied.Given as goal

abbrev pub invariant-loop-f : goal.invariant-loop-f
invariant-loop-f l = map file l.copies.items ≡ map file (take l.f-index l.files)
