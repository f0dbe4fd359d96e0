-- The files before have ids below that one.
use Rattle.std.proofs.Common.{ℕ, ◌<◌, get_or}
use Rattle.plain_table.specs.declared.file.PlainFile.{PlainFile}
use Rattle.plain_table.proofs.search.place_of.Given as goal

abbrev pub invariant-loop-at : goal.invariant-loop-at
invariant-loop-at l = (k : ℕ) (d : PlainFile) → k < l.at → (get_or l.files k d).id < l.id
