use Rattle.std.proofs.Common.{◌≢◌, ℕ, ◌<◌}
use Rattle.folder_core.specs.Files.{entries_of, name_at}
use Rattle.folder_core.specs.Mem.{files_of}
use Rattle.folder_core.proofs.file.find.Given as goal

abbrev pub invariant-loop-i : goal.invariant-loop-i
invariant-loop-i l = (k : ℕ) → k < l.i → name_at (entries_of (files_of l.files.items)) k ≢ l.name
