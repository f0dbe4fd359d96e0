use Rattle.std.proofs.Common.{◌≢◌, ℕ, ◌<◌}
use Rattle.folder_core.specs.Files.{name_at}
use Rattle.host_edge.specs.Host.{host_entries}
use Rattle.host_edge.proofs.put.find.Given as goal

abbrev pub invariant-loop-i : goal.invariant-loop-i
invariant-loop-i l = (k : ℕ) → k < l.i → name_at (host_entries l.files.items) k ≢ l.name
