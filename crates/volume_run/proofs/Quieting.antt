-- Calls that leave nothing waiting.
use Rattle.std.proofs.Common.{◌≡◌, ℕ, List, true, false, Option, Some, None, refl}
use Rattle.std.proofs.lemmas.Bool.{false≢true, not-true}
use Rattle.geometry.specs.declared.geometry.Geometry.{Geometry}
use Rattle.table_model.specs.Table.{File, Open, State, file_of}
use Rattle.table_model.specs.Descriptors.{open_at, empties, is_direct}
use Rattle.table_model.specs.Ask.{Creates, Opens, Reads, Writes, Fills, Seeks, Tells, Truncates, Flushes, Closes, Removes, RemovesOpen, Renames, Stats, StatsOpen, NextAbove, Informs, Collects, SetsMeta, SetsMetaOpen}
use Rattle.table_model.specs.Steps.{open_file}
use Rattle.table_model.specs.Window.{incoming_of, may_wait}
use Rattle.volume_run.specs.Resting.{QuietCalls, QuietWrites}

pub quiet-calls : (g : Geometry) → QuietCalls g
unfolding incoming_of
quiet-calls g s (Creates name) quiet = record { collects = λ is. cc; cuts = refl; leaves = refl; waits = refl }
quiet-calls g s (Opens name flags) quiet = record { collects = λ is. cc; cuts = not-true (empties flags) quiet; leaves = refl; waits = refl }
quiet-calls g s (Reads fd count) quiet = record { collects = λ is. cc; cuts = refl; leaves = refl; waits = refl }
quiet-calls g s (Writes fd bytes) quiet = absurd (false≢true quiet)
quiet-calls g s (Fills fd count byte) quiet = absurd (false≢true quiet)
quiet-calls g s (Seeks fd offset from) quiet = record { collects = λ is. cc; cuts = refl; leaves = refl; waits = refl }
quiet-calls g s (Tells fd) quiet = absurd (false≢true quiet)
quiet-calls g s (Truncates fd size) quiet = absurd (false≢true quiet)
quiet-calls g s (Flushes fd) quiet = record { collects = λ is. cc; cuts = refl; leaves = refl; waits = refl }
quiet-calls g s (Closes fd) quiet = record { collects = λ is. cc; cuts = refl; leaves = refl; waits = refl }
quiet-calls g s (Removes name) quiet = record { collects = λ is. cc; cuts = refl; leaves = refl; waits = refl }
quiet-calls g s (RemovesOpen fd) quiet = record { collects = λ is. cc; cuts = refl; leaves = refl; waits = refl }
quiet-calls g s (Renames old_name new_name) quiet = record { collects = λ is. cc; cuts = refl; leaves = refl; waits = refl }
quiet-calls g s (Stats name) quiet = record { collects = λ is. cc; cuts = refl; leaves = refl; waits = refl }
quiet-calls g s (StatsOpen fd) quiet = record { collects = λ is. cc; cuts = refl; leaves = refl; waits = refl }
quiet-calls g s (NextAbove after) quiet = record { collects = λ is. cc; cuts = refl; leaves = refl; waits = refl }
quiet-calls g s Informs quiet = record { collects = λ is. cc; cuts = refl; leaves = refl; waits = refl }
quiet-calls g s Collects quiet = absurd (false≢true quiet)
quiet-calls g s (SetsMeta name meta) quiet = record { collects = λ is. cc; cuts = refl; leaves = refl; waits = refl }
quiet-calls g s (SetsMetaOpen fd meta) quiet = record { collects = λ is. cc; cuts = refl; leaves = refl; waits = refl }

write-waits : (g : Geometry) (s : State) (fd : ℕ) (bytes : List ℕ) (d : Open) → open_at s.slots fd ≡ Some d → is_direct d.flags ≡ true → (o : Option File) → file_of d.id s.table ≡ o → may_wait g (incoming_of s (Writes fd bytes)) ≡ false
unfolding incoming_of open_file
write-waits g s fd bytes d is direct None none = rw (is, none) refl
write-waits g s fd bytes d is direct (Some f) there = rw (is, there) (rw direct refl)

pub quiet-writes : (g : Geometry) → QuietWrites g
quiet-writes g s fd bytes d is direct = record { collects = λ same. cc; cuts = refl; leaves = refl; waits = write-waits g s fd bytes d is direct (file_of d.id s.table) refl }
