-- What a window shows.
use Rattle.std.specs.Prelude.{ℕ, List, take, Option, Some, None, if◌then◌else◌}
use Rattle.write_window.specs.declared.window.Held.{Held}
use Rattle.write_window.specs.Runs.{Run}

-- its run, where it has one: the first of the lent bytes
abbrev pub run_in : Held → List ℕ → Option Run
run_in h bytes = if h.used then Some (record { fd = h.fd; id = h.id; start = h.start; bytes = take h.taken bytes }) else None
