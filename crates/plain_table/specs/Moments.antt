-- What the program's moments show.
use Rattle.std.specs.Prelude.{map, Option, Some, None}
use Rattle.geometry.specs.declared.geometry.Geometry.{Geometry}
use Rattle.table_model.specs.Window.{Waiting, Moment, Incoming}
use Rattle.plain_table.specs.declared.window.PlainWaiting.{PlainWaiting}
use Rattle.plain_table.specs.declared.window.Coming.{Coming}
use Rattle.plain_table.specs.declared.moment.PlainMoment.{PlainMoment}
use Rattle.plain_table.specs.Seen.{file, files_of, state_of}

-- bytes that wait
abbrev pub waiting : PlainWaiting → Waiting
waiting w = record { fd = w.fd; id = w.id; start = w.start; len = w.len }

-- the window, where bytes wait
abbrev pub window_of : Option PlainWaiting → Option Waiting
window_of None = None
window_of (Some w) = Some (waiting w)

-- what a write brings, where there is one
abbrev pub coming : Option Coming → Option Incoming
coming None = None
coming (Some i) = Some (record { bytes = waiting i.bytes; direct = i.direct })

-- the moment that the program holds
abbrev pub moment_of : PlainMoment → Moment
moment_of m = record { state = state_of m.flat; settled = map file m.settled.items; waiting = map files_of m.waiting.items; window = window_of m.window }

-- the numbers of its volume
abbrev pub geometry_of : PlainMoment → Geometry
geometry_of m = m.flat.geometry
