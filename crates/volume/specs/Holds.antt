-- Volumes at a moment of the flat table.
use Rattle.nor_core.specs.declared.state.NorState.{Ghosts as NorOf}
use Rattle.table_model.specs.Window.{Moment}
use Rattle.fd_table.specs.Slots.{descriptors}
use Rattle.write_window.specs.Shown.{run_in}
use Rattle.call_model.specs.Memory.{Memory}
use Rattle.call_model.specs.Calls.{Stands}
use Rattle.volume.specs.declared.volume.Volume.{Volume}

-- what a volume remembers beside its device: its descriptors, and the written bytes that wait
abbrev pub memory : {N : Type 0} {nor : NorOf N} → Volume N nor → Memory
memory v = record { slots = descriptors v.slots.now; run = run_in v.held v.window.now }

-- a volume stands at a moment
abbrev pub Holds : {N : Type 0} {nor : NorOf N} → Volume N nor → Moment → Type 0
Holds {N} {nor} v m = Stands nor v.geometry v.nor.now (memory v) m
