-- How often a command reads.
use Rattle.std.specs.Prelude.{ℕ, ◌+◌, ◌*◌, ◌≤◌}
use Rattle.geometry.specs.declared.geometry.Geometry.{Geometry}
use Rattle.geometry.specs.Numbers.{page_count}
use Rattle.nor_core.specs.Count.{Rose}
use Rattle.nor_core.specs.declared.state.NorState.{Ghosts as NorOf}

-- with lent bytes for a copy of each page, and where no fault was counted, the device was asked for no more reads than it has pages
pub record ReadsOnce {D : Type 0} (nor : NorOf D) (g : Geometry) (cache : ℕ) (old new : D) : Type 0 where
  pub few : page_count g * (g.page + 8) ≤ cache → ¬ Rose (nor.faults old) (nor.faults new) → nor.device_reads new ≤ nor.device_reads old + page_count g
