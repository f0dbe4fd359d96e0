-- Devices that hold a state of the flat table.
use Rattle.std.specs.Prelude.{◌≡◌, List}
use Rattle.geometry.specs.declared.geometry.Geometry.{Geometry}
use Rattle.nor_core.specs.declared.state.NorState.{Ghosts as NorOf}
use Rattle.table_model.specs.Table.{State}
use Rattle.image_model.specs.Tables.{table_of}
use Rattle.image_model.specs.Tidy.{IsTidy}
use Rattle.fd_table.specs.declared.slot.FdSlot.{FdSlot}
use Rattle.fd_table.specs.Slots.{descriptors}
use Rattle.call_model.specs.Memory.{OpensFiles}

-- A device and descriptors are those of a state on which nothing waits: the device tells a tidy image with its table, and each open
-- descriptor is on a file of that.
pub record IsImageOf {D : Type 0} (nor : NorOf D) (g : Geometry) (d : D) (lent : List FdSlot) (s : State) : Type 0 where
  pub tells : nor.tells d
  pub tidy : IsTidy g (nor.bytes d)
  pub table : s.table ≡ table_of g (nor.bytes d)
  pub slots : descriptors lent ≡ s.slots
  pub opened : OpensFiles s
