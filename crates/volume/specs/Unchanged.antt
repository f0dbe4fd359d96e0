-- Volumes that nothing was done to but reads.
use Rattle.std.specs.Prelude.{◌≡◌}
use Rattle.nor_core.specs.declared.state.NorState.{Ghosts as NorOf}
use Rattle.nor_core.specs.Device.{OnlyReads}
use Rattle.volume.specs.declared.volume.Volume.{Volume}
use Rattle.volume.specs.Holds.{memory}

-- the device was only read, and the descriptors, the bytes that wait and the stage are as before
pub record Unchanged {N : Type 0} {nor : NorOf N} (old new : Volume N nor) : Type 0 where
  pub reads : OnlyReads nor old.nor.now new.nor.now
  pub slots : new.slots.now ≡ old.slots.now
  pub run : (memory new).run ≡ (memory old).run
  pub stage : new.stage ≡ old.stage
