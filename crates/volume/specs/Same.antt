-- What every call of a volume leaves as it was.
use Rattle.std.specs.Prelude.{◌≡◌, ◌≤◌, length}
use Rattle.nor_core.specs.declared.state.NorState.{Ghosts as NorOf}
use Rattle.page_cache.specs.Kept.{FewReads}
use Rattle.flash_view.specs.Same.{StaysBehind}
use Rattle.volume.specs.declared.volume.Volume.{Volume}

-- The same geometry, over the same device and lent memory; the bytes behind the volume stay; where there is a frame for each page and no fault was counted,
-- each read of the device has got one more page held.
pub record IsSameVolume {N : Type 0} {nor : NorOf N} (old new : Volume N nor) : Type 0 where
  pub geometry : new.geometry ≡ old.geometry
  pub nor_name : new.nor.ghost_name ≡ old.nor.ghost_name
  pub work_name : new.work.ghost_name ≡ old.work.ghost_name
  pub cache_name : new.cache.ghost_name ≡ old.cache.ghost_name
  pub slots_name : new.slots.ghost_name ≡ old.slots.ghost_name
  pub window_name : new.window.ghost_name ≡ old.window.ghost_name
  pub cache_size : length new.cache.now ≡ length old.cache.now
  pub behind : StaysBehind nor old.geometry old.nor.now new.nor.now
  pub faults : nor.faults old.nor.now ≤ nor.faults new.nor.now
  pub few : FewReads nor old.geometry old.nor.now old.cache.now new.nor.now new.cache.now
