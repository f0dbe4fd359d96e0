-- What every call over a view leaves as it was.
use Rattle.std.specs.Prelude.{◌≡◌, ◌*◌, ◌≤◌, true, false, length}
use Rattle.geometry.specs.declared.geometry.Geometry.{Geometry}
use Rattle.nor_core.specs.Count.{Rose}
use Rattle.nor_core.specs.Flash.{SameOutside}
use Rattle.nor_core.specs.Device.{OnlyReads, Leaves}
use Rattle.nor_core.specs.declared.state.NorState.{Ghosts as NorOf}
use Rattle.page_cache.specs.Kept.{FewReads}
use Rattle.flash_view.specs.declared.view.View.{View}

-- The bytes of a device behind the volume of a geometry stay, in what a cut may leave too.
pub record StaysBehind {N : Type 0} (nor : NorOf N) (g : Geometry) (old new : N) : Type 0 where
  pub cuts : Leaves nor old new (λ image count. nor.tells old → SameOutside 0 (g.blocks * g.block) (nor.bytes old) image)
  pub now : nor.tells old → SameOutside 0 (g.blocks * g.block) (nor.bytes old) (nor.bytes new)

-- The same geometry, over the same device, work, rows and cache; the bytes behind the volume stay. The count of programs and erases never falls,
-- and where one was asked for that wasn't before, it rose. Each read of the device has got one more page held, where there is a frame for each
-- page and no fault was counted.
pub record IsSameView {N : Type 0} {nor : NorOf N} (old new : View N nor) : Type 0 where
  pub geometry : new.geometry ≡ old.geometry
  pub nor_name : new.nor.ghost_name ≡ old.nor.ghost_name
  pub work_name : new.work.ghost_name ≡ old.work.ghost_name
  pub rows_name : new.rows.ghost_name ≡ old.rows.ghost_name
  pub cache_name : new.cache.ghost_name ≡ old.cache.ghost_name
  pub cache_size : length new.cache.now ≡ length old.cache.now
  pub behind : StaysBehind nor old.geometry old.nor.now new.nor.now
  pub faults : nor.faults old.nor.now ≤ nor.faults new.nor.now
  pub writes : nor.device_writes old.nor.now ≤ nor.device_writes new.nor.now
  pub asked : old.wrote ≡ false → new.wrote ≡ true → Rose (nor.device_writes old.nor.now) (nor.device_writes new.nor.now)
  pub few : FewReads nor old.geometry old.nor.now old.cache.now new.nor.now new.cache.now

-- the device was only read, and the table of counts is as it was
pub record OnlyLooks {N : Type 0} {nor : NorOf N} (old new : View N nor) : Type 0 where
  pub reads : OnlyReads nor old.nor.now new.nor.now
  pub wrote : new.wrote ≡ old.wrote
  pub counted : new.counted ≡ old.counted
  pub rows : new.rows.now ≡ old.rows.now
  pub same : IsSameView old new

-- the device was only read
pub record OnlyCounts {N : Type 0} {nor : NorOf N} (old new : View N nor) : Type 0 where
  pub reads : OnlyReads nor old.nor.now new.nor.now
  pub wrote : new.wrote ≡ old.wrote
  pub same : IsSameView old new
