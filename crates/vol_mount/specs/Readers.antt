-- What every call of a reader leaves as it was.
use Rattle.std.specs.Prelude.{◌≡◌, ◌≤◌, length, true}
use Rattle.nor_core.specs.declared.state.NorState.{Ghosts as NorOf}
use Rattle.page_cache.specs.Kept.{FewReads}
use Rattle.vol_mount.specs.declared.reader.Reader.{Reader}

-- the same geometry, over the same device and lent memory; a survey that was done stays known; each read of the device has got one more page held,
-- where there is a frame for each page and no fault was counted
pub record IsSameReader {N : Type 0} {nor : NorOf N} (old new : Reader N nor) : Type 0 where
  pub geometry : new.geometry ≡ old.geometry
  pub nor_name : new.nor.ghost_name ≡ old.nor.ghost_name
  pub work_name : new.work.ghost_name ≡ old.work.ghost_name
  pub cache_name : new.cache.ghost_name ≡ old.cache.ghost_name
  pub check_name : new.check.ghost_name ≡ old.check.ghost_name
  pub cache_size : length new.cache.now ≡ length old.cache.now
  pub known : old.known ≡ true → new.known ≡ true
  pub faults : nor.faults old.nor.now ≤ nor.faults new.nor.now
  pub few : FewReads nor old.geometry old.nor.now old.cache.now new.nor.now new.cache.now
