-- What every call over a cached device leaves as it was.
use Rattle.std.specs.Prelude.{◌≡◌, length}
use Rattle.page_cache.specs.declared.cached.Cached.{Cached}

-- the same geometry, over the same device and frames
pub record IsSameCached {N : Type 0} {nor : _} (old new : Cached N nor) : Type 0 where
  pub geometry : new.geometry ≡ old.geometry
  pub nor_name : new.nor.ghost_name ≡ old.nor.ghost_name
  pub frames_name : new.frames.ghost_name ≡ old.frames.ghost_name
  pub frames_size : length new.frames.now ≡ length old.frames.now
