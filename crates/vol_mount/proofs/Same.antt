-- Calls of a reader, one after the other.
use Rattle.std.proofs.Common.{ℕ, List}
use Rattle.nor_core.specs.Device.{OnlyReads}
use Rattle.nor_core.specs.declared.state.NorState.{Ghosts as NorOf}
use Rattle.page_cache.specs.Kept.{FewReads}
use Rattle.page_cache.proofs.Held.{few_then}
use Rattle.vol_mount.specs.declared.reader.Reader.{Reader}
use Rattle.vol_mount.specs.Readers.{IsSameReader}

module _ {N : Type 0} {nor : NorOf N} where
  -- a further call over the device and its copies
  pub few_more : (old mid : Reader N nor) (new : N) (cache : List ℕ) → IsSameReader old mid → OnlyReads nor mid.nor.now new → FewReads nor mid.geometry mid.nor.now mid.cache.now new cache →
      FewReads nor old.geometry old.nor.now old.cache.now new cache
  few_more old mid new cache first reads few = few_then old.geometry first.cache_size first.faults reads.faults first.few (rw first.geometry at few)
