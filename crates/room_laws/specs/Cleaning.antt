-- What a cleaning does to the counts.
use Rattle.std.specs.Prelude.{◌≡◌, ℕ, ◌+◌, ◌<◌, ◌≤◌, List, length, Contains}
use Rattle.room_laws.specs.Counts.{Counts, Kind, unused, for_index, for_data, kind_of, if_kind}
use Rattle.room_laws.specs.Volume.{IsVolume, blocks_of, free_of, deleted_of, index_total, pages_total}

-- Of a kind: a free block is taken only where the other blocks have fewer free entries left than a block has, and the
-- deleted entries of the cleaned block are gone.
pub record KindKept (e : ℕ) (a : List Counts) (c : Counts) (b : List Counts) (k : Kind) : Type 0 where
  pub taken : blocks_of k a < blocks_of k b + if_kind k c 1 → free_of k b < e
  pub deleted : deleted_of k b + if_kind k c c.deleted ≤ deleted_of k a

-- Cleaning the block c of a gives b.
pub record Cleaned (e : ℕ) (a : List Counts) (c : Counts) (b : List Counts) : Type 0 where
  pub before : IsVolume e a
  pub after : IsVolume e b
  pub victim : Contains a c
  pub blocks : length b ≡ length a
  pub index : index_total b ≡ index_total a
  pub pages : pages_total b ≡ pages_total a
  pub free : 0 < blocks_of unused b
  pub for_index_kept : kind_of c ≡ for_index → KindKept e a c b for_index
  pub for_data_kept : KindKept e a c b for_data
  pub index_few : blocks_of for_index b ≤ blocks_of for_index a + 1
