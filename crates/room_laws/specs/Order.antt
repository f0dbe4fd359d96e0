-- The order of the blocks does not matter.
use Rattle.std.specs.Prelude.{◌≡◌, ℕ, zero, suc, ◌<◌, ◌≤◌, List, [], ◌∷◌, length, Contains, slice_index_or, slice_set}
use Rattle.room_laws.specs.Counts.{Counts, unused, for_data, kind_of}
use Rattle.room_laws.specs.Volume.{total, IsVolume, blocks_of, Worth, Fits}
use Rattle.room_laws.specs.Bounds.{Bound}
use Rattle.room_laws.specs.Cleaning.{Cleaned}
use Rattle.room_laws.specs.Mending.{Mending, DataStay}

-- the blocks other than block i
abbrev pub without : ℕ → List Counts → List Counts
without i [] = []
without zero (x ∷ v) = v
without (suc i) (x ∷ v) = x ∷ without i v

-- These are the same blocks in another order, as far as sums and blocks tell.
pub record Rearranged (a b : List Counts) : Type 0 where
  pub long : length b ≡ length a
  pub totals : (f : Counts → ℕ) → total f b ≡ total f a
  pub blocks : (c : Counts) → Contains a c → Contains b c

-- Any block may stand at the front.
abbrev pub ToFront : Type 0
ToFront = (v : List Counts) (i : ℕ) (c : Counts) → i < length v → slice_index_or v i c ≡ c → Rearranged (c ∷ without i v) v

-- In another order the blocks mend too.
abbrev pub MendingRearranged : Type 0
MendingRearranged = (e : ℕ) (a b : List Counts) → Rearranged a b → Mending e a → Mending e b

-- A whole cleaning of a volume with the bound leaves one that cleanings mend.
abbrev pub CleanedMends : Type 0
CleanedMends = (e : ℕ) (a b : List Counts) (c : Counts) → Cleaned e a c b → Bound e a → Mending e b

-- Data blocks stay data blocks where they are, and keep their deleted entries.
abbrev pub Stays : List Counts → List Counts → Type 0
Stays r s = (k : ℕ) (x : Counts) → k < length r → slice_index_or r k x ≡ x → kind_of x ≡ for_data →
    (n : Counts) × (k < length s) × (slice_index_or s k n ≡ n) × (kind_of n ≡ for_data) × (x.deleted ≤ n.deleted)

-- They do where nothing changes.
abbrev pub StaysStart : Type 0
StaysStart = (r : List Counts) → Stays r r

-- They do where one block changes, as by a step.
abbrev pub StaysSet : Type 0
StaysSet = (r s : List Counts) (i : ℕ) (c d : Counts) → Stays r s → i < length s → slice_index_or s i c ≡ c →
    (kind_of c ≡ for_data → (kind_of d ≡ for_data) × (c.deleted ≤ d.deleted)) → Stays r (slice_set s i d)

-- Beside a cleaned block they stay as a cleaning that mends asks.
abbrev pub StaysEnd : Type 0
StaysEnd = (r s : List Counts) (c d : Counts) → Stays r s → DataStay (c ∷ r) c (d ∷ s)

-- Where cleanings of a volume that is mending stop, two blocks are free.
abbrev pub StoppedIsMended : Type 0
StoppedIsMended = (e : ℕ) (v : List Counts) → IsVolume e v → Mending e v → ((c : Counts) → Contains v c → Worth v c → Fits e v c → ⊥) → 2 ≤ blocks_of unused v
