-- What a page that is put tells of the sums.
use Rattle.std.proofs.Common.{◌≡◌, ℕ, ◌+◌, ◌<◌, ◌⊎◌, List, length, refl, arith, inl, inr, slice_index_or, slice_set}
use Rattle.std.specs.Prelude.{All}
use Rattle.room_laws.specs.Counts.{Counts, IsBlock, Kind, unused, for_index, for_data, kind_of, if_kind}
use Rattle.room_laws.specs.Volume.{blocks_of, free_of}
use Rattle.room_laws.specs.Steps.{placed, killed, CanPut}
use Rattle.room_laws.proofs.Totals.{Seen, is_unused, is_index, is_data, seen}
use Rattle.room_laws.proofs.Moves.{blocks-set, free-set, kind-index, kind-data, block-of, no-pages}

-- A page of kind k was put, and j is the other kind: it took a free entry of its kind, or where there was none an unused block.
pub record PutTells (e : ℕ) (s t : List Counts) (k j : Kind) : Type 0 where
  pub other_blocks : blocks_of j t ≡ blocks_of j s
  pub other_free : free_of j t ≡ free_of j s
  pub own : ((blocks_of unused t ≡ blocks_of unused s) × (blocks_of k t ≡ blocks_of k s) × (free_of k t + 1 ≡ free_of k s))
      ⊎ ((blocks_of unused t + 1 ≡ blocks_of unused s) × (blocks_of k t ≡ blocks_of k s + 1) × (free_of k s ≡ 0) × (free_of k t + 1 ≡ e))

-- an unused block is free as a whole
pub unused-free : (e : ℕ) (c : Counts) → IsBlock e c → kind_of c ≡ unused → c.free ≡ e
unused-free e c is k = by (seen e c is)
  where
    by : Seen e c → c.free ≡ e
    by (is_unused j i p x) = omega (arith, is.whole, i, p, x)
    by (is_index j p x w) = absurd (cc)
    by (is_data j i x w) = absurd (cc)

index-tells : (e : ℕ) (s : List Counts) (i : ℕ) (c d : Counts) → IsBlock e c → i < length s → slice_index_or s i c ≡ c →
    (kind_of c ≡ for_index) ⊎ ((kind_of c ≡ unused) × (free_of for_index s ≡ 0)) → kind_of d ≡ for_index → d.free + 1 ≡ c.free → PutTells e s (slice_set s i d) for_index for_data
index-tells e s i c d is within at (inl kc) kd free = record {
  other_blocks = let b = rw (kc, kd) at (blocks-set for_data s i c d within at) in omega (arith, b);
  other_free = let f = rw (kc, kd) at (free-set for_data s i c d within at) in omega (arith, f);
  own =
      let u = rw (kc, kd) at (blocks-set unused s i c d within at) in
      let b = rw (kc, kd) at (blocks-set for_index s i c d within at) in
      let f = rw (kc, kd) at (free-set for_index s i c d within at) in
      inl (omega (arith, u), omega (arith, b), omega (arith, f, free));
}
index-tells e s i c d is within at (inr (kc, none)) kd free = record {
  other_blocks = let b = rw (kc, kd) at (blocks-set for_data s i c d within at) in omega (arith, b);
  other_free = let f = rw (kc, kd) at (free-set for_data s i c d within at) in omega (arith, f);
  own =
      let u = rw (kc, kd) at (blocks-set unused s i c d within at) in
      let b = rw (kc, kd) at (blocks-set for_index s i c d within at) in
      let f = rw (kc, kd) at (free-set for_index s i c d within at) in
      inr (omega (arith, u), omega (arith, b), none, omega (arith, f, none, free, unused-free e c is kc));
}

data-tells : (e : ℕ) (s : List Counts) (i : ℕ) (c d : Counts) → IsBlock e c → i < length s → slice_index_or s i c ≡ c →
    (kind_of c ≡ for_data) ⊎ ((kind_of c ≡ unused) × (free_of for_data s ≡ 0)) → kind_of d ≡ for_data → d.free + 1 ≡ c.free → PutTells e s (slice_set s i d) for_data for_index
data-tells e s i c d is within at (inl kc) kd free = record {
  other_blocks = let b = rw (kc, kd) at (blocks-set for_index s i c d within at) in omega (arith, b);
  other_free = let f = rw (kc, kd) at (free-set for_index s i c d within at) in omega (arith, f);
  own =
      let u = rw (kc, kd) at (blocks-set unused s i c d within at) in
      let b = rw (kc, kd) at (blocks-set for_data s i c d within at) in
      let f = rw (kc, kd) at (free-set for_data s i c d within at) in
      inl (omega (arith, u), omega (arith, b), omega (arith, f, free));
}
data-tells e s i c d is within at (inr (kc, none)) kd free = record {
  other_blocks = let b = rw (kc, kd) at (blocks-set for_index s i c d within at) in omega (arith, b);
  other_free = let f = rw (kc, kd) at (free-set for_index s i c d within at) in omega (arith, f);
  own =
      let u = rw (kc, kd) at (blocks-set unused s i c d within at) in
      let b = rw (kc, kd) at (blocks-set for_data s i c d within at) in
      let f = rw (kc, kd) at (free-set for_data s i c d within at) in
      inr (omega (arith, u), omega (arith, b), none, omega (arith, f, none, free, unused-free e c is kc));
}

pub put-index : (e : ℕ) (s : List Counts) (i : ℕ) (c : Counts) → All (IsBlock e) s → CanPut s for_index i c → PutTells e s (slice_set s i (placed for_index c)) for_index for_data
put-index e s i c all can =
    let is = block-of e s i c all can.within can.at in
    let none = no-pages e s c (seen e c is) can.rule in
    index-tells e s i c (placed for_index c) is can.within can.at can.rule (kind-index (placed for_index c) none (omega arith)) (omega (arith, can.place))

pub put-data : (e : ℕ) (s : List Counts) (i : ℕ) (c : Counts) → All (IsBlock e) s → CanPut s for_data i c → PutTells e s (slice_set s i (placed for_data c)) for_data for_index
put-data e s i c all can =
    let is = block-of e s i c all can.within can.at in
    data-tells e s i c (placed for_data c) is can.within can.at can.rule (kind-data (placed for_data c) (omega arith)) (omega (arith, can.place))

-- A page of a block for index pages was killed: the blocks and the free entries are the same.
pub record KillTells (s t : List Counts) : Type 0 where
  pub blocks : (k : Kind) → blocks_of k t ≡ blocks_of k s
  pub free : (k : Kind) → free_of k t ≡ free_of k s

kills-tell : (s : List Counts) (i : ℕ) (c d : Counts) → i < length s → slice_index_or s i c ≡ c → kind_of d ≡ kind_of c → d.free ≡ c.free → KillTells s (slice_set s i d)
kills-tell s i c d within at kind free = record {
  blocks = λ k. let b = rw kind at (blocks-set k s i c d within at) in omega (arith, b);
  free = λ k. let same : if_kind k d d.free ≡ if_kind k c c.free = rw (kind, free) refl in let f = free-set k s i c d within at in omega (arith, f, same);
}

pub kill-index : (e : ℕ) (s : List Counts) (i : ℕ) (c : Counts) → All (IsBlock e) s → i < length s → slice_index_or s i c ≡ c → kind_of c ≡ for_index → 0 < c.index → KillTells s (slice_set s i (killed c))
kill-index e s i c all within at kind some =
    let is = block-of e s i c all within at in
    let none = no-pages e s c (seen e c is) (inl kind) in
    kills-tell s i c (killed c) within at (let k = kind-index (killed c) none (omega arith) in rw (kind, k) refl) refl
