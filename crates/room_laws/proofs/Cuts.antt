-- A cut in a cleaning.
use Rattle.std.proofs.Common.{◌≡◌, ℕ, suc, ◌+◌, ◌-◌, ◌*◌, ◌<◌, ◌≤◌, ◌⊎◌, List, ◌∷◌, length, refl, arith, ⊎_elim, inl, inr}
use Rattle.std.proofs.Math.Nat.{mul-le-mul_right}
use Rattle.std.proofs.lemmas.Bool.{cases_lt}
use Rattle.room_laws.specs.Counts.{Counts, Kind, unused, for_index, for_data, kind_of, if_same, if_kind}
use Rattle.room_laws.specs.Volume.{IsVolume, blocks_of, free_of, deleted_of, index_total, pages_total, free_beside, need, Worth, Fits}
use Rattle.room_laws.specs.Bounds.{Bound}
use Rattle.room_laws.specs.Mending.{NearBound, Opens, Mending, strong, strong_none, near, near_none}
use Rattle.room_laws.specs.Cut.{CutIndex, Batches, DeadBlock, CutData, CutMends}
use Rattle.room_laws.specs.TwoFree.{HasSpare}
use Rattle.room_laws.proofs.Totals.{Seen, is_unused, is_index, is_data, seen, Sums, sums, ceil-le}
use Rattle.room_laws.proofs.Bounding.{data-size, index-size}
use Rattle.room_laws.proofs.Measures.{beside-le, if_any-le}

pub bound-from : (e : ℕ) (a b : List Counts) → index_total b ≡ index_total a → blocks_of for_data b ≤ blocks_of for_data a → length b ≡ length a → Bound e a → Bound e b
bound-from e a b i k l bound = rw (i, l) (omega arith)

near-from : (e : ℕ) (a b : List Counts) → index_total b ≡ index_total a → blocks_of for_data b ≤ blocks_of for_data a + 1 → length b ≡ length a → Bound e a → NearBound e b
near-from e a b i k l bound = rw (i, l) (omega arith)

pub tail-sums : (e : ℕ) (c : Counts) (r : List Counts) → IsVolume e (c ∷ r) → Sums e r
tail-sums e c r is = sums e r (λ k d low. is.blocks (suc k) d (omega arith))

pub head-seen : (e : ℕ) (c : Counts) (r : List Counts) → IsVolume e (c ∷ r) → Seen e c
head-seen e c r is = seen e c (is.blocks 0 c (omega arith))

-- L live pages, F free and D deleted entries in n blocks become L', F' and D' in more: so many entries went, beyond all that were free
beyond : (e L F D n L' F' D' n' : ℕ) → L + F + D ≡ n * e → L' + F' + D' ≡ n' * e → (t : ℕ) → n + suc t ≤ n' → F' < e → L + D + F + t * e < L' + D'
beyond e L F D n L' F' D' n' x y t more low = let m : (n + suc t) * e ≤ n' * e = mul-le-mul_right e more in omega (arith, m)

-- and at least so many stay free
room-left : (e L F D n L' F' D' n' : ℕ) → L + F + D ≡ n * e → L' + F' + D' ≡ n' * e → n + 1 ≤ n' → L + F + D + e ≤ L' + F' + D'
room-left e L F D n L' F' D' n' x y more = let m : (n + 1) * e ≤ n' * e = mul-le-mul_right e more in omega (arith, m)

worth-index : (c : Counts) (r : List Counts) → kind_of c ≡ for_index → Worth (c ∷ r) c → free_of for_index r < c.index → 0 < c.deleted
unfolding free_beside
worth-index c r k worth many = ⊎_elim (λ (h : 0 < c.deleted). h)
    (λ (h : c.index ≤ free_beside (c ∷ r) - c.free). let p = rw k at (if_any-le c.index (if_kind for_index c c.free)) in let h' = rw k at h in absurd (omega (arith, h', p, beside-le r, many)))
    (rw k at worth)

pub own_kind-free : (k : Kind) (d : Counts) (s : List Counts) → if_kind k d d.free ≡ d.free → free_of k (d ∷ s) ≡ d.free + free_of k s
unfolding free_of
own_kind-free k d s o = omega arith

pub other_kind-free : (k : Kind) (d : Counts) (s : List Counts) → if_kind k d d.free ≡ 0 → free_of k (d ∷ s) ≡ free_of k s
unfolding free_of
other_kind-free k d s o = omega arith

fits-index : (e : ℕ) (d : Counts) (s : List Counts) → 0 < e → kind_of d ≡ for_index → d.index ≤ free_of for_index s → Fits e (d ∷ s) d
fits-index e d s pos k places =
    let f = own_kind-free for_index d s (rw k refl) in
    let m : need e d.index (free_of for_index (d ∷ s) - d.free) ≤ 0 = ceil-le (d.index - (free_of for_index (d ∷ s) - d.free)) e 0 pos (omega (arith, f, places)) in
    rw k (omega (arith, m))

fits-data : (e : ℕ) (d : Counts) (s : List Counts) → 0 < e → kind_of d ≡ for_data → d.pages ≤ free_of for_data s → d.pages ≤ free_of for_index s → Fits e (d ∷ s) d
fits-data e d s pos k places others =
    let f = own_kind-free for_data d s (rw k refl) in
    let g = other_kind-free for_index d s (rw k refl) in
    let m : need e d.pages (free_of for_data (d ∷ s) - d.free) ≤ 0 = ceil-le (d.pages - (free_of for_data (d ∷ s) - d.free)) e 0 pos (omega (arith, f, places)) in
    let n : need e d.pages (free_of for_index (d ∷ s)) ≤ 0 = ceil-le (d.pages - free_of for_index (d ∷ s)) e 0 pos (omega (arith, g, others)) in
    rw k (omega (arith, m, n))

-- a dead block is worth cleaning and fits
pub dead-worth : (v : List Counts) (x : Counts) → kind_of x ≡ for_index → 0 < x.deleted → Worth v x
dead-worth v x k some = rw k (inl some)

pub dead-fits : (e : ℕ) (v : List Counts) (x : Counts) → 0 < e → kind_of x ≡ for_index → x.index ≡ 0 → Fits e v x
dead-fits e v x pos k none =
    let m : need e x.index (free_of for_index v - x.free) ≤ 0 = ceil-le (x.index - (free_of for_index v - x.free)) e 0 pos (omega arith) in
    rw k (omega (arith, m))

cut-index : (e : ℕ) (c : Counts) (r : List Counts) (d : Counts) (s : List Counts) → IsVolume e (c ∷ r) → IsVolume e (d ∷ s) → length s ≡ length r →
    Bound e (c ∷ r) → 0 < blocks_of unused r → Worth (c ∷ r) c → CutIndex e c r d s → Mending e (d ∷ s)
unfolding blocks_of free_of deleted_of index_total pages_total
cut-index e c r d s is is' len bound some worth cut =
    let x = tail-sums e c r is in
    let y = tail-sums e d s is' in
    let size = index-size e c (head-seen e c r is) cut.kind in
    let size' = index-size e d (head-seen e d s is') cut.still in
    let bound' : Bound e (d ∷ s) = bound-from e (c ∷ r) (d ∷ s) cut.index (rw (cut.kind, cut.still) (omega (arith, cut.pages))) (omega arith) bound in
    ⊎_elim
    (λ (free : 0 < blocks_of unused s). strong bound' (rw cut.still (omega arith)))
    (λ (none : blocks_of unused s ≤ 0).
    let more : blocks_of for_index r + 1 ≤ blocks_of for_index s = omega (arith, x.all, y.all, cut.pages) in
    let low : free_of for_index s < e = cut.takes.taken (omega arith) in
    let went = beyond e (index_total r) (free_of for_index r) (deleted_of for_index r) (blocks_of for_index r) (index_total s) (free_of for_index s) (deleted_of for_index s) (blocks_of for_index s) x.index y.index 0 more low in
    let left = room-left e (index_total r) (free_of for_index r) (deleted_of for_index r) (blocks_of for_index r) (index_total s) (free_of for_index s) (deleted_of for_index s) (blocks_of for_index s) x.index y.index more in
    let dead : 0 < c.deleted = worth-index c r cut.kind worth (omega (arith, went, cut.copies)) in
    let places : d.index ≤ free_of for_index s = omega (arith, cut.index, left, cut.spoiled, size, dead) in
    strong_none bound' d (0, omega arith, refl) cut.still (rw cut.still (inl (omega (arith, size, size', dead, cut.fewer, cut.free)))) (fits-index e d s is.entries cut.still places))
    (cases_lt 0 (blocks_of unused s))

if_same-le : (k j : Kind) (n : ℕ) → if_same k j n ≤ n
if_same-le unused unused n = omega arith
if_same-le for_index for_index n = omega arith
if_same-le for_data for_data n = omega arith
if_same-le k j n = omega arith

pub head-free-data : (d : Counts) → if_kind for_data d 1 ≤ 1
head-free-data d = if_same-le for_data (kind_of d) 1

pub no-data-index : (e : ℕ) (c : Counts) → Seen e c → kind_of c ≡ for_data → c.index ≡ 0
no-data-index e c (is_unused k i d x) j = i
no-data-index e c (is_index k d x w) j = absurd (cc)
no-data-index e c (is_data k i x w) j = i

-- so few copies take one block at most
pub one-more : (e L F D n L' F' D' n' : ℕ) → L + F + D ≡ n * e → L' + F' + D' ≡ n' * e → (n < n' → F' < e) → L' + D' ≤ L + D + e → n' ≤ n + 1
one-more e L F D n L' F' D' n' x y low few = ⊎_elim
    (λ (h : n + 1 < n'). absurd (omega (arith, beyond e L F D n L' F' D' n' x y 1 (omega arith) (low (omega arith)))))
    (λ (h : n' ≤ n + 1). h)
    (cases_lt (n + 1) n')

worth-data : (c : Counts) (r : List Counts) → kind_of c ≡ for_data → Worth (c ∷ r) c → free_of for_data r < c.pages → 0 < c.deleted
worth-data c r k worth many = let f = own_kind-free for_data c r (rw k refl) in ⊎_elim (λ (h : 0 < c.deleted). h) (λ (h : c.pages ≤ free_of for_data (c ∷ r) - c.free). absurd (omega (arith, f, h, many))) (rw k at worth)

batches : (e : ℕ) (c : Counts) (r : List Counts) (d : Counts) (s : List Counts) → IsVolume e (c ∷ r) → IsVolume e (d ∷ s) → length s ≡ length r →
    Bound e (c ∷ r) → 2 ≤ blocks_of unused r → (free_of for_data r < c.pages → HasSpare c r) → CutData e c r d s → Batches e c r s → Seen e d → Mending e (d ∷ s)
unfolding blocks_of index_total
batches e c r d s is is' len bound some enough cut b look =
    let x = tail-sums e c r is in
    let y = tail-sums e d s is' in
    let seen-c = head-seen e c r is in
    let size = data-size e c seen-c cut.kind in
    let li : index_total (d ∷ s) ≡ index_total (c ∷ r) = omega (arith, no-data-index e c seen-c cut.kind, cut.no_index, cut.index) in
    let kd : blocks_of for_data s ≤ blocks_of for_data r + 1 = one-more e (pages_total r) (free_of for_data r) (deleted_of for_data r) (blocks_of for_data r) (pages_total s) (free_of for_data s) (deleted_of for_data s) (blocks_of for_data s) x.pages y.pages b.takes_data.taken (omega (arith, b.copies, size)) in
    let was : blocks_of for_data (c ∷ r) ≡ 1 + blocks_of for_data r = rw cut.kind refl in
    elim look as (λ (z : Seen e d). Mending e (d ∷ s)) [
      | is_unused k i p n ↦
          let now : blocks_of for_data (d ∷ s) ≡ blocks_of for_data s = rw k (omega arith) in
          let free : blocks_of unused (d ∷ s) ≡ 1 + blocks_of unused s = rw k refl in
          strong (bound-from e (c ∷ r) (d ∷ s) li (omega arith) (omega arith) bound) (omega arith)
      | is_index k p n w ↦
          let now : blocks_of for_data (d ∷ s) ≡ blocks_of for_data s = rw k (omega arith) in
          let bound' : Bound e (d ∷ s) = bound-from e (c ∷ r) (d ∷ s) li (omega arith) (omega arith) bound in
          ⊎_elim
          (λ (h : 0 < blocks_of unused (d ∷ s)). strong bound' h)
          (λ (h : blocks_of unused (d ∷ s) ≤ 0). strong_none bound' d (0, omega arith, refl) k (dead-worth (d ∷ s) d k (omega (arith, n, cut.no_index))) (dead-fits e (d ∷ s) d is.entries k cut.no_index))
          (cases_lt 0 (blocks_of unused (d ∷ s)))
      | is_data k i p w ↦
          let now : blocks_of for_data (d ∷ s) ≡ 1 + blocks_of for_data s = rw k refl in
          let free : blocks_of unused (d ∷ s) ≡ blocks_of unused s = rw k (omega arith) in
          let ki : blocks_of for_index s ≤ blocks_of for_index r + 1 = one-more e (index_total r) (free_of for_index r) (deleted_of for_index r) (blocks_of for_index r) (index_total s) (free_of for_index s) (deleted_of for_index s) (blocks_of for_index s) x.index y.index b.takes_index.taken (omega (arith, b.renewed, size, cut.pages, cut.index)) in
          ⊎_elim
          (λ (same : blocks_of for_data s < blocks_of for_data r + 1). strong (bound-from e (c ∷ r) (d ∷ s) li (omega arith) (omega arith) bound) (omega (arith, x.all, y.all)))
          (λ (more : blocks_of for_data r + 1 ≤ blocks_of for_data s).
          let near' = near-from e (c ∷ r) (d ∷ s) li (omega arith) (omega arith) bound in
          let went = beyond e (pages_total r) (free_of for_data r) (deleted_of for_data r) (blocks_of for_data r) (pages_total s) (free_of for_data s) (deleted_of for_data s) (blocks_of for_data s) x.pages y.pages 0 more (b.takes_data.taken (omega arith)) in
          let left = room-left e (pages_total r) (free_of for_data r) (deleted_of for_data r) (blocks_of for_data r) (pages_total s) (free_of for_data s) (deleted_of for_data s) (blocks_of for_data s) x.pages y.pages more in
          let spare = enough (omega (arith, went, b.copies)) in
          let places : d.pages ≤ free_of for_data s = omega (arith, left, b.batch, spare.pages, size, cut.pages) in
          let f = own_kind-free for_data d s (rw k refl) in
          let opens : Opens e (d ∷ s) d = record { kind = k; enough = omega (arith, f, places, w) } in
          ⊎_elim
          (λ (h : 0 < blocks_of unused (d ∷ s)). near near' d (0, omega arith, refl) opens h)
          (λ (h : blocks_of unused (d ∷ s) ≤ 0).
          let left' = room-left e (index_total r) (free_of for_index r) (deleted_of for_index r) (blocks_of for_index r) (index_total s) (free_of for_index s) (deleted_of for_index s) (blocks_of for_index s) x.index y.index (omega (arith, x.all, y.all)) in
          near_none near' d (0, omega arith, refl) opens (fits-data e d s is.entries k places (omega (arith, left', b.renewed, spare.index, size, cut.pages, cut.index))))
          (cases_lt 0 (blocks_of unused (d ∷ s))))
          (cases_lt (blocks_of for_data s) (blocks_of for_data r + 1))
    ]

-- a data block that is worth cleaning has a deleted entry, where others have too few places
worth-spare : (c : Counts) (r : List Counts) → kind_of c ≡ for_data → Worth (c ∷ r) c → free_of for_data r < c.pages → HasSpare c r
worth-spare c r k worth many = let dirty = worth-data c r k worth many in record { pages = omega (arith, dirty); index = omega (arith, dirty) }

pub lost-data : (e : ℕ) (c : Counts) (r : List Counts) (d : Counts) (s : List Counts) → IsVolume e (c ∷ r) → IsVolume e (d ∷ s) → length s ≡ length r →
    Bound e (c ∷ r) → 2 ≤ blocks_of unused r → (free_of for_data r < c.pages → HasSpare c r) → CutData e c r d s → Batches e c r s ⊎ DeadBlock r s → Mending e (d ∷ s)
unfolding blocks_of index_total
lost-data e c r d s is is' len bound some enough cut (inr (x, at, k, none, dead, few)) =
    let here = head-free-data d in
    let bound' : Bound e (d ∷ s) = bound-from e (c ∷ r) (d ∷ s) (omega (arith, no-data-index e c (head-seen e c r is) cut.kind, cut.no_index, cut.index)) (rw cut.kind (omega (arith, few, here))) (omega arith) bound in
    ⊎_elim
    (λ (free : 0 < blocks_of unused (d ∷ s)). strong bound' free)
    (λ (full : blocks_of unused (d ∷ s) ≤ 0). strong_none bound' x (suc at.0, omega (arith, at.1), at.2) k (dead-worth (d ∷ s) x k dead) (dead-fits e (d ∷ s) x is.entries k none))
    (cases_lt 0 (blocks_of unused (d ∷ s)))
lost-data e c r d s is is' len bound some enough cut (inl b) = batches e c r d s is is' len bound some enough cut b (head-seen e d s is')

cut-data : (e : ℕ) (c : Counts) (r : List Counts) (d : Counts) (s : List Counts) → IsVolume e (c ∷ r) → IsVolume e (d ∷ s) → length s ≡ length r →
    Bound e (c ∷ r) → 2 ≤ blocks_of unused r → Worth (c ∷ r) c → CutData e c r d s → Mending e (d ∷ s)
unfolding blocks_of free_of deleted_of index_total pages_total
cut-data e c r d s is is' len bound some worth cut =
    lost-data e c r d s is is' len bound some (worth-spare c r cut.kind worth) cut cut.lost

pub cut_mends : CutMends
cut_mends e c r d s is is' len bound some two worth (inl cut) = cut-index e c r d s is is' len bound some worth cut
cut_mends e c r d s is is' len bound some two worth (inr cut) = cut-data e c r d s is is' len bound (two cut.kind) worth cut
