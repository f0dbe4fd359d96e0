-- Cleanings that begin with three free blocks.
use Rattle.std.proofs.Common.{◌≡◌, ℕ, suc, ◌+◌, ◌<◌, ◌≤◌, ◌⊎◌, List, ◌∷◌, length, refl, arith, ⊎_elim, inl, inr}
use Rattle.std.proofs.lemmas.Bool.{cases_lt}
use Rattle.geometry.specs.Numbers.{ceil}
use Rattle.room_laws.specs.Counts.{Counts, unused, for_index, for_data}
use Rattle.room_laws.specs.Volume.{IsVolume, blocks_of, free_of, deleted_of, index_total, pages_total}
use Rattle.room_laws.specs.Bounds.{Bound}
use Rattle.room_laws.specs.Mending.{Mending, strong, strong_none}
use Rattle.room_laws.specs.Cut.{CutIndex, Batches, DeadBlock, CutData}
use Rattle.room_laws.specs.ThreeFree.{ThreeCutMends, ThreeLeaveTwo}
use Rattle.room_laws.proofs.Totals.{Seen, is_unused, is_index, is_data, sums, ceil-le}
use Rattle.room_laws.proofs.Bounding.{data-size, index-size, no-more}
use Rattle.room_laws.proofs.Cuts.{tail-sums, head-seen, one-more, no-data-index, dead-worth, dead-fits, head-free-data}

-- with three free blocks the bound has one to spare
bound-three : (e : ℕ) (v : List Counts) → IsVolume e v → 3 ≤ blocks_of unused v → ceil (index_total v) e + blocks_of for_data v + 3 ≤ length v
bound-three e v is three = let s = sums e v is.blocks in let c : ceil (index_total v) e ≤ blocks_of for_index v = ceil-le (index_total v) e (blocks_of for_index v) is.entries (omega (arith, s)) in omega (arith, s, c)

more-unused : (c : Counts) (r : List Counts) → blocks_of unused r ≤ blocks_of unused (c ∷ r)
unfolding blocks_of
more-unused c r = omega arith

spare-bound : (e : ℕ) (a b : List Counts) → index_total b ≡ index_total a → blocks_of for_data b ≤ blocks_of for_data a + 1 → length b ≡ length a → ceil (index_total a) e + blocks_of for_data a + 3 ≤ length a → Bound e b
spare-bound e a b i k l bound = rw (i, l) (omega arith)

index-cut : (e : ℕ) (c : Counts) (r : List Counts) (d : Counts) (s : List Counts) → IsVolume e (c ∷ r) → IsVolume e (d ∷ s) → length s ≡ length r → 3 ≤ blocks_of unused r → CutIndex e c r d s → Mending e (d ∷ s)
unfolding blocks_of free_of deleted_of index_total pages_total
index-cut e c r d s is is' len three cut =
    let x = tail-sums e c r is in
    let y = tail-sums e d s is' in
    let size = index-size e c (head-seen e c r is) cut.kind in
    let more : blocks_of for_index s ≤ blocks_of for_index r + 1 = one-more e (index_total r) (free_of for_index r) (deleted_of for_index r) (blocks_of for_index r) (index_total s) (free_of for_index s) (deleted_of for_index s) (blocks_of for_index s) x.index y.index cut.takes.taken (omega (arith, cut.copies, size)) in
    let all = bound-three e (c ∷ r) is (let u = more-unused c r in omega (arith, three, u)) in
    let bound' : Bound e (d ∷ s) = spare-bound e (c ∷ r) (d ∷ s) cut.index (rw (cut.kind, cut.still) (omega (arith, cut.pages))) (omega arith) all in
    strong bound' (rw cut.still (omega (arith, x.all, y.all, more, cut.pages, three, len)))

batches : (e : ℕ) (c : Counts) (r : List Counts) (d : Counts) (s : List Counts) → IsVolume e (c ∷ r) → IsVolume e (d ∷ s) → length s ≡ length r → 3 ≤ blocks_of unused r → CutData e c r d s → Batches e c r s → Seen e d → Mending e (d ∷ s)
unfolding blocks_of index_total
batches e c r d s is is' len three cut b look =
    let x = tail-sums e c r is in
    let y = tail-sums e d s is' in
    let seen-c = head-seen e c r is in
    let size = data-size e c seen-c cut.kind in
    let li : index_total (d ∷ s) ≡ index_total (c ∷ r) = omega (arith, no-data-index e c seen-c cut.kind, cut.no_index, cut.index) in
    let kd : blocks_of for_data s ≤ blocks_of for_data r + 1 = one-more e (pages_total r) (free_of for_data r) (deleted_of for_data r) (blocks_of for_data r) (pages_total s) (free_of for_data s) (deleted_of for_data s) (blocks_of for_data s) x.pages y.pages b.takes_data.taken (omega (arith, b.copies, size)) in
    let was : blocks_of for_data (c ∷ r) ≡ 1 + blocks_of for_data r = rw cut.kind refl in
    let all = bound-three e (c ∷ r) is (let u = more-unused c r in omega (arith, three, u)) in
    elim look as (λ (z : Seen e d). Mending e (d ∷ s)) [
      | is_unused k i p n ↦
          let now : blocks_of for_data (d ∷ s) ≡ blocks_of for_data s = rw k (omega arith) in
          let free : blocks_of unused (d ∷ s) ≡ 1 + blocks_of unused s = rw k refl in
          strong (spare-bound e (c ∷ r) (d ∷ s) li (omega (arith, now, was, kd)) (omega arith) all) (omega arith)
      | is_index k p n w ↦
          let now : blocks_of for_data (d ∷ s) ≡ blocks_of for_data s = rw k (omega arith) in
          let bound' : Bound e (d ∷ s) = spare-bound e (c ∷ r) (d ∷ s) li (omega (arith, now, was, kd)) (omega arith) all in
          ⊎_elim
          (λ (h : 0 < blocks_of unused (d ∷ s)). strong bound' h)
          (λ (h : blocks_of unused (d ∷ s) ≤ 0). strong_none bound' d (0, omega arith, refl) k (dead-worth (d ∷ s) d k (omega (arith, n, cut.no_index))) (dead-fits e (d ∷ s) d is.entries k cut.no_index))
          (cases_lt 0 (blocks_of unused (d ∷ s)))
      | is_data k i p w ↦
          let now : blocks_of for_data (d ∷ s) ≡ 1 + blocks_of for_data s = rw k refl in
          let free : blocks_of unused (d ∷ s) ≡ blocks_of unused s = rw k (omega arith) in
          let ki : blocks_of for_index s ≤ blocks_of for_index r + 1 = one-more e (index_total r) (free_of for_index r) (deleted_of for_index r) (blocks_of for_index r) (index_total s) (free_of for_index s) (deleted_of for_index s) (blocks_of for_index s) x.index y.index b.takes_index.taken (omega (arith, b.renewed, size, cut.pages, cut.index)) in
          strong (spare-bound e (c ∷ r) (d ∷ s) li (omega (arith, now, was, kd)) (omega arith) all) (omega (arith, free, x.all, y.all, ki, kd, three, len))
    ]

data-cut : (e : ℕ) (c : Counts) (r : List Counts) (d : Counts) (s : List Counts) → IsVolume e (c ∷ r) → IsVolume e (d ∷ s) → length s ≡ length r → 3 ≤ blocks_of unused r → CutData e c r d s → Batches e c r s ⊎ DeadBlock r s → Mending e (d ∷ s)
unfolding blocks_of index_total
data-cut e c r d s is is' len three cut (inr (x, at, k, none, dead, few)) =
    let here = head-free-data d in
    let all = bound-three e (c ∷ r) is (let u = more-unused c r in omega (arith, three, u)) in
    let bound' : Bound e (d ∷ s) = spare-bound e (c ∷ r) (d ∷ s) (omega (arith, no-data-index e c (head-seen e c r is) cut.kind, cut.no_index, cut.index)) (rw cut.kind (omega (arith, few, here))) (omega arith) all in
    ⊎_elim
    (λ (free : 0 < blocks_of unused (d ∷ s)). strong bound' free)
    (λ (full : blocks_of unused (d ∷ s) ≤ 0). strong_none bound' x (suc at.0, omega (arith, at.1), at.2) k (dead-worth (d ∷ s) x k dead) (dead-fits e (d ∷ s) x is.entries k none))
    (cases_lt 0 (blocks_of unused (d ∷ s)))
data-cut e c r d s is is' len three cut (inl b) = batches e c r d s is is' len three cut b (head-seen e d s is')

pub three_cut_mends : ThreeCutMends
three_cut_mends e c r d s is is' len three (inl cut) = index-cut e c r d s is is' len three cut
three_cut_mends e c r d s is is' len three (inr cut) = data-cut e c r d s is is' len three cut cut.lost

pub three_leave_two : ThreeLeaveTwo
three_leave_two e a b c done three =
    let x = sums e a done.before.blocks in
    let y = sums e b done.after.blocks in
    let kd = no-more e a b c done in
    omega (arith, x.all, y.all, kd, done.index_few, three, done.blocks)
