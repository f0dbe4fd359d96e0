-- Packed volumes, and the pages that are had.
use Rattle.std.proofs.Common.{◌≡◌, ℕ, ◌+◌, ◌-◌, ◌*◌, ◌<◌, ◌≤◌, List, sym, arith, ⊎_elim, inl, inr}
use Rattle.std.specs.Prelude.{Contains}
use Rattle.std.proofs.Math.Nat.{mul-le-mul_right}
use Rattle.std.proofs.lemmas.Bool.{cases_lt}
use Rattle.geometry.specs.Numbers.{ceil}
use Rattle.image_laws.proofs.Serving.{ceil-enough}
use Rattle.room_laws.specs.Counts.{Counts, Kind, unused, for_index, for_data, kind_of}
use Rattle.room_laws.specs.Volume.{IsVolume, blocks_of, free_of, deleted_of, index_total, pages_total, need, Had}
use Rattle.room_laws.specs.Packing.{Packed, NoneWorthIsPacked, RoomFor, HadHasRoom, StoppedIsHad}
use Rattle.room_laws.proofs.Totals.{sums, beside-all, ceil-le, ceil-is, block-at}
use Rattle.room_laws.proofs.Numbers.{need-le, needs}
use Rattle.room_laws.proofs.Bounding.{index-size, data-size, deleted-one, block-one, reserve_fits, last_free_fits}

none-deleted : (k : Kind) (v : List Counts) → (0 < deleted_of k v → ⊥) → deleted_of k v ≡ 0
none-deleted k v nil = ⊎_elim (λ (h : 0 < deleted_of k v). absurd (nil h)) (λ (h : deleted_of k v ≤ 0). omega arith) (cases_lt 0 (deleted_of k v))

-- fewer free entries than a block has, since else each block of the kind would be worth cleaning
few : (k : Kind) (e L : ℕ) (v : List Counts) → 0 < e → L + free_of k v ≤ blocks_of k v * e → ((c : Counts) → Contains v c → kind_of c ≡ k → e ≤ free_of k v → ⊥) → free_of k v < e
few k e L v pos s nil = ⊎_elim
    (λ (h : free_of k v < e). h)
    (λ (h : e ≤ free_of k v). ⊎_elim
    (λ (some : 0 < blocks_of k v). let t = block-one k v some in absurd (nil t.0 t.1 t.2 h))
    (λ (none : blocks_of k v ≤ 0). let m : blocks_of k v * e ≤ 0 * e = mul-le-mul_right e none in omega (arith, m))
    (cases_lt 0 (blocks_of k v)))
    (cases_lt (free_of k v) e)

pub none_worth_packed : NoneWorthIsPacked
none_worth_packed e v is none =
    let s = sums e v is.blocks in
    let i0 = none-deleted for_index v (λ some. let t = deleted-one for_index v some in none t.0 t.1 (rw t.2 (inl t.3))) in
    let d0 = none-deleted for_data v (λ some. let t = deleted-one for_data v some in none t.0 t.1 (rw t.2 (inl t.3))) in
    let i1 = few for_index e (index_total v) v is.entries (omega (arith, s.index)) (λ c at j low. none c at (rw j (inr (rw (beside-all e v is.blocks i0) (omega (arith, low, index-size e c (block-at e v c is at) j)))))) in
    let d1 = few for_data e (pages_total v) v is.entries (omega (arith, s.pages)) (λ c at j low. none c at (rw j (inr (omega (arith, low, data-size e c (block-at e v c is at) j))))) in
    record {
      no_index = i0;
      no_data = d0;
      index = sym (ceil-is (index_total v) e (blocks_of for_index v) (free_of for_index v) (omega (arith, s.index)) i1);
      pages = sym (ceil-is (pages_total v) e (blocks_of for_data v) (free_of for_data v) (omega (arith, s.pages)) d1);
    }

pub had_room : HadHasRoom
had_room e v i d is two had =
    let s = sums e v is.blocks in
    let x : ceil (index_total v + i) e ≤ blocks_of for_index v + need e i (free_of for_index v) = needs e (index_total v) (free_of for_index v) (blocks_of for_index v) i is.entries (omega (arith, s.index)) in
    let y : ceil (pages_total v + d) e ≤ blocks_of for_data v + need e d (free_of for_data v) = needs e (pages_total v) (free_of for_data v) (blocks_of for_data v) d is.entries (omega (arith, s.pages)) in
    omega (arith, s.all, x, y, had)

packed-had : (e : ℕ) (v : List Counts) (i d : ℕ) → IsVolume e v → 2 ≤ blocks_of unused v → Packed e v → RoomFor e v i d → Had e v i d
packed-had e v i d is two p room =
    let s = sums e v is.blocks in
    let ie = ceil-enough (index_total v + i) e is.entries in
    let de = ceil-enough (pages_total v + d) e is.entries in
    let il : blocks_of for_index v ≤ ceil (index_total v + i) e = rw p.index (ceil-le (index_total v) e (ceil (index_total v + i) e) is.entries (omega (arith, ie))) in
    let dl : blocks_of for_data v ≤ ceil (pages_total v + d) e = rw p.pages (ceil-le (pages_total v) e (ceil (pages_total v + d) e) is.entries (omega (arith, de))) in
    let x : need e i (free_of for_index v) ≤ ceil (index_total v + i) e - blocks_of for_index v = need-le e (index_total v) (free_of for_index v) (blocks_of for_index v) i (ceil (index_total v + i) e) is.entries (omega (arith, s.index, p.no_index)) il ie in
    let y : need e d (free_of for_data v) ≤ ceil (pages_total v + d) e - blocks_of for_data v = need-le e (pages_total v) (free_of for_data v) (blocks_of for_data v) d (ceil (pages_total v + d) e) is.entries (omega (arith, s.pages, p.no_data)) dl de in
    omega (arith, s.all, x, y, il, dl, room)

pub stopped_had : StoppedIsHad
stopped_had e v i d is one bound room none = ⊎_elim
    (λ (two : 1 < blocks_of unused v).
    let p = none_worth_packed e v is (λ c at w. none c at w (reserve_fits e v is two c at)) in
    (two, packed-had e v i d is two p room))
    (λ (h : blocks_of unused v ≤ 1). let r = last_free_fits e v is (omega arith) bound in absurd (none r.0 r.1 r.3 r.4))
    (cases_lt 1 (blocks_of unused v))
