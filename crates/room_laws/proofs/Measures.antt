-- What falls in a cleaning, and the measure as one number.
use Rattle.std.proofs.Common.{◌≡◌, ℕ, zero, suc, ◌+◌, ◌*◌, ◌<◌, ◌≤◌, ◌⊎◌, List, length, sym, arith, ⊎_elim, inl, inr}
use Rattle.std.proofs.Math.Nat.{mul-le-mul_right, mul-le-mul_left}
use Rattle.std.proofs.lemmas.Bool.{cases_lt}
use Rattle.room_laws.specs.Counts.{Counts, for_index, for_data, if_kind, if_any}
use Rattle.room_laws.specs.Volume.{blocks_of, free_of, deleted_of, index_total, pages_total, free_beside, Worth}
use Rattle.room_laws.specs.Cleaning.{Cleaned}
use Rattle.room_laws.specs.Measure.{Falls, CleaningFalls, digits, measure, CleaningLowers}
use Rattle.room_laws.proofs.Totals.{Seen, is_unused, is_index, is_data, sums, total-le, block-at}
use Rattle.room_laws.proofs.Numbers.{falls, full, lex}
use Rattle.room_laws.proofs.Bounding.{no-more}

pub if_any-le : (k n : ℕ) → if_any k n ≤ n
if_any-le zero n = omega arith
if_any-le (suc k) n = omega arith

pub beside-le : (v : List Counts) → free_beside v ≤ free_of for_index v
unfolding free_beside free_of
beside-le v = total-le (λ c. if_any c.index (if_kind for_index c c.free)) (λ c. if_kind for_index c c.free) (λ c. if_any-le c.index (if_kind for_index c c.free)) v

fall : (e : ℕ) (a b : List Counts) (c : Counts) → Cleaned e a c b → Worth a c → Seen e c → Falls a b
fall e a b c k worth (is_unused j i d x) = absurd (rw j at worth)
fall e a b c k worth (is_index j d x w) =
    let s = sums e a k.before.blocks in
    let t = sums e b k.after.blocks in
    let n = no-more e a b c k in
    let dd : deleted_of for_data b ≤ deleted_of for_data a = omega (arith, k.for_data_kept.deleted) in
    let di : deleted_of for_index b + c.deleted ≤ deleted_of for_index a = rw j at (k.for_index_kept j).deleted in
    let ti : blocks_of for_index a < blocks_of for_index b + 1 → free_of for_index b < e = rw j at (k.for_index_kept j).taken in
    lex _ (deleted_of for_data a) (deleted_of for_data b) dd (lex _ (blocks_of for_data a) (blocks_of for_data b) n (⊎_elim
    (λ (some : 0 < c.deleted). inl (omega (arith, di, d)))
    (λ (none : c.deleted ≤ 0). lex _ (deleted_of for_index a) (deleted_of for_index b) (omega (arith, di, d))
    (falls e (index_total a) (free_of for_index a) (deleted_of for_index a) (blocks_of for_index a) (free_of for_index b) (deleted_of for_index b) (blocks_of for_index b)
    s.index (omega (arith, t.index, k.index)) (omega (arith, di, d)) (omega (arith, beside-le a, full c.index c.free c.deleted (free_beside a) e w x (rw j at worth) none)) ti))
    (cases_lt 0 c.deleted)))
fall e a b c k worth (is_data j i x w) =
    let s = sums e a k.before.blocks in
    let t = sums e b k.after.blocks in
    let dd : deleted_of for_data b + c.deleted ≤ deleted_of for_data a = rw j at k.for_data_kept.deleted in
    let td : blocks_of for_data a < blocks_of for_data b + 1 → free_of for_data b < e = rw j at k.for_data_kept.taken in
    ⊎_elim
    (λ (some : 0 < c.deleted). inl (omega (arith, dd)))
    (λ (none : c.deleted ≤ 0). lex _ (deleted_of for_data a) (deleted_of for_data b) (omega (arith, dd))
    (inl (falls e (pages_total a) (free_of for_data a) (deleted_of for_data a) (blocks_of for_data a) (free_of for_data b) (deleted_of for_data b) (blocks_of for_data b)
    s.pages (omega (arith, t.pages, k.pages)) (omega (arith, dd)) (full c.pages c.free c.deleted (free_of for_data a) e w (omega arith) (rw j at worth) none) td)))
    (cases_lt 0 c.deleted)

pub cleaning_falls : CleaningFalls
cleaning_falls e a b c k worth = fall e a b c k worth (block-at e a c k.before k.victim)

digit : (m a b x y : ℕ) → a < b → x < m → a * m + x < b * m + y
digit m a b x y h low = let p : (a + 1) * m ≤ b * m = mul-le-mul_right m (omega arith) in omega (arith, p)

four : (m x y z w x' y' z' w' : ℕ) → y' < m → z' < m → w' < m →
    (x' < x) ⊎ ((x' ≡ x) × ((y' < y) ⊎ ((y' ≡ y) × ((z' < z) ⊎ ((z' ≡ z) × (w' < w)))))) → digits m x' y' z' w' < digits m x y z w
four m x y z w x' y' z' w' hy hz hw (inl h) = digit m _ _ w' w (digit m _ _ z' z (digit m _ _ y' y h hy) hz) hw
four m x y z w x' y' z' w' hy hz hw (inr (e, inl h)) = digit m _ _ w' w (digit m _ _ z' z (rw e (omega arith)) hz) hw
four m x y z w x' y' z' w' hy hz hw (inr (e, inr (f, inl h))) = digit m _ _ w' w (rw (e, f) (omega arith)) hw
four m x y z w x' y' z' w' hy hz hw (inr (e, inr (f, inr (g, h)))) = rw (e, f, g) (omega arith)

pub cleaning_lowers : CleaningLowers
unfolding measure
cleaning_lowers e a b c k worth =
    let s = sums e b k.after.blocks in
    let i : blocks_of for_index b * e ≤ length b * e = mul-le-mul_right e (omega (arith, s.all)) in
    let l : length b * 1 ≤ length b * e = mul-le-mul_left (length b) k.after.entries in
    rw (sym k.blocks) (four (length b * e + 1) (deleted_of for_data a) (blocks_of for_data a) (deleted_of for_index a) (blocks_of for_index a)
    (deleted_of for_data b) (blocks_of for_data b) (deleted_of for_index b) (blocks_of for_index b)
    (omega (arith, s.all, l)) (omega (arith, s.index, i)) (omega (arith, s.all, l)) (cleaning_falls e a b c k worth))
