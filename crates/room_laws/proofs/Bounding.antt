-- The bound that cleanings keep, and blocks that fit.
use Rattle.std.proofs.Common.{◌≡◌, ℕ, ◌+◌, ◌-◌, ◌*◌, ◌<◌, ◌≤◌, List, arith, ⊎_elim, inl, inr}
use Rattle.std.specs.Prelude.{Contains}
use Rattle.std.proofs.Math.Nat.{mul-le-mul_right}
use Rattle.std.proofs.lemmas.Bool.{cases_lt}
use Rattle.geometry.specs.Numbers.{ceil}
use Rattle.image_laws.proofs.Serving.{ceil-enough}
use Rattle.room_laws.specs.Counts.{Counts, Kind, unused, for_index, for_data, kind_of, if_kind}
use Rattle.room_laws.specs.Volume.{IsVolume, blocks_of, free_of, deleted_of, index_total, pages_total, need, Fits}
use Rattle.room_laws.specs.Cleaning.{Cleaned}
use Rattle.room_laws.specs.Bounds.{ReserveIsBound, CleaningKeepsBound, ReserveFitsAll, LastFreeFitsOne}
use Rattle.room_laws.proofs.Totals.{Seen, is_unused, is_index, is_data, sums, term, beside-all, ceil-le, if_same-some, block-at}
use Rattle.room_laws.proofs.Numbers.{no-rise}

pub reserve_bound : ReserveIsBound
reserve_bound e v is two = let s = sums e v is.blocks in let c : ceil (index_total v) e ≤ blocks_of for_index v = ceil-le (index_total v) e (blocks_of for_index v) is.entries (omega (arith, s)) in omega (arith, s, c)

-- no cleaning takes more data blocks than there were
pub no-more : (e : ℕ) (a b : List Counts) (c : Counts) → Cleaned e a c b → blocks_of for_data b ≤ blocks_of for_data a
no-more e a b c k =
    let x = sums e a k.before.blocks in
    let y = sums e b k.after.blocks in
    no-rise e (pages_total a) (free_of for_data a) (deleted_of for_data a) (blocks_of for_data a) (free_of for_data b) (deleted_of for_data b) (blocks_of for_data b)
    x.pages (omega (arith, y.pages, k.pages)) (omega (arith, k.for_data_kept.deleted)) (λ h. k.for_data_kept.taken (omega arith))

pub bound_kept : CleaningKeepsBound
bound_kept e a b c k bound = let n = no-more e a b c k in rw (k.index, k.blocks) (omega (arith, n, bound))

-- a free block holds the live pages of any block
one-fits : (e : ℕ) (v : List Counts) (c : Counts) → IsVolume e v → Seen e c → kind_of c ≡ for_index → 0 < blocks_of unused v → Fits e v c
one-fits e v c is (is_unused k i d x) j some = rw k tt
one-fits e v c is (is_index k d x w) j some = rw k (let n : need e c.index (free_of for_index v - c.free) ≤ 1 = ceil-le (c.index - (free_of for_index v - c.free)) e 1 is.entries (omega arith) in omega arith)
one-fits e v c is (is_data k i x w) j some = absurd (cc)

fit-two : (e : ℕ) (v : List Counts) (c : Counts) → IsVolume e v → Seen e c → 2 ≤ blocks_of unused v → Fits e v c
fit-two e v c is (is_unused k i d x) two = rw k tt
fit-two e v c is (is_index k d x w) two = one-fits e v c is (is_index k d x w) k (omega arith)
fit-two e v c is (is_data k i x w) two =
    let m : need e c.pages (free_of for_data v - c.free) ≤ 1 = ceil-le (c.pages - (free_of for_data v - c.free)) e 1 is.entries (omega arith) in
    let n : need e c.pages (free_of for_index v) ≤ 1 = ceil-le (c.pages - free_of for_index v) e 1 is.entries (omega arith) in
    rw k (omega (arith, m, n))

pub reserve_fits : ReserveFitsAll
reserve_fits e v is two c at = fit-two e v c is (block-at e v c is at) two

pub index-size : (e : ℕ) (c : Counts) → Seen e c → kind_of c ≡ for_index → c.index + c.deleted + c.free ≡ e
index-size e c (is_unused k i d x) j = absurd (cc)
index-size e c (is_index k d x w) j = w
index-size e c (is_data k i x w) j = absurd (cc)

pub data-size : (e : ℕ) (c : Counts) → Seen e c → kind_of c ≡ for_data → c.pages + c.deleted + c.free ≡ e
data-size e c (is_unused k i d x) j = absurd (cc)
data-size e c (is_index k d x w) j = absurd (cc)
data-size e c (is_data k i x w) j = w

pub deleted-one : (k : Kind) (v : List Counts) → 0 < deleted_of k v → (c : Counts) × Contains v c × (kind_of c ≡ k) × (0 < c.deleted)
unfolding deleted_of
deleted-one k v some = let t = term (λ c. if_kind k c c.deleted) v some in let o = if_same-some k (kind_of t.0) t.0.deleted t.2 in (t.0, t.1, o.0, o.1)

pub block-one : (k : Kind) (v : List Counts) → 0 < blocks_of k v → (c : Counts) × Contains v c × (kind_of c ≡ k)
unfolding blocks_of
block-one k v some = let t = term (λ c. if_kind k c 1) v some in let o = if_same-some k (kind_of t.0) 1 t.2 in (t.0, t.1, o.0)

pub last_free_fits : LastFreeFitsOne
last_free_fits e v is one bound =
    let s = sums e v is.blocks in
    let enough : index_total v ≤ ceil (index_total v) e * e = ceil-enough (index_total v) e is.entries in
    let many : (ceil (index_total v) e + 1) * e ≤ blocks_of for_index v * e = mul-le-mul_right e (omega (arith, s.all, bound)) in
    let spare : e ≤ free_of for_index v + deleted_of for_index v = omega (arith, s.index, enough, many) in
    ⊎_elim
    (λ (some : 0 < deleted_of for_index v). let t = deleted-one for_index v some in
    (t.0, t.1, t.2, (rw t.2 (inl t.3)), one-fits e v t.0 is (block-at e v t.0 is t.1) t.2 (omega arith)))
    (λ (none : deleted_of for_index v ≤ 0).
    let t = block-one for_index v (omega (arith, s.all, bound)) in
    let w = index-size e t.0 (block-at e v t.0 is t.1) t.2 in
    let all = beside-all e v is.blocks (omega arith) in
    (t.0, t.1, t.2, (rw t.2 (inr (omega (arith, w, all, spare)))), one-fits e v t.0 is (block-at e v t.0 is t.1) t.2 (omega arith)))
    (cases_lt 0 (deleted_of for_index v))
