-- Cleanings give back the reserve.
use Rattle.std.proofs.Common.{◌≡◌, ◌≢◌, ℕ, ◌+◌, ◌-◌, ◌<◌, ◌≤◌, List, arith, ⊎_elim, inr}
use Rattle.std.specs.Prelude.{Contains}
use Rattle.std.proofs.lemmas.Bool.{cases_lt}
use Rattle.room_laws.specs.Counts.{Counts, unused, for_index, for_data, kind_of}
use Rattle.room_laws.specs.Volume.{blocks_of, free_of, deleted_of, pages_total, need, Worth, Fits}
use Rattle.room_laws.specs.Cleaning.{Cleaned}
use Rattle.room_laws.specs.Mending.{NearBound, Opens, Mending, strong, strong_none, near, near_none, DataStay, MendingGoesOn, CleaningKeepsMending}
use Rattle.room_laws.proofs.Totals.{sums, ceil-le, block-at}
use Rattle.room_laws.proofs.Numbers.{falls}
use Rattle.room_laws.proofs.Bounding.{data-size, last_free_fits, bound_kept, no-more}

opens-worth : (e : ℕ) (v : List Counts) (c : Counts) → c.pages + c.deleted + c.free ≡ e → Opens e v c → Worth v c
opens-worth e v c size o = rw o.kind (inr (omega (arith, o.enough)))

opens-fits : (e : ℕ) (v : List Counts) (c : Counts) → 0 < e → c.pages + c.deleted + c.free ≡ e → Opens e v c → 0 < blocks_of unused v → Fits e v c
opens-fits e v c pos size o some =
    let m : need e c.pages (free_of for_data v - c.free) ≤ 0 = ceil-le (c.pages - (free_of for_data v - c.free)) e 0 pos (omega (arith, o.enough)) in
    let n : need e c.pages (free_of for_index v) ≤ 1 = ceil-le (c.pages - free_of for_index v) e 1 pos (omega arith) in
    rw o.kind (omega (arith, m, n))

pub goes_on : MendingGoesOn
goes_on e v is (strong bound some) few = let r = last_free_fits e v is (omega arith) bound in (r.0, r.1, r.3, r.4)
goes_on e v is (strong_none bound c at k w f) few = (c, at, w, f)
goes_on e v is (near bound c at o some) few =
    let size = data-size e c (block-at e v c is at) o.kind in (c, at, opens-worth e v c size o, opens-fits e v c is.entries size o some)
goes_on e v is (near_none bound c at o f) few = (c, at, opens-worth e v c (data-size e c (block-at e v c is at) o.kind) o, f)

-- cleaning the block that opens one leaves a data block fewer
opened : (e : ℕ) (a b : List Counts) (c : Counts) → Cleaned e a c b → Opens e a c → blocks_of for_data b < blocks_of for_data a
opened e a b c k o =
    let s = sums e a k.before.blocks in
    let t = sums e b k.after.blocks in
    let dd : deleted_of for_data b + c.deleted ≤ deleted_of for_data a = rw o.kind at k.for_data_kept.deleted in
    let td : blocks_of for_data a < blocks_of for_data b + 1 → free_of for_data b < e = rw o.kind at k.for_data_kept.taken in
    falls e (pages_total a) (free_of for_data a + c.deleted) (deleted_of for_data a - c.deleted) (blocks_of for_data a) (free_of for_data b) (deleted_of for_data b) (blocks_of for_data b)
    (omega (arith, s.pages, dd)) (omega (arith, t.pages, k.pages)) (omega (arith, dd)) o.enough td

from-near : (e : ℕ) (a b : List Counts) (c o : Counts) → NearBound e a → Contains a o → Opens e a o → Cleaned e a c b → DataStay a c b → Mending e b
from-near e a b c o bound at opener k stay =
    let n = no-more e a b c k in
    let s = sums e a k.before.blocks in
    let t = sums e b k.after.blocks in
    ⊎_elim
    (λ (h : blocks_of for_data b < blocks_of for_data a). strong (rw (k.index, k.blocks) (omega (arith, h, bound))) k.free)
    (λ (h : blocks_of for_data a ≤ blocks_of for_data b).
    let away : kind_of c ≡ for_data → o.deleted ≢ c.deleted = λ j e'. absurd (omega (arith, h, opened e a b c k (record { kind = j; enough = omega (arith, opener.enough, e') }))) in
    let r = stay o at opener.kind away in
    let same : blocks_of for_data b ≡ blocks_of for_data a = omega arith in
    let y = rw same at t.pages in
    near (rw (k.index, k.blocks) (omega (arith, n, bound))) r.0 r.1 (record { kind = r.2; enough = omega (arith, r.3, opener.enough, s.pages, y, k.pages, k.for_data_kept.deleted) }) k.free)
    (cases_lt (blocks_of for_data b) (blocks_of for_data a))

pub mending_kept : CleaningKeepsMending
mending_kept e a b c (strong bound some) k stay = strong (bound_kept e a b c k bound) k.free
mending_kept e a b c (strong_none bound o at j w f) k stay = strong (bound_kept e a b c k bound) k.free
mending_kept e a b c (near bound o at opener some) k stay = from-near e a b c o bound at opener k stay
mending_kept e a b c (near_none bound o at opener f) k stay = from-near e a b c o bound at opener k stay
