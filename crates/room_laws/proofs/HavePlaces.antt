-- Pages find places.
use Rattle.std.proofs.Common.{◌≡◌, ℕ, ◌+◌, ◌-◌, ◌*◌, ◌<◌, ◌≤◌, refl, ap, arith, ⊎_elim, slice_set}
use Rattle.std.proofs.lemmas.Bool.{cases_lt}
use Rattle.geometry.specs.Numbers.{ceil}
use Rattle.image_laws.proofs.Serving.{ceil-enough, ceil-mono}
use Rattle.room_laws.specs.Counts.{unused, for_index, for_data}
use Rattle.room_laws.specs.Volume.{free_of, need}
use Rattle.room_laws.specs.Steps.{placed}
use Rattle.room_laws.specs.Places.{HadFindsIndex, HadFindsData, HadPutsIndex, HadPutsData, HadKills, HadLess}
use Rattle.room_laws.proofs.Totals.{ceil-le}
use Rattle.room_laws.proofs.Puts.{put-index, put-data, kill-index}

-- pages without a place need a block
pub ceil-some : (n e : ℕ) → 0 < e → 0 < n → 0 < ceil n e
ceil-some n e pos some = ⊎_elim
    (λ (h : 0 < ceil n e). h)
    (λ (h : ceil n e ≤ 0). let m : n ≤ ceil n e * e = ceil-enough n e pos in let z : ceil n e ≡ 0 = omega arith in absurd (let m' = rw z at m in omega (arith, m', some)))
    (cases_lt 0 (ceil n e))

-- a block less holds all but a block's worth of them
pub ceil-less : (n e : ℕ) → 0 < e → 0 < n → ceil (n - e) e + 1 ≤ ceil n e
ceil-less n e pos some =
    let one = ceil-some n e pos some in
    let m : n ≤ ceil n e * e = ceil-enough n e pos in
    let k : ceil (n - e) e ≤ ceil n e - 1 = ceil-le (n - e) e (ceil n e - 1) pos (let w : (ceil n e - 1 + 1) * e ≡ ceil n e * e = ap (λ (z : ℕ). z * e) (omega arith) in omega (arith, w, m)) in
    omega (arith, one, k)

-- pages that find no place lack a block
pub need-some : (e n free : ℕ) → 0 < e → free < n → 0 < need e n free
need-some e n free pos more = ceil-some (n - free) e pos (omega arith)

pub need-few : (e n free : ℕ) → 0 < e → n ≤ e → need e n free ≤ 1
need-few e n free pos few = ceil-le (n - free) e 1 pos (omega arith)

pub need-none : (e free : ℕ) → 0 < e → need e 0 free ≡ 0
need-none e free pos = let m : need e 0 free ≤ 0 = ceil-le (0 - free) e 0 pos (omega arith) in omega (arith, m)

pub need-less : (e n m free : ℕ) → 0 < e → n ≤ m → need e n free ≤ need e m free
need-less e n m free pos le = ceil-mono (n - free) (m - free) e pos (omega arith)

-- a page that was put lacks a place no more
pub need-put : (e n free left : ℕ) → left + 1 ≡ free → need e n left ≡ need e (n + 1) free
need-put e n free left eq = ap (λ (z : ℕ). ceil z e) (omega arith)

pub need-opened : (e n left : ℕ) → 0 < e → left + 1 ≡ e → need e n left + 1 ≤ need e (n + 1) 0
need-opened e n left pos eq =
    let l = ceil-less (n + 1) e pos (omega arith) in
    let same : need e n left ≡ ceil (n + 1 - e) e = ap (λ (z : ℕ). ceil z e) (omega arith) in
    let all : need e (n + 1) 0 ≡ ceil (n + 1) e = ap (λ (z : ℕ). ceil z e) (omega arith) in
    omega (arith, l, same, all)

pub had_finds_index : HadFindsIndex
had_finds_index e v keep i d pos had some none = let n = need-some e i (free_of for_index v) pos (omega arith) in omega (arith, n, had)

pub had_finds_data : HadFindsData
had_finds_data e v keep i d pos had some none = let n = need-some e d (free_of for_data v) pos (omega arith) in omega (arith, n, had)

pub had_puts_index : HadPutsIndex
had_puts_index e v keep i d at c is can had =
    let t = put-index e v at c is.blocks can in
    let other : need e d (free_of for_data (slice_set v at (placed for_index c))) ≡ need e d (free_of for_data v) = rw t.other_free refl in
    ⊎_elim
    (λ own. let n = need-put e i (free_of for_index v) (free_of for_index (slice_set v at (placed for_index c))) own.2 in omega (arith, n, other, own.0, had))
    (λ own.
    let n = need-opened e i (free_of for_index (slice_set v at (placed for_index c))) is.entries own.3 in
    let had' = rw own.2 at had in
    omega (arith, n, other, own.0, had'))
    t.own

pub had_puts_data : HadPutsData
had_puts_data e v keep i d at c is can had =
    let t = put-data e v at c is.blocks can in
    let other : need e i (free_of for_index (slice_set v at (placed for_data c))) ≡ need e i (free_of for_index v) = rw t.other_free refl in
    ⊎_elim
    (λ own. let n = need-put e d (free_of for_data v) (free_of for_data (slice_set v at (placed for_data c))) own.2 in omega (arith, n, other, own.0, had))
    (λ own.
    let n = need-opened e d (free_of for_data (slice_set v at (placed for_data c))) is.entries own.3 in
    let had' = rw own.2 at had in
    omega (arith, n, other, own.0, had'))
    t.own

pub had_kills : HadKills
had_kills e v keep i d at c is within here kind some had = let t = kill-index e v at c is.blocks within here kind some in rw (t.free for_index, t.free for_data, t.blocks unused) had

pub had_less : HadLess
had_less e v keep i d i' d' pos less few had =
    let a = need-less e i' i (free_of for_index v) pos less in
    let b = need-less e d' d (free_of for_data v) pos few in
    omega (arith, a, b, had)
