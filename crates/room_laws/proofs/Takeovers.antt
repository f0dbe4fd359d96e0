-- The plan by which shared blocks are cleaned whole.
use Rattle.std.proofs.Common.{◌≡◌, ℕ, ◌+◌, ◌-◌, ◌*◌, ◌<◌, ◌≤◌, ◌⊎◌, List, [], ◌∷◌, length, ap, subst, arith, ⊎_elim, inl, inr}
use Rattle.std.proofs.Math.Nat.{mul-le-mul_right}
use Rattle.std.proofs.lemmas.Bool.{cases_lt}
use Rattle.geometry.specs.Numbers.{ceil}
use Rattle.image_laws.proofs.Serving.{ceil-enough, ceil-mono}
use Rattle.room_laws.specs.Volume.{need}
use Rattle.room_laws.specs.Takeover.{Victim, Ground, data_after, PlanFits, Standing, IsLoose, PlanFindsPlaces, PlanLeavesTwo, Opened, PlanGoesOn, PlanLoses, PlanLessens, PlanIsCut}
use Rattle.room_laws.proofs.Totals.{ceil-le}
use Rattle.room_laws.proofs.Numbers.{need-le}

-- so many pages in blocks that are no further than a block from full need all these blocks
close : (e L F n i : ℕ) → 0 < e → L + F ≡ n * e → F < e → n ≤ ceil (L + i) e
close e L F n i pos w low = ⊎_elim
    (λ (h : ceil (L + i) e < n).
    let m : L + i ≤ ceil (L + i) e * e = ceil-enough (L + i) e pos in
    let k : (ceil (L + i) e + 1) * e ≤ n * e = mul-le-mul_right e (omega arith) in
    absurd (omega (arith, m, k, w, low)))
    (λ (h : n ≤ ceil (L + i) e). h)
    (cases_lt (ceil (L + i) e) n)

-- what index pages lack then
lack : (e L F n i : ℕ) → 0 < e → L + F ≡ n * e → F < e → n + need e i F ≤ ceil (L + i) e
lack e L F n i pos w low =
    let c = close e L F n i pos w low in
    let m : L + i ≤ ceil (L + i) e * e = ceil-enough (L + i) e pos in
    let k = need-le e L F n i (ceil (L + i) e) pos w c m in
    omega (arith, c, k)

loose : (e g-index left : ℕ) (g : Ground) (s : Standing e g g-index left) (P : Type 0) → (g-index + s.index_free ≡ s.index_blocks * e → s.index_free < e → P) → P ⊎ IsLoose e g g-index left s
loose e i left g s P tight = ⊎_elim
    (λ (some : 0 < s.index_deleted). inr (inl some))
    (λ (none : s.index_deleted ≤ 0). ⊎_elim
    (λ (low : s.index_free < e). inl (tight (omega (arith, s.whole, none)) low))
    (λ (high : e ≤ s.index_free). inr (inr high))
    (cases_lt s.index_free e))
    (cases_lt 0 s.index_deleted)

pub plan_finds_places : PlanFindsPlaces
plan_finds_places e g spare index v vs s fits =
    loose e index (1 + length vs) g s (need e (v.copies + spare) s.index_free + need e (v.pages + spare) g.free ≤ s.unused) (λ w low.
    let l = lack e index s.index_free s.index_blocks (v.copies + spare) s.entries w low in
    let same : ceil (index + (v.copies + spare)) e ≡ ceil (index + v.copies + spare) e = ap (λ (z : ℕ). ceil z e) (omega arith) in
    let first = fits.0 in
    let put : need e (0 + v.pages + spare) g.free ≡ need e (v.pages + spare) g.free = ap (λ (z : ℕ). need e z g.free) (omega arith) in
    omega (arith, l, same, first, put, s.all))

pub plan_leaves_two : PlanLeavesTwo
plan_leaves_two e g spare index s fits =
    loose e index 0 g s (2 ≤ s.unused) (λ w low.
    let c = close e index s.index_free s.index_blocks spare s.entries w low in
    omega (arith, c, fits, s.all))

-- ---- the ground is told anew

again : (e : ℕ) (g h : Ground) (put more : ℕ) → 0 < e → Opened e g put h → data_after e h more ≤ data_after e g (put + more)
again e g h put more pos o =
    let n = need e (put + more) g.free in
    let m : put + more - g.free ≤ n * e = ceil-enough (put + more - g.free) e pos in
    ⊎_elim
    (λ (few : n < o.opened).
    let k : (n + 1) * e ≤ o.opened * e = mul-le-mul_right e (omega arith) in
    absurd (omega (arith, m, k, o.free, o.last (omega arith))))
    (λ (enough : o.opened ≤ n).
    let d : n * e ≡ (o.opened + (n - o.opened)) * e = ap (λ (z : ℕ). z * e) (omega arith) in
    let k : need e more h.free ≤ n - o.opened = ceil-le (more - h.free) e (n - o.opened) pos (omega (arith, m, d, o.free)) in
    omega (arith, k, o.stays))
    (cases_lt n o.opened)

goes : (e : ℕ) (g h : Ground) (spare index put more : ℕ) (vs : List Victim) → 0 < e → Opened e g put h → PlanFits e g spare index (put + more) vs → PlanFits e h spare index more vs
goes e g h spare index put more [] pos o fits =
    let a = again e g h put (more + spare) pos o in
    let same : data_after e g (put + (more + spare)) ≡ data_after e g (put + more + spare) = ap (data_after e g) (omega arith) in
    omega (arith, a, same, fits, o.blocks)
goes e g h spare index put more (v ∷ vs) pos o fits =
    let a = again e g h put (more + v.pages + spare) pos o in
    let same : data_after e g (put + (more + v.pages + spare)) ≡ data_after e g (put + more + v.pages + spare) = ap (data_after e g) (omega arith) in
    let first = fits.0 in
    let next : PlanFits e g spare (index + v.comes) (put + (more + v.pages)) vs = subst (λ (z : ℕ). PlanFits e g spare (index + v.comes) z vs) (omega arith) fits.1 in
    (omega (arith, a, same, first, o.blocks), goes e g h spare (index + v.comes) put (more + v.pages) vs pos o next)

pub plan_goes_on : PlanGoesOn
plan_goes_on e g h spare index put vs pos o fits = goes e g h spare index put 0 vs pos o (subst (λ (z : ℕ). PlanFits e g spare index z vs) (omega arith) fits)

-- ---- copies are lost

pub plan_loses : PlanLoses
plan_loses e g spare index put lost [] pos fits =
    let i = ceil-mono (index + spare) (index + (spare + lost)) e pos (omega arith) in
    let same : data_after e g (put + lost + spare) ≡ data_after e g (put + (spare + lost)) = ap (data_after e g) (omega arith) in
    omega (arith, i, same, fits)
plan_loses e g spare index put lost (v ∷ vs) pos fits =
    let i = ceil-mono (index + v.copies + spare) (index + v.copies + (spare + lost)) e pos (omega arith) in
    let same : data_after e g (put + lost + v.pages + spare) ≡ data_after e g (put + v.pages + (spare + lost)) = ap (data_after e g) (omega arith) in
    let first = fits.0 in
    let next = plan_loses e g spare (index + v.comes) (put + v.pages) lost vs pos fits.1 in
    (omega (arith, i, same, first), subst (λ (z : ℕ). PlanFits e g spare (index + v.comes) z vs) (omega arith) next)

-- ---- a victim is half moved

pub plan_lessens : PlanLessens
plan_lessens e g spare index put moved came was v vs pos less fits =
    let i = ceil-mono (index + came + v.copies + spare) (index + was.copies + spare) e pos (omega (arith, less.copies)) in
    let same : data_after e g (put + moved + v.pages + spare) ≡ data_after e g (put + was.pages + spare) = ap (data_after e g) (omega (arith, less.pages)) in
    let first = fits.0 in
    let index_same : index + was.comes ≡ index + came + v.comes = omega (arith, less.comes) in
    let put_same : put + was.pages ≡ put + moved + v.pages = omega (arith, less.pages) in (
      omega (arith, i, same, first),
      subst (λ (z : ℕ). PlanFits e g spare (index + came + v.comes) z vs) put_same (subst (λ (z : ℕ). PlanFits e g spare z (put + was.pages) vs) index_same fits.1),
    )

pub plan_is_cut : PlanIsCut
plan_is_cut e g h spare lost index moved came was v vs pos less o fits =
    let left = plan_lessens e g (spare + lost) index 0 moved came was v vs pos less fits in
    let gone = plan_loses e g spare (index + came) (0 + moved) lost (v ∷ vs) pos left in
    plan_goes_on e g h spare (index + came) (moved + lost) (v ∷ vs) pos o (subst (λ (z : ℕ). PlanFits e g spare (index + came) z (v ∷ vs)) (omega arith) gone)
