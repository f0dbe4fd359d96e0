-- The arithmetic of one kind: L live pages, F free and D deleted entries in n blocks of e.
use Rattle.std.proofs.Common.{◌≡◌, ℕ, ◌+◌, ◌-◌, ◌*◌, ◌<◌, ◌≤◌, ◌⊎◌, ap, arith, ⊎_elim, inl, inr}
use Rattle.std.proofs.Math.Nat.{mul-le-mul_right}
use Rattle.std.proofs.lemmas.Bool.{cases_lt}
use Rattle.geometry.specs.Numbers.{ceil}
use Rattle.image_laws.proofs.Serving.{ceil-enough}
use Rattle.room_laws.proofs.Totals.{ceil-le}

pub no-rise : (e L Fa Da na Fb Db nb : ℕ) → L + Fa + Da ≡ na * e → L + Fb + Db ≡ nb * e → Db ≤ Da → (na < nb → Fb < e) → nb ≤ na
no-rise e L Fa Da na Fb Db nb x y d low = ⊎_elim
    (λ (h : na < nb). let m : (na + 1) * e ≤ nb * e = mul-le-mul_right e (omega arith) in absurd (omega (arith, m, low h)))
    (λ (h : nb ≤ na). h)
    (cases_lt na nb)

pub falls : (e L Fa Da na Fb Db nb : ℕ) → L + Fa + Da ≡ na * e → L + Fb + Db ≡ nb * e → Db ≤ Da → e ≤ Fa → (na < nb + 1 → Fb < e) → nb < na
falls e L Fa Da na Fb Db nb x y d full low = ⊎_elim
    (λ (h : nb < na). h)
    (λ (h : na ≤ nb). let m : na * e ≤ nb * e = mul-le-mul_right e h in absurd (omega (arith, m, low (omega arith))))
    (cases_lt nb na)

-- so many more pages need at most so many more blocks
pub need-le : (e L F n i X : ℕ) → 0 < e → L + F ≡ n * e → n ≤ X → L + i ≤ X * e → ceil (i - F) e ≤ X - n
need-le e L F n i X pos x le y =
    let m : X * e ≡ (n + (X - n)) * e = ap (λ (z : ℕ). z * e) (omega arith) in
    ceil-le (i - F) e (X - n) pos (omega (arith, m))

pub needs : (e L F n i : ℕ) → 0 < e → L + F ≤ n * e → ceil (L + i) e ≤ n + ceil (i - F) e
needs e L F n i pos x = let m : i - F ≤ ceil (i - F) e * e = ceil-enough (i - F) e pos in ceil-le (L + i) e (n + ceil (i - F) e) pos (omega (arith, m))

pub lex : (P : Type 0) (a b : ℕ) → b ≤ a → P → (b < a) ⊎ ((b ≡ a) × P)
lex P a b le p = ⊎_elim (λ (h : b < a). inl h) (λ (h : a ≤ b). inr (omega arith, p)) (cases_lt b a)

-- the kind of a block with nothing deleted that is worth cleaning has as many free entries as a block
pub full : (n free deleted S e : ℕ) → n + deleted + free ≡ e → 0 < n + deleted → (0 < deleted) ⊎ (n ≤ S - free) → deleted ≤ 0 → e ≤ S
full n free deleted S e w some worth none = ⊎_elim (λ (h : 0 < deleted). absurd (omega arith)) (λ (h : n ≤ S - free). omega arith) worth
