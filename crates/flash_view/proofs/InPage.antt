-- Pages have an even number of bytes, so that each slot lies in one page.
use Rattle.std.proofs.Common.{ℕ, ◌≡◌, ◌+◌, ◌*◌, ◌/◌, ◌%◌, ◌<◌, ◌≤◌, ⊎_elim, ap, arith}
use Rattle.std.proofs.Math.Nat.{mul-le-mul_right}
use Rattle.geometry.specs.declared.geometry.Geometry.{Geometry}
use Rattle.page_cache.proofs.Places.{lt_or_le}

-- half of a number's multiples of an odd number
halved : (page q n : ℕ) → page % 2 ≡ 1 → q * page ≡ 2 * n → q / 2 * page ≡ n
halved page q n odd is = ⊎_elim
    (λ (even : q % 2 < 1). let e : q ≡ 2 * (q / 2) = omega (arith, even) in omega (arith, is, ap (λ (k : ℕ). k * page) e))
    (λ (odd_q : 1 ≤ q % 2). let e : q ≡ 2 * (q / 2) + 1 = omega (arith, odd_q) in absurd (omega (arith, is, odd, ap (λ (k : ℕ). k * page) e)))
    (lt_or_le (q % 2) 1)

-- pages have an even number of bytes, since 4096 is a whole number of pages
pub even_page : (g : Geometry) → g.page % 2 ≡ 0
even_page g = ⊎_elim
    (λ (even : g.page % 2 < 1). omega (arith, even))
    (λ (not_even : 1 ≤ g.page % 2).
    let odd : g.page % 2 ≡ 1 = omega (arith, not_even) in
    let q : ℕ = 4096 / g.page in
    let all : 4096 / g.page * g.page ≡ 2 * 2048 = grind (arith, g.valid.page_divides) in
    let a = halved g.page (4096 / g.page) 2048 odd all in
    let b = halved g.page (4096 / g.page / 2) 1024 odd (omega (arith, a)) in
    let c = halved g.page (4096 / g.page / 2 / 2) 512 odd (omega (arith, b)) in
    let d = halved g.page (4096 / g.page / 2 / 2 / 2) 256 odd (omega (arith, c)) in
    let e = halved g.page (4096 / g.page / 2 / 2 / 2 / 2) 128 odd (omega (arith, d)) in
    let f = halved g.page (4096 / g.page / 2 / 2 / 2 / 2 / 2) 64 odd (omega (arith, e)) in
    absurd (too_few g.page (4096 / g.page / 2 / 2 / 2 / 2 / 2 / 2) g.valid.page_least f))
    (lt_or_le (g.page % 2) 1)
  where
    too_few : (page q : ℕ) → 128 ≤ page → q * page ≡ 64 → ⊥
    too_few page q long is = ⊎_elim
        (λ (none : q < 1). let z : q ≡ 0 = omega (arith, none) in omega (arith, is, ap (λ (k : ℕ). k * page) z))
        (λ (some : 1 ≤ q). omega (arith, is, long, mul-le-mul_right page some))
        (lt_or_le q 1)
