use Rattle.std.proofs.Common.{ℕ, ◌≡◌, ◌+◌, ◌-◌, ◌*◌, ◌/◌, ◌<◌, ◌≤◌, ap, arith}
use Rattle.std.proofs.Math.Nat.{lt-div-mul-add, mul-le-mul_right}
use Rattle.page_cache.proofs.frames.end_met.Goals as goal

pub returns-clause-behind : goal.returns-clause-behind
returns-clause-behind c q small above =
    let n : ℕ = c.args.at + c.args.count + c.page-page.result - 1 in
    let past : n < n / c.page-page.result * c.page-page.result + c.page-page.result = lt-div-mul-add (omega arith) in
    let most : n / c.page-page.result ≤ q = omega arith in
    let e : q * c.page-page.result ≡ q * c.args.g.now.page = ap (λ (n : ℕ). q * n) (c.page-page.ensures) in
    omega (arith, past, mul-le-mul_right c.page-page.result most, e)
