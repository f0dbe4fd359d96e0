use Rattle.std.proofs.Common.{ℕ, ◌≡◌, ◌+◌, ◌*◌, ◌/◌, ◌≤◌, ap, arith}
use Rattle.std.proofs.Math.Nat.{mul-le-mul_right, div-mul-le_self}
use Rattle.page_cache.proofs.frames.first_met.Goals as goal

pub returns : goal.returns
returns c q below =
    let next : q + 1 ≤ c.args.at / c.page.result = omega (arith, below) in
    let e : q * c.page.result ≡ q * c.args.g.now.page = ap (λ (n : ℕ). q * n) c.page.ensures in
    omega (arith, mul-le-mul_right c.page.result next, div-mul-le_self c.args.at c.page.result, e, c.page.ensures)
