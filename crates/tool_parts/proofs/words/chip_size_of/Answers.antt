use Rattle.std.proofs.Common.{ℕ, ◌*◌, ◌/◌, ◌<◌, ◌≤◌, ◌^◌, arith}
use Rattle.std.specs.Int.{div_ceil}
use Rattle.std.proofs.Math.Nat.{le-mul_of_pos_right, mod-add-div', mul-le-mul_left}
use Rattle.tool_parts.proofs.words.chip_size_of.Goals as goal

-- a share of at least one, rounded up, is no more than the whole
share_within : (x y : ℕ) → 0 < y → div_ceil x y ≤ x
share_within x y some = omega (arith, le-mul_of_pos_right (x / y) some, mod-add-div' x y)

pub overflow_mul-result : goal.overflow_mul-result
overflow_mul-result c =
    let some : 0 < c.args.number = omega arith in
    let share : c.div_ceil.result ≤ c.in-Some.blocks = rw c.div_ceil.ensures (share_within c.in-Some.blocks c.args.number some) in
    let whole : c.in-Some.block * c.in-Some.blocks < 2 ^ 32 = c.in-Some.ensures.some.2 in
    omega (arith, mul-le-mul_left c.in-Some.block share, whole)
