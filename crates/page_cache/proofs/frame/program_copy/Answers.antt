use Rattle.std.proofs.Common.{ℕ, ◌+◌, ◌-◌, ◌*◌, ◌∙◌, ap, refl, arith}
use Rattle.page_cache.proofs.Places.{range_byte, range_length}
use Rattle.page_cache.proofs.Copies.{program_misses, program_meets}
use Rattle.page_cache.proofs.frame.program_copy.Goals as goal

pub returns-then-low-high : goal.returns-then-low-high
returns-then-low-high c =
    let start : ℕ = c.from.result * c.args.page in
    let low : ℕ = c.max-low.result in
    let high : ℕ = c.min-high.result in
    let old = c.args.frame.now in
    let part = c.and_bytes.new.bytes in
    let first = range_length old (8 + c.max-low.result - c.from.result * c.args.page) (8 + c.min-high.result - c.from.result * c.args.page) (omega (arith, c.max-low.ensures, c.min-high.ensures, c.if-low-high.true), omega (arith, c.requires.size, c.max-low.ensures, c.min-high.ensures, c.if-low-high.true)) in
    let second = range_length c.args.from.now (c.max-low.result - c.args.at) (c.min-high.result - c.args.at) (omega (arith, c.max-low.ensures, c.min-high.ensures, c.if-low-high.true), omega (arith, c.requires.size, c.max-low.ensures, c.min-high.ensures, c.if-low-high.true)) in
    program_meets c.args.page c.args.at (c.from.result * c.args.page) c.max-low.result c.min-high.result
    (8 + c.min-high.result - c.from.result * c.args.page - (8 + c.max-low.result - c.from.result * c.args.page)) (8 + c.max-low.result - c.from.result * c.args.page) c.args.from.now old part
    c.requires.size (ap (λ (n : ℕ). n * c.args.page) (c.from.ensures ∙ c.number_of.ensures)) (omega (arith, c.max-low.ensures)) (omega (arith, c.min-high.ensures)) c.if-low-high.true
    refl (omega (arith, c.max-low.ensures, c.if-low-high.true)) (c.and_bytes.auto.bytes ∙ first)
    (λ j below.
    let from_old = range_byte old (8 + c.max-low.result - c.from.result * c.args.page) (8 + c.min-high.result - c.from.result * c.args.page) j (omega (arith, below)) in
    let from_new = range_byte c.args.from.now (c.max-low.result - c.args.at) (c.min-high.result - c.args.at) j (omega (arith, below, c.max-low.ensures)) in
    c.and_bytes.ensures j (omega (arith, second, below, c.max-low.ensures)) ∙ rw (from_old, from_new) refl)

pub returns-else-low-high : goal.returns-else-low-high
returns-else-low-high c =
    program_misses c.args.page c.args.at (c.from.result * c.args.page) c.args.from.now c.args.frame.now
    (ap (λ (n : ℕ). n * c.args.page) (c.from.ensures ∙ c.number_of.ensures)) (omega (arith, c.max-low.ensures, c.min-high.ensures, c.if-low-high.false))
