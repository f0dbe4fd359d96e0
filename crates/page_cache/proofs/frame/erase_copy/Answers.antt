use Rattle.std.proofs.Common.{ℕ, ◌+◌, ◌-◌, ◌*◌, ◌∙◌, ap, refl, arith}
use Rattle.page_cache.proofs.Places.{range_length}
use Rattle.page_cache.proofs.Copies.{erase_misses, erase_meets}
use Rattle.page_cache.proofs.frame.erase_copy.Goals as goal

pub returns-then-low-high : goal.returns-then-low-high
returns-then-low-high c =
    let old = c.args.frame.now in
    let part = c.blank.new.bytes in
    let size = range_length old (8 + c.max-low.result - c.from.result * c.args.page) (8 + c.min-high.result - c.from.result * c.args.page) (omega (arith, c.max-low.ensures, c.min-high.ensures, c.if-low-high.true), omega (arith, c.requires.size, c.max-low.ensures, c.min-high.ensures, c.if-low-high.true)) in
    erase_meets c.args.page c.args.at c.args.count (c.from.result * c.args.page) c.max-low.result c.min-high.result
    (8 + c.min-high.result - c.from.result * c.args.page - (8 + c.max-low.result - c.from.result * c.args.page)) (8 + c.max-low.result - c.from.result * c.args.page) old part
    c.requires.size (ap (λ (n : ℕ). n * c.args.page) (c.from.ensures ∙ c.number_of.ensures)) (omega (arith, c.max-low.ensures)) (omega (arith, c.min-high.ensures)) c.if-low-high.true
    refl (omega (arith, c.max-low.ensures, c.if-low-high.true)) (c.blank.auto.bytes ∙ size)
    (λ j below. c.blank.ensures j (omega (arith, size, below)))

pub returns-else-low-high : goal.returns-else-low-high
returns-else-low-high c =
    erase_misses c.args.page c.args.at c.args.count (c.from.result * c.args.page) c.args.frame.now
    (ap (λ (n : ℕ). n * c.args.page) (c.from.ensures ∙ c.number_of.ensures)) (omega (arith, c.max-low.ensures, c.min-high.ensures, c.if-low-high.false))
