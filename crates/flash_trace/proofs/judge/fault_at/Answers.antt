use Rattle.std.proofs.Common.{ℕ, List, sym, subst}
use Rattle.flash_trace.specs.Events.{HasRightBits}
use Rattle.flash_trace.specs.Judging.{standing_of}
use Rattle.flash_trace.proofs.Testing.{not_told}
use Rattle.flash_trace.proofs.Verdicts.{bad_before, outside, wrong_bits}
use Rattle.flash_trace.proofs.judge.fault_at.Goals as goal

pub returns-then-not-good-clause-some : goal.returns-then-not-good-clause-some
returns-then-not-good-clause-some c = bad_before c.args.case.now c.args.at (standing_of c.args.going.now) c.args.event.now (not_told _ _ c.in_ok-good.ensures c.if-not-good.true)

pub returns-then-not-is_inside-clause-some : goal.returns-then-not-is_inside-clause-some
returns-then-not-is_inside-clause-some c = outside c.args.case.now c.args.at (standing_of c.args.going.now) c.args.event.now (c.in_ok-good.ensures.0 c.if-not-good.false) (not_told _ _ c.is_inside.ensures c.if-not-is_inside.true)

pub returns-then-not-right-clause-some : goal.returns-then-not-right-clause-some
returns-then-not-right-clause-some c =
    wrong_bits c.args.case.now c.args.at (standing_of c.args.going.now) c.args.event.now (c.in_ok-good.ensures.0 c.if-not-good.false) (c.is_inside.ensures.0 c.if-not-is_inside.false)
    (λ bits. not_told _ _ c.in_ok-right.ensures c.if-not-right.true (subst (λ (l : List ℕ). HasRightBits c.args.event.now l) (sym c.as_slice.ensures.value) bits))
