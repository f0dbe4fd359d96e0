use Rattle.std.proofs.Common.{inl, inr, ⊎_elim}
use Rattle.flash_trace.proofs.Testing.{told_yes, not_told, ok_told}
use Rattle.flash_trace.proofs.going.says.Goals as goal

pub returns-then-stands : goal.returns-then-stands
returns-then-stands c = told_yes _ (inl (c.in_ok-stands.ensures.0 c.if-stands.true))

pub returns-then-ends : goal.returns-then-ends
returns-then-ends c = told_yes _ (inr (inl (c.in_ok-ends.ensures.0 c.if-ends.true)))

pub returns : goal.returns
returns c = ok_told _ _ _ (λ begun. inr (inr begun))
    (λ s. ⊎_elim (λ stands. absurd (not_told _ _ c.in_ok-stands.ensures c.if-stands.false stands)) (λ other. ⊎_elim (λ ends. absurd (not_told _ _ c.in_ok-ends.ensures c.if-ends.false ends)) (λ begun. begun) other) s)
    c.is_unbegun.ensures
