use Rattle.std.proofs.Common.{inl, inr, ⊎_elim}
use Rattle.flash_trace.proofs.Testing.{told_yes, not_told, ok_told}
use Rattle.flash_trace.proofs.stands.stands_in.Goals as goal

pub returns-then-stands_plain : goal.returns-then-stands_plain
returns-then-stands_plain c = told_yes _ (inl (c.stands_plain.ensures.0 c.if-stands_plain.true))

pub returns : goal.returns
returns c = ok_told _ _ _ (λ w. inr w) (λ s. ⊎_elim (λ plain. absurd (not_told _ _ c.stands_plain.ensures c.if-stands_plain.false plain)) (λ tight. tight) s) c.stands_in_corner.ensures
