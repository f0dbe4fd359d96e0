use Rattle.flash_trace.proofs.Testing.{told_no, not_told}
use Rattle.flash_trace.proofs.picture.means_same.Goals as goal

pub returns-then-not-has_same_magics : goal.returns-then-not-has_same_magics
returns-then-not-has_same_magics c = told_no _ (λ same. not_told _ _ c.has_same_magics.ensures c.if-not-has_same_magics.true same.magics)

pub returns : goal.returns
returns c = (λ h. record { live = c.is_same_live.ensures.0 h; magics = c.has_same_magics.ensures.0 c.if-not-has_same_magics.false }, λ same. c.is_same_live.ensures.1 same.live)
