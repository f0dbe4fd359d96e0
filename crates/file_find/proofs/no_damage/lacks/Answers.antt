use Rattle.std.proofs.Common.{IsTrue, false, refl, arith}
use Rattle.file_find.proofs.no_damage.lacks.Goals as goal

pub returns-in-Some : goal.returns-in-Some
returns-in-Some c = (
  λ (h : IsTrue false). absurd (cc),
  λ none. absurd (none c.in-Some.field-0 c.in-Some.ensures.below c.in-Some.ensures.is),
)

pub returns-in-None : goal.returns-in-None
returns-in-None c = (λ h p low. c.in-None.ensures p (omega arith) low, λ none. refl)
