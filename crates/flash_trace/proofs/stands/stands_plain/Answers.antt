use Rattle.flash_trace.proofs.Testing.{told_no, told_both, not_told, part_at}
use Rattle.flash_trace.proofs.stands.stands_plain.Goals as goal

pub returns-then-not-is_part : goal.returns-then-not-is_part
returns-then-not-is_part c = told_no _ (λ w. not_told _ _ (part_at _ _ _ _ _ c.part.ensures c.as_slice.ensures.value c.is_part.ensures) c.if-not-is_part.true w.0)

pub returns : goal.returns
returns c = told_both _ _ _ ((part_at _ _ _ _ _ c.part.ensures c.as_slice.ensures.value c.is_part.ensures).0 c.if-not-is_part.false) c.may_leave.ensures
