use Rattle.std.proofs.Common.{arith}
use Rattle.flash_trace.proofs.Testing.{told_no, told_yes, not_told}
use Rattle.flash_trace.proofs.picture.has_same_magics.Goals as goal

pub returns-then-not-is_same_magic : goal.returns-then-not-is_same_magic
returns-then-not-is_same_magic c = told_no _ (λ same. not_told _ _ c.is_same_magic.ensures c.if-not-is_same_magic.true (same c.loop-block.block c.loop-block-test.true))

pub returns : goal.returns
returns c = told_yes _ (λ block low. c.loop-block.invariant block (omega arith))
