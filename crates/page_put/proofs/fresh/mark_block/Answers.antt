use Rattle.std.proofs.Common.{arith}
use Rattle.page_put.proofs.fresh.mark_block.Goals as goal

pub returns-in_err-program-clause-few : goal.returns-in_err-program-clause-few
returns-in_err-program-clause-few g c = omega (arith, c.program.ensures.writes.writes)

pub returns-clause-few : goal.returns-clause-few
returns-clause-few g c = omega (arith, c.in_ok-program.ensures.writes.writes, c.program-2.ensures.writes.writes)
