use Rattle.std.proofs.Common.{arith}
use Rattle.page_put.proofs.fresh.fresh_block.Goals as goal

pub returns-in_err-program_fresh-clause-few : goal.returns-in_err-program_fresh-clause-few
returns-in_err-program_fresh-clause-few g c = omega (arith, c.program_fresh.ensures.few)

pub returns-clause-few : goal.returns-clause-few
returns-clause-few g c = omega (arith, c.program_fresh.ensures.few, c.count_fresh.ensures.counts.reads.writes)
