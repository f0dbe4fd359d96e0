use Rattle.std.proofs.Common.{arith}
use Rattle.page_layout.proofs.IdBits.{cleared_in}
use Rattle.free_search.proofs.ids.clear_bits.Goals as goal

pub returns-clause-none : goal.returns-clause-none
returns-clause-none g c = λ id few.
    rw (← c.bits_start-start.ensures)
    (cleared_in c.bits_start-start.result id c.args.v.now.work.now c.clear.new.bits _ (omega (arith, c.bits_start-start.ensures, c.args.v.now.work_fits)) (omega (arith, few, c.clear.ensures.len, c.usable.ensures.count, c.bits_start-start.ensures, c.args.v.now.work_fits)) (c.clear.ensures.none id))
