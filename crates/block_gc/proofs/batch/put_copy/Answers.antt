use Rattle.std.proofs.Common.{arith}
use Rattle.flash_view.proofs.Stepped.{weaker}
use Rattle.block_gc.proofs.BatchCopies.{copy_puts}
use Rattle.block_gc.proofs.batch.put_copy.Goals as goal

pub returns-clause-step : goal.returns-clause-step
returns-clause-step g c = λ was block most.
    let a = c.args in
    weaker c.put_page.ensures.step (λ tells need. copy_puts _ was _ block most a.batch a.page a.to a.span a.v.now.work.now need (c.requires.loaded tells) c.requires.id)

pub returns-clause-few : goal.returns-clause-few
returns-clause-few g c = omega (arith, c.put_page.ensures.few)
