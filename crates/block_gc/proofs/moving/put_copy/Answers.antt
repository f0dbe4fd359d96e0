use Rattle.std.proofs.Common.{arith}
use Rattle.flash_view.proofs.Stepped.{fails, stepped_then, view_image}
use Rattle.block_gc.proofs.MoveCalls.{puts, then_kills}
use Rattle.block_gc.proofs.moving.put_copy.Goals as goal

pub returns-in_err-put_page-clause-step : goal.returns-in_err-put_page-clause-step
returns-in_err-put_page-clause-step g c =
    fails c.in_err-put_page.ensures.step c.from_residual.ensures.0
    (λ tells can. puts _ _ c.args.page c.args.to c.args.tag c.args.v.now.work.now (view_image c.args.v.now (g.met.N.Nor.sized _) tells) can (c.requires.built tells can))

pub returns-clause-step : goal.returns-clause-step
returns-clause-step g c =
    stepped_then c.in_ok-put_page.ensures.step c.kill.ensures.live
    (λ tells can. puts _ _ c.args.page c.args.to c.args.tag c.args.v.now.work.now (view_image c.args.v.now (g.met.N.Nor.sized _) tells) can (c.requires.built tells can))
    (λ tells can done. then_kills _ _ c.args.page c.args.to c.args.tag c.args.v.now.work.now (view_image c.args.v.now (g.met.N.Nor.sized _) tells) can (c.requires.built tells can) _ done)

pub returns-in_err-put_page-clause-few : goal.returns-in_err-put_page-clause-few
returns-in_err-put_page-clause-few g c = omega (arith, c.put_page.ensures.few)

pub returns-clause-few : goal.returns-clause-few
returns-clause-few g c = omega (arith, c.put_page.ensures.few, c.kill.ensures.few)
