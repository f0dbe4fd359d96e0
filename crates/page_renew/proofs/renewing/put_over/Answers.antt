use Rattle.std.proofs.Common.{arith}
use Rattle.flash_view.proofs.Stepped.{fails, stepped_then}
use Rattle.page_renew.proofs.HeaderRenewed.{puts, then_kills}
use Rattle.page_renew.proofs.renewing.put_over.Goals as goal

pub returns-in_err-put_page-clause-step : goal.returns-in_err-put_page-clause-step
returns-in_err-put_page-clause-step g c = fails c.in_err-put_page.ensures.step c.from_residual.ensures.0 (λ tells can. puts _ _ _ _ _ _ can)

pub returns-in_err-put_page-clause-few : goal.returns-in_err-put_page-clause-few
returns-in_err-put_page-clause-few g c = omega (arith, c.put_page.ensures.few)

pub returns-clause-step : goal.returns-clause-step
returns-clause-step g c = stepped_then c.in_ok-put_page.ensures.step c.kill.ensures.live (λ tells can. puts _ _ _ _ _ _ can) (λ tells can done. then_kills _ _ _ _ _ _ can _ done)

pub returns-clause-few : goal.returns-clause-few
returns-clause-few g c = omega (arith, c.put_page.ensures.few, c.kill.ensures.few)
