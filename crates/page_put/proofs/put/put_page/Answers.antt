use Rattle.flash_view.specs.Steps.{any_image}
use Rattle.flash_view.proofs.Stepped.{made, weaker, view_image}
use Rattle.page_put.specs.Placing.{placed_page, put_by, IsPutting}
use Rattle.page_put.proofs.Putting.{puts}
use Rattle.page_put.proofs.put.put_page.Goals as goal

pub returns-clause-step : goal.returns-clause-step
returns-clause-step g c =
    let view = c.args.v.now in
    let page = c.args.page in
    let kind = c.args.kind in
    let tag = c.args.tag in
    let done = c.put_counted.ensures in
    weaker (made any_image (λ h. IsPutting h page (placed_page h kind tag view.work.now)) (λ h. put_by h page (placed_page h kind tag view.work.now)) done.same done.wrote done.cause done.changes done.done (λ any. done.counted))
    (λ tells can. puts _ _ page kind tag view.work.now (view_image view (g.met.N.Nor.sized _) tells) can)
