use Rattle.std.proofs.Common.{arith}
use Rattle.flash_view.proofs.Looking.{looks_none}
use Rattle.flash_view.proofs.Stepped.{after_look, view_image}
use Rattle.page_renew.specs.Restated.{restated}
use Rattle.page_renew.proofs.Restates.{restates_by}
use Rattle.page_renew.proofs.restating.restate.Goals as goal

pub returns-clause-step : goal.returns-clause-step
returns-clause-step g c = λ f. after_look (looks_none c.args.v.now) (c.renew_header.ensures.step (restated c.args.edit f)) (λ tells can. restates_by _ _ _ _ f (view_image c.args.v.now (g.met.N.Nor.sized c.args.v.now.nor.now) tells) can)

pub returns-clause-few : goal.returns-clause-few
returns-clause-few g c = omega (arith, c.renew_header.ensures.few)
