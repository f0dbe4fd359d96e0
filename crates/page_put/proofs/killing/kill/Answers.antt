use Rattle.flash_view.specs.Steps.{any_image}
use Rattle.flash_view.proofs.Stepped.{made, weaker, view_image}
use Rattle.page_put.specs.Kills.{killed, HalfKilled}
use Rattle.page_put.proofs.Killed.{kills, clears_dead}
use Rattle.page_put.proofs.killing.kill.Goals as goal

pub returns-clause-live : goal.returns-clause-live
returns-clause-live g c =
    let done = c.program_kill.ensures in
    weaker (made any_image (λ h. HalfKilled h c.args.page) (λ h. killed h c.args.page) done.same done.wrote done.cause done.changes done.done (λ any. done.counted))
    (λ tells can. kills _ _ _ (view_image c.args.v.now (g.met.N.Nor.sized _) tells) can)

pub returns-clause-dead : goal.returns-clause-dead
returns-clause-dead g c =
    let done = c.program_kill.ensures in
    weaker (made any_image (λ h. HalfKilled h c.args.page) (λ h. killed h c.args.page) done.same done.wrote done.cause done.changes done.done (λ any. done.counted))
    (λ tells can. clears_dead _ _ _ (view_image c.args.v.now (g.met.N.Nor.sized _) tells) can)
