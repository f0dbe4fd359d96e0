use Rattle.std.proofs.Common.{arith}
use Rattle.flash_view.proofs.Looking.{looks_none}
use Rattle.vol_check.proofs.Resting.{may_be_culled, culls_rest, rests_nothing, marked_stays, unmarked_goes}
use Rattle.vol_check.proofs.Working.{look_works, works_as, stops}
use Rattle.vol_check.proofs.unwanted.cull_unmarked.Goals as goal

pub returns-then-mark-ne0 : goal.returns-then-mark-ne0
returns-then-mark-ne0 g c = look_works (looks_none c.args.v.now) (λ tells magics need. rests_nothing _ _ _ need.0 (marked_stays _ _ _ _ need.1 c.if-mark-ne0.true))

pub returns-in_err-cull : goal.returns-in_err-cull
returns-in_err-cull g c = stops c.in_err-cull.ensures c.from_residual.ensures.0 (λ tells magics need. may_be_culled _ _ _ _ need.0 (unmarked_goes _ _ _ _ need.1 need.2 (omega (arith, c.if-mark-ne0.false))))

pub returns : goal.returns
returns g c =
    works_as c.in_ok-cull.ensures (λ tells magics need. may_be_culled _ _ _ _ need.0 (unmarked_goes _ _ _ _ need.1 need.2 (omega (arith, c.if-mark-ne0.false))))
    (λ tells magics need kept culls. culls_rest _ _ _ _ need.0 (unmarked_goes _ _ _ _ need.1 need.2 (omega (arith, c.if-mark-ne0.false))) culls)
