use Rattle.std.proofs.Common.{sym, ◌∙◌}
use Rattle.vol_check.proofs.Doubles.{may_be_culled}
use Rattle.vol_check.proofs.Noting.{turns_double, turns_nothing}
use Rattle.vol_check.proofs.Working.{look_works, look_stops, works_on, works_as, stops}
use Rattle.vol_check.proofs.doubled.cull_doubled.Goals as goal

pub returns-in_err-is_later : goal.returns-in_err-is_later
returns-in_err-is_later g c = look_stops c.in_err-is_later.ensures.looks c.in_err-is_later.ensures.cause c.from_residual.ensures.0

pub returns-then-not-branch : goal.returns-then-not-branch
returns-then-not-branch g c =
    let seen = c.in_ok-is_later.ensures in
    look_works seen.looks (λ tells magics need. turns_nothing _ _ _ _ (rw c.if-not-branch.true at (seen.told tells need.0 need.1)))

pub returns-in_err-cull : goal.returns-in_err-cull
returns-in_err-cull g c =
    let seen = c.in_ok-is_later.ensures in
    stops (works_on seen.looks c.in_err-cull.ensures) c.from_residual-in_err-cull.ensures.0 (λ tells magics need. may_be_culled _ _ _ _ _ _ (sym (seen.told tells need.0 need.1).is ∙ c.if-not-branch.false))

pub returns : goal.returns
returns g c =
    let seen = c.in_ok-is_later.ensures in
    works_as (works_on seen.looks c.in_ok-cull.ensures) (λ tells magics need. may_be_culled _ _ _ _ _ _ (sym (seen.told tells need.0 need.1).is ∙ c.if-not-branch.false))
    (λ tells magics need kept culls. turns_double _ _ _ _ _ (rw c.if-not-branch.false at (seen.told tells need.0 need.1)) culls)
