use Rattle.std.proofs.Common.{◌≡◌, true, false, sym, ◌∙◌}
use Rattle.flash_view.proofs.Stepped.{after_look, view_image}
use Rattle.vol_check.proofs.CullStep.{culls, alive}
use Rattle.vol_check.proofs.Working.{look_works, look_stops}
use Rattle.vol_check.proofs.culling.cull.Goals as goal

pub returns-in_err-is_alive : goal.returns-in_err-is_alive
returns-in_err-is_alive g c = look_stops c.in_err-is_alive.ensures.looks c.in_err-is_alive.ensures.cause c.from_residual.ensures.0

pub returns-then-not-branch : goal.returns-then-not-branch
returns-then-not-branch g c =
    let seen = c.in_ok-is_alive.ensures in
    look_works seen.looks (λ tells magics may.
    let a = alive _ _ _ may in
    let bad : true ≡ false = sym a.1 ∙ sym (seen.told tells a.0) ∙ c.if-not-branch.true in absurd (cc))

pub returns : goal.returns
returns g c =
    let seen = c.in_ok-is_alive.ensures in
    record {
      step = after_look seen.looks c.kill.ensures.live (λ tells need. culls _ _ _ (view_image c.args.v.now (g.met.N.Nor.sized _) tells) need.0 need.1 (seen.byte tells));
      idle = λ tells magics need none. absurd (none);
    }
