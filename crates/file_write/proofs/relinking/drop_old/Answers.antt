use Rattle.std.proofs.Common.{arith}
use Rattle.flash_view.proofs.Stepped.{weaker, fault_passes, done_as}
use Rattle.file_write.proofs.OldDropped.{old_kills}
use Rattle.file_write.proofs.relinking.drop_old.Goals as goal

pub returns-in_err-kill-clause-step : goal.returns-in_err-kill-clause-step
returns-in_err-kill-clause-step g c = λ was bytes f. fault_passes (weaker c.in_err-kill.ensures.live (λ tells has. old_kills _ was _ c.args.patch c.args.spot bytes f has)) c.from_residual.ensures.0 c.from_residual.ensures.1

pub returns-clause-step : goal.returns-clause-step
returns-clause-step g c = λ was bytes f. done_as (weaker c.in_ok-kill.ensures.live (λ tells has. old_kills _ was _ c.args.patch c.args.spot bytes f has))

pub returns-in_err-kill-clause-few : goal.returns-in_err-kill-clause-few
returns-in_err-kill-clause-few g c = omega (arith, c.in_err-kill.ensures.few)

pub returns-clause-few : goal.returns-clause-few
returns-clause-few g c = omega (arith, c.in_ok-kill.ensures.few)
