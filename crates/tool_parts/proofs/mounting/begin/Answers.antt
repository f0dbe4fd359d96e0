use Rattle.std.proofs.Common.{◌≡◌, arith, rules, Err}
use Rattle.tool_parts.proofs.Begun.{unchecked_stops, tight_stops, check_leaves}
use Rattle.tool_parts.proofs.Among.{check_in_begin}
use Rattle.tool_parts.proofs.mounting.begin.Goals as goal

pub returns-in_err-report-clause-stops : goal.returns-in_err-report-clause-stops
returns-in_err-report-clause-stops g c =
    let is : c.from_residual.result ≡ Err c.in_err-report.field-0.0 = search rules in
    rw is (λ tells. unchecked_stops _ _ c.in_err-report.field-0.0 (c.in_err-report.ensures.stops tells))

pub returns-then-report-lt2-clause-stops : goal.returns-then-report-lt2-clause-stops
returns-then-report-lt2-clause-stops g c = λ tells. tight_stops _ _ c.in_ok-report.report (c.in_ok-report.ensures.reported tells) (omega arith)

pub returns-clause-leaves : goal.returns-clause-leaves
returns-clause-leaves g c = λ tells. check_leaves c.in_ok-report.report (c.in_ok-report.ensures.reported tells) (omega arith) (c.mount_and_check.ensures.idle tells)

pub returns-in_err-report-clause-among : goal.returns-in_err-report-clause-among
returns-in_err-report-clause-among g c =
    let is : c.from_residual.result ≡ Err c.in_err-report.field-0.0 = search rules in
    rw is (check_in_begin c.in_err-report.field-0.0 c.in_err-report.ensures.among)
