use Rattle.std.proofs.lemmas.Result.{err_from_is_err_and}
use Rattle.std.proofs.Common.{arith}
use Rattle.volume.proofs.Finishing.{count_fails, count_keeps}
use Rattle.volume.proofs.checking.check_view.Goals as goal

pub returns-in_err-report-clause-checks : goal.returns-in_err-report-clause-checks
returns-in_err-report-clause-checks g c =
    let p = err_from_is_err_and c.from_residual.result c.from_residual.ensures.1 in
    rw (p.1, p.2) c.in_err-report.ensures.checks

pub returns-in_err-count_again-clause-checks : goal.returns-in_err-count_again-clause-checks
returns-in_err-count_again-clause-checks g c =
    let p = err_from_is_err_and c.from_residual-in_err-count_again.result c.from_residual-in_err-count_again.ensures.1 in
    let counts = c.in_err-count_again.ensures in
    let rose = counts.cause.1 in
    let more = c.in_ok-report.ensures.same.faults in
    rw (p.1, p.2, counts.cause.0) (count_fails c.in_ok-report.ensures.checks counts.counts.reads (omega arith))

pub returns-clause-checks : goal.returns-clause-checks
returns-clause-checks g c = count_keeps c.in_ok-report.ensures.checks c.in_ok-count_again.ensures.counts.reads
