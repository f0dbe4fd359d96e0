use Rattle.std.proofs.lemmas.Result.{err_from_is_err_and}
use Rattle.flash_view.proofs.Stepped.{view_image}
use Rattle.volume.proofs.Finishing.{checks_after, judge_fails, fine_on, magics_on, fitting_on, stages_fail, finishing_fails, finishes_on}
use Rattle.volume.proofs.checking.check_pages.Goals as goal

pub returns-in_err-shares-clause-checks : goal.returns-in_err-shares-clause-checks
returns-in_err-shares-clause-checks g c =
    let p = err_from_is_err_and c.from_residual.result c.from_residual.ensures.1 in
    rw (p.1, p.2) (judge_fails c.requires.magics c.in_err-shares.ensures)

pub returns-in_err-report-clause-checks : goal.returns-in_err-report-clause-checks
returns-in_err-report-clause-checks g c =
    let p = err_from_is_err_and c.from_residual-in_err-report.result c.from_residual-in_err-report.ensures.1 in
    let magics = c.requires.magics in
    let judges = c.in_ok-shares.ensures in
    let stages = c.in_err-report.ensures in
    rw (p.1, p.2) (checks_after judges.looks
    (stages_fail c.judge.new.v c.check_stages.new.v c.in_ok-shares.shares (fine_on magics judges) (magics_on magics judges) (fitting_on magics judges)
    stages.among stages.writable stages.cause stages.changes stages.refused stages.idle))

pub returns-in_err-free_blocks-clause-checks : goal.returns-in_err-free_blocks-clause-checks
returns-in_err-free_blocks-clause-checks g c =
    let p = err_from_is_err_and c.from_residual-in_err-free_blocks.result c.from_residual-in_err-free_blocks.ensures.1 in
    let magics = c.requires.magics in
    let judges = c.in_ok-shares.ensures in
    let stages = c.in_ok-report.ensures in
    let last = c.in_err-free_blocks.ensures in
    rw (p.1, p.2) (checks_after judges.looks
    (finishing_fails c.judge.new.v c.check_stages.new.v c.in_ok-shares.shares (fine_on magics judges) (magics_on magics judges) (fitting_on magics judges)
    c.in_ok-report.report stages.same stages.done stages.changes stages.idle last.idle last.step))

pub returns-clause-checks : goal.returns-clause-checks
returns-clause-checks g c =
    let magics = c.requires.magics in
    let judges = c.in_ok-shares.ensures in
    let stages = c.in_ok-report.ensures in
    let last = c.in_ok-free_blocks.ensures in
    checks_after judges.looks
    (finishes_on c.judge.new.v c.check_stages.new.v c.in_ok-shares.shares (fine_on magics judges) (magics_on magics judges) (fitting_on magics judges)
    c.in_ok-report.report stages.same stages.done stages.changes stages.idle
    (λ tells. rw stages.same.geometry at (view_image c.check_stages.new.v (g.met.N.Nor.sized _) tells)) stages.few last.idle last.step)
