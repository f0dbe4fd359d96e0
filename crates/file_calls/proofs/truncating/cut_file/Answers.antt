use Rattle.std.proofs.Common.{refl, arith}
use Rattle.flash_view.proofs.Stepped.{passes, ends_as}
use Rattle.file_calls.proofs.CleansBy.{taken_as}
use Rattle.file_calls.proofs.Cutting.{seek_failed, none_found, cut_then}
use Rattle.file_calls.proofs.Going.{err_is}
use Rattle.file_calls.proofs.truncating.cut_file.Goals as goal

pub returns-in_err-seek_page : goal.returns-in_err-seek_page
returns-in_err-seek_page g c = rw (err_is c.from_residual.result c.from_residual.ensures.1) (λ f. seek_failed c.args.id c.args.size f c.in_err-seek_page.ensures)

pub returns-then-not-branch : goal.returns-then-not-branch
returns-then-not-branch g c = λ f. none_found c.args.id c.args.size f (rw c.if-not-branch.true at c.in_ok-seek_page.ensures)

pub returns-in_err-truncate_step : goal.returns-in_err-truncate_step
returns-in_err-truncate_step g c = λ f.
    let is = err_is c.from_residual-in_err-truncate_step.result c.from_residual-in_err-truncate_step.ensures.1 in
    let all = cut_then c.args.id c.args.size f (let few = rw c.in_ok-seek_page.ensures.steps.framed.same.geometry at c.in_err-truncate_step.ensures.most in omega (arith, few)) (rw c.if-not-branch.false at c.in_ok-seek_page.ensures) (c.in_err-truncate_step.ensures.step f) in
    taken_as all (passes all.steps is (λ tells can. record { needs = can; cut = λ d cut. cut })) (λ tells can. can) (λ e. rw is refl)

pub returns : goal.returns
returns g c = λ f.
    let all = cut_then c.args.id c.args.size f (let few = rw c.in_ok-seek_page.ensures.steps.framed.same.geometry at c.in_ok-truncate_step.ensures.most in omega (arith, few)) (rw c.if-not-branch.false at c.in_ok-seek_page.ensures) (c.in_ok-truncate_step.ensures.step f) in
    taken_as all (ends_as all.steps (λ tells can. record { needs = can; cut = λ d cut. cut }) (λ tells can done. done)) (λ tells can. can) (λ e. e)
