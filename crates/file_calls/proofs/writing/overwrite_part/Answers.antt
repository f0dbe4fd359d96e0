use Rattle.std.proofs.Common.{◌≡◌, rules, Err, arith}
use Rattle.file_calls.proofs.CleansBy.{step_leaves, taken_passes, taken_then, taken_within}
use Rattle.file_calls.proofs.Going.{err_is, step_fails}
use Rattle.file_calls.proofs.WriteParts.{step_does, overwrite_begins, overwrite_ends}
use Rattle.file_calls.proofs.writing.overwrite_part.Goals as goal

pub returns-in_err-take_pages : goal.returns-in_err-take_pages
returns-in_err-take_pages g c = λ known f inside.
    let is : c.from_residual.result ≡ Err c.in_err-take_pages.field-0.0 = search rules in
    taken_within (omega arith) (taken_passes c.in_err-take_pages.ensures is (λ tells can. overwrite_begins _ _ _ known _ _ _ can))

pub returns : goal.returns
returns g c = λ known f inside.
    taken_then (λ k was image cut. step_leaves cut) c.in_ok-overwrite_step.ensures.few c.in_ok-take_pages.ensures (step_does (c.in_ok-overwrite_step.ensures.step f)) (λ tells can. overwrite_begins _ _ _ known _ _ _ can) (λ tells can made. overwrite_ends _ _ _ known _ _ _ can inside _ made)

pub returns-in_err-overwrite_step : goal.returns-in_err-overwrite_step
returns-in_err-overwrite_step g c = λ known f inside.
    rw (err_is c.from_residual-in_err-overwrite_step.result c.from_residual-in_err-overwrite_step.ensures.1) (taken_then (λ k was image cut. step_leaves cut) c.in_err-overwrite_step.ensures.few c.in_ok-take_pages.ensures (step_fails (c.in_err-overwrite_step.ensures.step f)) (λ tells can. overwrite_begins _ _ _ known _ _ _ can) (λ tells can made. overwrite_ends _ _ _ known _ _ _ can inside _ made))
