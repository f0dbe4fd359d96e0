use Rattle.std.proofs.Common.{◌≡◌, rules, Err, [], arith}
use Rattle.flash_view.proofs.Stepped.{passes, stepped_then}
use Rattle.file_write.proofs.CopyPut.{no_file}
use Rattle.file_write.proofs.relinking.end_copy.Goals as goal

pub returns-in_err-rename-clause-step : goal.returns-in_err-rename-clause-step
returns-in_err-rename-clause-step g c = λ was bytes f.
    let is : c.from_residual.result ≡ Err c.in_err-rename.field-0.0 = search rules in
    passes (c.in_err-rename.ensures.step was bytes f) is (λ tells has. record { needs = has; cut = λ d cut. cut })

pub returns-clause-step : goal.returns-clause-step
returns-clause-step g c = λ was bytes f. stepped_then (c.in_ok-rename.ensures.step was bytes f) (c.drop_old.ensures.step was bytes f) (λ tells has. record { needs = has; cut = λ d cut. cut }) (λ tells has done. record { needs = done; cut = λ d cut. cut; done = λ d ok done. done })

pub drop_old-requires : goal.drop_old-requires
drop_old-requires g c = let same = (c.in_ok-rename.ensures.step [] [] no_file).framed.same.geometry in record { page = rw same c.requires.page }

pub returns-in_err-rename-clause-few : goal.returns-in_err-rename-clause-few
returns-in_err-rename-clause-few g c = omega (arith, c.in_err-rename.ensures.few)

pub returns-clause-few : goal.returns-clause-few
returns-clause-few g c = omega (arith, c.in_ok-rename.ensures.few, c.drop_old.ensures.few)
