use Rattle.std.proofs.Common.{◌≡◌, rules, Err, arith}
use Rattle.flash_view.proofs.Stepped.{passes, stepped_then}
use Rattle.file_write.proofs.CopyPut.{no_file}
use Rattle.file_write.proofs.relinking.replace_at.Goals as goal

pub returns-in_err-to-clause-step : goal.returns-in_err-to-clause-step
returns-in_err-to-clause-step g c = λ f.
    let is : c.from_residual.result ≡ Err c.in_err-to.field-0.0 = search rules in
    passes (c.in_err-to.ensures.step f) is (λ tells at. record { needs = at; cut = λ d cut. cut })

pub returns-clause-step : goal.returns-clause-step
returns-clause-step g c = λ f.
    stepped_then (c.in_ok-to.ensures.step f) (c.end_copy.ensures.step (g.N.NorState.bytes c.args.v.now.nor.now) c.args.bytes.now f) (λ tells at. record { needs = at; cut = λ d cut. cut }) (λ tells at done. record { needs = done; cut = λ d cut. cut; done = λ d ok done. done })

pub end_copy-requires-clause-page : goal.end_copy-requires-clause-page
end_copy-requires-clause-page g c = let same = (c.in_ok-to.ensures.step no_file).framed.same.geometry in rw same c.requires.page

pub end_copy-requires-clause-index : goal.end_copy-requires-clause-index
end_copy-requires-clause-index g c = let same = (c.in_ok-to.ensures.step no_file).framed.same.geometry in rw same c.requires.index

pub returns-in_err-to-clause-few : goal.returns-in_err-to-clause-few
returns-in_err-to-clause-few g c = omega (arith, c.in_err-to.ensures.few)

pub returns-clause-few : goal.returns-clause-few
returns-clause-few g c = omega (arith, c.in_ok-to.ensures.few, c.end_copy.ensures.few)
