use Rattle.std.proofs.Common.{rules, refl, arith}
use Rattle.flash_view.proofs.Stepped.{looked, rebuilt, weaker}
use Rattle.file_write.proofs.BytesReadied.{ready_stays, span_small, bytes_next}
use Rattle.file_write.proofs.readying.ready_bytes.Goals as goal

pub returns-then-span-gt65535-clause-step : goal.returns-then-span-gt65535-clause-step
returns-then-span-gt65535-clause-step g c = λ f.
    looked (rebuilt (search rules)) (λ e. absurd (cc)) c.missing.ensures
    (λ tells can. (ready_stays _ _ _ can.can, absurd (let small = span_small _ _ _ _ _ can c.requires.part in (search rules))))

pub returns-clause-step : goal.returns-clause-step
returns-clause-step g c = λ f.
    weaker (c.replace_page.ensures.step f) (λ tells can. bytes_next _ _ _ _ _ can c.requires.part _ _ (rw c.body-body.ensures refl) (rw c.body-body.ensures refl))

pub returns-clause-few : goal.returns-clause-few
returns-clause-few g c = omega (arith, c.replace_page.ensures.few)
