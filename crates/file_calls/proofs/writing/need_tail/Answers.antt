use Rattle.flash_view.proofs.Looking.{looks_none}
use Rattle.flash_view.proofs.Stepped.{looked, weaker}
use Rattle.file_calls.proofs.TurnsBy.{turned_none, turned_as}
use Rattle.file_calls.proofs.WriteParts.{tail_stays, known_ready}
use Rattle.file_calls.proofs.writing.need_tail.Goals as goal

pub returns-then-known : goal.returns-then-known
returns-then-known g c = turned_none (looks_none c.args.v.now) (looked (looks_none c.args.v.now) (λ e. absurd (cc)) tt (λ tells can. (tail_stays _ _ _ can.can, known_ready _ _ _ _ can c.if-known.true)))

pub returns : goal.returns
returns g c = let had = c.have_tail.ensures.steps in turned_as had (weaker had.steps (λ tells can. record { needs = can.can; cut = λ d cut. cut; done = λ d ok done. done })) (λ tells can. can.can) (λ tells can n few. few) (λ e. e)
