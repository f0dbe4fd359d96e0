use Rattle.std.proofs.Common.{arith}
use Rattle.flash_view.proofs.Stepped.{ends_as, stepped_then}
use Rattle.volume.proofs.Finishing.{finished_at_once, finishing_cut, finished_by}
use Rattle.volume.proofs.checking.part_and_clear.Goals as goal

pub returns-then-left-ge2-clause-step : goal.returns-then-left-ge2-clause-step
returns-then-left-ge2-clause-step g c =
    let enough = c.if-left-ge2.true in
    ends_as c.in_ok-left.ensures.step (λ tells judged. record { needs = judged; cut = λ c cut. cut })
    (λ tells judged divided. finished_at_once _ _ _ _ (omega (arith, enough)) divided)

pub returns-clause-step : goal.returns-clause-step
returns-clause-step g c =
    let few = c.if-left-ge2.false in
    stepped_then c.in_ok-left.ensures.step c.clear.ensures (λ tells judged. record { needs = judged; cut = λ c cut. cut })
    (λ tells judged divided. record {
      needs = divided.parting.tidy;
      cut = λ image cut. finishing_cut _ _ _ _ (omega (arith, few)) divided image cut;
      done = λ image free w. finished_by _ _ _ _ (omega (arith, few)) divided image free w;
    })
