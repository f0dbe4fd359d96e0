use Rattle.std.proofs.Common.{Ok}
use Rattle.vol_check.specs.Works.{Worked}
use Rattle.vol_check.proofs.Tidied.{tidy_single, tidy_served}
use Rattle.vol_check.proofs.Composing.{settling, settles, culls_all}
use Rattle.vol_check.proofs.Working.{works_end, works_stop, stops, work_magics}
use Rattle.vol_check.proofs.checking.cull_pages.Given.{Over}
use Rattle.vol_check.proofs.checking.cull_pages.Goals as goal
use Rattle.vol_check.proofs.checking.cull_pages.Goals.{In_ok-damaged}

pub returns-in_err-doubled-clause-work : goal.returns-in_err-doubled-clause-work
returns-in_err-doubled-clause-work g c = stops c.in_err-doubled.ensures.work c.from_residual.ensures.0 (λ tells magics need. record { needs = tt; idle = λ tidy. tidy_single _ _ tidy })

pub cull_damaged-requires-clause-magics : goal.cull_damaged-requires-clause-magics
cull_damaged-requires-clause-magics g c = work_magics c.in_ok-doubled.ensures.work c.requires.magics (λ tells. tt)

pub cull_damaged-requires-clause-single : goal.cull_damaged-requires-clause-single
cull_damaged-requires-clause-single g c = λ tells.
    let was = c.in_ok-doubled.ensures.work.step in
    let before = was.cuts.cuts.told_before tells in
    rw was.framed.same.geometry (was.ends before (c.requires.magics before, tt)).single

pub returns-in_err-damaged-clause-work : goal.returns-in_err-damaged-clause-work
returns-in_err-damaged-clause-work g c =
    works_stop c.in_ok-doubled.ensures.work c.in_err-damaged.ensures.work c.from_residual-in_err-damaged.ensures.0 (λ tells magics need. record { needs = tt; idle = λ tidy. tidy_single _ _ tidy })
    (λ tells magics need doubled. record { needs = doubled.single; idle = λ tidy. tidy.undamaged })

-- the first two passes
settled : (g : Over) (c : In_ok-damaged g) → Worked {nor = g.N.NorState} c.args.v.now c.cull_damaged.new.v (Ok (c.in_ok-doubled.doubled, c.in_ok-damaged.damaged)) settling
settled g c =
    works_end c.in_ok-doubled.ensures.work c.in_ok-damaged.ensures.work (λ tells magics need. record { needs = tt; idle = λ tidy. tidy_single _ _ tidy })
    (λ tells magics need doubled. record { needs = doubled.single; idle = λ tidy. tidy.undamaged }) (λ tells magics need doubled kept damaged. settles _ _ _ _ _ _ doubled damaged)

pub returns-in_err-rest-clause-work : goal.returns-in_err-rest-clause-work
returns-in_err-rest-clause-work g c =
    works_stop (settled g (goal.at.returns-in_err-rest-clause-work g c).In_ok-damaged) c.in_err-rest.ensures.work c.from_residual-in_err-rest.ensures.0 (λ tells magics need. record { needs = tt; idle = λ tidy. tidy })
    (λ tells magics need done. record { needs = done.settled; idle = λ tidy. tidy_served _ _ tidy })

pub returns-clause-work : goal.returns-clause-work
returns-clause-work g c =
    works_end (settled g (goal.at.returns-clause-work g c).In_ok-damaged) c.in_ok-rest.ensures.work (λ tells magics need. record { needs = tt; idle = λ tidy. tidy })
    (λ tells magics need done. record { needs = done.settled; idle = λ tidy. tidy_served _ _ tidy }) (λ tells magics need done kept rest. culls_all _ _ _ _ _ _ _ done rest)
