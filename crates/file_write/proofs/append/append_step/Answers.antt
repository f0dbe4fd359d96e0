use Rattle.std.proofs.Common.{arith}
use Rattle.flash_view.proofs.Stepped.{looked, look_faults, after_look, view_image}
use Rattle.file_write.specs.Appends.{appending_at}
use Rattle.file_write.proofs.Appending.{append_stays, home_there, append_at}
use Rattle.file_write.proofs.append.append_step.Goals as goal

pub returns-in_err-found-clause-step : goal.returns-in_err-found-clause-step
returns-in_err-found-clause-step g c = λ f. let seen = c.in_err-found.ensures in look_faults seen.looks seen.cause c.from_residual.ensures.0 c.from_residual.ensures.1 (λ tells can. append_stays _ _ _ _ _ can)

pub returns-in_default-clause-step : goal.returns-in_default-clause-step
returns-in_default-clause-step g c = λ f.
    let seen = c.in_ok-found.ensures in
    looked seen.looks (λ e. absurd (cc)) c.missing.ensures (λ tells can. (append_stays _ _ _ _ _ can, absurd (home_there _ _ _ _ _ (view_image c.args.v.now (g.met.N.Nor.sized _) tells) can (rw c.in_default.is at (seen.told tells can.tidy)))))

pub returns-clause-step : goal.returns-clause-step
returns-clause-step g c = λ f.
    let seen = c.in_ok-found.ensures in
    after_look {last = appending_at c.args.id c.in-Some.found.header c.in-Some.found.size c.args.from.now f} seen.looks (c.append_found.ensures.step f)
    (λ tells can. let home = rw c.in-Some.is at (seen.told tells can.tidy) in append_at _ _ _ _ _ (view_image c.args.v.now (g.met.N.Nor.sized _) tells) can _ _ home.0 home.1)

pub returns-in_err-found-clause-few : goal.returns-in_err-found-clause-few
returns-in_err-found-clause-few g c = omega (arith, c.in_err-found.ensures.looks.reads.writes)

pub returns-in_default-clause-few : goal.returns-in_default-clause-few
returns-in_default-clause-few g c = omega (arith, c.in_ok-found.ensures.looks.reads.writes)

pub returns-clause-few : goal.returns-clause-few
returns-clause-few g c =
    let seen = c.in_ok-found.ensures.looks in
    let few = rw seen.same.geometry at c.append_found.ensures.few in
    omega (arith, seen.reads.writes, few)
