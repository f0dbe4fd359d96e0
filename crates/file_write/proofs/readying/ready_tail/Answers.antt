use Rattle.std.proofs.Common.{arith}
use Rattle.flash_view.proofs.Stepped.{looked, look_faults, after_look, view_image}
use Rattle.image_model.specs.Tables.{table_of}
use Rattle.file_write.specs.Readyings.{HasReadyTailAt}
use Rattle.file_write.proofs.BytesReadied.{ready_stays, chosen, home_there, ready_home, ready_found}
use Rattle.file_write.proofs.UnreadyTails.{still_after}
use Rattle.file_write.proofs.readying.ready_tail.Goals as goal

pub returns-in_err-found-clause-steps : goal.returns-in_err-found-clause-steps
returns-in_err-found-clause-steps g c = let seen = c.in_err-found.ensures in look_faults seen.looks seen.cause c.from_residual.ensures.0 c.from_residual.ensures.1 (λ tells can. ready_stays _ _ _ can)

pub returns-in_default-clause-steps : goal.returns-in_default-clause-steps
returns-in_default-clause-steps g c =
    let seen = c.in_ok-found.ensures in
    looked seen.looks (λ e. absurd (cc)) c.missing.ensures
    (λ tells can. (ready_stays _ _ _ can, absurd (home_there _ _ _ (view_image c.args.v.now (g.met.N.Nor.sized _) tells) can.tidy can.there (rw c.in_default.is at (seen.told tells can.tidy)))))

pub returns-clause-steps : goal.returns-clause-steps
returns-clause-steps g c =
    let seen = c.in_ok-found.ensures in
    after_look seen.looks (c.ready_in.ensures.steps (chosen (table_of c.args.v.now.geometry (g.N.NorState.bytes c.args.v.now.nor.now)) c.args.id))
    (λ tells can. ready_home _ _ _ (view_image c.args.v.now (g.met.N.Nor.sized _) tells) can _ (rw c.in-Some.is at (seen.told tells can.tidy)))

pub returns-in_default-clause-still : goal.returns-in_default-clause-still
returns-in_default-clause-still g c = λ tells has. absurd (home_there _ _ _ (view_image c.args.v.now (g.met.N.Nor.sized _) tells) has.tidy has.there (rw c.in_default.is at (c.in_ok-found.ensures.told tells has.tidy)))

pub returns-clause-still : goal.returns-clause-still
returns-clause-still g c = λ tells has.
    let seen = c.in_ok-found.ensures in
    let f = chosen (table_of c.args.v.now.geometry (g.N.NorState.bytes c.args.v.now.nor.now)) c.args.id in
    still_after (λ k image. HasReadyTailAt k image c.args.id c.in-Some.found.size f) seen.looks (c.ready_in.ensures.still f) tells
    (ready_found _ _ _ (view_image c.args.v.now (g.met.N.Nor.sized _) tells) has _ (rw c.in-Some.is at (seen.told tells has.tidy)))

pub returns-in_err-found-clause-few : goal.returns-in_err-found-clause-few
returns-in_err-found-clause-few g c = omega (arith, c.in_err-found.ensures.looks.reads.writes)

pub returns-in_default-clause-few : goal.returns-in_default-clause-few
returns-in_default-clause-few g c = omega (arith, c.in_ok-found.ensures.looks.reads.writes)

pub returns-clause-few : goal.returns-clause-few
returns-clause-few g c = omega (arith, c.in_ok-found.ensures.looks.reads.writes, c.ready_in.ensures.few)
