use Rattle.std.proofs.Common.{refl, sym, arith}
use Rattle.flash_view.proofs.Stepped.{looked, after_look, fault_as, done_as}
use Rattle.file_drop.proofs.Passing.{stays, by_header}
use Rattle.file_drop.proofs.Seeing.{has_first}
use Rattle.file_drop.proofs.remove.remove_step.Goals as goal

pub returns-in-Err-clause-step : goal.returns-in-Err-clause-step
returns-in-Err-clause-step g c = let seen = c.in-Err.ensures in looked seen.looks (λ e. seen.cause) tt (λ tells can. (stays _ _ _ can, refl))

pub returns-in-Ok-None-clause-step : goal.returns-in-Ok-None-clause-step
returns-in-Ok-None-clause-step g c =
    let seen = c.in-Ok-None.ensures in
    looked seen.looks (λ e. absurd (cc)) (c.no_page.ensures.apart (λ e. absurd (omega (arith, e)))) (λ tells can. (stays _ _ _ can, absurd (has_first _ _ _ can (rw c.in-Ok-None.field-0-is at (seen.told tells can.tidy)))))

pub returns-in-Err-drop_by-clause-step : goal.returns-in-Err-drop_by-clause-step
returns-in-Err-drop_by-clause-step g c =
    let seen = c.in-Ok-Some.ensures in
    let is = c.in-Ok-Some.field-0-is in
    fault_as (after_look seen.looks c.in-Err-drop_by.ensures.step (λ tells can. by_header _ _ _ _ (record { can = can; first = sym (rw is at (seen.told tells can.tidy)); byte = rw is at (seen.byte tells) })))

pub returns-in-Ok-clause-step : goal.returns-in-Ok-clause-step
returns-in-Ok-clause-step g c =
    let seen = c.in-Ok-Some.ensures in
    let is = c.in-Ok-Some.field-0-is in
    done_as (after_look seen.looks c.in-Ok.ensures.step (λ tells can. by_header _ _ _ _ (record { can = can; first = sym (rw is at (seen.told tells can.tidy)); byte = rw is at (seen.byte tells) })))

pub returns-in-Err-clause-few : goal.returns-in-Err-clause-few
returns-in-Err-clause-few g c = λ tells can. omega (arith, c.in-Err.ensures.looks.reads.writes)

pub returns-in-Err-clause-most : goal.returns-in-Err-clause-most
returns-in-Err-clause-most g c = omega (arith, c.in-Err.ensures.looks.reads.writes)

pub returns-in-Ok-None-clause-few : goal.returns-in-Ok-None-clause-few
returns-in-Ok-None-clause-few g c = λ tells can. omega (arith, c.in-Ok-None.ensures.looks.reads.writes)

pub returns-in-Ok-None-clause-most : goal.returns-in-Ok-None-clause-most
returns-in-Ok-None-clause-most g c = omega (arith, c.in-Ok-None.ensures.looks.reads.writes)

pub returns-in-Err-drop_by-clause-few : goal.returns-in-Err-drop_by-clause-few
returns-in-Err-drop_by-clause-few g c = λ tells can.
    let seen = c.in-Ok-Some.ensures in
    let is = c.in-Ok-Some.field-0-is in
    let few = rw (seen.looks.same.geometry, seen.looks.reads.bytes, seen.looks.reads.writes) at (c.in-Err-drop_by.ensures.few (seen.looks.reads.told tells)) in
    few (record { can = can; first = sym (rw is at (seen.told tells can.tidy)); byte = rw is at (seen.byte tells) })

pub returns-in-Err-drop_by-clause-most : goal.returns-in-Err-drop_by-clause-most
returns-in-Err-drop_by-clause-most g c =
    let looks = c.in-Ok-Some.ensures.looks in
    let most = rw looks.same.geometry at c.in-Err-drop_by.ensures.most in
    omega (arith, most, looks.reads.writes)

pub returns-in-Ok-clause-few : goal.returns-in-Ok-clause-few
returns-in-Ok-clause-few g c = λ tells can.
    let seen = c.in-Ok-Some.ensures in
    let is = c.in-Ok-Some.field-0-is in
    let few = rw (seen.looks.same.geometry, seen.looks.reads.bytes, seen.looks.reads.writes) at (c.in-Ok.ensures.few (seen.looks.reads.told tells)) in
    few (record { can = can; first = sym (rw is at (seen.told tells can.tidy)); byte = rw is at (seen.byte tells) })

pub returns-in-Ok-clause-most : goal.returns-in-Ok-clause-most
returns-in-Ok-clause-most g c =
    let looks = c.in-Ok-Some.ensures.looks in
    let most = rw looks.same.geometry at c.in-Ok.ensures.most in
    omega (arith, most, looks.reads.writes)
