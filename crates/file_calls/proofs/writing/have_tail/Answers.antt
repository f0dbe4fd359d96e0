use Rattle.std.proofs.Common.{◌≡◌, refl, rules, arith, Err}
use Rattle.flash_view.proofs.Stepped.{looked}
use Rattle.file_calls.proofs.CleansBy.{step_leaves, taken_after, taken_passes, taken_then, taken_within}
use Rattle.file_calls.proofs.TurnsBy.{turned_none, turned_once}
use Rattle.file_calls.proofs.Going.{err_is, step_fails}
use Rattle.file_calls.proofs.WriteParts.{step_does, tail_stays, tail_is_ready, tail_begins, tail_ends, tail_once, not_ready}
use Rattle.file_calls.proofs.writing.have_tail.Goals as goal

pub returns-in_err-is_tail_ready-clause-steps : goal.returns-in_err-is_tail_ready-clause-steps
returns-in_err-is_tail_ready-clause-steps g c =
    let seen = c.in_err-is_tail_ready.ensures in
    rw (err_is c.from_residual.result c.from_residual.ensures.1) (turned_none seen.looks (looked seen.looks (λ e. seen.cause) tt (λ tells can. (tail_stays _ _ _ can, refl))))

pub returns-then-branch-clause-steps : goal.returns-then-branch-clause-steps
returns-then-branch-clause-steps g c =
    let seen = c.in_ok-is_tail_ready.ensures in
    turned_none seen.looks (looked seen.looks (λ e. absurd (cc)) tt (λ tells can. (tail_stays _ _ _ can, tail_is_ready _ _ _ can ((seen.told tells can.can.tidy can.there).0 c.if-branch.true))))

pub returns-in_err-take_pages-clause-steps : goal.returns-in_err-take_pages-clause-steps
returns-in_err-take_pages-clause-steps g c =
    let is : c.from_residual-in_err-take_pages.result ≡ Err c.in_err-take_pages.field-0.0 = search rules in
    let seen = c.in_ok-is_tail_ready.ensures in
    turned_once {k = 12} 1 (omega arith) (omega arith) (omega arith) (λ tells can. (omega arith, omega arith, tail_once _ (seen.told tells can.can.tidy can.there) c.if-branch.false))
    (taken_within (omega arith) (taken_passes (taken_after seen.looks c.in_err-take_pages.ensures) is (λ tells can. tail_begins _ _ _ can)))

pub returns-clause-steps : goal.returns-clause-steps
returns-clause-steps g c =
    let seen = c.in_ok-is_tail_ready.ensures in
    turned_once {k = 12} 1 (omega arith) (omega arith) (omega arith) (λ tells can. (omega arith, omega arith, tail_once _ (seen.told tells can.can.tidy can.there) c.if-branch.false))
    (taken_then (λ k was image cut. step_leaves cut) c.in_ok-ready_tail.ensures.few (taken_after seen.looks c.in_ok-take_pages.ensures) (step_does c.in_ok-ready_tail.ensures.steps)
    (λ tells can. tail_begins _ _ _ can) (λ tells can made. tail_ends _ _ _ can _ made))

pub returns-in_err-ready_tail-clause-steps : goal.returns-in_err-ready_tail-clause-steps
returns-in_err-ready_tail-clause-steps g c =
    let seen = c.in_ok-is_tail_ready.ensures in
    rw (err_is c.from_residual-in_err-ready_tail.result c.from_residual-in_err-ready_tail.ensures.1)
    (turned_once {k = 12} 1 (omega arith) (omega arith) (omega arith) (λ tells can. (omega arith, omega arith, tail_once _ (seen.told tells can.can.tidy can.there) c.if-branch.false))
    (taken_then (λ k was image cut. step_leaves cut) c.in_err-ready_tail.ensures.few (taken_after seen.looks c.in_ok-take_pages.ensures) (step_fails c.in_err-ready_tail.ensures.steps)
    (λ tells can. tail_begins _ _ _ can) (λ tells can made. tail_ends _ _ _ can _ made)))

pub returns-in_err-take_pages-clause-still : goal.returns-in_err-take_pages-clause-still
returns-in_err-take_pages-clause-still g c = λ tells has. not_ready _ (c.in_ok-is_tail_ready.ensures.told tells has.tidy has.there) has.ready c.if-branch.false

pub returns-clause-still : goal.returns-clause-still
returns-clause-still g c = λ tells has. not_ready _ (c.in_ok-is_tail_ready.ensures.told tells has.tidy has.there) has.ready c.if-branch.false

pub returns-in_err-ready_tail-clause-still : goal.returns-in_err-ready_tail-clause-still
returns-in_err-ready_tail-clause-still g c = λ tells has. not_ready _ (c.in_ok-is_tail_ready.ensures.told tells has.tidy has.there) has.ready c.if-branch.false
