use Rattle.std.proofs.Common.{◌≡◌, ap, inl, rules, Err}
use Rattle.block_gc.specs.declared.room.RoomErr.TheVariants.{Step}
use Rattle.block_gc.proofs.Cleanings.{never_stuck_there}
use Rattle.block_gc.proofs.room.compact.Goals as goal

pub returns-in_err-pack-clause-undamaged : goal.returns-in_err-pack-clause-undamaged
returns-in_err-pack-clause-undamaged g c =
    let is : c.from_residual.result ≡ Err (Step c.in_err-pack.field-0.0) = search rules in
    rw is (λ tells t. inl (ap Step (c.in_err-pack.ensures.ends tells t)))

pub returns-else-branch-clause-done : goal.returns-else-branch-clause-done
returns-else-branch-clause-done g c = λ tells t. rw c.if-branch.false at ((c.in_ok-pack.ensures.ends tells t).0)

pub returns-then-branch-clause-tight : goal.returns-then-branch-clause-tight
returns-then-branch-clause-tight g c = λ tells t says. rw c.if-branch.true at ((c.in_ok-pack.ensures.ends tells t).0)

pub returns-then-branch-clause-never_tight : goal.returns-then-branch-clause-never_tight
returns-then-branch-clause-never_tight g c = λ tells can says. never_stuck_there _ _ _ can (rw c.if-branch.true at ((c.in_ok-pack.ensures.ends tells can.tidy).0))

pub returns-in_err-pack-clause-swept : goal.returns-in_err-pack-clause-swept
returns-in_err-pack-clause-swept g c =
    let is : c.from_residual.result ≡ Err (Step c.in_err-pack.field-0.0) = search rules in
    rw is (λ tells t. tt)

pub returns-else-branch-clause-swept : goal.returns-else-branch-clause-swept
returns-else-branch-clause-swept g c = λ tells t. (c.in_ok-pack.ensures.ends tells t).1

pub returns-then-branch-clause-swept : goal.returns-then-branch-clause-swept
returns-then-branch-clause-swept g c = λ tells t. (c.in_ok-pack.ensures.ends tells t).1

pub returns-in_err-pack-clause-stands : goal.returns-in_err-pack-clause-stands
returns-in_err-pack-clause-stands g c =
    let is : c.from_residual.result ≡ Err (Step c.in_err-pack.field-0.0) = search rules in
    rw is (λ tells t stood. tt)

pub returns-else-branch-clause-stands : goal.returns-else-branch-clause-stands
returns-else-branch-clause-stands g c = λ tells t stood. c.in_ok-pack.ensures.stands tells t stood

pub returns-then-branch-clause-stands : goal.returns-then-branch-clause-stands
returns-then-branch-clause-stands g c = λ tells t stood. c.in_ok-pack.ensures.stands tells t stood
