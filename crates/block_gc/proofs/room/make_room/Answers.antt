use Rattle.std.proofs.Common.{◌≡◌, ap, inl, rules, Err}
use Rattle.flash_view.proofs.Stepped.{view_image}
use Rattle.block_gc.specs.declared.room.RoomErr.TheVariants.{Step}
use Rattle.block_gc.proofs.Cleanings.{swept_while, made_room, is_tight, never_tight, mended}
use Rattle.block_gc.proofs.room.make_room.Goals as goal

pub returns-in_err-collect-clause-undamaged : goal.returns-in_err-collect-clause-undamaged
returns-in_err-collect-clause-undamaged g c =
    let is : c.from_residual.result ≡ Err (Step c.in_err-collect.field-0.0) = search rules in
    rw is (λ tells t. inl (ap Step (c.in_err-collect.ensures.step.ends tells t)))

pub returns-then-branch-clause-done : goal.returns-then-branch-clause-done
returns-then-branch-clause-done g c = λ tells t. made_room _ _ _ _ _ (rw c.if-branch.true at (c.in_ok-collect.ensures.step.ends tells t))

pub returns-else-branch-clause-tight : goal.returns-else-branch-clause-tight
returns-else-branch-clause-tight g c = λ tells t says. is_tight _ _ _ _ _ (view_image c.args.v.now (g.met.N.Nor.sized _) tells) t (rw c.if-branch.false at (c.in_ok-collect.ensures.step.ends tells t))

pub returns-else-branch-clause-never_tight : goal.returns-else-branch-clause-never_tight
returns-else-branch-clause-never_tight g c = λ tells can room says. never_tight _ _ _ _ _ can room (rw c.if-branch.false at (c.in_ok-collect.ensures.step.ends tells can.tidy))

pub returns-else-branch-clause-mended : goal.returns-else-branch-clause-mended
returns-else-branch-clause-mended g c = λ tells can no_index no_pages says. mended _ _ _ _ _ can no_index no_pages (rw c.if-branch.false at (c.in_ok-collect.ensures.step.ends tells can.tidy))

pub returns-in_err-collect-clause-swept : goal.returns-in_err-collect-clause-swept
returns-in_err-collect-clause-swept g c =
    let is : c.from_residual.result ≡ Err (Step c.in_err-collect.field-0.0) = search rules in
    rw is (λ tells t. tt)

pub returns-then-branch-clause-swept : goal.returns-then-branch-clause-swept
returns-then-branch-clause-swept g c = λ tells t. swept_while _ _ _ _ _ (c.in_ok-collect.ensures.step.ends tells t)

pub returns-else-branch-clause-swept : goal.returns-else-branch-clause-swept
returns-else-branch-clause-swept g c = λ tells t. swept_while _ _ _ _ _ (c.in_ok-collect.ensures.step.ends tells t)

pub returns-in_err-collect-clause-stands : goal.returns-in_err-collect-clause-stands
returns-in_err-collect-clause-stands g c =
    let is : c.from_residual.result ≡ Err (Step c.in_err-collect.field-0.0) = search rules in
    rw is (λ tells t stood. tt)

pub returns-then-branch-clause-stands : goal.returns-then-branch-clause-stands
returns-then-branch-clause-stands g c = λ tells t stood. c.in_ok-collect.ensures.step.stands tells t stood

pub returns-else-branch-clause-stands : goal.returns-else-branch-clause-stands
returns-else-branch-clause-stands g c = λ tells t stood. c.in_ok-collect.ensures.step.stands tells t stood
