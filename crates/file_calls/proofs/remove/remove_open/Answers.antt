use Rattle.std.proofs.Common.{◌≡◌, true, false, refl, ap, arith}
use Rattle.flash_view.proofs.Looking.{looks_none}
use Rattle.table_model.specs.Reply.{Fine}
use Rattle.table_model.specs.Ask.{RemovesOpen}
use Rattle.file_calls.specs.Slots.{closed_fault}
use Rattle.file_calls.proofs.Removing.{removal_taken}
use Rattle.file_calls.proofs.Going.{err_is, goes_done, goes_broken}
use Rattle.file_calls.proofs.Descriptors.{fremove_closed, goes_closed, fremove_step}
use Rattle.file_calls.proofs.Standing.{stands_done, stands_broken}
use Rattle.file_calls.proofs.remove.remove_open.Goals as goal

pub returns-in_err-slot-clause-goes : goal.returns-in_err-slot-clause-goes
returns-in_err-slot-clause-goes g c =
    let bad = c.in_err-slot.ensures in
    rw (err_is c.from_residual.result c.from_residual.ensures.1, bad.error) (λ into. goes_closed (RemovesOpen c.args.fd) c.args.fd c.args.v.now.wrote c.requires.fresh refl refl (ap closed_fault bad.closed) bad.closed (λ s none. fremove_closed c.args.v.now.geometry _ s c.args.fd none))

pub returns-clause-goes : goal.returns-clause-goes
returns-clause-goes g c =
    λ into. goes_done (RemovesOpen c.args.fd) Fine refl refl (ap closed_fault c.in_ok-slot.ensures.found) (fremove_step c.args.fd c.in_ok-slot.slot c.in_ok-slot.ensures.found) (looks_none c.args.v.now) c.requires.fresh c.close_file.new.slots c.close_file.ensures refl refl (λ bytes e. absurd (cc)) (λ k. absurd (let no : false ≡ true = k in cc)) (removal_taken c.in_ok-remove_step.ensures.step (let few = c.in_ok-remove_step.ensures.most in omega (arith, few)))

pub returns-in_err-remove_step-clause-goes : goal.returns-in_err-remove_step-clause-goes
returns-in_err-remove_step-clause-goes g c =
    rw (err_is c.from_residual-in_err-remove_step.result c.from_residual-in_err-remove_step.ensures.1) (λ into. goes_broken (RemovesOpen c.args.fd) Fine refl refl (ap closed_fault c.in_ok-slot.ensures.found) (fremove_step c.args.fd c.in_ok-slot.slot c.in_ok-slot.ensures.found) (looks_none c.args.v.now) c.requires.fresh c.in_err-remove_step.field-0.0 refl (removal_taken c.in_err-remove_step.ensures.step (let few = c.in_err-remove_step.ensures.most in omega (arith, few))))

pub returns-clause-counted : goal.returns-clause-counted
returns-clause-counted g c = λ into. stands_done (fremove_step c.args.fd c.in_ok-slot.slot c.in_ok-slot.ensures.found) (looks_none c.args.v.now) Fine c.in_ok-remove_step.ensures.step

pub returns-in_err-remove_step-clause-counted : goal.returns-in_err-remove_step-clause-counted
returns-in_err-remove_step-clause-counted g c = rw (err_is c.from_residual-in_err-remove_step.result c.from_residual-in_err-remove_step.ensures.1) (λ into. stands_broken (fremove_step c.args.fd c.in_ok-slot.slot c.in_ok-slot.ensures.found) (looks_none c.args.v.now) c.in_err-remove_step.field-0.0 c.in_err-remove_step.ensures.step)
