use Rattle.std.proofs.Common.{[], ◌≡◌, true, false, refl, ◌∙◌, arith}
use Rattle.nor_core.proofs.Cuts.{reads_none}
use Rattle.table_model.specs.Reply.{Fine}
use Rattle.table_model.specs.Ask.{Removes}
use Rattle.file_calls.proofs.Going.{err_is, goes_named, goes_refused, goes_done, goes_broken}
use Rattle.file_calls.proofs.Removing.{removal_taken, remove_refuses, remove_step}
use Rattle.file_calls.proofs.Standing.{stands_done, stands_broken}
use Rattle.file_calls.proofs.remove.remove_in.Goals as goal

pub returns-in_err-accept-clause-goes : goal.returns-in_err-accept-clause-goes
returns-in_err-accept-clause-goes g c =
    let bad = c.in_err-accept.ensures in
    rw (err_is c.from_residual.result c.from_residual.ensures.1) (λ into. goes_named (Removes c.args.name.now) _ c.args.v.now.wrote c.requires.fresh (reads_none c.args.v.now.nor.now) refl refl bad.among bad.refused)

pub returns-in_err-id-clause-goes : goal.returns-in_err-id-clause-goes
returns-in_err-id-clause-goes g c =
    let failed = c.in_err-id.ensures in
    let name = c.args.name.now in
    let fine = c.in_ok-accept.ensures.fine in
    rw (err_is c.from_residual-in_err-id.result c.from_residual-in_err-id.ensures.1) (λ into. goes_refused (Removes name) c.in_err-id.field-0.0 c.find_named.new.v.wrote (failed.looks.wrote ∙ c.requires.fresh) failed.looks.reads refl fine (failed.among []).0 failed.cause
    (λ s here no_fault. remove_refuses name fine s here (failed.told here.tells here.tidy no_fault)))

pub returns-clause-goes : goal.returns-clause-goes
returns-clause-goes g c =
    let looked = c.in_ok-id.ensures in
    let fine = c.in_ok-accept.ensures.fine in
    λ into. goes_done (Removes c.args.name.now) Fine refl refl fine (remove_step c.args.name.now fine c.in_ok-id.id looked.told) looked.looks c.requires.fresh c.close_file.new.slots c.close_file.ensures refl refl (λ bytes e. absurd (cc)) (λ k. absurd (let no : false ≡ true = k in cc)) (removal_taken c.in_ok-remove_step.ensures.step (let few = c.in_ok-remove_step.ensures.most in omega (arith, few)))

pub returns-in_err-remove_step-clause-goes : goal.returns-in_err-remove_step-clause-goes
returns-in_err-remove_step-clause-goes g c =
    let looked = c.in_ok-id.ensures in
    let fine = c.in_ok-accept.ensures.fine in
    rw (err_is c.from_residual-in_err-remove_step.result c.from_residual-in_err-remove_step.ensures.1) (λ into. goes_broken (Removes c.args.name.now) Fine refl refl fine (remove_step c.args.name.now fine c.in_ok-id.id looked.told) looked.looks c.requires.fresh c.in_err-remove_step.field-0.0 refl (removal_taken c.in_err-remove_step.ensures.step (let few = c.in_err-remove_step.ensures.most in omega (arith, few))))

pub returns-clause-counted : goal.returns-clause-counted
returns-clause-counted g c =
    let looked = c.in_ok-id.ensures in
    let fine = c.in_ok-accept.ensures.fine in
    λ into. stands_done (remove_step c.args.name.now fine c.in_ok-id.id looked.told) looked.looks Fine c.in_ok-remove_step.ensures.step

pub returns-in_err-remove_step-clause-counted : goal.returns-in_err-remove_step-clause-counted
returns-in_err-remove_step-clause-counted g c =
    let looked = c.in_ok-id.ensures in
    let fine = c.in_ok-accept.ensures.fine in
    rw (err_is c.from_residual-in_err-remove_step.result c.from_residual-in_err-remove_step.ensures.1) (λ into. stands_broken (remove_step c.args.name.now fine c.in_ok-id.id looked.told) looked.looks c.in_err-remove_step.field-0.0 c.in_err-remove_step.ensures.step)
