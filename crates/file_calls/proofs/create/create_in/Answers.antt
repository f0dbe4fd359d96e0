use Rattle.std.proofs.Common.{refl, ◌∙◌}
use Rattle.nor_core.proofs.Cuts.{reads_none}
use Rattle.table_model.specs.Reply.{Fine}
use Rattle.table_model.specs.Ask.{Creates}
use Rattle.file_calls.proofs.Going.{err_is, goes_named, goes_refused, goes_done, goes_broken, goes_stopped}
use Rattle.file_calls.proofs.CleansBy.{create_leaves}
use Rattle.file_calls.proofs.Paged.{with_page_had, with_page_not_had}
use Rattle.file_calls.proofs.NewFiles.{create_refused, created_step}
use Rattle.file_calls.proofs.Standing.{stands_done, stands_stopped, stands_broken}
use Rattle.file_calls.proofs.create.create_in.Goals as goal

pub returns-in_err-accept-clause-goes : goal.returns-in_err-accept-clause-goes
returns-in_err-accept-clause-goes g c =
    let bad = c.in_err-accept.ensures in
    rw (err_is c.from_residual.result c.from_residual.ensures.1) (λ slots into. goes_named (Creates c.args.name.now) _ c.args.v.now.wrote c.requires.fresh (reads_none c.args.v.now.nor.now) refl refl bad.among bad.refused)

pub returns-in_err-id-clause-goes : goal.returns-in_err-id-clause-goes
returns-in_err-id-clause-goes g c =
    let failed = c.in_err-id.ensures in
    let name = c.args.name.now in
    let fine = c.in_ok-accept.ensures.fine in
    rw (err_is c.from_residual-in_err-id.result c.from_residual-in_err-id.ensures.1) (λ slots into. goes_refused (Creates name) c.in_err-id.field-0.0 c.new_id.new.v.wrote (failed.looks.wrote ∙ c.requires.fresh) failed.looks.reads refl fine failed.among failed.cause
    (λ s here no_fault. create_refused name fine c.in_err-id.field-0.0 s here (failed.told here.tells here.tidy no_fault)))

pub returns-in_err-take_page-clause-goes : goal.returns-in_err-take_page-clause-goes
returns-in_err-take_page-clause-goes g c =
    let looked = c.in_ok-id.ensures in
    let name = c.args.name.now in
    let fine = c.in_ok-accept.ensures.fine in
    rw (err_is c.from_residual-in_err-take_page.result c.from_residual-in_err-take_page.ensures.1) (λ slots into. goes_stopped (Creates name) Fine refl refl fine (created_step {slots = slots} c.args.v.now.geometry name fine c.in_ok-id.id (λ tells tidy. (looked.told tells tidy).0) (λ tells tidy. (looked.told tells tidy).1)) looked.looks c.requires.fresh c.in_err-take_page.field-0.0 refl refl
    (with_page_not_had c.in_err-take_page.ensures))

pub returns-clause-goes : goal.returns-clause-goes
returns-clause-goes g c =
    let looked = c.in_ok-id.ensures in
    let name = c.args.name.now in
    let fine = c.in_ok-accept.ensures.fine in
    λ slots into. goes_done (Creates name) Fine refl refl fine (created_step c.args.v.now.geometry name fine c.in_ok-id.id (λ tells tidy. (looked.told tells tidy).0) (λ tells tidy. (looked.told tells tidy).1)) looked.looks c.requires.fresh slots refl refl refl (λ bytes e. absurd (cc)) (λ k. refl) (with_page_had (λ h was image cut. create_leaves cut) c.in_ok-create_step.ensures.few c.in_ok-take_page.ensures c.in_ok-create_step.ensures.step)

pub returns-in_err-create_step-clause-goes : goal.returns-in_err-create_step-clause-goes
returns-in_err-create_step-clause-goes g c =
    let looked = c.in_ok-id.ensures in
    let name = c.args.name.now in
    let fine = c.in_ok-accept.ensures.fine in
    rw (err_is c.from_residual-in_err-create_step.result c.from_residual-in_err-create_step.ensures.1) (λ slots into. goes_broken (Creates name) Fine refl refl fine (created_step {slots = slots} c.args.v.now.geometry name fine c.in_ok-id.id (λ tells tidy. (looked.told tells tidy).0) (λ tells tidy. (looked.told tells tidy).1)) looked.looks c.requires.fresh c.in_err-create_step.field-0.0 refl (with_page_had (λ h was image cut. create_leaves cut) c.in_err-create_step.ensures.few c.in_ok-take_page.ensures c.in_err-create_step.ensures.step))

pub returns-in_err-take_page-clause-counted : goal.returns-in_err-take_page-clause-counted
returns-in_err-take_page-clause-counted g c =
    let looked = c.in_ok-id.ensures in
    let name = c.args.name.now in
    let fine = c.in_ok-accept.ensures.fine in
    rw (err_is c.from_residual-in_err-take_page.result c.from_residual-in_err-take_page.ensures.1) (λ slots into. stands_stopped (created_step {slots = slots} c.args.v.now.geometry name fine c.in_ok-id.id (λ tells tidy. (looked.told tells tidy).0) (λ tells tidy. (looked.told tells tidy).1)) looked.looks c.in_err-take_page.field-0.0 (with_page_not_had c.in_err-take_page.ensures {rest = 0}).steps)

pub returns-clause-counted : goal.returns-clause-counted
returns-clause-counted g c =
    let looked = c.in_ok-id.ensures in
    let name = c.args.name.now in
    let fine = c.in_ok-accept.ensures.fine in
    λ slots into. stands_done (created_step {slots = slots} c.args.v.now.geometry name fine c.in_ok-id.id (λ tells tidy. (looked.told tells tidy).0) (λ tells tidy. (looked.told tells tidy).1)) looked.looks Fine (with_page_had (λ h was image cut. create_leaves cut) c.in_ok-create_step.ensures.few c.in_ok-take_page.ensures c.in_ok-create_step.ensures.step).steps

pub returns-in_err-create_step-clause-counted : goal.returns-in_err-create_step-clause-counted
returns-in_err-create_step-clause-counted g c =
    let looked = c.in_ok-id.ensures in
    let name = c.args.name.now in
    let fine = c.in_ok-accept.ensures.fine in
    rw (err_is c.from_residual-in_err-create_step.result c.from_residual-in_err-create_step.ensures.1) (λ slots into. stands_broken (created_step {slots = slots} c.args.v.now.geometry name fine c.in_ok-id.id (λ tells tidy. (looked.told tells tidy).0) (λ tells tidy. (looked.told tells tidy).1)) looked.looks c.in_err-create_step.field-0.0 (with_page_had (λ h was image cut. create_leaves cut) c.in_err-create_step.ensures.few c.in_ok-take_page.ensures c.in_err-create_step.ensures.step).steps)
