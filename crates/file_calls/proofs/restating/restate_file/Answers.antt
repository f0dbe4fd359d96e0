use Rattle.std.proofs.Common.{[], refl, ◌∙◌}
use Rattle.table_model.specs.Reply.{Fine}
use Rattle.image_model.specs.Tables.{table_of}
use Rattle.flash_view.proofs.Looking.{same_then}
use Rattle.file_calls.proofs.CleansBy.{step_leaves, taken_so}
use Rattle.file_calls.proofs.Going.{err_is, goes_refused, goes_done, goes_broken, goes_stopped}
use Rattle.file_calls.proofs.Paged.{with_page_had, with_page_not_had}
use Rattle.file_calls.proofs.Restates.{sort_is, restate_refuses, restated_step, the_file}
use Rattle.file_calls.proofs.Standing.{stands_done, stands_stopped, stands_broken}
use Rattle.file_calls.proofs.restating.restate_file.Goals as goal

pub returns-in_err-have_page-clause-goes : goal.returns-in_err-have_page-clause-goes
returns-in_err-have_page-clause-goes g c =
    let failed = c.in_err-have_page.ensures in
    rw (err_is c.from_residual.result c.from_residual.ensures.1) (λ ask slots into call.
    let sort = sort_is ask call.sort in
    goes_refused ask c.in_err-have_page.field-0.0 c.have_page.new.v.wrote (failed.looks.wrote ∙ c.requires.fresh) failed.looks.reads sort.flat call.fine (sort.meets c.in_err-have_page.field-0.0 failed.among) failed.cause
    (λ s here no_fault. restate_refuses ask c.args.edit c.args.id call s here (failed.told here.tells here.tidy no_fault)))

pub returns-in_err-take_page-clause-goes : goal.returns-in_err-take_page-clause-goes
returns-in_err-take_page-clause-goes g c =
    let looked = c.in_ok-have_page.ensures in
    rw (err_is c.from_residual-in_err-take_page.result c.from_residual-in_err-take_page.ensures.1) (λ ask slots into call.
    let sort = sort_is ask call.sort in
    goes_stopped ask Fine sort.flat sort.change call.fine (restated_step ask c.args.edit c.args.id call looked.told) looked.looks c.requires.fresh c.in_err-take_page.field-0.0 sort.fault sort.tight
    (taken_so sort.taken (sort.rest _) (with_page_not_had c.in_err-take_page.ensures)))

pub returns-clause-same : goal.returns-clause-same
returns-clause-same g c = same_then (same_then c.in_ok-have_page.ensures.looks.same c.in_ok-take_page.ensures.steps.framed.same) (c.in_ok-restate.ensures.step (the_file 0 [])).framed.same

pub returns-in_err-restate-clause-same : goal.returns-in_err-restate-clause-same
returns-in_err-restate-clause-same g c = same_then (same_then c.in_ok-have_page.ensures.looks.same c.in_ok-take_page.ensures.steps.framed.same) (c.in_err-restate.ensures.step (the_file 0 [])).framed.same

pub returns-clause-goes : goal.returns-clause-goes
returns-clause-goes g c =
    let looked = c.in_ok-have_page.ensures in
    λ ask slots into call.
    let sort = sort_is ask call.sort in
    goes_done ask Fine sort.flat sort.change call.fine (restated_step ask c.args.edit c.args.id call looked.told) looked.looks c.requires.fresh slots refl refl sort.done (λ bytes e. absurd (cc)) (λ k. refl)
    (taken_so sort.taken (sort.rest _) (with_page_had (λ h was image cut. step_leaves cut) c.in_ok-restate.ensures.few c.in_ok-take_page.ensures (c.in_ok-restate.ensures.step (the_file c.args.id (table_of c.args.v.now.geometry (g.N.NorState.bytes c.args.v.now.nor.now))))))

pub returns-in_err-restate-clause-goes : goal.returns-in_err-restate-clause-goes
returns-in_err-restate-clause-goes g c =
    let looked = c.in_ok-have_page.ensures in
    rw (err_is c.from_residual-in_err-restate.result c.from_residual-in_err-restate.ensures.1) (λ ask slots into call.
    let sort = sort_is ask call.sort in
    goes_broken ask Fine sort.flat sort.change call.fine (restated_step ask c.args.edit c.args.id call looked.told) looked.looks c.requires.fresh c.in_err-restate.field-0.0 sort.fault
    (taken_so sort.taken (sort.rest _) (with_page_had (λ h was image cut. step_leaves cut) c.in_err-restate.ensures.few c.in_ok-take_page.ensures (c.in_err-restate.ensures.step (the_file c.args.id (table_of c.args.v.now.geometry (g.N.NorState.bytes c.args.v.now.nor.now)))))))

pub returns-in_err-take_page-clause-counted : goal.returns-in_err-take_page-clause-counted
returns-in_err-take_page-clause-counted g c =
    let looked = c.in_ok-have_page.ensures in
    rw (err_is c.from_residual-in_err-take_page.result c.from_residual-in_err-take_page.ensures.1) (λ ask slots into call. stands_stopped (restated_step ask c.args.edit c.args.id call looked.told) looked.looks c.in_err-take_page.field-0.0 (with_page_not_had c.in_err-take_page.ensures {rest = 0}).steps)

pub returns-clause-counted : goal.returns-clause-counted
returns-clause-counted g c =
    let looked = c.in_ok-have_page.ensures in
    λ ask slots into call. stands_done (restated_step ask c.args.edit c.args.id call looked.told) looked.looks Fine
    (with_page_had (λ h was image cut. step_leaves cut) c.in_ok-restate.ensures.few c.in_ok-take_page.ensures (c.in_ok-restate.ensures.step (the_file c.args.id (table_of c.args.v.now.geometry (g.N.NorState.bytes c.args.v.now.nor.now))))).steps

pub returns-in_err-restate-clause-counted : goal.returns-in_err-restate-clause-counted
returns-in_err-restate-clause-counted g c =
    let looked = c.in_ok-have_page.ensures in
    rw (err_is c.from_residual-in_err-restate.result c.from_residual-in_err-restate.ensures.1) (λ ask slots into call. stands_broken (restated_step ask c.args.edit c.args.id call looked.told) looked.looks c.in_err-restate.field-0.0
    (with_page_had (λ h was image cut. step_leaves cut) c.in_err-restate.ensures.few c.in_ok-take_page.ensures (c.in_err-restate.ensures.step (the_file c.args.id (table_of c.args.v.now.geometry (g.N.NorState.bytes c.args.v.now.nor.now))))).steps)
