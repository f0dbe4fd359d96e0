use Rattle.std.proofs.Common.{[], ◌≡◌, true, false, refl, ◌∙◌, None, Ok, Err, arith}
use Rattle.std.proofs.lemmas.Bool.{lt-ltb}
use Rattle.nor_core.proofs.Cuts.{reads_none}
use Rattle.flash_view.proofs.Looking.{looks_then}
use Rattle.table_model.specs.Descriptors.{empties}
use Rattle.table_model.specs.Reply.{Tells as Number}
use Rattle.table_model.specs.Ask.{Opens}
use Rattle.file_calls.specs.Refusals.{Prepares}
use Rattle.file_calls.specs.Replies.{is_change}
use Rattle.fd_table.specs.Slots.{descriptors}
use Rattle.file_calls.proofs.Numbered.{opens_fine, opens_barred}
use Rattle.file_calls.proofs.Going.{err_is, goes_named, goes_barred, goes_refused, goes_done, goes_broken, goes_stopped, rose_later, looked_back, or_first}
use Rattle.file_calls.proofs.CleansBy.{create_leaves}
use Rattle.file_calls.proofs.Paged.{with_page_had, with_page_not_had}
use Rattle.file_calls.proofs.Openings.{none_by, slot_refuses, file_refuses, opened_step, opened_refuses}
use Rattle.file_calls.proofs.Looked.{goes_since}
use Rattle.file_calls.proofs.Standing.{stands_done, stands_stopped, stands_broken, stands_since}
use Rattle.file_calls.proofs.opening.open_in.Goals as goal

pub returns-in_err-accept-clause-goes : goal.returns-in_err-accept-clause-goes
returns-in_err-accept-clause-goes g c =
    let bad = c.in_err-accept.ensures in
    rw (err_is c.from_residual.result c.from_residual.ensures.1) (λ into. goes_named (Opens c.args.name.now c.args.flags) _ c.args.v.now.wrote c.requires.fresh (reads_none c.args.v.now.nor.now) refl refl bad.among bad.refused)

pub returns-in_err-fd-clause-goes : goal.returns-in_err-fd-clause-goes
returns-in_err-fd-clause-goes g c =
    let name = c.args.name.now in
    let fine = c.in_ok-accept.ensures.fine in
    let bad = c.in_err-fd.ensures in
    let barred = opens_barred c.args.v.now.geometry (descriptors c.args.slots.now) name fine c.args.flags c.in_err-fd.field-0.0 bad.told in
    rw (err_is c.from_residual-in_err-fd.result c.from_residual-in_err-fd.ensures.1) (λ into. goes_barred (Opens name c.args.flags) c.in_err-fd.field-0.0 c.args.v.now.wrote c.requires.fresh (reads_none c.args.v.now.nor.now) refl (bad.among name) barred.0 barred.1
    (λ s here. slot_refuses name c.args.flags fine s here bad.told))

pub returns-in_err-id-clause-goes : goal.returns-in_err-id-clause-goes
returns-in_err-id-clause-goes g c =
    let name = c.args.name.now in
    let fine = c.in_ok-accept.ensures.fine in
    let failed = c.in_err-id.ensures in
    rw (err_is c.from_residual-in_err-id.result c.from_residual-in_err-id.ensures.1) (λ into. goes_refused (Opens name c.args.flags) c.in_err-id.field-0.0 c.find_opened.new.v.wrote (failed.looks.wrote ∙ c.requires.fresh) failed.looks.reads refl (opens_fine c.args.v.now.geometry (descriptors c.args.slots.now) name fine c.args.flags c.in_ok-fd.ensures.told) failed.among failed.cause
    (λ s here no_fault. file_refuses name c.args.flags fine c.in_ok-fd.fd c.in_ok-fd.ensures.told s here no_fault (failed.told here.tells here.tidy)))

pub returns-in-Some-clause-goes : goal.returns-in-Some-clause-goes
returns-in-Some-clause-goes g c =
    let free = opens_fine c.args.v.now.geometry (descriptors c.args.slots.now) c.args.name.now c.in_ok-accept.ensures.fine c.args.flags c.in_ok-fd.ensures.told in
    λ into. goes_since c.in_ok-id.ensures.looks free (c.open_found.ensures.goes into)

pub returns-in_err-id-2-clause-goes : goal.returns-in_err-id-2-clause-goes
returns-in_err-id-2-clause-goes g c =
    let name = c.args.name.now in
    let fine = c.in_ok-accept.ensures.fine in
    let found = c.in_ok-id.ensures in
    let none : c.in_ok-id.field-0 ≡ None = none_by c.in_ok-id.field-0 c.in_default.not-Some in
    let failed = c.in_err-id-2.ensures in
    let looks = looks_then found.looks failed.looks in
    rw (err_is c.from_residual-in_err-id-2.result c.from_residual-in_err-id-2.ensures.1) (λ into. goes_refused (Opens name c.args.flags) c.in_err-id-2.field-0.0 c.prepare.new.v.wrote (looks.wrote ∙ c.requires.fresh) looks.reads refl (opens_fine c.args.v.now.geometry (descriptors c.args.slots.now) name fine c.args.flags c.in_ok-fd.ensures.told) (failed.among name [] c.args.flags 0 0).1 (λ e. rose_later _ _ _ found.looks.same.faults (failed.cause e))
    (λ s here no_fault. opened_refuses name c.args.flags fine c.in_ok-fd.fd c.in_ok-fd.ensures.told s (λ tells tidy. rw none at (found.told tells tidy)) here
    (looked_back (λ h image. Prepares h image (Err c.in_err-id-2.field-0.0)) found.looks failed.told here.tells here.tidy no_fault)))

pub returns-in_err-take_page-clause-goes : goal.returns-in_err-take_page-clause-goes
returns-in_err-take_page-clause-goes g c =
    let name = c.args.name.now in
    let fine = c.in_ok-accept.ensures.fine in
    let found = c.in_ok-id.ensures in
    let none : c.in_ok-id.field-0 ≡ None = none_by c.in_ok-id.field-0 c.in_default.not-Some in
    let making = found.making none in
    let change : is_change (Opens name c.args.flags) ≡ true = or_first _ (empties c.args.flags) making in
    let looked = c.in_ok-id-2.ensures in
    let told = looked_back (λ h image. Prepares h image (Ok c.in_ok-id-2.id)) found.looks looked.told in
    rw (err_is c.from_residual-in_err-take_page.result c.from_residual-in_err-take_page.ensures.1) (λ into. goes_stopped (Opens name c.args.flags) (Number c.in_ok-fd.fd) refl change (opens_fine c.args.v.now.geometry (descriptors c.args.slots.now) name fine c.args.flags c.in_ok-fd.ensures.told) (opened_step name c.args.flags fine c.in_ok-fd.fd c.in_ok-fd.ensures.told c.in_ok-id-2.id (λ tells tidy. rw none at (found.told tells tidy)) told) (looks_then found.looks looked.looks) c.requires.fresh c.in_err-take_page.field-0.0 refl refl (with_page_not_had c.in_err-take_page.ensures))

pub returns-clause-goes : goal.returns-clause-goes
returns-clause-goes g c =
    let name = c.args.name.now in
    let fine = c.in_ok-accept.ensures.fine in
    let found = c.in_ok-id.ensures in
    let none : c.in_ok-id.field-0 ≡ None = none_by c.in_ok-id.field-0 c.in_default.not-Some in
    let making = found.making none in
    let change : is_change (Opens name c.args.flags) ≡ true = or_first _ (empties c.args.flags) making in
    let looked = c.in_ok-id-2.ensures in
    let told = looked_back (λ h image. Prepares h image (Ok c.in_ok-id-2.id)) found.looks looked.told in
    rw c.from.ensures (λ into. goes_done (Opens name c.args.flags) (Number c.in_ok-fd.fd) refl change (opens_fine c.args.v.now.geometry (descriptors c.args.slots.now) name fine c.args.flags c.in_ok-fd.ensures.told) (opened_step name c.args.flags fine c.in_ok-fd.fd c.in_ok-fd.ensures.told c.in_ok-id-2.id (λ tells tidy. rw none at (found.told tells tidy)) told) (looks_then found.looks looked.looks) c.requires.fresh
    c.open_at.new.slots c.open_at.ensures refl (lt-ltb c.in_ok-fd.fd 65536 c.in_ok-fd.ensures.small) (λ bytes e. absurd (cc)) (λ k. absurd (let no : false ≡ true = k in cc)) (with_page_had (λ h was image cut. create_leaves cut) (let few = c.in_ok-create_step.ensures.few in omega (arith, few)) c.in_ok-take_page.ensures c.in_ok-create_step.ensures.step))

pub returns-in_err-create_step-clause-goes : goal.returns-in_err-create_step-clause-goes
returns-in_err-create_step-clause-goes g c =
    let name = c.args.name.now in
    let fine = c.in_ok-accept.ensures.fine in
    let found = c.in_ok-id.ensures in
    let none : c.in_ok-id.field-0 ≡ None = none_by c.in_ok-id.field-0 c.in_default.not-Some in
    let making = found.making none in
    let change : is_change (Opens name c.args.flags) ≡ true = or_first _ (empties c.args.flags) making in
    let looked = c.in_ok-id-2.ensures in
    let told = looked_back (λ h image. Prepares h image (Ok c.in_ok-id-2.id)) found.looks looked.told in
    rw (err_is c.from_residual-in_err-create_step.result c.from_residual-in_err-create_step.ensures.1) (λ into. goes_broken (Opens name c.args.flags) (Number c.in_ok-fd.fd) refl change (opens_fine c.args.v.now.geometry (descriptors c.args.slots.now) name fine c.args.flags c.in_ok-fd.ensures.told) (opened_step name c.args.flags fine c.in_ok-fd.fd c.in_ok-fd.ensures.told c.in_ok-id-2.id (λ tells tidy. rw none at (found.told tells tidy)) told) (looks_then found.looks looked.looks) c.requires.fresh c.in_err-create_step.field-0.0 refl (with_page_had (λ h was image cut. create_leaves cut) (let few = c.in_err-create_step.ensures.few in omega (arith, few)) c.in_ok-take_page.ensures c.in_err-create_step.ensures.step))

pub returns-in-Some-clause-counted : goal.returns-in-Some-clause-counted
returns-in-Some-clause-counted g c = λ into. stands_since c.in_ok-id.ensures.looks (c.open_found.ensures.counted into)

pub returns-in_err-take_page-clause-counted : goal.returns-in_err-take_page-clause-counted
returns-in_err-take_page-clause-counted g c =
    let name = c.args.name.now in
    let fine = c.in_ok-accept.ensures.fine in
    let found = c.in_ok-id.ensures in
    let none : c.in_ok-id.field-0 ≡ None = none_by c.in_ok-id.field-0 c.in_default.not-Some in
    let looked = c.in_ok-id-2.ensures in
    let told = looked_back (λ h image. Prepares h image (Ok c.in_ok-id-2.id)) found.looks looked.told in
    let does = opened_step name c.args.flags fine c.in_ok-fd.fd c.in_ok-fd.ensures.told c.in_ok-id-2.id (λ tells tidy. rw none at (found.told tells tidy)) told in
    rw (err_is c.from_residual-in_err-take_page.result c.from_residual-in_err-take_page.ensures.1) (λ into. stands_stopped does (looks_then found.looks looked.looks) c.in_err-take_page.field-0.0 (with_page_not_had c.in_err-take_page.ensures {rest = 0}).steps)

pub returns-clause-counted : goal.returns-clause-counted
returns-clause-counted g c =
    let name = c.args.name.now in
    let fine = c.in_ok-accept.ensures.fine in
    let found = c.in_ok-id.ensures in
    let none : c.in_ok-id.field-0 ≡ None = none_by c.in_ok-id.field-0 c.in_default.not-Some in
    let looked = c.in_ok-id-2.ensures in
    let told = looked_back (λ h image. Prepares h image (Ok c.in_ok-id-2.id)) found.looks looked.told in
    let does = opened_step name c.args.flags fine c.in_ok-fd.fd c.in_ok-fd.ensures.told c.in_ok-id-2.id (λ tells tidy. rw none at (found.told tells tidy)) told in
    λ into. stands_done does (looks_then found.looks looked.looks) _ (with_page_had (λ h was image cut. create_leaves cut) c.in_ok-create_step.ensures.few c.in_ok-take_page.ensures c.in_ok-create_step.ensures.step).steps

pub returns-in_err-create_step-clause-counted : goal.returns-in_err-create_step-clause-counted
returns-in_err-create_step-clause-counted g c =
    let name = c.args.name.now in
    let fine = c.in_ok-accept.ensures.fine in
    let found = c.in_ok-id.ensures in
    let none : c.in_ok-id.field-0 ≡ None = none_by c.in_ok-id.field-0 c.in_default.not-Some in
    let looked = c.in_ok-id-2.ensures in
    let told = looked_back (λ h image. Prepares h image (Ok c.in_ok-id-2.id)) found.looks looked.told in
    let does = opened_step name c.args.flags fine c.in_ok-fd.fd c.in_ok-fd.ensures.told c.in_ok-id-2.id (λ tells tidy. rw none at (found.told tells tidy)) told in
    rw (err_is c.from_residual-in_err-create_step.result c.from_residual-in_err-create_step.ensures.1) (λ into. stands_broken does (looks_then found.looks looked.looks) c.in_err-create_step.field-0.0 (with_page_had (λ h was image cut. create_leaves cut) c.in_err-create_step.ensures.few c.in_ok-take_page.ensures c.in_err-create_step.ensures.step).steps)
