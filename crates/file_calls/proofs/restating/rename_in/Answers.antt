use Rattle.std.proofs.Common.{◌≡◌, refl, false, ◌∙◌, ap, Err, Some}
use Rattle.std.proofs.lemmas.Result.{err_from_is_err_and}
use Rattle.nor_core.proofs.Cuts.{reads_none}
use Rattle.table_model.specs.declared.error.FsErr.TheVariants.{NotFound, ConflictingName}
use Rattle.table_model.specs.Table.{file_named, has_name}
use Rattle.table_model.specs.Ask.{Renames}
use Rattle.image_model.specs.Tables.{table_of}
use Rattle.flash_view.proofs.Looking.{looks_then}
use Rattle.page_renew.specs.declared.edits.Edit.TheVariants.{Name}
use Rattle.file_calls.specs.Removes.{id_named}
use Rattle.file_calls.specs.Refusals.{IsNewName}
use Rattle.file_calls.proofs.Going.{goes_named, goes_refused, rose_later, looked_back, looked_on}
use Rattle.file_calls.proofs.Looked.{goes_since}
use Rattle.file_calls.proofs.Restates.{refuses_so, named_there, rename_missing, rename_conflicts, rename_is}
use Rattle.file_calls.proofs.Standing.{stands_since}
use Rattle.file_calls.proofs.restating.rename_in.Goals as goal

pub returns-in_err-accept_both-clause-goes : goal.returns-in_err-accept_both-clause-goes
returns-in_err-accept_both-clause-goes g c =
    let p = err_from_is_err_and c.from_residual.result c.from_residual.ensures.1 in
    let bad = c.in_err-accept_both.ensures in
    rw (p.1, p.2) (λ slots into. goes_named (Renames c.args.old_name.now c.args.new_name.now) _ c.args.v.now.wrote c.requires.fresh (reads_none c.args.v.now.nor.now) refl refl bad.among bad.refused)

pub returns-in_err-id-clause-goes : goal.returns-in_err-id-clause-goes
returns-in_err-id-clause-goes g c =
    let p = err_from_is_err_and c.from_residual-in_err-id.result c.from_residual-in_err-id.ensures.1 in
    let failed = c.in_err-id.ensures in
    let old_name = c.args.old_name.now in
    let new_name = c.args.new_name.now in
    let fine = c.in_ok-accept_both.ensures.fine in
    rw (p.1, p.2) (λ slots into. goes_refused (Renames old_name new_name) c.in_err-id.field-0.0 c.find_named.new.v.wrote (failed.looks.wrote ∙ c.requires.fresh) failed.looks.reads refl fine (failed.among new_name).1 failed.cause
    (λ s here no_fault. let none = failed.told here.tells here.tidy no_fault in refuses_so NotFound none.0 (rename_missing c.args.v.now.geometry _ s old_name new_name fine (ap (file_named old_name) here.table ∙ none.1))))

pub returns-in_err-refuse_known-clause-goes : goal.returns-in_err-refuse_known-clause-goes
returns-in_err-refuse_known-clause-goes g c =
    let p = err_from_is_err_and c.from_residual-in_err-refuse_known.result c.from_residual-in_err-refuse_known.ensures.1 in
    let found = c.in_ok-id.ensures in
    let failed = c.in_err-refuse_known.ensures in
    let old_name = c.args.old_name.now in
    let new_name = c.args.new_name.now in
    let fine = c.in_ok-accept_both.ensures.fine in
    let looks = looks_then found.looks failed.looks in
    rw (p.1, p.2) (λ slots into. goes_refused (Renames old_name new_name) c.in_err-refuse_known.field-0.0 c.refuse_known.new.v.wrote (looks.wrote ∙ c.requires.fresh) looks.reads refl fine (failed.among old_name).1 (λ e. rose_later _ _ _ found.looks.same.faults (failed.cause e))
    (λ s here no_fault.
    let w = named_there c.args.v.now.geometry (g.N.NorState.bytes c.args.v.now.nor.now) old_name c.in_ok-id.id (found.told here.tells here.tidy) in
    let known = looked_back (λ h image. IsNewName new_name (table_of h image) (Err c.in_err-refuse_known.field-0.0)) found.looks failed.told here.tells here.tidy no_fault in
    refuses_so ConflictingName known.0 (rename_conflicts c.args.v.now.geometry _ s old_name new_name w.0 fine (ap (file_named old_name) here.table ∙ w.1) (ap (has_name new_name) here.table ∙ known.1))))

pub returns-clause-goes : goal.returns-clause-goes
returns-clause-goes g c =
    let found = c.in_ok-id.ensures in
    let known = c.in_ok-refuse_known.ensures in
    let old_name = c.args.old_name.now in
    let new_name = c.args.new_name.now in
    let looks = looks_then found.looks known.looks in
    let there = looked_on (λ h image. id_named old_name (table_of h image) ≡ Some c.in_ok-id.id) looks found.told in
    let free = looked_on (λ h image. has_name new_name (table_of h image) ≡ false) known.looks known.told in
    λ slots into. goes_since looks c.in_ok-accept_both.ensures.fine (c.restate_file.ensures.goes (Renames old_name new_name) slots into (rename_is (Name c.args.new_name) refl old_name new_name c.in_ok-id.id (λ f. refl) c.in_ok-accept_both.ensures.fine there free))

pub returns-clause-counted : goal.returns-clause-counted
returns-clause-counted g c =
    let found = c.in_ok-id.ensures in
    let known = c.in_ok-refuse_known.ensures in
    let old_name = c.args.old_name.now in
    let new_name = c.args.new_name.now in
    let looks = looks_then found.looks known.looks in
    let there = looked_on (λ h image. id_named old_name (table_of h image) ≡ Some c.in_ok-id.id) looks found.told in
    let free = looked_on (λ h image. has_name new_name (table_of h image) ≡ false) known.looks known.told in
    λ slots into. stands_since looks (c.restate_file.ensures.counted (Renames old_name new_name) slots into (rename_is (Name c.args.new_name) refl old_name new_name c.in_ok-id.id (λ f. refl) c.in_ok-accept_both.ensures.fine there free))
