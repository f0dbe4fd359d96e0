use Rattle.std.proofs.Common.{◌≡◌, true, false, refl, sym, ◌∙◌, ap, length, Some}
use Rattle.std.proofs.lemmas.Result.{err_from_is_err_and}
use Rattle.geometry.specs.declared.geometry.Geometry.{Geometry}
use Rattle.nor_core.proofs.Cuts.{reads_none}
use Rattle.table_model.specs.declared.error.FsErr.TheVariants.{BadFlags, NotFound}
use Rattle.table_model.specs.Table.{file_named}
use Rattle.table_model.specs.Ask.{SetsMeta}
use Rattle.image_model.specs.Tables.{table_of}
use Rattle.page_renew.specs.declared.edits.Edit.TheVariants.{Meta}
use Rattle.file_calls.specs.Removes.{id_named}
use Rattle.fd_table.specs.Slots.{descriptors}
use Rattle.file_calls.proofs.Numbered.{metas_are}
use Rattle.file_calls.proofs.Going.{goes_named, goes_barred, goes_refused, looked_on}
use Rattle.file_calls.proofs.Looked.{goes_since}
use Rattle.file_calls.proofs.Restates.{refuses_so, unlike, alike, meta_unlike, meta_missing, meta_is}
use Rattle.file_calls.proofs.Standing.{stands_since}
use Rattle.file_calls.proofs.restating.set_meta.Goals as goal

pub returns-in_err-accept-clause-goes : goal.returns-in_err-accept-clause-goes
returns-in_err-accept-clause-goes g c =
    let p = err_from_is_err_and c.from_residual.result c.from_residual.ensures.1 in
    let bad = c.in_err-accept.ensures in
    rw (p.1, p.2) (λ slots into. goes_named (SetsMeta c.args.name.now c.args.meta.now) _ c.args.v.now.wrote c.requires.fresh (reads_none c.args.v.now.nor.now) refl refl bad.among bad.refused)

pub returns-in_err-accept_meta-clause-goes : goal.returns-in_err-accept_meta-clause-goes
returns-in_err-accept_meta-clause-goes g c =
    let p = err_from_is_err_and c.from_residual-in_err-accept_meta.result c.from_residual-in_err-accept_meta.ensures.1 in
    let bad = c.in_err-accept_meta.ensures.refused in
    let name = c.args.name.now in
    let meta = c.args.meta.now in
    let fine = c.in_ok-accept.ensures.fine in
    let other = unlike (length meta) c.args.v.now.geometry.meta bad.1 in
    rw (p.1, p.2, bad.0) (λ slots into. goes_barred (SetsMeta name meta) BadFlags c.args.v.now.wrote c.requires.fresh (reads_none c.args.v.now.nor.now) refl refl refl
    (metas_are c.args.v.now.geometry (descriptors slots) name fine meta false other)
    (λ s here. refuses_so BadFlags refl (meta_unlike c.args.v.now.geometry _ s name meta fine other)))

pub returns-in_err-id-clause-goes : goal.returns-in_err-id-clause-goes
returns-in_err-id-clause-goes g c =
    let p = err_from_is_err_and c.from_residual-in_err-id.result c.from_residual-in_err-id.ensures.1 in
    let failed = c.in_err-id.ensures in
    let name = c.args.name.now in
    let meta = c.args.meta.now in
    let fine = c.in_ok-accept.ensures.fine in
    let like = alike (length meta) c.args.v.now.geometry.meta c.in_ok-accept_meta.ensures.fine in
    rw (p.1, p.2) (λ slots into. goes_refused (SetsMeta name meta) c.in_err-id.field-0.0 c.find_named.new.v.wrote (failed.looks.wrote ∙ c.requires.fresh) failed.looks.reads refl (metas_are c.args.v.now.geometry (descriptors slots) name fine meta true like) (failed.among meta).2 failed.cause
    (λ s here no_fault. let none = failed.told here.tells here.tidy no_fault in refuses_so NotFound none.0 (meta_missing c.args.v.now.geometry _ s name meta fine like (ap (file_named name) here.table ∙ none.1))))

pub returns-clause-goes : goal.returns-clause-goes
returns-clause-goes g c =
    let found = c.in_ok-id.ensures in
    let name = c.args.name.now in
    let meta = c.args.meta.now in
    let there = looked_on (λ h image. id_named name (table_of h image) ≡ Some c.in_ok-id.id) found.looks found.told in
    let like = c.in_ok-accept_meta.ensures.fine ∙ ap (λ (h : Geometry). h.meta) (sym found.looks.same.geometry) in
    let alike_old = alike (length meta) c.args.v.now.geometry.meta c.in_ok-accept_meta.ensures.fine in
    λ slots into. goes_since found.looks (metas_are c.args.v.now.geometry (descriptors slots) name c.in_ok-accept.ensures.fine meta true alike_old) (c.restate_file.ensures.goes (SetsMeta name meta) slots into (meta_is (Meta c.args.meta) refl meta (λ f. refl) like name c.in_ok-id.id c.in_ok-accept.ensures.fine there))

pub returns-clause-counted : goal.returns-clause-counted
returns-clause-counted g c =
    let found = c.in_ok-id.ensures in
    let name = c.args.name.now in
    let meta = c.args.meta.now in
    let there = looked_on (λ h image. id_named name (table_of h image) ≡ Some c.in_ok-id.id) found.looks found.told in
    let like = c.in_ok-accept_meta.ensures.fine ∙ ap (λ (h : Geometry). h.meta) (sym found.looks.same.geometry) in
    λ slots into. stands_since found.looks (c.restate_file.ensures.counted (SetsMeta name meta) slots into (meta_is (Meta c.args.meta) refl meta (λ f. refl) like name c.in_ok-id.id c.in_ok-accept.ensures.fine there))
