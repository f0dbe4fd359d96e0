use Rattle.std.proofs.Common.{true, false, refl, sym, ◌∙◌, ap, length}
use Rattle.std.proofs.lemmas.Result.{err_from_is_err_and}
use Rattle.nor_core.proofs.Cuts.{reads_none}
use Rattle.table_model.specs.declared.error.FsErr.TheVariants.{BadFlags, NotWritable}
use Rattle.table_model.specs.Ask.{SetsMetaOpen}
use Rattle.fd_table.specs.Slots.{descriptors, opened}
use Rattle.page_renew.specs.declared.edits.Edit.TheVariants.{Meta}
use Rattle.file_calls.specs.Slots.{write_fault}
use Rattle.file_calls.proofs.Numbered.{write_barred, fmetas_are}
use Rattle.file_calls.proofs.Going.{goes_barred}
use Rattle.file_calls.proofs.Descriptors.{goes_closed, file_at, open_in}
use Rattle.file_calls.proofs.Restates.{refuses_so, unlike, alike, fmeta_unlike, fmeta_closed, fmeta_unwritable, fmeta_is}
use Rattle.file_calls.proofs.restating.set_meta_open.Goals as goal

pub returns-in_err-accept_meta-clause-goes : goal.returns-in_err-accept_meta-clause-goes
returns-in_err-accept_meta-clause-goes g c =
    let p = err_from_is_err_and c.from_residual.result c.from_residual.ensures.1 in
    let bad = c.in_err-accept_meta.ensures.refused in
    let meta = c.args.meta.now in
    let other = unlike (length meta) c.args.v.now.geometry.meta bad.1 in
    rw (p.1, p.2, bad.0) (λ into. goes_barred (SetsMetaOpen c.args.fd meta) BadFlags c.args.v.now.wrote c.requires.fresh (reads_none c.args.v.now.nor.now) refl refl refl
    (fmetas_are c.args.v.now.geometry (descriptors c.args.slots.now) c.args.fd meta false other)
    (λ s here. refuses_so BadFlags refl (fmeta_unlike c.args.v.now.geometry _ s c.args.fd meta other)))

pub returns-in_err-slot-clause-goes : goal.returns-in_err-slot-clause-goes
returns-in_err-slot-clause-goes g c =
    let p = err_from_is_err_and c.from_residual-in_err-slot.result c.from_residual-in_err-slot.ensures.1 in
    let bad = c.in_err-slot.ensures in
    let meta = c.args.meta.now in
    let like = alike (length meta) c.args.v.now.geometry.meta c.in_ok-accept_meta.ensures.fine in
    rw (p.1, p.2, bad.error) (λ into. goes_closed (SetsMetaOpen c.args.fd meta) c.args.fd c.args.v.now.wrote c.requires.fresh refl refl
    (fmetas_are c.args.v.now.geometry (descriptors c.args.slots.now) c.args.fd meta true like ∙ ap write_fault bad.closed) bad.closed (λ s none. fmeta_closed c.args.v.now.geometry _ s c.args.fd meta like none))

pub returns-then-not-may_write-clause-goes : goal.returns-then-not-may_write-clause-goes
returns-then-not-may_write-clause-goes g c =
    let meta = c.args.meta.now in
    let like = alike (length meta) c.args.v.now.geometry.meta c.in_ok-accept_meta.ensures.fine in
    let slot = c.in_ok-slot.slot in
    let found = c.in_ok-slot.ensures.found in
    let never = sym c.may_write.ensures ∙ c.if-not-may_write.true in
    λ into. goes_barred (SetsMetaOpen c.args.fd meta) NotWritable c.args.v.now.wrote c.requires.fresh (reads_none c.args.v.now.nor.now) refl refl refl
    (fmetas_are c.args.v.now.geometry (descriptors c.args.slots.now) c.args.fd meta true like ∙ write_barred (opened slot) found never)
    (λ s here.
    let w = file_at c.args.fd slot found s here in
    refuses_so NotWritable refl (fmeta_unwritable c.args.v.now.geometry _ s c.args.fd meta (opened slot) w.file like (open_in c.args.slots.now s c.args.fd _ here.slots found) w.there never))

pub returns-clause-goes : goal.returns-clause-goes
returns-clause-goes g c =
    let meta = c.args.meta.now in
    let slot = c.in_ok-slot.slot in
    λ into. c.restate_file.ensures.goes (SetsMetaOpen c.args.fd meta) c.args.slots.now into (fmeta_is (Meta c.args.meta) refl meta (λ f. refl) c.in_ok-accept_meta.ensures.fine c.args.fd slot c.in_ok-slot.ensures.found (sym c.may_write.ensures ∙ c.if-not-may_write.false))

pub returns-clause-counted : goal.returns-clause-counted
returns-clause-counted g c =
    let meta = c.args.meta.now in
    let slot = c.in_ok-slot.slot in
    λ into. c.restate_file.ensures.counted (SetsMetaOpen c.args.fd meta) c.args.slots.now into (fmeta_is (Meta c.args.meta) refl meta (λ f. refl) c.in_ok-accept_meta.ensures.fine c.args.fd slot c.in_ok-slot.ensures.found (sym c.may_write.ensures ∙ c.if-not-may_write.false))
