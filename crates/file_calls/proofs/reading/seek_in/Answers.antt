use Rattle.std.proofs.Common.{◌≡◌, true, false, refl, ◌∙◌, ap, Some, None, Err, w64}
use Rattle.std.specs.Prelude.{pos, ◌+ℤ◌}
use Rattle.std.proofs.lemmas.Result.{err_from_is_err_and}
use Rattle.std.proofs.lemmas.Int.{to_z-of_z}
use Rattle.table_model.specs.declared.error.FsErr.{FsErr}
use Rattle.table_model.specs.declared.error.FsErr.TheVariants.{SeekBounds}
use Rattle.table_model.specs.Files.{place_within}
use Rattle.table_model.specs.Reply.{Tells as Number}
use Rattle.table_model.specs.Ask.{Seeks}
use Rattle.std.specs.Prelude.{Option}
use Rattle.table_model.specs.Table.{Open}
use Rattle.table_model.specs.Descriptors.{put_at}
use Rattle.fd_table.specs.Slots.{descriptors}
use Rattle.file_calls.specs.Slots.{closed_fault}
use Rattle.file_calls.proofs.Going.{goes_refused, goes_moved}
use Rattle.file_calls.proofs.Descriptors.{seek_closed, goes_closed, goes_unread, never_missing, seek_stays, seek_moves, held_at}
use Rattle.file_calls.proofs.reading.seek_in.Goals as goal

pub returns-in_err-slot-clause-goes : goal.returns-in_err-slot-clause-goes
returns-in_err-slot-clause-goes g c =
    let p = err_from_is_err_and c.from_residual.result c.from_residual.ensures.1 in
    let bad = c.in_err-slot.ensures in
    rw (p.1, p.2, bad.error) (λ into. goes_closed (Seeks c.args.fd c.args.offset c.args.from) c.args.fd c.args.v.now.wrote c.requires.fresh refl refl (ap closed_fault bad.closed) bad.closed (λ s none. seek_closed c.args.v.now.geometry _ s c.args.fd c.args.offset c.args.from none))

pub returns-in_err-size-clause-goes : goal.returns-in_err-size-clause-goes
returns-in_err-size-clause-goes g c =
    let p = err_from_is_err_and c.from_residual-in_err-size.result c.from_residual-in_err-size.ensures.1 in
    let failed = c.in_err-size.ensures in
    rw (p.1, p.2) (λ into. goes_unread (Seeks c.args.fd c.args.offset c.args.from) c.in_err-size.field-0.0 c.record_of.new.v.wrote (failed.looks.wrote ∙ c.requires.fresh) failed.looks.reads refl (ap closed_fault c.in_ok-slot.ensures.found) refl refl failed.missed (λ e. failed.cause (ap (λ (w : FsErr). Err w) e))
    (λ s here no_fault. never_missing c.args.fd c.in_ok-slot.slot c.in_ok-slot.ensures.found s here (failed.told here.tells here.tidy no_fault)))

pub returns-in_default-clause-goes : goal.returns-in_default-clause-goes
returns-in_default-clause-goes g c =
    let looked = c.in_ok-size.ensures in
    let place : None ≡ place_within c.in_ok-size.field-0.size (pos c.base_of.result +ℤ c.args.offset) = rw (to_z-of_z w64 c.args.offset c.ranges.offset) at c.in_default.ensures in
    λ into. goes_refused {T = Unit {0}} (Seeks c.args.fd c.args.offset c.args.from) SeekBounds c.record_of.new.v.wrote (looked.looks.wrote ∙ c.requires.fresh) looked.looks.reads refl (ap closed_fault c.in_ok-slot.ensures.found) refl (λ e. absurd (cc))
    (λ s here no_fault. seek_stays c.args.fd c.in_ok-slot.slot c.in_ok-slot.ensures.found c.args.offset c.args.from c.in_ok-size.field-0 c.base_of.result looked.told c.base_of.ensures place s here)

pub returns-clause-goes : goal.returns-clause-goes
returns-clause-goes g c =
    let looked = c.in_ok-size.ensures in
    let place : Some c.in-Some.at ≡ place_within c.in_ok-size.field-0.size (pos c.base_of.result +ℤ c.args.offset) = rw (to_z-of_z w64 c.args.offset c.ranges.offset) at c.in-Some.ensures in
    let put = c.put.ensures ∙ ap (λ (o : Option Open). put_at (descriptors c.args.slots.now) c.args.fd o) (held_at c.in_ok-slot.slot c.in-Some.at c.in_ok-slot.ensures.used) in
    λ into. goes_moved (Seeks c.args.fd c.args.offset c.args.from) (Number c.in-Some.at) c.record_of.new.v.wrote (looked.looks.wrote ∙ c.requires.fresh) looked.looks.reads refl (ap closed_fault c.in_ok-slot.ensures.found) refl refl (λ bytes e. absurd (cc)) (λ k. absurd (let no : false ≡ true = k in cc))
    (λ s here. rw put (seek_moves c.args.fd c.in_ok-slot.slot c.in_ok-slot.ensures.found c.args.offset c.args.from c.in_ok-size.field-0 c.base_of.result looked.told c.base_of.ensures c.in-Some.at place s here))
