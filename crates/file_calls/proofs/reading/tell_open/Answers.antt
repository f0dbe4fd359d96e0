use Rattle.std.proofs.Common.{refl, ◌∙◌, ap, Err}
use Rattle.std.proofs.lemmas.Result.{err_from_is_err_and}
use Rattle.table_model.specs.declared.error.FsErr.{FsErr}
use Rattle.table_model.specs.Reply.{Shows}
use Rattle.table_model.specs.Ask.{StatsOpen}
use Rattle.file_calls.specs.Slots.{closed_fault}
use Rattle.file_calls.proofs.Going.{goes_shown}
use Rattle.file_calls.proofs.Descriptors.{fstat_closed, flat_fstat, goes_closed, goes_unread, file_at, never_missing, stat_is, open_in}
use Rattle.file_calls.proofs.reading.tell_open.Goals as goal

pub returns-in_err-slot-clause-goes : goal.returns-in_err-slot-clause-goes
returns-in_err-slot-clause-goes g c =
    let p = err_from_is_err_and c.from_residual.result c.from_residual.ensures.1 in
    let bad = c.in_err-slot.ensures in
    rw (p.1, p.2, bad.error) (λ into. goes_closed (StatsOpen c.args.fd) c.args.fd c.args.v.now.wrote c.requires.fresh refl refl (ap closed_fault bad.closed) bad.closed (λ s none. fstat_closed c.args.v.now.geometry _ s c.args.fd none))

pub returns-in_err-stat-clause-goes : goal.returns-in_err-stat-clause-goes
returns-in_err-stat-clause-goes g c =
    let p = err_from_is_err_and c.from_residual-in_err-stat.result c.from_residual-in_err-stat.ensures.1 in
    let failed = c.in_err-stat.ensures in
    rw (p.1, p.2) (λ into. goes_unread (StatsOpen c.args.fd) c.in_err-stat.field-0.0 c.record_of.new.v.wrote (failed.looks.wrote ∙ c.requires.fresh) failed.looks.reads refl (ap closed_fault c.in_ok-slot.ensures.found) refl refl failed.missed (λ e. failed.cause (ap (λ (w : FsErr). Err w) e))
    (λ s here no_fault. never_missing c.args.fd c.in_ok-slot.slot c.in_ok-slot.ensures.found s here (failed.told here.tells here.tidy no_fault)))

pub returns-clause-goes : goal.returns-clause-goes
returns-clause-goes g c =
    let looked = c.in_ok-stat.ensures in
    let found = c.in_ok-slot.ensures.found in
    λ into. goes_shown (StatsOpen c.args.fd) (Shows c.in_ok-stat.stat) c.record_of.new.v.wrote (looked.looks.wrote ∙ c.requires.fresh) looked.looks.reads refl (ap closed_fault found) refl refl (λ bytes e. absurd (cc))
    (λ s here.
    let w = file_at c.args.fd c.in_ok-slot.slot found s here in
    rw (stat_is c.in_ok-stat.stat w.file _ (looked.told here.tells here.tidy) w.listed) (flat_fstat c.args.v.now.geometry _ s c.args.fd _ (open_in c.args.slots.now s c.args.fd _ here.slots found) w.file w.there))
