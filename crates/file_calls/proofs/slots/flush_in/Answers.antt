use Rattle.std.proofs.Common.{refl, ap}
use Rattle.std.proofs.lemmas.Result.{err_from_is_err_and}
use Rattle.table_model.specs.Ask.{Flushes}
use Rattle.file_calls.specs.Slots.{closed_fault}
use Rattle.file_calls.proofs.Descriptors.{closed_moves, flush_closed, flush_moves}
use Rattle.file_calls.proofs.slots.flush_in.Goals as goal

pub returns-in_err-opened : goal.returns-in_err-opened
returns-in_err-opened c =
    let p = err_from_is_err_and c.from_residual.result c.from_residual.ensures.1 in
    let bad = c.in_err-opened.ensures in
    rw (p.1, p.2, bad.error) (closed_moves (Flushes c.args.fd) c.args.slots.now c.args.fd bad.closed (λ h spare s none. flush_closed h spare s c.args.fd none) refl (λ h. ap closed_fault bad.closed))

pub returns : goal.returns
returns c = flush_moves c.args.slots.now c.args.fd c.in_ok-opened.field-0 c.in_ok-opened.ensures.found
