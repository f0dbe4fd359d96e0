use Rattle.std.proofs.Common.{refl, ap}
use Rattle.std.proofs.lemmas.Result.{err_from_is_err_and}
use Rattle.table_model.specs.Ask.{Closes}
use Rattle.file_calls.specs.Slots.{closed_fault}
use Rattle.file_calls.proofs.Descriptors.{closed_moves, close_closed, close_moves}
use Rattle.file_calls.proofs.slots.close_in.Goals as goal

pub returns-in_err-slot : goal.returns-in_err-slot
returns-in_err-slot c =
    let p = err_from_is_err_and c.from_residual.result c.from_residual.ensures.1 in
    let bad = c.in_err-slot.ensures in
    rw (p.1, p.2, bad.error) (closed_moves (Closes c.args.fd) c.args.slots.now c.args.fd bad.closed (λ h spare s none. close_closed h spare s c.args.fd none) refl (λ h. ap closed_fault bad.closed))

pub returns : goal.returns
returns c = close_moves c.args.slots.now c.put.new.slots c.args.fd c.in_ok-slot.slot c.in_ok-slot.ensures.found c.put.ensures
