use Rattle.std.proofs.Common.{◌≡◌, rules, Err, ap, length}
use Rattle.geometry.specs.declared.geometry.Geometry.{Geometry}
use Rattle.table_model.specs.declared.error.FsErr.{FsErr}
use Rattle.flash_view.proofs.Stepped.{looked, passes}
use Rattle.file_calls.specs.Cleans.{part_count}
use Rattle.file_calls.specs.Writings.{writing}
use Rattle.file_calls.proofs.TurnsBy.{turned_none, turned_so, turned_after}
use Rattle.file_calls.proofs.Going.{err_same}
use Rattle.file_calls.proofs.WriteLoop.{write_stays, sized_after, missed_stops, missed_fault}
use Rattle.file_calls.proofs.writing.write_all.Goals as goal

pub returns-in_err-size : goal.returns-in_err-size
returns-in_err-size g c = λ f.
    let seen = c.in_err-size.ensures in
    let is : c.from_residual.result ≡ Err c.in_err-size.field-0.0 = search rules in
    turned_none seen.looks (passes (looked {step = writing c.args.id c.args.at c.args.bytes.now f} seen.looks (λ e. seen.cause (ap (λ (w : FsErr). Err w) (err_same c.in_err-size.field-0.0 _ e))) (missed_stops c.in_err-size.field-0.0 seen.missed)
    (λ tells can. (write_stays _ _ _ _ _ _ can, missed_fault _ _ c.in_err-size.field-0.0 f seen.missed (seen.told tells can.tidy) can.there))) is
    (λ tells can. record { needs = can; cut = λ d cut. cut }))

pub returns : goal.returns
returns g c = λ f.
    let seen = c.in_ok-size.ensures in
    turned_so (ap (λ (k : Geometry). part_count k (length f.bytes) c.args.at (length c.args.bytes.now)) seen.looks.same.geometry)
    (turned_after seen.looks (c.write_sized.ensures f (sized_after c.args.id c.args.at c.args.bytes.now c.in_ok-size.field-0 f seen.looks seen.told)))
