use Rattle.std.proofs.Common.{◌≡◌, rules, Err}
use Rattle.table_model.specs.Ask.{asked}
use Rattle.volume_make.specs.declared.put_err.PutErr.TheVariants.{Stopped}
use Rattle.volume_make.proofs.Making.{stops_undone}
use Rattle.volume_make.proofs.performing.perform.Goals as goal

pub returns-in_err-told-clause-undone : goal.returns-in_err-told-clause-undone
returns-in_err-told-clause-undone g c =
    let failed = c.in_err-told in
    let is : c.from_residual.result ≡ Err (Stopped failed.field-0.0) = search rules in
    rw is (stops_undone (asked c.args.call.now) failed.field-0.0 failed.ensures.stops)
