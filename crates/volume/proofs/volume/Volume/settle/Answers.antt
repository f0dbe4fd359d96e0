use Rattle.std.proofs.Common.{◌≡◌, rules, Err}
use Rattle.volume.proofs.volume.Volume.settle.Goals as goal

pub returns-in_err-settled-clause-map : goal.returns-in_err-settled-clause-map
returns-in_err-settled-clause-map g c =
    let is : c.from_residual.result ≡ Err c.in_err-settled.field-0.0 = search rules in
    rw is c.in_err-settled.ensures.map
