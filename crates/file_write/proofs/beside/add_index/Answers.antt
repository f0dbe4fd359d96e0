use Rattle.std.proofs.Common.{◌≡◌, refl, rules, Err, inl, arith}
use Rattle.flash_view.specs.declared.kinds.Kind.TheVariants.{Index}
use Rattle.flash_view.specs.declared.kinds.StepErr.TheVariants.{DeviceFault}
use Rattle.flash_view.proofs.Stepped.{looked, look_faults, after_look, fault_as, passes, ends_as, view_image}
use Rattle.file_write.specs.Beside.{putting_one, adding_at, is_further}
use Rattle.file_write.proofs.DataBeside.{one_found, add_begins, add_ends, add_at}
use Rattle.file_write.proofs.beside.add_index.Goals as goal

pub returns-in_err-to-clause-step : goal.returns-in_err-to-clause-step
returns-in_err-to-clause-step g c = let seen = c.in_err-to.ensures in look_faults seen.looks.only seen.looks.cause c.from_residual.ensures.0 c.from_residual.ensures.1 (λ tells can. inl refl)

pub returns-in_default-clause-step : goal.returns-in_default-clause-step
returns-in_default-clause-step g c =
    let seen = c.in_ok-to.ensures in
    looked seen.looks.only (λ e. absurd (cc)) c.missing.ensures (λ tells can. (inl refl, absurd (one_found _ _ _ can (rw c.in_default.is at (seen.looks.told tells can.clear.tells)))))

pub returns-in_err-put_index-clause-step : goal.returns-in_err-put_index-clause-step
returns-in_err-put_index-clause-step g c =
    let seen = c.in_ok-to.ensures in
    let to = c.in-Some.to in
    let holds = is_further c.args.id c.args.span c.args.data_span c.args.target in
    let is : c.from_residual-in_err-put_index.result ≡ Err DeviceFault = search rules in
    after_look {last = adding_at to Index holds} seen.looks.only
    (passes {first = putting_one to holds} (fault_as c.in_err-put_index.ensures.step) is (λ tells need. add_begins _ Index _ to holds need))
    (λ tells can. add_at _ Index _ to holds (view_image c.args.v.now (g.met.N.Nor.sized _) tells) (rw c.in-Some.is at (seen.looks.told tells can.clear.tells)))

pub returns-clause-step : goal.returns-clause-step
returns-clause-step g c =
    let seen = c.in_ok-to.ensures in
    let to = c.in-Some.to in
    let holds = is_further c.args.id c.args.span c.args.data_span c.args.target in
    after_look {last = adding_at to Index holds} seen.looks.only
    (ends_as {first = putting_one to holds} c.in_ok-put_index.ensures.step (λ tells need. add_begins _ Index _ to holds need) (λ tells need done. add_ends _ Index _ to holds _ need done))
    (λ tells can. add_at _ Index _ to holds (view_image c.args.v.now (g.met.N.Nor.sized _) tells) (rw c.in-Some.is at (seen.looks.told tells can.clear.tells)))

pub returns-in_err-to-clause-few : goal.returns-in_err-to-clause-few
returns-in_err-to-clause-few g c = omega (arith, c.in_err-to.ensures.looks.only.reads.writes)

pub returns-in_default-clause-few : goal.returns-in_default-clause-few
returns-in_default-clause-few g c = omega (arith, c.in_ok-to.ensures.looks.only.reads.writes)

pub returns-in_err-put_index-clause-few : goal.returns-in_err-put_index-clause-few
returns-in_err-put_index-clause-few g c = omega (arith, c.in_ok-to.ensures.looks.only.reads.writes, c.in_err-put_index.ensures.few)

pub returns-clause-few : goal.returns-clause-few
returns-clause-few g c = omega (arith, c.in_ok-to.ensures.looks.only.reads.writes, c.in_ok-put_index.ensures.few)
