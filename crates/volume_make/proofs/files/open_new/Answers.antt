use Rattle.std.proofs.Common.{◌≡◌, ℕ, Option, subst, rules, Err}
use Rattle.volume_run.specs.Ready.{IsOpenedFrom}
use Rattle.volume_make.specs.declared.put_err.PutErr.TheVariants.{Stopped, Refused}
use Rattle.volume_make.proofs.Making.{begins, never_unopened, stops_beginning}
use Rattle.volume_make.proofs.files.open_new.Goals as goal

pub returns-in-Some-clause-begins : goal.returns-in-Some-clause-begins
returns-in-Some-clause-begins g c =
    begins c.args.name.now c.in-Some.fd (subst (λ (o : Option ℕ). IsOpenedFrom c.args.volume.now c.args.name.now 20 c.open.new.volume o) c.in-Some.is c.in_ok-fd.ensures.answered)

pub returns-in-None-clause-stops : goal.returns-in-None-clause-stops
returns-in-None-clause-stops g c =
    never_unopened c.args.name.now Refused (subst (λ (o : Option ℕ). IsOpenedFrom c.args.volume.now c.args.name.now 20 c.open.new.volume o) c.in-None.is c.in_ok-fd.ensures.answered)

pub returns-in_err-fd-clause-stops : goal.returns-in_err-fd-clause-stops
returns-in_err-fd-clause-stops g c =
    let failed = c.in_err-fd in
    let is : c.from_residual.result ≡ Err (Stopped failed.field-0.0) = search rules in
    rw is (stops_beginning c.args.name.now failed.field-0.0 failed.ensures.stops)
