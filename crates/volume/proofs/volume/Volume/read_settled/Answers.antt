use Rattle.std.proofs.lemmas.Result.{err_from_is_err_and}
use Rattle.volume.proofs.MapCalls.{fault_gives, missing_apart}
use Rattle.volume.proofs.volume.Volume.read_settled.Goals as goal

pub returns-clause-told : goal.returns-clause-told
returns-clause-told g c = λ tells f file used covered. c.in_ok-count.ensures.told tells f (c.args.self.now.mapped used tells) file

pub returns-in_err-count-clause-told : goal.returns-in_err-count-clause-told
returns-in_err-count-clause-told g c = λ tells f file used covered.
    let p = err_from_is_err_and c.from_residual.result c.from_residual.ensures.1 in
    rw (p.1, p.2) (fault_gives _ _ (c.in_err-count.ensures.told tells f (c.args.self.now.mapped used tells) file))

pub returns-in_err-count-clause-differs : goal.returns-in_err-count-clause-differs
returns-in_err-count-clause-differs g c = λ d e.
    let p = err_from_is_err_and c.from_residual.result c.from_residual.ensures.1 in
    missing_apart _ _ c.in_err-count.ensures.missing d (rw (p.1, p.2) at e)
