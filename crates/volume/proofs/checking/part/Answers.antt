use Rattle.std.proofs.lemmas.Result.{err_from_is_err_and}
use Rattle.volume.proofs.Clearing.{stops_as}
use Rattle.volume.proofs.checking.part.Goals as goal

pub returns-in_err-part_mixed : goal.returns-in_err-part_mixed
returns-in_err-part_mixed g c = let p = err_from_is_err_and c.from_residual.result c.from_residual.ensures.1 in rw (p.1, p.2) (stops_as c.in_err-part_mixed.ensures.step)
