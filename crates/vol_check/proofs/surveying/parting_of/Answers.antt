use Rattle.std.proofs.Common.{arith}
use Rattle.vol_check.proofs.TallySums.{over_told}
use Rattle.vol_check.proofs.surveying.parting_of.Goals as goal

pub returns-else-from-places : goal.returns-else-from-places
returns-else-from-places c = λ image is. over_told c.args.g.now image c.args.found.now is (omega (arith, c.if-found-eq0.false)) (omega (arith, c.if-from-places.false, c.from.ensures, c.places.ensures))
