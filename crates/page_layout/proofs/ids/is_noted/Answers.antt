use Rattle.std.proofs.Common.{◌==◌, ap}
use Rattle.page_layout.proofs.IdBits.{test_bit}
use Rattle.page_layout.proofs.ids.is_noted.Goals as goal

pub returns : goal.returns
returns c = ap (λ n. n == 1) (test_bit c.args.bits.now c.from.result c.args.id c.from.ensures)
