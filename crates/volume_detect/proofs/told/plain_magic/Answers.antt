use Rattle.std.proofs.Common.{arith, lit<}
use Rattle.std.proofs.lemmas.Nat.{xor_lt}
use Rattle.volume_detect.proofs.told.plain_magic.Goals as goal

pub overflow_cast-result : goal.overflow_cast-result
overflow_cast-result c = omega (arith, xor_lt 15 0x0529 c.args.page (lit< tt) c.requires)
