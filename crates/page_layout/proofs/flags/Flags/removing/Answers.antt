use Rattle.std.proofs.Common.{arith, lit<}
use Rattle.page_layout.proofs.Bits.{mask_clears}
use Rattle.page_layout.proofs.flags.Flags.removing.Goals as goal

pub returns-clause-clears : goal.returns-clause-clears
returns-clause-clears c = mask_clears c.args.self.bits 6 (lit< tt) (omega arith)
