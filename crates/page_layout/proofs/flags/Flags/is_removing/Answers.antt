use Rattle.page_layout.proofs.Bits.{mask_test}
use Rattle.page_layout.proofs.flags.Flags.is_removing.Goals as goal

pub returns : goal.returns
returns c = mask_test c.args.self.bits 6
