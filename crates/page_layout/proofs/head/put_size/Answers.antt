use Rattle.std.proofs.Common.{arith, refl}
use Rattle.std.proofs.lemmas.Grind.{common_steps}
use Rattle.page_layout.proofs.Parts.{part_written}
use Rattle.page_layout.proofs.head.put_size.Goals as goal

pub returns-clause-others : goal.returns-clause-others
returns-clause-others c = part_written 8 4 4 c.args.page.now _ c.requires refl (grind (arith, common_steps))
