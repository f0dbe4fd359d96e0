use Rattle.std.proofs.Common.{arith}
use Rattle.std.proofs.lemmas.Grind.{common_steps}
use Rattle.page_layout.proofs.Parts.{part_written}
use Rattle.page_layout.proofs.words.put_word.Goals as goal

pub returns-clause-others : goal.returns-clause-others
returns-clause-others c = part_written c.args.at 2 _ c.args.bytes.now _ c.requires (omega arith) (grind (arith, common_steps))
