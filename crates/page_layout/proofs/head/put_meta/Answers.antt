use Rattle.std.proofs.Common.{arith, ◌∙◌}
use Rattle.std.proofs.lemmas.Grind.{common_steps}
use Rattle.page_layout.proofs.Parts.{part_written, part_is}
use Rattle.page_layout.proofs.head.put_meta.Goals as goal

pub returns-clause-field : goal.returns-clause-field
returns-clause-field c =
    part_is 45 c.args.g.now.meta _ c.args.page.now _ (omega (arith, c.args.g.now.valid.page_least, c.args.g.now.valid.meta_most)) (omega arith) (grind (arith, common_steps))
    ∙ c.copy_from_slice.ensures.after

pub returns-clause-others : goal.returns-clause-others
returns-clause-others c = part_written 45 c.args.g.now.meta _ c.args.page.now _ (omega (arith, c.args.g.now.valid.page_least, c.args.g.now.valid.meta_most)) (omega arith) (grind (arith, common_steps))
