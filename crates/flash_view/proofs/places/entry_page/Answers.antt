use Rattle.std.proofs.Common.{refl, arith}
use Rattle.std.proofs.lemmas.Grind.{common_steps}
use Rattle.geometry.proofs.Bounds.{few_pages}
use Rattle.flash_view.proofs.Inside.{entry_page_is}
use Rattle.flash_view.proofs.places.entry_page.Goals as goal

pub overflow_add-result-2 : goal.overflow_add-result-2
overflow_add-result-2 c = rw (c.from.ensures, c.per_block.ensures.count, c.lookups.ensures.count)
    (let page = entry_page_is c.args.g.now c.args.block c.args.i _ c.requires.block c.requires.entry refl in omega (arith, page.below, few_pages c.args.g.now))

pub overflow_cast-result : goal.overflow_cast-result
overflow_cast-result c = rw (c.from.ensures, c.per_block.ensures.count, c.lookups.ensures.count)
    (let page = entry_page_is c.args.g.now c.args.block c.args.i _ c.requires.block c.requires.entry refl in omega (arith, page.below, few_pages c.args.g.now))

pub returns-clause-entry : goal.returns-clause-entry
returns-clause-entry c = entry_page_is c.args.g.now c.args.block c.args.i _ c.requires.block c.requires.entry (grind (arith, common_steps))
