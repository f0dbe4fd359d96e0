use Rattle.std.proofs.Common.{arith}
use Rattle.geometry.proofs.Bounds.{few_pages}
use Rattle.flash_view.proofs.SlotHeld.{lookup_page_below}
use Rattle.flash_view.proofs.places.lookup_page.Goals as goal

pub overflow_add-result : goal.overflow_add-result
overflow_add-result c = rw (c.from.ensures, c.per_block.ensures.count)
    (omega (arith, lookup_page_below c.args.g.now c.args.block c.args.k c.requires.block c.requires.lookup, few_pages c.args.g.now))

pub overflow_cast-result : goal.overflow_cast-result
overflow_cast-result c = rw (c.from.ensures, c.per_block.ensures.count)
    (omega (arith, lookup_page_below c.args.g.now c.args.block c.args.k c.requires.block c.requires.lookup, few_pages c.args.g.now))

pub returns-clause-below : goal.returns-clause-below
returns-clause-below c = rw (c.from.ensures, c.per_block.ensures.count) (lookup_page_below c.args.g.now c.args.block c.args.k c.requires.block c.requires.lookup)
