use Rattle.geometry.specs.Numbers.{lookups}
use Rattle.page_put.proofs.fresh.unit_mark.Goals as goal

pub returns-clause-first : goal.returns-clause-first
unfolding lookups
returns-clause-first c = λ zero_is. cc (c.magic_offset.ensures.place, c.magic_of.ensures.magic, c.from.ensures)
