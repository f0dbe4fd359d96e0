use Rattle.free_search.proofs.Bits.{tail_of}
use Rattle.free_search.proofs.ids.least_unnoted.Goals as goal

pub returns-clause-first : goal.returns-clause-first
returns-clause-first g c = rw (c.usable.ensures.count, c.bits_start-start.ensures, tail_of) at c.first_unnoted.ensures.first
