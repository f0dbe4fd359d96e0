use Rattle.std.proofs.Common.{sym, arith}
use Rattle.std.proofs.lemmas.List.{length-take-le}
use Rattle.meta_tally.proofs.tally.mark_first.Goals as goal

pub slice_bounds-mark_heads-end-2 : goal.slice_bounds-mark_heads-end-2
slice_bounds-mark_heads-end-2 c = sym (length-take-le 0x8000 c.args.work.now (omega (arith, c.requires.work)))

pub mark_heads-requires-clause-ids : goal.mark_heads-requires-clause-ids
mark_heads-requires-clause-ids c = length-take-le 0x8000 c.args.work.now (omega (arith, c.requires.work))
