use Rattle.std.proofs.Common.{arith}
use Rattle.page_put.proofs.Erasures.{unit_fits, marked, erase_done, erase_goes}
use Rattle.page_put.proofs.fresh.erase_unit.Goals as goal

pub erase-requires-clause-inside : goal.erase-requires-clause-inside
erase-requires-clause-inside g c =
    unit_fits c.args.v.now.geometry c.args.block c.args.i _ c.requires.block c.requires.unit (cc (c.from.ensures, c.block.ensures, c.phys.ensures))

pub returns-clause-changes : goal.returns-clause-changes
returns-clause-changes g c =
    let view = c.args.v.now in
    erase_goes view.geometry c.args.block c.args.i _ (cc (c.from.ensures, c.block.ensures, c.phys.ensures)) _ c.erase.result
    (marked view.geometry c.args.block c.args.i _ c.unit_mark.ensures.first c.unit_mark.ensures.later) view.unit c.erase.ensures.done c.erase.ensures.half c.erase.ensures.changes

pub returns-clause-done : goal.returns-clause-done
returns-clause-done g c = λ tells.
    erase_done c.args.v.now.geometry c.args.block c.args.i _ (cc (c.from.ensures, c.block.ensures, c.phys.ensures)) c.erase.result _ _ (c.erase.ensures.done tells)

pub returns-clause-few : goal.returns-clause-few
returns-clause-few g c = omega (arith, c.erase.ensures.writes.writes)
