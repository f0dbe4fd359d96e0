use Rattle.free_search.proofs.Summed.{sums_all}
use Rattle.free_search.proofs.blocks.sums.Goals as goal

pub returns-clause-told : goal.returns-clause-told
returns-clause-told g c = λ tells. sums_all g.N.NorState c.args.v.now.geometry c.args.v.now.nor.now c.args.v.now.rows.now c.sums.result tells c.sums.ensures.stands (c.sums.ensures.told tells)
