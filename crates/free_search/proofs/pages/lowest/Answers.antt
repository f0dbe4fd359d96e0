use Rattle.free_search.proofs.Summed.{open_from}
use Rattle.free_search.proofs.pages.lowest.Goals as goal

pub returns-in-Some-clause-told : goal.returns-in-Some-clause-told
returns-in-Some-clause-told g c = λ tells.
    let view = c.args.v.now in
    open_from {nor = g.N.NorState} view.geometry view.nor.now view.rows.now c.in-Some.ensures.stands tells c.args.kind c.in-Some.first (c.in-Some.ensures.told tells)
