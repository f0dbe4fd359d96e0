use Rattle.page_put.proofs.Filled.{dead_as}
use Rattle.page_put.proofs.rows.recount_dead.Goals as goal

pub move_count-requires-clause-is : goal.move_count-requires-clause-is
move_count-requires-clause-is g c = λ tells. dead_as c.args.v.now.geometry (g.N.NorState.bytes c.args.v.now.nor.now) c.args.page (c.requires.dead tells)
