use Rattle.flash_view.proofs.Stepped.{view_image}
use Rattle.block_gc.proofs.Freeing.{freed_step, freed_mends}
use Rattle.block_gc.proofs.room.free_up.Goals as goal

pub returns-clause-step : goal.returns-clause-step
returns-clause-step g c = freed_step c.args.v.now c.collect.new.v c.args.blocks c.collect.result (λ tells. view_image c.args.v.now (g.met.N.Nor.sized _) tells) c.collect.ensures.step

pub returns-clause-mended : goal.returns-clause-mended
returns-clause-mended g c = λ tells can few. freed_mends c.args.v.now c.collect.new.v c.args.blocks c.collect.result c.collect.ensures.step tells can few
