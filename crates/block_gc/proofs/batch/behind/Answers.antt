use Rattle.std.proofs.Common.{◌+◌, ◌*◌, ◌≤◌, arith}
use Rattle.block_gc.proofs.BatchRuns.{behind_fits}
use Rattle.block_gc.proofs.batch.behind.Goals as goal

pub overflow_cast-result : goal.overflow_cast-result
overflow_cast-result c =
    let fits = behind_fits c.args.g.now c.args.block c.requires in
    let sum : (c.from.result + 1) * c.per_block.result ≤ 65535 = rw (c.from.ensures, c.per_block.ensures.count) fits in
    omega (arith, sum)
