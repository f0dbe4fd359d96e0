use Rattle.block_gc.proofs.Spared.{may_told}
use Rattle.block_gc.proofs.spares.may_move.Goals as goal

pub returns-clause-told : goal.returns-clause-told
returns-clause-told g c = λ tells tidy.
    let first = c.in_ok-all.ensures in
    let counts = rw (first.looks.same.geometry, first.looks.reads.bytes) at (c.in_ok-c.ensures.looks.told (first.looks.reads.told tells)) in
    rw c.may_move_by.ensures (may_told _ _ c.args.block c.in_ok-c.c c.in_ok-all.all counts (first.told tells tidy) tidy c.requires)
