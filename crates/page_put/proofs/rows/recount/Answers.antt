use Rattle.page_put.proofs.rows.recount.Goals as goal

pub move_count-requires-clause-was : goal.move_count-requires-clause-was
move_count-requires-clause-was g c = λ tells.
    let s = c.in_ok-after.ensures in
    rw (s.looks.same.geometry, s.looks.rows, s.looks.reads.bytes) ((rw c.in-Some.is at c.requires.was) (s.looks.reads.told_before tells))

pub move_count-requires-clause-is : goal.move_count-requires-clause-is
move_count-requires-clause-is g c = λ tells.
    let s = c.in_ok-after.ensures in
    rw (s.looks.same.geometry, s.looks.reads.bytes) ((rw c.in-Some-2.is at s.told) (s.looks.reads.told_before tells))
