use Rattle.meta_guess.proofs.counting.count_marked.Goals as goal

pub returns-clause-told : goal.returns-clause-told
returns-clause-told g c = λ tells.
    let first = c.in_ok-whole.ensures in
    let second = c.in_ok-damaged.ensures in
    record { whole = first.told tells; damaged = rw (first.looks.same.geometry, first.looks.reads.bytes) at (second.told (first.looks.reads.told tells)) }
