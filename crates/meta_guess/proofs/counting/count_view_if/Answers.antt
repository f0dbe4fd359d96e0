use Rattle.meta_guess.proofs.counting.count_view_if.Goals as goal

pub returns-clause-told : goal.returns-clause-told
returns-clause-told g c = λ tells.
    let looks = c.survey.ensures.looks in
    rw (looks.same.geometry, looks.reads.bytes) at (c.count_marked_if.ensures.told (looks.reads.told tells))
