use Rattle.vol_check.proofs.surveying.judge_parting.Goals as goal

pub returns-then-not-branch-clause-told : goal.returns-then-not-branch-clause-told
returns-then-not-branch-clause-told g c = λ tells. c.in_ok-has_mixed.ensures.told tells c.if-not-branch.true

pub returns-clause-told : goal.returns-clause-told
returns-clause-told g c = λ tells.
    let looked = c.in_ok-has_mixed.ensures.looks in
    let seen = c.in_ok-found.ensures in
    let found = rw (looked.same.geometry, looked.reads.bytes) at (seen.told (looked.reads.told tells)) in
    let by = rw (seen.looks.same.geometry, looked.same.geometry) at (c.parting_of.ensures (g.N.NorState.bytes c.args.v.now.nor.now)) in
    by found
