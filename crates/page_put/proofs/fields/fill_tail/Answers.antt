use Rattle.page_put.proofs.Filled.{fills_stand}
use Rattle.page_put.proofs.fields.fill_tail.Goals as goal

pub invariant_of-v-clause-table : goal.invariant_of-v-clause-table
invariant_of-v-clause-table g c = λ on.
    let b = c.in_ok-v.ensures in
    let p = c.in_ok-program_in.ensures in
    let stood = rw on at b.stood in
    fills_stand c.args.page c.args.at c.args.from.now b.looks p.same p.rows p.changes c.requires.behind (rw b.looks.same.geometry c.requires.inside) stood.0 stood.1 (λ tells. rw on at (b.used tells))
