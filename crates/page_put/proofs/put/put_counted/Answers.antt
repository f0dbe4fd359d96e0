use Rattle.std.proofs.Common.{arith}
use Rattle.page_put.proofs.Changing.{stands_again, was_counted, if_some}
use Rattle.page_put.proofs.put.put_counted.Goals as goal

pub recount-requires-clause-was : goal.recount-requires-clause-was
recount-requires-clause-was g c =
    let b = c.in_ok-before.ensures in
    let p = c.in_ok-program_put.ensures in
    was_counted c.args.page c.in_ok-before.field-0 b.looks p.same p.rows b.stood b.told p.changes.cuts.told_before (λ tells. if_some c.in_ok-before.field-0 (λ e. p.only tells) b.stood)

pub returns-clause-counted : goal.returns-clause-counted
returns-clause-counted g c =
    let b = c.in_ok-before.ensures in
    let p = c.in_ok-program_put.ensures in
    stands_again c.args.page c.in_ok-before.field-0 c.recount.new.v c.recount.result b.looks p.same b.some c.recount.ensures.stands p.changes.cuts.told c.requires.page p.used

pub returns-in_err-program_put-clause-few : goal.returns-in_err-program_put-clause-few
returns-in_err-program_put-clause-few g c = omega (arith, c.sort_before-before.ensures.looks.reads.writes, c.program_put.ensures.few)

pub returns-in_err-before-clause-few : goal.returns-in_err-before-clause-few
returns-in_err-before-clause-few g c = omega (arith, c.sort_before-before.ensures.looks.reads.writes, c.program_put.ensures.few)

pub returns-clause-few : goal.returns-clause-few
returns-clause-few g c = omega (arith, c.sort_before-before.ensures.looks.reads.writes, c.program_put.ensures.few, c.recount.ensures.counts.reads.writes)
