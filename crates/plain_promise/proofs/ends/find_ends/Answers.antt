use Rattle.std.proofs.Common.{subst, Option}
use Rattle.plain_table.specs.Moments.{moment_of, geometry_of}
use Rattle.promise_model.specs.Lines.{sort_of}
use Rattle.plain_promise.specs.declared.ends.Passed.{Passed}
use Rattle.plain_promise.specs.Walks.{Passes}
use Rattle.plain_promise.proofs.Passing.{passed_on}
use Rattle.plain_promise.proofs.ends.find_ends.Goals as goal

pub loop-text-preserved : goal.loop-text-preserved
loop-text-preserved c =
    passed_on (geometry_of c.args.first) (moment_of c.args.first) c.args.script.now c.loop-text.at c.loop-text.number c.loop-text.passed c.loop-text.invariant c.in-Some.text.now c.in-Some.behind c.in-Some.ensures.some c.in-Some-2.more
    (subst (λ (o : Option Passed). Passes (sort_of c.in-Some.text.now) c.loop-text.passed o) c.in-Some-2.is c.in_ok-pass_line.ensures)
