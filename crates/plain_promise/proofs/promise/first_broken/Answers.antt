use Rattle.std.proofs.Common.{arith, map, Some, None}
use Rattle.plain_table.specs.Seen.{file}
use Rattle.plain_promise.proofs.Tables.{finds_here, finds_on, finds_end}
use Rattle.plain_promise.proofs.promise.first_broken.Goals as goal

pub returns-then-not-keeps : goal.returns-then-not-keeps
returns-then-not-keeps c =
    c.loop-p.invariant (Some c.p-item.result.line) (finds_here c.args.promises.now (map file c.args.files.now) c.loop-p.p-index c.p-item.result c.loop-p-test.true c.p-item.is
    (λ keeps. let yes = c.keeps.ensures.1 keeps in absurd (grind (arith, yes))))

pub loop-p-preserved : goal.loop-p-preserved
loop-p-preserved c =
    λ o rest. c.loop-p.invariant o (finds_on c.args.promises.now (map file c.args.files.now) c.loop-p.p-index c.p-item.result o c.loop-p-test.true c.p-item.is (c.keeps.ensures.0 c.if-not-keeps.false) rest)

pub returns : goal.returns
returns c = c.loop-p.invariant None (finds_end c.args.promises.now (map file c.args.files.now) c.loop-p.p-index (omega arith))
