use Rattle.std.proofs.Common.{arith}
use Rattle.plain_promise.proofs.Linewise.{lines_none, line_ended, line_unended}
use Rattle.plain_promise.proofs.lines.next_line.Goals as goal

pub returns-then-at-script-clause-none : goal.returns-then-at-script-clause-none
returns-then-at-script-clause-none c = lines_none c.args.script.now c.args.at (omega arith)

pub returns-then-end-script-clause-some : goal.returns-then-end-script-clause-some
returns-then-end-script-clause-some c =
    let e = c.break_from-end.ensures in
    line_ended c.args.script.now c.args.at c.break_from-end.result e.from e.within e.none (omega arith) (e.found (omega arith))

pub returns-else-end-script-clause-some : goal.returns-else-end-script-clause-some
returns-else-end-script-clause-some c =
    let e = c.break_from-end.ensures in
    line_unended c.args.script.now c.args.at c.break_from-end.result e.from e.within e.none (omega arith) (omega arith)
