use Rattle.std.proofs.Common.{◌≡◌, ◌+◌, ◌-◌, ◌≤◌, length, arith, rules}
use Rattle.std.proofs.lemmas.Grind.{common_steps}
use Rattle.std.specs.Prelude.{IfOk}
use Rattle.script_run.proofs.Pieces.{read_took}
use Rattle.trace_tool.proofs.copying.read_behind.Goals as goal

pub returns-clause-took : goal.returns-clause-took
returns-clause-took g c = λ tells.
    let size : length c.read.new.into ≡ c.args.most = grind (arith, common_steps) in
    let within : IfOk c.read.result (λ n. n ≤ c.args.most) = search rules in
    read_took c.read.result (c.args.end + c.args.most - c.args.end) c.args.text.now c.read.new.into (g.S.Source.left c.args.script.now) (g.S.Source.left c.read.new.self) c.args.end c.args.most (omega arith) size within (c.read.ensures.took tells)
