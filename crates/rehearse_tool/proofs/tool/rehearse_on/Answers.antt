use Rattle.std.proofs.Common.{ℕ, subst}
use Rattle.tool_parts.specs.Lent.{lengths_of}
use Rattle.rehearse_tool.specs.Outcomes.{ComesTo}
use Rattle.rehearse_tool.proofs.Coming.{volume_with}
use Rattle.rehearse_tool.proofs.Rehearsed.{does_rehearse}
use Rattle.rehearse_tool.proofs.tool.rehearse_on.Goals as goal

pub returns-clause-does : goal.returns-clause-does
returns-clause-does g c =
    let nor = g.B.NorState in
    let source = g.S.Source in
    does_rehearse nor source c.args.g (lengths_of c.args.bufs.now) c.args.tables c.args.board.now c.perform-outcome.new.board c.say_outcome.new.board c.args.script.now c.perform-outcome.new.script
    c.perform-outcome.result c.say_outcome.result c.perform-outcome.ensures.only c.say_outcome.ensures c.perform-outcome.ensures.among
    (λ tells told. subst (λ (n : ℕ). ComesTo c.args.g c.args.tables (volume_with c.args.g (nor.bytes c.args.board.now) n) (nor.bytes c.args.board.now) (source.left c.args.script.now) c.perform-outcome.result)
    c.slots_of-slots.ensures (c.perform-outcome.ensures.comes tells told))
