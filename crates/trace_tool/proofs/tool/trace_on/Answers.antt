use Rattle.tool_parts.specs.Lent.{lengths_of}
use Rattle.trace_tool.proofs.Tracing.{traces_to}
use Rattle.trace_tool.proofs.tool.trace_on.Goals as goal

pub returns-clause-traces : goal.returns-clause-traces
returns-clause-traces g c =
    traces_to g.B.NorState g.S.Source c.args.g.now (lengths_of c.args.bufs.now) c.args.board.now c.trace-ending.new.board c.args.script.now c.trace-ending.new.script
    c.trace-ending.result.ending c.trace-ending.result.run c.trace-ending.ensures.why c.say_ending.new.board c.say_ending.result c.trace-ending.ensures.reads c.say_ending.ensures
