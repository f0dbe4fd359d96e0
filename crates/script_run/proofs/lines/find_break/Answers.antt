use Rattle.script_run.proofs.FirstBreak.{break_found, no_break}
use Rattle.script_run.proofs.lines.find_break.Goals as goal

pub returns-clause-found : goal.returns-clause-found
returns-clause-found c = break_found c.args.bytes.now c.memchr.result c.memchr.ensures

pub returns-clause-none : goal.returns-clause-none
returns-clause-none c = no_break c.args.bytes.now c.memchr.result c.memchr.ensures
