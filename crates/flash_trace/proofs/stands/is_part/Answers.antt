use Rattle.std.proofs.Common.{arith}
use Rattle.run_model.specs.Runs.{IsPart}
use Rattle.flash_trace.proofs.Testing.{told_no, part_told, not_part}
use Rattle.flash_trace.proofs.stands.is_part.Goals as goal

pub returns-then-said-line : goal.returns-then-said-line
returns-then-said-line c = told_no (IsPart c.args.said.now c.args.line.now) (not_part c.args.said.now c.args.line.now (omega arith))

pub returns : goal.returns
returns c = part_told c.args.said.now c.args.line.now _ c.begins_with.ensures.yes c.begins_with.ensures.no (omega arith)
