use Rattle.std.proofs.Common.{◌∙◌, sym}
use Rattle.plain_explain.proofs.Texts.{worth_unfit}
use Rattle.plain_explain.proofs.report.push_worth.Goals as goal

pub returns-then-is_unfit : goal.returns-then-is_unfit
returns-then-is_unfit c = rw (worth_unfit c.args.g.now c.args.image.now c.args.block (sym c.is_unfit.ensures ∙ c.if-is_unfit.true)) c.writeln.ensures.bytes
