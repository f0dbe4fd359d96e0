use Rattle.plain_explain.proofs.Tidiness.{tidy_told}
use Rattle.plain_explain.proofs.report.tidiness.Goals as goal

pub returns-clause-value : goal.returns-clause-value
returns-clause-value c = tidy_told c.args.g.now c.args.image.now c.in_ok-tidy.tidy c.in_ok-tidy.ensures
