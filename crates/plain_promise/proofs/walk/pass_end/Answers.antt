use Rattle.plain_promise.proofs.Over.{over_end}
use Rattle.plain_promise.proofs.walk.pass_end.Goals as goal

pub returns : goal.returns
returns c = over_end c.args.walk c.keep_lasting.new.given c.keep_lasting.ensures
