use Rattle.plain_promise.proofs.Over.{over_blank, over_bad_call, over_bad_promise}
use Rattle.plain_promise.proofs.walk.pass_blank.Goals as goal

pub returns-clause-blank : goal.returns-clause-blank
returns-clause-blank c = over_blank c.args.walk

pub returns-clause-bad_call : goal.returns-clause-bad_call
returns-clause-bad_call c = over_bad_call c.args.walk

pub returns-clause-bad_promise : goal.returns-clause-bad_promise
returns-clause-bad_promise c = over_bad_promise c.args.walk
