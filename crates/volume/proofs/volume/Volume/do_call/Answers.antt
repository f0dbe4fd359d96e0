use Rattle.table_model.specs.Ask.{asked}
use Rattle.file_calls.specs.Replies.{shown_by}
use Rattle.volume.proofs.Calling.{nothing_had, calls_by, calls_stopped}
use Rattle.volume.proofs.volume.Volume.do_call.Goals as goal

pub do_settled-requires-clause-was : goal.do_settled-requires-clause-was
do_settled-requires-clause-was g c = nothing_had c.in-Ok.had (rw c.in-Ok.is at c.begin.ensures.settles)

pub returns-in-Err : goal.returns-in-Err
returns-in-Err g c = calls_stopped (asked c.args.call.now) c.in-Err.why c.requires.takes c.requires.leaves c.requires.apart (rw c.in-Err.is at c.begin.ensures.settles) c.begin.ensures.room c.begin.ensures.map

pub returns-in-Ok : goal.returns-in-Ok
returns-in-Ok g c = calls_by (asked c.args.call.now) c.in-Ok.had (shown_by c.do_settled.result c.do_settled.new.into) c.requires.takes c.requires.leaves c.requires.apart (rw c.in-Ok.is at c.begin.ensures.settles) c.do_settled.ensures.same c.do_settled.ensures.acts c.begin.ensures.room c.begin.ensures.map c.do_settled.ensures.map
