use Rattle.table_model.specs.Ask.{asked}
use Rattle.file_calls.specs.Replies.{shown_by}
use Rattle.volume_run.proofs.AtRest.{rested}
use Rattle.volume_run.proofs.resting.call_at_rest.Goals as goal

pub returns : goal.returns
returns g c = rested {old = c.args.volume.now} {new = c.answer.new.self} {ask = asked c.args.call.now} {reply = shown_by c.answer.result c.answer.new.into} c.answer.ensures
