use Rattle.file_calls.specs.Replies.{shown_by}
use Rattle.vol_copy.proofs.asking.info_on.Goals as goal

pub returns-clause-went : goal.returns-clause-went
returns-clause-went g c = (shown_by c.call_at_rest.result c.call_at_rest.new.lent, c.call_at_rest.ensures, c.info_by.ensures c.call_at_rest.new.lent)
