use Rattle.tool_parts.proofs.Begun.{memory_begun}
use Rattle.tool_core.proofs.ScrubEnds.{scrubs_stopped, scrubs_checked}
use Rattle.tool_parts.proofs.Among.{begin_in_work}
use Rattle.tool_core.proofs.scrubbing.scrub_volume.Goals as goal

pub returns-in-Err-clause-scrubs : goal.returns-in-Err-clause-scrubs
returns-in-Err-clause-scrubs g c = λ slots closed. scrubs_stopped c.in-Err.ending c.begin.ensures.changes c.in-Err.ensures.stops

pub returns-in-Ok-clause-scrubs : goal.returns-in-Ok-clause-scrubs
returns-in-Ok-clause-scrubs g c = λ slots closed. scrubs_checked c.scrub_checked.result c.begin.new.volume.geometry c.begin.ensures.same.geometry c.begin.ensures.changes c.in-Ok.ensures.leaves (c.scrub_checked.ensures.scrubs slots (memory_begun c.args.volume.now c.begin.new.volume slots c.in-Ok.ensures.closed closed))

pub returns-in-Err-clause-among : goal.returns-in-Err-clause-among
returns-in-Err-clause-among g c = begin_in_work c.in-Err.ending c.in-Err.ensures.among
