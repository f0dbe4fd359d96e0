use Rattle.tool_core.proofs.ScrubTurns.{turn_ok, turn_err}
use Rattle.std.proofs.Common.{◌∙◌, ap, Err}
use Rattle.tool_core.proofs.Among.{unsettled_among}
use Rattle.tool_core.proofs.scrubbing.scrub_turn.Goals as goal

pub returns-in-Ok-clause-makes : goal.returns-in-Ok-clause-makes
returns-in-Ok-clause-makes g c = λ slots closed. turn_ok slots c.in-Ok.scrub c.in-Ok.is c.requires.takes c.scrub.ensures closed

pub returns-in-Err-clause-makes : goal.returns-in-Err-clause-makes
returns-in-Err-clause-makes g c = λ slots closed. rw c.unsettled.ensures.ends (turn_err slots c.in-Err.why c.in-Err.is c.requires.takes c.scrub.ensures closed)

pub returns-in-Err-clause-among : goal.returns-in-Err-clause-among
returns-in-Err-clause-among g c = rw c.unsettled.ensures.ends (unsettled_among c.in-Err.why (λ d is. c.scrub.ensures.differs d (c.in-Err.is ∙ ap Err is)))
