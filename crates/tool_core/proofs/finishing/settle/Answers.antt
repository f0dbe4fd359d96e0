use Rattle.std.proofs.Common.{◌∙◌, ap, Err}
use Rattle.tool_core.specs.Filling.{unsettled_as}
use Rattle.tool_core.proofs.FillEnds.{settled_same, settled_changes, settled_files, settled_stops}
use Rattle.tool_core.proofs.Among.{unsettled_among, settled_apart}
use Rattle.tool_core.proofs.finishing.settle.Goals as goal

pub returns-in-Ok-clause-files : goal.returns-in-Ok-clause-files
returns-in-Ok-clause-files g c = λ h s ready. settled_files c.settle.ensures.settled c.settle.ensures.closed h s c.in-Ok.field-0 c.in-Ok.is ready

pub returns-in-Err-clause-same : goal.returns-in-Err-clause-same
returns-in-Err-clause-same g c = settled_same c.settle.ensures.settled c.settle.ensures.closed

pub returns-in-Err-clause-changes : goal.returns-in-Err-clause-changes
returns-in-Err-clause-changes g c = settled_changes c.settle.ensures.settled c.settle.ensures.closed

pub returns-in-Err-clause-stops : goal.returns-in-Err-clause-stops
returns-in-Err-clause-stops g c = λ h s ready. c.unsettled.ensures.ends ∙ ap unsettled_as (settled_stops c.settle.ensures.settled c.settle.ensures.closed h s c.in-Err.why c.in-Err.is ready)

pub returns-in-Err-clause-among : goal.returns-in-Err-clause-among
returns-in-Err-clause-among g c = rw c.unsettled.ensures.ends (unsettled_among c.in-Err.why (λ d is. settled_apart c.settle.ensures.settled c.settle.ensures.closed d (c.in-Err.is ∙ ap Err is)))
