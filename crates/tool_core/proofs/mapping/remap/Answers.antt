use Rattle.std.proofs.Common.{sym}
use Rattle.tool_core.proofs.MapSteps.{maps_still, maps_not, maps_again}
use Rattle.tool_core.proofs.mapping.remap.Goals as goal

pub returns-then-volume-clause-maps : goal.returns-then-volume-clause-maps
returns-then-volume-clause-maps g c = λ slots. maps_still slots c.args.id c.if-volume.true

pub returns-in-None-clause-maps : goal.returns-in-None-clause-maps
returns-in-None-clause-maps g c = λ slots. maps_not slots c.args.id _ c.detach_map.ensures.device (sym c.in-None.ensures.given)

pub returns-in-Some-clause-maps : goal.returns-in-Some-clause-maps
returns-in-Some-clause-maps g c = λ slots. maps_again slots c.args.id _ c.attach.result c.detach_map.ensures.device c.detach_map.ensures.memory c.detach_map.ensures.same.geometry c.in-Some.ensures.size (c.attach.ensures.attaches slots)
