use Rattle.std.proofs.Common.{ℕ, length, ap, ◌∙◌}
use Rattle.volume.specs.MapReads.{why_back}
use Rattle.tool_core.proofs.MapSteps.{attaches_ok, attaches_err, attaches_on, attaches_fault}
use Rattle.tool_core.proofs.Among.{unmapped_among}
use Rattle.tool_core.proofs.mapping.attach.Goals as goal

pub returns-in-Ok-clause-taken : goal.returns-in-Ok-clause-taken
returns-in-Ok-clause-taken g c = attaches_on _ 0 _ c.in-Ok.field-0 c.in-Ok.is c.requires.takes c.attach_map_of.ensures

pub returns-in-Ok-clause-attaches : goal.returns-in-Ok-clause-attaches
returns-in-Ok-clause-attaches g c = λ slots. attaches_ok slots c.args.id _ c.in-Ok.field-0 c.in-Ok.is c.requires.takes c.attach_map_of.ensures

pub returns-in-Err-clause-attaches : goal.returns-in-Err-clause-attaches
returns-in-Err-clause-attaches g c = λ slots. attaches_err slots c.args.id _ c.in-Err.refusal _ c.in-Err.is c.unmapped.ensures.ends c.requires.takes c.requires.free c.attach_map_of.ensures

pub returns-in-Err-clause-cause : goal.returns-in-Err-clause-cause
returns-in-Err-clause-cause g c = λ is. attaches_fault _ 0 _ c.in-Err.refusal c.in-Err.is (c.unmapped.ensures.fault cc) c.attach_map_of.ensures

pub returns-in-Err-clause-among : goal.returns-in-Err-clause-among
returns-in-Err-clause-among g c = rw c.unmapped.ensures.ends (unmapped_among c.args.id c.in-Err.refusal.why (λ d is. c.attach_map_of.ensures.differs d (ap why_back c.in-Err.is ∙ is)))
