use Rattle.std.proofs.Common.{ap}
use Rattle.table_model.specs.Reply.{Fine}
use Rattle.volume.specs.Replies.{told}
use Rattle.tool_core.proofs.MapSteps.{collects_to, collect_goes}
use Rattle.tool_core.proofs.Among.{collected_among}
use Rattle.tool_core.proofs.mapping.collect.Goals as goal

pub returns-clause-cause : goal.returns-clause-cause
returns-clause-cause g c = λ is. c.gc.ensures.cause (ap (told (λ done. Fine)) (c.collected.ensures.fault is))

pub returns-clause-taken : goal.returns-clause-taken
returns-clause-taken g c = rw c.collected.ensures.ends (collect_goes c.gc.result c.requires.takes c.gc.ensures)

pub returns-clause-collects : goal.returns-clause-collects
returns-clause-collects g c = λ slots. rw c.collected.ensures.ends (collects_to slots c.gc.result c.requires.takes c.gc.ensures)

pub returns-clause-among : goal.returns-clause-among
returns-clause-among g c = λ id. rw c.collected.ensures.ends (collected_among id c.gc.result c.gc.ensures.differs)
