use Rattle.image_laws.proofs.DeadEntries.{unused_flags-keep, dead_entry-keeps}
use Rattle.image_laws.proofs.killing.dead_keeps.Goals as goal

pub returns-clause-flags : goal.returns-clause-flags
returns-clause-flags c = unused_flags-keep

pub returns-clause-entry : goal.returns-clause-entry
returns-clause-entry c = dead_entry-keeps
