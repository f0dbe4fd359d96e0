use Rattle.trim_laws.proofs.Wears.{programs_keep, fresh_wears, cuts_whole, others_keep, next_rises_with, fresh_above}
use Rattle.trim_laws.proofs.wearing.counts_are_kept.Goals as goal

pub returns-clause-programs : goal.returns-clause-programs
returns-clause-programs c = programs_keep

pub returns-clause-fresh : goal.returns-clause-fresh
returns-clause-fresh c = fresh_wears

pub returns-clause-whole : goal.returns-clause-whole
returns-clause-whole c = cuts_whole

pub returns-clause-others : goal.returns-clause-others
returns-clause-others c = others_keep

pub returns-clause-next : goal.returns-clause-next
returns-clause-next c = next_rises_with

pub returns-clause-above : goal.returns-clause-above
returns-clause-above c = fresh_above
