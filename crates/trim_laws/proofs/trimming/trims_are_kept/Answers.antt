use Rattle.trim_laws.proofs.Trims.{put_trims, kill_trims, inside_trims, flags_trim}
use Rattle.trim_laws.proofs.trimming.trims_are_kept.Goals as goal

pub returns-clause-put : goal.returns-clause-put
returns-clause-put c = put_trims

pub returns-clause-kill : goal.returns-clause-kill
returns-clause-kill c = kill_trims

pub returns-clause-inside : goal.returns-clause-inside
returns-clause-inside c = inside_trims

pub returns-clause-flags : goal.returns-clause-flags
returns-clause-flags c = flags_trim
