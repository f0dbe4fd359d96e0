-- Endings that a run may have.
use Rattle.std.proofs.Common.{◌≡◌, ◌≢◌, refl, Result, Ok, Err}
use Rattle.table_model.specs.declared.error.FsErr.{FsErr}
use Rattle.table_model.specs.declared.error.FsErr.TheVariants.{Damaged, Tight as TooTight}
use Rattle.table_model.specs.declared.error.Differ.{Differ}
use Rattle.tool_parts.specs.declared.ending.Ending.{Ending}
use Rattle.tool_parts.specs.declared.ending.Ending.TheVariants.{NotAFs, Mixed, BoardFault, Tight, Differ as EndsDiffer}
use Rattle.tool_parts.specs.Among.{MayEndBegin}
use Rattle.script_run.specs.Among.{MayEndRun}
use Rattle.script_run.specs.Settling.{settled_as}

-- that of a volume that isn't worked on
pub begin_in_run : (ending : Ending) → MayEndBegin ending → MayEndRun ending
begin_in_run (NotAFs spoiled) may = may
begin_in_run (Mixed blocks) may = may
begin_in_run BoardFault may = may
begin_in_run (Tight free) may = may
begin_in_run (EndsDiffer differ) may = may
begin_in_run _ may = absurd may

-- that of one that was settled in the end
pub settled_among : (ending : Ending) (last : Result (Unit {0}) FsErr) → MayEndRun ending → ((d : Differ) → last ≡ Err (Damaged d) → d.wanted ≢ d.found) →
    MayEndRun (settled_as ending last)
settled_among ending (Ok done) may apart = may
settled_among ending (Err (Damaged d)) may apart = apart d refl
settled_among ending (Err TooTight) may apart = tt {0}
settled_among ending (Err _) may apart = tt {0}
