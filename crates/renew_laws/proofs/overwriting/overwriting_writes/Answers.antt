use Rattle.renew_laws.proofs.Overwritten.{patched-is_written, nothing-written}
use Rattle.renew_laws.proofs.overwriting.overwriting_writes.Goals as goal

pub returns-clause-patched : goal.returns-clause-patched
returns-clause-patched c = patched-is_written

pub returns-clause-nothing : goal.returns-clause-nothing
returns-clause-nothing c = nothing-written
