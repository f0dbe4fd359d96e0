use Rattle.detect_tool.proofs.Fronts.{tidy_found, tidy_told}
use Rattle.detect_tool.proofs.Metas.{own_meta}
use Rattle.detect_tool.proofs.laws.tidy_volumes_are_found.Goals as goal

pub returns-clause-place : goal.returns-clause-place
returns-clause-place c = tidy_found

pub returns-clause-files : goal.returns-clause-files
returns-clause-files c = tidy_told

pub returns-clause-meta : goal.returns-clause-meta
returns-clause-meta c = own_meta
