use Rattle.header_laws.proofs.Telling.{found-by_id, each-by_id}
use Rattle.header_laws.proofs.heads.files_go_by_id.Goals as goal

pub returns-clause-found : goal.returns-clause-found
returns-clause-found c = found-by_id

pub returns-clause-each : goal.returns-clause-each
returns-clause-each c = each-by_id
