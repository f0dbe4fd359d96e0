use Rattle.header_laws.proofs.Naming.{each_by_name}
use Rattle.header_laws.proofs.heads.files_go_by_name.Goals as goal

pub returns : goal.returns
returns c = each_by_name
