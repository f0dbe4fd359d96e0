use Rattle.header_laws.proofs.Telling.{head-tells, files-have_heads, one-head}
use Rattle.header_laws.proofs.heads.files_are_told.Goals as goal

pub returns-clause-tells : goal.returns-clause-tells
returns-clause-tells c = head-tells

pub returns-clause-all : goal.returns-clause-all
returns-clause-all c = files-have_heads

pub returns-clause-one : goal.returns-clause-one
returns-clause-one c = one-head
