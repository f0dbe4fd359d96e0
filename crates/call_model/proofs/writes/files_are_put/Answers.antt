use Rattle.call_model.proofs.Tables.{file_of-put, file_of-put_other}
use Rattle.call_model.proofs.Parts.{put_twice}
use Rattle.call_model.proofs.writes.files_are_put.Goals as goal

pub returns-clause-there : goal.returns-clause-there
returns-clause-there c = file_of-put

pub returns-clause-others : goal.returns-clause-others
returns-clause-others c = file_of-put_other

pub returns-clause-twice : goal.returns-clause-twice
returns-clause-twice c = put_twice
