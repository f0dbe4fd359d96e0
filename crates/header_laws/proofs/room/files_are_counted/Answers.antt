use Rattle.header_laws.proofs.HeadCount.{file-count}
use Rattle.header_laws.proofs.room.files_are_counted.Goals as goal

pub returns : goal.returns
returns c = file-count
