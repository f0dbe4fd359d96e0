use Rattle.std.proofs.Common.{length, arith}
use Rattle.std.proofs.lemmas.Slice.{between_to_end}
use Rattle.file_find.specs.Ids.{is_noted}
use Rattle.file_find.proofs.ids.is_noted.Goals as goal

pub returns : goal.returns
unfolding is_noted
returns c = rw (between_to_end c.args.marks.now c.args.start (length c.args.marks.now) (omega arith)) at c.is_noted.ensures
