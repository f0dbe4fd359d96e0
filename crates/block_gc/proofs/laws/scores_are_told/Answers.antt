use Rattle.block_gc.proofs.Judged.{score_is}
use Rattle.block_gc.proofs.laws.scores_are_told.Goals as goal

pub returns : goal.returns
returns c = λ h image block next counts are is. score_is h image block next counts are is
