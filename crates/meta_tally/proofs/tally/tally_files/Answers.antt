use Rattle.std.proofs.Common.{sym, ◌∙◌}
use Rattle.meta_tally.proofs.Alike.{same_count}
use Rattle.meta_tally.proofs.Counting.{heads_pages}
use Rattle.meta_tally.proofs.tally.tally_files.Goals as goal

pub returns-clause-heads : goal.returns-clause-heads
returns-clause-heads c = λ h alike. c.mark_first-heads.ensures.count ∙ sym (same_count c.args.g.now h alike c.args.image.now) ∙ heads_pages h c.args.image.now
