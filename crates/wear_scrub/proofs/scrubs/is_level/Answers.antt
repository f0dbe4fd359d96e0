use Rattle.wear_scrub.proofs.Found.{level_told}
use Rattle.wear_scrub.proofs.scrubs.is_level.Goals as goal

pub returns-clause-told : goal.returns-clause-told
returns-clause-told g c = λ tells tidy. rw c.none_is_old.ensures (level_told c.args.v.now.geometry (g.N.NorState.bytes c.args.v.now.nor.now) c.in_ok-all_ages.field-0 c.args.limit (c.in_ok-all_ages.ensures.told tells tidy))
