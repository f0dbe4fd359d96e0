use Rattle.block_gc.proofs.Chosen.{picked}
use Rattle.block_gc.proofs.next.choose.Goals as goal

pub returns-clause-told : goal.returns-clause-told
returns-clause-told g c = λ tells tidy. rw c.pick.ensures (picked c.args.v.now.geometry (g.N.NorState.bytes c.args.v.now.nor.now) c.in_ok-take_survey.field-0 (c.in_ok-take_survey.ensures.told tells tidy))
