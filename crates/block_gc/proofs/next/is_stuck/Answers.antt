use Rattle.block_gc.proofs.Chosen.{stuck_is}
use Rattle.block_gc.proofs.next.is_stuck.Goals as goal

pub returns-clause-told : goal.returns-clause-told
returns-clause-told g c = λ tells tidy. rw c.is_stuck_by.ensures (stuck_is c.args.v.now.geometry (g.N.NorState.bytes c.args.v.now.nor.now) c.in_ok-found.found (c.in_ok-found.ensures.told tells tidy))
