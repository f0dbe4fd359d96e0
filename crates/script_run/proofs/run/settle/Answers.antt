use Rattle.std.proofs.Common.{sym, rules}
use Rattle.volume.specs.Stages.{takes_calls}
use Rattle.script_run.proofs.Settling.{takes_by, settles_run, settled_cause}
use Rattle.volume.proofs.RunSettling.{unmounts_open}
use Rattle.script_run.proofs.Among.{settled_among}
use Rattle.script_run.proofs.run.settle.Goals as goal

pub returns-in_default-clause-same : goal.returns-in_default-clause-same
returns-in_default-clause-same g c =
    let takes = takes_by c.args.ending (takes_calls c.args.volume.now) (search rules) (search rules) c.requires in
    (c.settle.ensures.settled takes).settles.same

pub returns-in_default-clause-cause : goal.returns-in_default-clause-cause
returns-in_default-clause-cause g c = λ is.
    let takes = takes_by c.args.ending (takes_calls c.args.volume.now) (search rules) (search rules) c.requires in
    settled_cause c.args.ending (c.settle.ensures.settled takes) (rw (sym c.settled_ending.ensures.ends) is)

pub returns-in_default-clause-settles : goal.returns-in_default-clause-settles
returns-in_default-clause-settles g c =
    let takes = takes_by c.args.ending (takes_calls c.args.volume.now) (search rules) (search rules) c.requires in
    rw c.settled_ending.ensures.ends (settles_run c.args.ending (search rules) (search rules) (c.settle.ensures.settled takes))

pub returns-in_default-clause-among : goal.returns-in_default-clause-among
returns-in_default-clause-among g c = λ may.
    let takes = takes_by c.args.ending (takes_calls c.args.volume.now) (search rules) (search rules) c.requires in
    let settled = unmounts_open c.settle.result takes (c.settle.ensures.settled takes) in
    rw c.settled_ending.ensures.ends (settled_among c.args.ending c.settle.result may settled.differs)
