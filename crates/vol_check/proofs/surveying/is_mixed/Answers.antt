use Rattle.vol_check.proofs.TallySums.{mixed_beside, mixed_alone}
use Rattle.vol_check.proofs.surveying.is_mixed.Goals as goal

pub returns-then-counts-gt0-clause-told : goal.returns-then-counts-gt0-clause-told
returns-then-counts-gt0-clause-told g c = λ tells.
    mixed_beside c.args.v.now.geometry (g.N.NorState.bytes c.args.v.now.nor.now) c.args.block c.in_ok-counts.counts (c.in_ok-counts.ensures.looks.told tells) c.if-counts-gt0.true

pub returns-else-counts-gt0-clause-told : goal.returns-else-counts-gt0-clause-told
returns-else-counts-gt0-clause-told g c = λ tells.
    mixed_alone c.args.v.now.geometry (g.N.NorState.bytes c.args.v.now.nor.now) c.args.block c.in_ok-counts.counts (c.in_ok-counts.ensures.looks.told tells) c.if-counts-gt0.false
