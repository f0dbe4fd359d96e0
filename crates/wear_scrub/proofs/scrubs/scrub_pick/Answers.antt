use Rattle.std.proofs.Common.{◌+◌}
use Rattle.wear_scrub.specs.Victims.{IsOldestOf}
use Rattle.wear_scrub.proofs.Found.{picked, inside}
use Rattle.wear_scrub.proofs.scrubs.scrub_pick.Goals as goal

pub returns-clause-told : goal.returns-clause-told
returns-clause-told g c = λ tells tidy.
    let first = c.in_ok-found.ensures in
    let geometry = c.args.v.now.geometry in
    let image = g.N.NorState.bytes c.args.v.now.nor.now in
    let told = rw (first.looks.same.geometry, first.looks.reads.bytes) at (c.in_ok-oldest.ensures.told (first.looks.reads.told tells)) in
    let oldest : IsOldestOf geometry image (c.in_ok-found.found.young + c.args.limit) geometry.blocks c.in_ok-oldest.oldest = rw c.least_age.ensures at (told tidy) in
    rw c.pick.ensures (picked geometry image c.in_ok-found.found c.args.limit c.in_ok-oldest.oldest tidy (first.told tells tidy) oldest)

pub returns-clause-below : goal.returns-clause-below
returns-clause-below g c = rw c.pick.ensures (inside c.args.v.now.geometry.blocks c.in_ok-found.found c.args.limit c.in_ok-oldest.oldest (rw c.in_ok-found.ensures.looks.same.geometry at c.in_ok-oldest.ensures.below))
