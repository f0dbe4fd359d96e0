use Rattle.std.proofs.Common.{◌≡◌, true, false}
use Rattle.image_model.specs.Places.{has_magic}
use Rattle.vol_check.specs.Used.{AreUses}
use Rattle.vol_check.proofs.TallySums.{uses_tally, spoiled_is_tally}
use Rattle.vol_check.proofs.tallies.block_tally.Goals as goal

pub returns-then-not-branch-clause-told : goal.returns-then-not-branch-clause-told
returns-then-not-branch-clause-told g c = λ tells owns marked.
    let lacks : has_magic c.args.v.now.geometry (g.N.NorState.bytes c.args.v.now.nor.now) c.args.block ≡ false = cc (c.in_ok-has_magic.ensures.told tells, c.if-not-branch.true) in
    rw c.spoiled_tally.ensures (spoiled_is_tally c.args.v.now.geometry (g.N.NorState.bytes c.args.v.now.nor.now) c.args.block c.requires.block lacks)

pub returns-clause-told : goal.returns-clause-told
returns-clause-told g c = λ tells owns marked.
    let geometry = c.args.v.now.geometry in
    let image = g.N.NorState.bytes c.args.v.now.nor.now in
    let seen = c.in_ok-has_magic.ensures in
    let has : has_magic geometry image c.args.block ≡ true = cc (seen.told tells, c.if-not-branch.false) in
    let read = rw (seen.looks.same.geometry, seen.looks.reads.bytes) at (c.in_ok-uses.ensures.told (seen.looks.reads.told tells)) in
    let uses : AreUses geometry image c.args.block c.in_ok-uses.uses = read owns has marked in
    rw (c.tally_of.ensures.value, c.entries.ensures.count, c.in_ok-uses.ensures.looks.same.geometry, seen.looks.same.geometry) (uses_tally geometry image c.args.block c.in_ok-uses.uses has uses)
