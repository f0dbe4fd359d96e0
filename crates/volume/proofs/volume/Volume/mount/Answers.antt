use Rattle.std.proofs.Common.{List, ℕ, sym, subst}
use Rattle.image_model.specs.Sound.{HasMagics}
use Rattle.volume.proofs.Magics.{few_spoiled}
use Rattle.volume.proofs.volume.Volume.mount.Goals as goal

pub invariant_of-self-2-clause-magics : goal.invariant_of-self-2-clause-magics
invariant_of-self-2-clause-magics g c = λ mounted tells.
    let looks = c.mount_on.ensures.looks in
    let before = looks.told_before tells in
    subst (λ (a : List ℕ). HasMagics c.args.self.now.geometry a) (sym looks.bytes) (few_spoiled c.args.self.now.geometry (g.N.NorState.bytes c.args.self.now.nor.now) (c.in_ok-mount_on.ensures.told before))
