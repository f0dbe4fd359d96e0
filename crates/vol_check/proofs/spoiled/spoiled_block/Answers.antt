use Rattle.std.proofs.Common.{◌≡◌, not, false, true, refl, ℕ}
use Rattle.image_model.specs.Places.{has_magic}
use Rattle.flash_view.proofs.Looking.{looks_then}
use Rattle.flash_view.proofs.Finds.{find_here, find_later}
use Rattle.vol_check.proofs.spoiled.spoiled_block.Goals as goal

pub returns-then-not-branch-clause-told : goal.returns-then-not-branch-clause-told
returns-then-not-branch-clause-told g c = λ tells.
    let was = c.loop-block.invariant in
    let geometry = c.args.v.now.geometry in
    let image = g.N.NorState.bytes c.args.v.now.nor.now in
    let lacks : has_magic geometry image c.loop-block.block ≡ false = cc (c.in_ok-has_magic.ensures.told (was.looks.reads.told tells), was.looks.reads.bytes, was.looks.same.geometry, c.if-not-branch.true) in
    find_here (λ (b : ℕ). not (has_magic geometry image b)) c.loop-block.block _ _ c.loop-block-test.true (was.told tells) (rw lacks refl)

pub loop-block-preserved : goal.loop-block-preserved
loop-block-preserved g c =
    let was = c.loop-block.invariant in
    let looked = c.in_ok-has_magic.ensures in
    record {
      looks = looks_then was.looks looked.looks;
      end = was.end;
      told = λ tells.
          let geometry = c.args.v.now.geometry in
          let image = g.N.NorState.bytes c.args.v.now.nor.now in
          let has : has_magic geometry image c.loop-block.block ≡ true = cc (looked.told (was.looks.reads.told tells), was.looks.reads.bytes, was.looks.same.geometry, c.if-not-branch.false) in
          find_later (λ (b : ℕ). not (has_magic geometry image b)) c.loop-block.block _ _ c.loop-block-test.true (was.told tells) (rw has refl);
    }
