use Rattle.std.proofs.Common.{◌≡◌, ℕ, refl, true, false, Bool, not, arith}
use Rattle.std.proofs.Math.Nat.{sub-zero}
use Rattle.image_model.specs.Places.{has_magic}
use Rattle.image_model.specs.Kinds.{spoiled_blocks}
use Rattle.flash_view.proofs.Looking.{looks_none, looks_then}
use Rattle.vol_mount.proofs.Counting.{count_here, count_later}
use Rattle.vol_mount.proofs.mounting.spoiled_blocks.Goals as goal
use Rattle.vol_mount.proofs.mounting.spoiled_blocks.Goals.{then-not-branch, else-not-branch}

pub loop-block-init : goal.loop-block-init
unfolding spoiled_blocks
loop-block-init g c = record {
  looks = looks_none c.args.v.now;
  end = c.blocks-block-end.ensures;
  few = omega arith;
  told = λ tells. rw (sub-zero c.blocks-block-end.result, c.blocks-block-end.ensures) (omega arith);
}

pub loop-block-preserved : goal.loop-block-preserved
loop-block-preserved g c =
    let was = c.loop-block.invariant in
    let looked = c.in_ok-has_magic.ensures in
    record {
      looks = looks_then was.looks looked.looks;
      end = was.end;
      few = elim c.if-not-branch.branch [ then-not-branch w ↦ omega (arith, w.spoiled-is, was.few) | else-not-branch w ↦ omega (arith, w.spoiled-is, was.few) ];
      told = λ tells.
          let turn = looked.told (was.looks.reads.told tells) in
          let view = c.args.v.now in
          let image = g.N.NorState.bytes view.nor.now in
          let test : ℕ → Bool = λ block. not (has_magic view.geometry image block) in
          let has : c.in_ok-has_magic.field-0 ≡ has_magic view.geometry image c.loop-block.block = cc (turn, was.looks.reads.bytes, was.looks.same.geometry) in
          elim c.if-not-branch.branch [
            | then-not-branch w ↦ let passes : test c.loop-block.block ≡ true = rw (← has) (rw w.if-not-branch.true refl) in
                rw w.spoiled-is (count_here test _ _ _ _ c.loop-block-test.true (was.told tells) passes)
            | else-not-branch w ↦ let fails : test c.loop-block.block ≡ false = rw (← has) (rw w.if-not-branch.false refl) in
                rw w.spoiled-is (count_later test _ _ _ _ c.loop-block-test.true (was.told tells) fails)
          ];
    }
