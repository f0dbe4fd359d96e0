use Rattle.std.proofs.Common.{◌≡◌, true, false, arith, zero-add, refl, ◌∙◌}
use Rattle.image_model.specs.Tidy.{is_free_block, free_blocks}
use Rattle.flash_view.proofs.Looking.{looks_none, looks_then}
use Rattle.flash_view.proofs.Telling.{looked}
use Rattle.free_search.proofs.Scans.{count_start, count_yes, count_no, count_end}
use Rattle.free_search.proofs.Summed.{free_most}
use Rattle.free_search.proofs.blocks.free_blocks.Goals as goal
use Rattle.free_search.proofs.blocks.free_blocks.Goals.{then-branch, else-branch}

pub loop-block-init : goal.loop-block-init
unfolding free_blocks
loop-block-init g c = record {
  looks = looks_none c.args.v.now;
  quick = λ counted. refl;
  end = c.blocks-block-end.ensures;
  few = omega arith;
  told = λ tells frees. rw c.blocks-block-end.ensures (count_start (λ b. is_free_block c.args.v.now.geometry (g.N.NorState.bytes c.args.v.now.nor.now) b) 0 c.args.v.now.geometry.blocks);
}

pub loop-block-preserved : goal.loop-block-preserved
loop-block-preserved g c =
    let was = c.loop-block.invariant in
    let here = c.in_ok-is_free_block.ensures in
    let geometry = c.args.v.now.geometry in
    let image = g.N.NorState.bytes c.args.v.now.nor.now in
    elim c.if-branch.branch [
      | then-branch w ↦ record {
        looks = looks_then was.looks here.looks.only;
        quick = λ counted. (here.quick (was.looks.counted ∙ counted)).1 ∙ was.quick counted;
        end = was.end;
        few = omega (arith, was.few, w.free-is);
        told = λ tells frees.
            let passes : is_free_block geometry image c.loop-block.block ≡ true = cc (here.looks.told (was.looks.reads.told tells) (rw (was.looks.same.geometry, was.looks.reads.bytes) frees), was.looks.reads.bytes, was.looks.same.geometry, w.if-branch.true) in
            rw w.free-is (count_yes (λ b. is_free_block geometry image b) 0 _ c.loop-block.block _ _ _ c.loop-block-test.true (was.told tells frees) (zero-add c.loop-block.block) passes);
      }
      | else-branch w ↦ record {
        looks = looks_then was.looks here.looks.only;
        quick = λ counted. (here.quick (was.looks.counted ∙ counted)).1 ∙ was.quick counted;
        end = was.end;
        few = omega (arith, was.few, w.free-is);
        told = λ tells frees.
            let fails : is_free_block geometry image c.loop-block.block ≡ false = cc (here.looks.told (was.looks.reads.told tells) (rw (was.looks.same.geometry, was.looks.reads.bytes) frees), was.looks.reads.bytes, was.looks.same.geometry, w.if-branch.false) in
            rw w.free-is (count_no (λ b. is_free_block geometry image b) 0 _ c.loop-block.block _ _ _ c.loop-block-test.true (was.told tells frees) (zero-add c.loop-block.block) fails);
      }
    ]

pub returns-clause-looks : goal.returns-clause-looks
returns-clause-looks g c = looked c.loop-block.invariant.looks (λ tells frees.
    let was = c.loop-block.invariant in
    count_end (λ b. is_free_block c.args.v.now.geometry (g.N.NorState.bytes c.args.v.now.nor.now) b) 0 _ c.loop-block.block _ _ c.loop-block-test.false (was.told tells frees))

pub returns-in-Some-clause-looks : goal.returns-in-Some-clause-looks
returns-in-Some-clause-looks g c = looked (looks_none c.args.v.now) (λ tells frees.
    let sums = c.in-Some.ensures.told tells in
    let most = free_most c.args.v.now.geometry (g.N.NorState.bytes c.args.v.now.nor.now) in
    omega (arith, sums.blocks, most, c.min.ensures, c.from.ensures, c.blocks-in-Some.ensures))
