use Rattle.std.proofs.Common.{arith, rules, refl, ◌∙◌}
use Rattle.flash_view.proofs.Looking.{looks_none, looks_then}
use Rattle.block_gc.proofs.Chosen.{besting_start, besting_more, besting_end}
use Rattle.block_gc.proofs.choice.all_bests.Goals as goal

pub loop-block-init : goal.loop-block-init
loop-block-init g c = record {
  looks = looks_none c.args.v.now;
  quick = λ counted. refl;
  end = c.blocks-block-end.ensures;
  below = search rules;
  told = λ tells tidy totals next. besting_start c.args.v.now.geometry (g.N.NorState.bytes c.args.v.now.nor.now) _ c.blocks-block-end.ensures;
}

pub loop-block-preserved : goal.loop-block-preserved
loop-block-preserved g c =
    let was = c.loop-block.invariant in
    let looked = c.in_ok-bests.ensures in
    let geometry = c.args.v.now.geometry in
    let image = g.N.NorState.bytes c.args.v.now.nor.now in
    record {
      looks = looks_then was.looks looked.looks;
      quick = λ counted. (looked.quick (was.looks.counted ∙ counted)).1 ∙ was.quick counted;
      end = was.end;
      below = rw was.looks.same.geometry at looked.below;
      told = λ tells tidy totals next.
          let before = rw (was.looks.same.geometry, was.looks.reads.bytes) at (looked.told (was.looks.reads.told tells)) in
          rw (before tidy totals next) (besting_more geometry image c.loop-block.block _ c.loop-block.bests c.loop-block-test.true (was.told tells tidy totals next));
    }

pub with_block-requires-clause-block : goal.with_block-requires-clause-block
with_block-requires-clause-block g c = let same = c.loop-block.invariant.looks.same.geometry in rw same (omega (arith, c.loop-block.invariant.end))

pub with_block-requires-clause-below : goal.with_block-requires-clause-below
with_block-requires-clause-below g c = rw c.loop-block.invariant.looks.same.geometry c.loop-block.invariant.below

pub returns-clause-told : goal.returns-clause-told
returns-clause-told g c = λ tells tidy totals next.
    let was = c.loop-block.invariant in
    besting_end c.args.v.now.geometry (g.N.NorState.bytes c.args.v.now.nor.now) c.loop-block.block _ _ (omega (arith, was.end)) c.loop-block-test.false (was.told tells tidy totals next)
