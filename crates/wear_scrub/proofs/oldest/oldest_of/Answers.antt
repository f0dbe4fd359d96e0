use Rattle.std.proofs.Common.{arith, rules, ◌∙◌}
use Rattle.flash_view.proofs.Looking.{looks_then}
use Rattle.wear_scrub.proofs.Victims.{oldest_none, oldest_more, oldest_end}
use Rattle.wear_scrub.proofs.oldest.oldest_of.Goals as goal

pub loop-block-init : goal.loop-block-init
loop-block-init g c =
    let first = c.in_ok-next.ensures in
    let same = first.looks.only.same.geometry in
    record {
      looks = first.looks.only;
      quick = λ counted. (first.quick counted).1;
      end = c.blocks-block-end.ensures ∙ search rules;
      below = tt;
      next_is = λ tells. first.looks.told tells;
      told = λ tells tidy. oldest_none c.args.v.now.geometry (g.N.NorState.bytes c.args.v.now.nor.now) c.args.least;
    }

pub loop-block-preserved : goal.loop-block-preserved
loop-block-preserved g c =
    let was = c.loop-block.invariant in
    let looked = c.in_ok-oldest.ensures in
    let geometry = c.args.v.now.geometry in
    let image = g.N.NorState.bytes c.args.v.now.nor.now in
    record {
      looks = looks_then was.looks looked.looks;
      quick = λ counted. (looked.quick (was.looks.counted ∙ counted)).1 ∙ was.quick counted;
      end = was.end;
      below = rw was.looks.same.geometry at looked.below;
      next_is = was.next_is;
      told = λ tells tidy.
          let turns = rw (was.looks.same.geometry, was.looks.reads.bytes) at (looked.told (was.looks.reads.told tells)) in
          oldest_more geometry image c.args.least c.loop-block.block _ _ (was.told tells tidy) (turns tidy (was.next_is tells));
    }

pub with_rival-requires-clause-block : goal.with_rival-requires-clause-block
with_rival-requires-clause-block g c = let same = c.loop-block.invariant.looks.same.geometry in rw same (omega (arith, c.loop-block.invariant.end))

pub with_rival-requires-clause-below : goal.with_rival-requires-clause-below
with_rival-requires-clause-below g c = rw c.loop-block.invariant.looks.same.geometry c.loop-block.invariant.below

pub returns-clause-told : goal.returns-clause-told
returns-clause-told g c = λ tells tidy.
    let was = c.loop-block.invariant in
    oldest_end c.args.v.now.geometry (g.N.NorState.bytes c.args.v.now.nor.now) c.args.least c.loop-block.block _ (omega (arith, was.end)) (was.told tells tidy)
