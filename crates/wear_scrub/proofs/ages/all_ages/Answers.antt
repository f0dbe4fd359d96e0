use Rattle.std.proofs.Common.{arith, rules, ◌∙◌}
use Rattle.geometry.specs.Numbers.{per_block, lookups, entries}
use Rattle.flash_view.proofs.Looking.{looks_then}
use Rattle.flash_view.specs.Counts.{AreCounts}
use Rattle.wear_scrub.proofs.Found.{aging_start, aging_more, aging_end, below_more, few_more}
use Rattle.wear_scrub.proofs.ages.all_ages.Goals as goal

pub loop-block-init : goal.loop-block-init
unfolding per_block lookups entries
loop-block-init g c =
    let first = c.in_ok-next.ensures in
    let same = first.looks.only.same.geometry in
    record {
      looks = first.looks.only;
      quick = λ counted. (first.quick counted).1;
      entries_is = c.entries-entries.ensures.count;
      end = c.blocks-block-end.ensures ∙ search rules;
      few = omega arith;
      below = tt;
      next_is = λ tells. first.looks.told tells;
      told = λ tells tidy. aging_start c.args.v.now.geometry (g.N.NorState.bytes c.args.v.now.nor.now) _ (c.blocks-block-end.ensures ∙ search rules);
    }

pub loop-block-preserved : goal.loop-block-preserved
loop-block-preserved g c =
    let was = c.loop-block.invariant in
    let looked = c.in_ok-c.ensures in
    let geometry = c.args.v.now.geometry in
    let image = g.N.NorState.bytes c.args.v.now.nor.now in
    record {
      looks = looks_then was.looks looked.looks.only;
      quick = λ counted. (looked.quick (was.looks.counted ∙ counted)).1 ∙ was.quick counted;
      entries_is = was.entries_is;
      end = was.end;
      few = rw c.with_block-found.ensures (few_more c.loop-block.found c.in_ok-c.c _ _ c.loop-block.block c.loop-block.block was.few);
      below = rw c.with_block-found.ensures (below_more geometry.blocks c.loop-block.found c.in_ok-c.c _ _ c.loop-block.block (omega (arith, was.end)) was.below);
      next_is = was.next_is;
      told = λ tells tidy.
          let counts : AreCounts geometry image c.loop-block.block c.in_ok-c.c = rw (was.looks.same.geometry, was.looks.reads.bytes) at (looked.looks.told (was.looks.reads.told tells)) in
          rw c.with_block-found.ensures (aging_more geometry image c.loop-block.block _ c.loop-block.found c.in_ok-c.c _ _ c.loop-block-test.true (omega (arith, was.end)) tidy counts was.entries_is (was.next_is tells) (was.told tells tidy));
    }

pub returns-clause-told : goal.returns-clause-told
returns-clause-told g c = λ tells tidy.
    let was = c.loop-block.invariant in
    aging_end c.args.v.now.geometry (g.N.NorState.bytes c.args.v.now.nor.now) c.loop-block.block _ _ (omega (arith, was.end)) c.loop-block-test.false (was.told tells tidy)
