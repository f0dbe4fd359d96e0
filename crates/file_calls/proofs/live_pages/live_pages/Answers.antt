use Rattle.std.proofs.Common.{refl, arith, ◌==◌}
use Rattle.flash_view.specs.Counts.{AreCounts}
use Rattle.flash_view.proofs.Looking.{looks_none, looks_then}
use Rattle.file_calls.proofs.Living.{living_start, living_more, living_end, living_kept, at_most_one}
use Rattle.file_calls.proofs.live_pages.live_pages.Goals as goal

pub loop-block-init : goal.loop-block-init
loop-block-init g c = record {
  looks = looks_none c.args.v.now;
  end = c.blocks-block-end.ensures;
  few_index = omega arith;
  few_pages = omega arith;
  few_free = omega arith;
  told = λ tells tidy. living_start c.args.v.now.geometry (g.N.NorState.bytes c.args.v.now.nor.now) _ _ tidy c.blocks-block-end.ensures refl refl refl;
}

pub loop-block-preserved : goal.loop-block-preserved
loop-block-preserved g c =
    let was = c.loop-block.invariant in
    let looked = c.in_ok-counts.ensures in
    let more = c.with_block-live.ensures in
    let geometry = c.args.v.now.geometry in
    let image = g.N.NorState.bytes c.args.v.now.nor.now in
    record {
      looks = looks_then was.looks looked.looks.only;
      end = was.end;
      few_index = more.few_index;
      few_pages = more.few_pages;
      few_free = let one = at_most_one (c.in_ok-counts.counts.free == c.entries-entries.result) in omega (arith, more.free, one, was.few_free);
      told = λ tells tidy.
          let counts : AreCounts geometry image c.loop-block.block c.in_ok-counts.counts = rw (was.looks.same.geometry, was.looks.reads.bytes) at (looked.looks.told (was.looks.reads.told tells)) in
          living_more geometry image c.loop-block.block _ c.loop-block.live _ c.in_ok-counts.counts tidy was.end c.loop-block-test.true (was.told tells tidy) counts more.index more.pages (rw c.entries-entries.ensures.count at more.free);
    }

pub returns-clause-told : goal.returns-clause-told
returns-clause-told g c = λ tells tidy. living_end c.args.v.now.geometry (g.N.NorState.bytes c.args.v.now.nor.now) c.loop-block.block _ _ c.loop-block-test.false (c.loop-block.invariant.told tells tidy)

pub returns-in-Some-clause-told : goal.returns-in-Some-clause-told
returns-in-Some-clause-told g c = λ tells tidy.
    living_kept c.args.v.now.geometry (g.N.NorState.bytes c.args.v.now.nor.now) c.in-Some.sums _ tidy (c.in-Some.ensures.told tells) c.from.ensures c.from-in-Some.ensures c.from-in-Some-2.ensures
