use Rattle.std.proofs.Common.{arith, rules}
use Rattle.geometry.specs.Numbers.{per_block, lookups, entries}
use Rattle.flash_view.proofs.Looking.{looks_none, looks_then}
use Rattle.flash_view.specs.Counts.{AreCounts}
use Rattle.file_calls.proofs.Spaces.{adding_start, adding_more, adding_end, within_more, within_below}
use Rattle.file_calls.proofs.space.space_of.Goals as goal

pub loop-block-init : goal.loop-block-init
unfolding per_block lookups entries
loop-block-init g c = record {
  looks = looks_none c.args.v.now;
  entries_is = c.entries-entries.ensures.count;
  end = c.blocks-block-end.ensures;
  few = search rules;
  told = λ tells tidy. adding_start c.args.v.now.geometry (g.N.NorState.bytes c.args.v.now.nor.now) _ c.blocks-block-end.ensures;
}

pub loop-block-preserved : goal.loop-block-preserved
loop-block-preserved g c =
    let was = c.loop-block.invariant in
    let looked = c.in_ok-own.ensures in
    let counted = c.in_ok-own.own in
    let geometry = c.args.v.now.geometry in
    let image = g.N.NorState.bytes c.args.v.now.nor.now in
    record {
      looks = looks_then was.looks looked.looks.only;
      entries_is = was.entries_is;
      end = was.end;
      few = rw c.with_block-space.ensures (within_more c.loop-block.block _ c.loop-block.space counted (omega arith) (omega arith) was.few);
      told = λ tells tidy.
          let counts : AreCounts geometry image c.loop-block.block counted = rw (was.looks.same.geometry, was.looks.reads.bytes) at (looked.looks.told (was.looks.reads.told tells)) in
          rw (c.with_block-space.ensures, was.entries_is) (adding_more geometry image c.loop-block.block _ c.loop-block.space counted c.loop-block-test.true was.end tidy counts (was.told tells tidy));
    }

pub with_block-space-requires : goal.with_block-space-requires
with_block-space-requires g c = within_below c.loop-block.block c.loop-block.space (omega arith) c.loop-block.invariant.few

pub returns-clause-told : goal.returns-clause-told
returns-clause-told g c = λ tells tidy.
    let was = c.loop-block.invariant in
    adding_end c.args.v.now.geometry (g.N.NorState.bytes c.args.v.now.nor.now) c.loop-block.block _ _ c.loop-block-test.false (was.told tells tidy)
