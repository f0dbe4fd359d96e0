use Rattle.std.proofs.Common.{refl, arith, rules, ◌∙◌}
use Rattle.geometry.specs.Numbers.{per_block, lookups, entries}
use Rattle.flash_view.proofs.Looking.{looks_none, looks_then}
use Rattle.flash_view.specs.Counts.{AreCounts}
use Rattle.block_gc.specs.Totals.{IsRoom}
use Rattle.block_gc.proofs.Rooms.{room_is, summing_start, summing_more, summing_end, most_more, most_below}
use Rattle.block_gc.proofs.totals.totals.Goals as goal

pub loop-block-init : goal.loop-block-init
unfolding per_block lookups entries
loop-block-init g c = record {
  looks = looks_none c.args.v.now;
  quick = λ counted. refl;
  entries_is = c.entries-entries.ensures.count;
  end = c.blocks-block-end.ensures;
  few = search rules;
  told = λ tells tidy. summing_start c.args.v.now.geometry (g.N.NorState.bytes c.args.v.now.nor.now) _ _ c.blocks-block-end.ensures refl refl refl refl;
}

pub loop-block-preserved : goal.loop-block-preserved
loop-block-preserved g c =
    let was = c.loop-block.invariant in
    let looked = c.in_ok-counts.ensures in
    let geometry = c.args.v.now.geometry in
    let image = g.N.NorState.bytes c.args.v.now.nor.now in
    record {
      looks = looks_then was.looks looked.looks.only;
      quick = λ counted. (looked.quick (was.looks.counted ∙ counted)).1 ∙ was.quick counted;
      entries_is = was.entries_is;
      end = was.end;
      few = rw c.both-all.ensures (most_more c.loop-block.block c.loop-block.all c.room_of-own.result was.few c.room_of-own.ensures.small);
      told = λ tells tidy.
          let counts : AreCounts geometry image c.loop-block.block c.in_ok-counts.field-0 = rw (was.looks.same.geometry, was.looks.reads.bytes) at (looked.looks.told (was.looks.reads.told tells)) in
          let own : IsRoom geometry image c.loop-block.block c.room_of-own.result = rw (c.room_of-own.ensures.value, was.entries_is) (room_is geometry image c.loop-block.block c.in_ok-counts.field-0 counts tidy (omega (arith, was.end))) in
          rw c.both-all.ensures (summing_more geometry image c.loop-block.block _ c.loop-block.all c.room_of-own.result c.loop-block-test.true (was.told tells tidy) own);
    }

pub both-all-requires-clause-first : goal.both-all-requires-clause-first
both-all-requires-clause-first g c = most_below c.loop-block.block c.loop-block.all (omega arith) c.loop-block.invariant.few

pub returns-clause-told : goal.returns-clause-told
returns-clause-told g c = λ tells tidy.
    let was = c.loop-block.invariant in
    summing_end c.args.v.now.geometry (g.N.NorState.bytes c.args.v.now.nor.now) c.loop-block.block _ _ c.loop-block-test.false (was.told tells tidy)
