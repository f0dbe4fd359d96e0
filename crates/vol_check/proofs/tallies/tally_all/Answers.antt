use Rattle.std.proofs.Common.{◌<◌, arith}
use Rattle.flash_view.proofs.Looking.{looks_none, looks_then}
use Rattle.vol_check.specs.Used.{IsTally}
use Rattle.vol_check.proofs.TallySums.{tallies_start, tallies_on, tallies_end, few_on, few_below}
use Rattle.vol_check.proofs.tallies.tally_all.Goals as goal

pub loop-block-init : goal.loop-block-init
loop-block-init g c = record {
  looks = looks_none c.args.v.now;
  end = c.blocks-block-end.ensures;
  few = rw c.no_tally-all.ensures (record { shared = omega arith; index_pages = omega arith; index_free = omega arith; free = omega arith; spoiled = omega arith });
  told = λ tells owns marked. rw c.no_tally-all.ensures (tallies_start c.args.v.now.geometry (g.N.NorState.bytes c.args.v.now.nor.now));
}

pub loop-block-preserved : goal.loop-block-preserved
loop-block-preserved g c =
    let was = c.loop-block.invariant in
    let turn = c.in_ok-one.ensures in
    let geometry = c.args.v.now.geometry in
    let image = g.N.NorState.bytes c.args.v.now.nor.now in
    record {
      looks = looks_then was.looks turn.looks;
      end = was.end;
      few = rw c.both-all.ensures (few_on c.loop-block.block c.loop-block.all c.in_ok-one.one was.few turn.few);
      told = λ tells owns marked.
          let low : c.loop-block.block < geometry.blocks = omega (arith, was.end, c.loop-block-test.true) in
          let read = rw (was.looks.same.geometry, was.looks.reads.bytes) at (turn.told (was.looks.reads.told tells)) in
          let one : IsTally geometry image c.loop-block.block c.in_ok-one.one = read owns marked in
          rw c.both-all.ensures (tallies_on geometry image c.loop-block.block c.loop-block.all c.in_ok-one.one low (was.told tells owns marked) one);
    }

pub both-all-requires-clause-first : goal.both-all-requires-clause-first
both-all-requires-clause-first g c = few_below c.loop-block.block c.loop-block.all (omega arith) c.loop-block.invariant.few

pub returns-clause-told : goal.returns-clause-told
returns-clause-told g c = λ tells owns marked.
    let was = c.loop-block.invariant in
    tallies_end c.args.v.now.geometry (g.N.NorState.bytes c.args.v.now.nor.now) c.loop-block.block c.loop-block.all (omega (arith, was.end, c.loop-block-test.false)) (was.told tells owns marked)
