use Rattle.std.proofs.Common.{sym, arith}
use Rattle.volume_detect.specs.Rows.{is_marked}
use Rattle.volume_detect.proofs.Runs.{count_next}
use Rattle.volume_detect.proofs.rows.lacking.Goals as goal

pub loop-b-preserved : goal.loop-b-preserved
loop-b-preserved c = record {
  end = c.loop-b.invariant.end;
  count = count_next (is_marked c.args.words.now c.args.first c.args.step c.args.g.now) c.args.g.now.blocks c.loop-b.b c.loop-b.count c.count_after-count.result c.is_marked.result c.count_after-count.ensures
      (omega (arith, c.loop-b-test.true, c.loop-b.invariant.end)) (sym c.is_marked.ensures) c.loop-b.invariant.count;
}
