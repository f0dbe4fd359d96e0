-- Those below are counted.
use Rattle.std.proofs.Common.{◌≡◌}
use Rattle.volume_detect.specs.Rows.{is_marked}
use Rattle.volume_detect.proofs.Runs.{CountsTo}
use Rattle.volume_detect.proofs.rows.lacking.Given as goal

abbrev pub invariant-loop-b : goal.invariant-loop-b
invariant-loop-b l = record {
  end : l.b-end ≡ l.g.blocks;
  count : CountsTo (is_marked l.words l.first l.step l.g) l.g.blocks l.b l.count;
}
