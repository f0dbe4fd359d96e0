-- No gap below is too wide, and so wide is the last one.
use Rattle.std.proofs.Common.{◌≡◌, ◌≤◌}
use Rattle.volume_detect.specs.Marks.{HasNoWideGap}
use Rattle.volume_detect.specs.Rows.{is_marked}
use Rattle.volume_detect.proofs.Runs.{GapIs}
use Rattle.volume_detect.proofs.rows.has_wide_gap.Given as goal

abbrev pub invariant-loop-b : goal.invariant-loop-b
invariant-loop-b l = record {
  end : l.b-end ≡ l.g.blocks;
  narrow : l.gap ≤ l.widest;
  last : GapIs (is_marked l.words l.first l.step l.g) l.b l.gap;
  gaps : HasNoWideGap (is_marked l.words l.first l.step l.g) l.widest l.b;
}
