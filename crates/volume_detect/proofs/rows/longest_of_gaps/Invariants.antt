-- The longest row of the blocks below.
use Rattle.volume_detect.specs.Rows.{is_equal}
use Rattle.volume_detect.proofs.Runs.{Widest}
use Rattle.volume_detect.proofs.rows.longest_of_gaps.Given as goal

abbrev pub invariant-loop-b : goal.invariant-loop-b
invariant-loop-b l = Widest (is_equal l.words l.first l.step l.magic) l.b l.longest l.gap
