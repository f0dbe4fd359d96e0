use Rattle.std.proofs.Common.{◌-◌}
use Rattle.host_edge.proofs.file.append_blank.Given as goal

abbrev pub decreases-loop-end : goal.decreases-loop-end
decreases-loop-end l = l.at - l.end
