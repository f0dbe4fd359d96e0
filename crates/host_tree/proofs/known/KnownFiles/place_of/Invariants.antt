use Rattle.std.proofs.Common.{◌-◌, ◌≤◌, length}
use Rattle.host_tree.proofs.known.KnownFiles.place_of.Given as goal

abbrev pub invariant-loop-low : goal.invariant-loop-low
invariant-loop-low l = record {
  low : l.low ≤ l.high;
  high : l.high ≤ length l.self.order.items;
}

abbrev pub decreases-loop-low : goal.decreases-loop-low
decreases-loop-low l = l.high - l.low
