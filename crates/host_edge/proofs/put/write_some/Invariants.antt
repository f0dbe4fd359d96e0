use Rattle.std.proofs.Common.{◌≤◌, length}
use Rattle.host_edge.proofs.put.write_some.Given as goal

abbrev pub invariant-loop : goal.invariant-loop
invariant-loop g l = l.count ≤ length l.piece
