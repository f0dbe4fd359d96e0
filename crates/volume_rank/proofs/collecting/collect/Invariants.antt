-- The candidates of the places below were got.
use Rattle.std.proofs.Common.{◌-◌, ◌*◌, ◌^◌, ◌≤◌, length}
use Rattle.volume_rank.specs.Finds.{IsCollected}
use Rattle.volume_rank.proofs.collecting.collect.Given as goal

abbrev pub decreases-places : goal.decreases-places
decreases-places l = 84 * 2 ^ 20 - l.from

abbrev pub invariant-places : goal.invariant-places
invariant-places l = record {
  collected : IsCollected l.file l.found l.count l.from;
  room : l.count ≤ length l.found;
  few : l.from ≤ 84 * 2 ^ 20;
}
