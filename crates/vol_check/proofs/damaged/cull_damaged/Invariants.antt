-- No id up to `at` is damaged, and each turn goes on to a greater id.
use Rattle.std.proofs.Common.{◌-◌, ◌≤◌, Ok}
use Rattle.vol_check.specs.Works.{Worked}
use Rattle.vol_check.proofs.Heading.{heading_to}
use Rattle.vol_check.proofs.damaged.cull_damaged.Given as goal

abbrev pub decreases-ids : goal.decreases-ids
decreases-ids g l = 0x10000 - l.at

abbrev pub invariant-ids : goal.invariant-ids
invariant-ids g l = record {
  few : l.killed ≤ l.at;
  most : l.at ≤ 65535;
  work : Worked l.fn.v l.v (Ok l.killed) (heading_to l.at l.marks);
}
