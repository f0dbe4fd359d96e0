-- No live page below `at` is unwanted, the marks of the others are right, no page is doubled and nothing is damaged.
use Rattle.std.proofs.Common.{◌-◌, ◌≤◌, Ok}
use Rattle.geometry.specs.Numbers.{page_count}
use Rattle.vol_check.specs.Works.{Worked}
use Rattle.vol_check.proofs.Resting.{resting_to}
use Rattle.vol_check.proofs.unwanted.cull_rest.Given as goal

abbrev pub invariant-pages : goal.invariant-pages
invariant-pages g l = record {
  few : l.killed ≤ l.at;
  most : l.at ≤ page_count l.fn.v.geometry;
  work : Worked l.fn.v l.v (Ok l.killed) (resting_to l.at l.marks);
}

abbrev pub decreases-pages : goal.decreases-pages
decreases-pages g l = page_count l.fn.v.geometry - l.at
