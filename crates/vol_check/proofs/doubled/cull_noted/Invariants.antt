-- No page below `at` is doubled, and the ids of header pages there are noted.
use Rattle.std.proofs.Common.{◌-◌, ◌≤◌, Ok}
use Rattle.geometry.specs.Numbers.{page_count}
use Rattle.vol_check.specs.Works.{Worked}
use Rattle.vol_check.proofs.Doubles.{doubling_to}
use Rattle.vol_check.proofs.doubled.cull_noted.Given as goal

abbrev pub invariant-pages : goal.invariant-pages
invariant-pages g l = record {
  few : l.killed ≤ l.at;
  most : l.at ≤ page_count l.fn.v.geometry;
  work : Worked l.fn.v l.v (Ok l.killed) (doubling_to l.at l.bits);
}

abbrev pub decreases-pages : goal.decreases-pages
decreases-pages g l = page_count l.fn.v.geometry - l.at
