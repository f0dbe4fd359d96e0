-- The entries below `page` are clean.
use Rattle.std.proofs.Common.{◌≡◌, ◌≤◌, Ok}
use Rattle.geometry.specs.Numbers.{page_count}
use Rattle.vol_check.specs.Works.{Worked}
use Rattle.vol_check.proofs.Staged.{cleaning_to}
use Rattle.vol_check.proofs.entries.clean_entries.Given as goal

abbrev pub invariant-loop-page : goal.invariant-loop-page
invariant-loop-page g l = record {
  end : l.page-end ≡ page_count l.fn.v.geometry;
  few : l.killed ≤ l.page;
  work : Worked l.fn.v l.v (Ok l.killed) (cleaning_to l.own l.page);
}
