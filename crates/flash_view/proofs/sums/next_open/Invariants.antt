-- No block from the first one on to this one takes a page of the kind.
use Rattle.std.proofs.Common.{◌≡◌, ◌≤◌, ◌<◌, ◌-◌, ℕ, false}
use Rattle.geometry.specs.Numbers.{entries}
use Rattle.flash_view.specs.Table.{row_takes}
use Rattle.flash_view.proofs.sums.next_open.Given as goal

abbrev pub invariant-scan : goal.invariant-scan
invariant-scan l = record {
  low : l.from ≤ l.block;
  high : l.block ≤ l.g.blocks;
  entries_is : l.entries ≡ entries l.g;
  blocks_is : l.blocks ≡ l.g.blocks;
  passed : (k : ℕ) → l.from ≤ k → k < l.block → row_takes l.g l.rows l.kind k ≡ false;
}

abbrev pub decreases-scan : goal.decreases-scan
decreases-scan l = l.blocks - l.block
