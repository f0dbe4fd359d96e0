-- The rows of the blocks below `block` are right.
use Rattle.std.proofs.Common.{◌≡◌, ℕ, ◌<◌, ◌≤◌, length, false}
use Rattle.geometry.specs.Numbers.{rows_need}
use Rattle.flash_view.specs.Same.{OnlyCounts}
use Rattle.flash_view.specs.Counts.{AreCounts}
use Rattle.flash_view.specs.Table.{row_of, IsSummed}
use Rattle.free_search.proofs.table.count_all.Given as goal

abbrev pub invariant-loop-block : goal.invariant-loop-block
invariant-loop-block g l = record {
  counts : OnlyCounts l.fn.v l.v;
  end : l.block-end ≡ l.fn.v.geometry.blocks;
  down : l.v.counted ≡ false;
  room : rows_need l.fn.v.geometry ≤ length l.v.rows.now;
  summed : IsSummed l.fn.v.geometry l.v.rows.now;
  told : g.N.NorState.tells l.fn.v.nor.now → (k : ℕ) → k < l.block → AreCounts l.fn.v.geometry (g.N.NorState.bytes l.fn.v.nor.now) k (row_of l.v.rows.now k);
}
