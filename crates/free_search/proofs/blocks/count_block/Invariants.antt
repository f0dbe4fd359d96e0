-- The block's entries before `at` are counted.
use Rattle.std.proofs.Common.{◌≡◌, ◌-◌, ◌≤◌}
use Rattle.geometry.specs.Numbers.{entries}
use Rattle.flash_view.specs.Same.{OnlyLooks}
use Rattle.flash_view.specs.Counts.{total_of}
use Rattle.free_search.specs.Counted.{IsCountedTo}
use Rattle.free_search.proofs.blocks.count_block.Given as goal

abbrev pub decreases-parts : goal.decreases-parts
decreases-parts g l = entries l.fn.v.geometry - l.at

abbrev pub invariant-parts : goal.invariant-parts
invariant-parts g l = record {
  looks : OnlyLooks l.fn.v l.v;
  most : l.at ≤ entries l.fn.v.geometry;
  few : total_of l.counts ≤ l.at;
  told : g.N.NorState.tells l.fn.v.nor.now → IsCountedTo l.fn.v.geometry (g.N.NorState.bytes l.fn.v.nor.now) l.block l.at l.counts;
}
