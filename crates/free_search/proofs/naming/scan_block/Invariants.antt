-- The block's entries before `at` were looked at.
use Rattle.std.proofs.Common.{◌+◌, ◌-◌, ◌*◌, ◌≤◌}
use Rattle.geometry.specs.Numbers.{per_block, entries}
use Rattle.flash_view.specs.Same.{OnlyLooks}
use Rattle.free_search.specs.Ids.{bits_at}
use Rattle.free_search.specs.Naming.{Scanned, first_entry}
use Rattle.free_search.proofs.naming.scan_block.Given as goal

abbrev pub decreases-parts : goal.decreases-parts
decreases-parts g l = entries l.fn.v.geometry - l.at

abbrev pub invariant-parts : goal.invariant-parts
invariant-parts g l = record {
  looks : OnlyLooks l.fn.v l.v;
  most : l.at ≤ entries l.fn.v.geometry;
  told :
      (let image = g.N.NorState.bytes l.fn.v.nor.now in
      g.N.NorState.tells l.fn.v.nor.now → Scanned l.fn.v.geometry image (bits_at l.fn.v.geometry l.fn.v.work.now) l.name (l.block * per_block l.fn.v.geometry) →
      Scanned l.fn.v.geometry image (bits_at l.fn.v.geometry l.v.work.now) l.name (first_entry l.fn.v.geometry l.block + l.at));
}
