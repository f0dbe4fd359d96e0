use Rattle.std.proofs.Common.{◌-◌, ◌≤◌}
use Rattle.geometry.specs.Numbers.{page_count}
use Rattle.flash_view.specs.Same.{OnlyLooks}
use Rattle.free_search.specs.Ids.{bits_at, Noted}
use Rattle.free_search.proofs.ids.free_id.Given as goal

abbrev pub decreases-heads : goal.decreases-heads
decreases-heads g l = page_count l.fn.v.geometry - l.at

abbrev pub invariant-heads : goal.invariant-heads
invariant-heads g l = record {
  looks : OnlyLooks l.fn.v l.v;
  most : l.at ≤ page_count l.fn.v.geometry;
  told : g.N.NorState.tells l.fn.v.nor.now → Noted l.fn.v.geometry (g.N.NorState.bytes l.fn.v.nor.now) (bits_at l.fn.v.geometry l.v.work.now) l.at;
}
