-- The entries before the `i`th one are counted.
use Rattle.std.proofs.Common.{◌≡◌, ◌+◌, ◌/◌, ◌≤◌, length}
use Rattle.image_model.specs.Places.{has_magic}
use Rattle.flash_view.specs.Same.{OnlyLooks}
use Rattle.flash_view.specs.Counts.{total_of}
use Rattle.free_search.specs.Counted.{HasSlots, IsCountedTo}
use Rattle.free_search.proofs.blocks.count_slots.Given as goal

abbrev pub invariant-loop-i : goal.invariant-loop-i
invariant-loop-i g l = record {
  end : l.i-end ≡ length l.bytes / 2;
  most : l.i ≤ length l.bytes / 2;
  looks : OnlyLooks l.fn.v l.v;
  few : total_of l.counts ≤ l.start + l.i;
  told :
      (let image = g.N.NorState.bytes l.fn.v.nor.now in
      g.N.NorState.tells l.fn.v.nor.now → l.has ≡ has_magic l.fn.v.geometry image l.block → HasSlots l.fn.v.geometry image l.bytes l.block l.start (length l.bytes / 2) →
      IsCountedTo l.fn.v.geometry image l.block l.start l.fn.counted → IsCountedTo l.fn.v.geometry image l.block (l.start + l.i) l.counts);
}
