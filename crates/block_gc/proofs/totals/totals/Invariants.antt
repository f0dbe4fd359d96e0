-- The blocks so far, and those to come.
use Rattle.std.proofs.Common.{◌≡◌, ◌*◌, true}
use Rattle.geometry.specs.Numbers.{entries}
use Rattle.image_model.specs.Tidy.{IsTidy}
use Rattle.flash_view.specs.Same.{OnlyLooks}
use Rattle.block_gc.specs.Totals.{AtMost}
use Rattle.block_gc.proofs.Rooms.{Summing}
use Rattle.block_gc.proofs.totals.totals.Given as goal

abbrev pub invariant-loop-block : goal.invariant-loop-block
invariant-loop-block g l = record {
  looks : OnlyLooks l.fn.v l.v;
  quick : l.fn.v.counted ≡ true → l.v.nor.now ≡ l.fn.v.nor.now;
  entries_is : l.entries ≡ entries l.fn.v.geometry;
  end : l.block-end ≡ l.fn.v.geometry.blocks;
  few : AtMost (65535 * l.block) l.all;
  told :
      (let image = g.N.NorState.bytes l.fn.v.nor.now in
      g.N.NorState.tells l.fn.v.nor.now → IsTidy l.fn.v.geometry image → Summing l.fn.v.geometry image l.block l.block-end l.all);
}
