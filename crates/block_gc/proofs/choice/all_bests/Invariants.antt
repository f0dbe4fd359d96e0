-- The bests of the blocks so far.
use Rattle.std.proofs.Common.{◌≡◌, true}
use Rattle.image_model.specs.Tidy.{IsTidy}
use Rattle.image_model.specs.Places.{next_count}
use Rattle.flash_view.specs.Same.{OnlyLooks}
use Rattle.block_gc.specs.Totals.{AreTotals}
use Rattle.block_gc.specs.Best.{AreBelow}
use Rattle.block_gc.proofs.Chosen.{Besting}
use Rattle.block_gc.proofs.choice.all_bests.Given as goal

abbrev pub invariant-loop-block : goal.invariant-loop-block
invariant-loop-block g l = record {
  looks : OnlyLooks l.fn.v l.v;
  quick : l.fn.v.counted ≡ true → l.v.nor.now ≡ l.fn.v.nor.now;
  end : l.block-end ≡ l.fn.v.geometry.blocks;
  below : AreBelow l.fn.v.geometry.blocks l.bests;
  told :
      (let image = g.N.NorState.bytes l.fn.v.nor.now in
      g.N.NorState.tells l.fn.v.nor.now → IsTidy l.fn.v.geometry image → AreTotals l.fn.v.geometry image l.fn.all → l.fn.next ≡ next_count l.fn.v.geometry image → Besting l.fn.v.geometry image l.block l.block-end l.bests);
}
