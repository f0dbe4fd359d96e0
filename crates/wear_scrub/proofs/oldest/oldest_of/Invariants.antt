-- The oldest of the blocks so far.
use Rattle.std.proofs.Common.{◌≡◌, true}
use Rattle.image_model.specs.Tidy.{IsTidy}
use Rattle.image_model.specs.Places.{next_count}
use Rattle.flash_view.specs.Same.{OnlyLooks}
use Rattle.wear_scrub.specs.Ages.{IsBelow}
use Rattle.wear_scrub.specs.Victims.{IsOldestOf}
use Rattle.wear_scrub.proofs.oldest.oldest_of.Given as goal

abbrev pub invariant-loop-block : goal.invariant-loop-block
invariant-loop-block g l = record {
  looks : OnlyLooks l.fn.v l.v;
  quick : l.fn.v.counted ≡ true → l.v.nor.now ≡ l.fn.v.nor.now;
  end : l.block-end ≡ l.fn.v.geometry.blocks;
  below : IsBelow l.fn.v.geometry.blocks l.oldest;
  next_is : g.N.NorState.tells l.fn.v.nor.now → l.next ≡ next_count l.fn.v.geometry (g.N.NorState.bytes l.fn.v.nor.now);
  told :
      (let image = g.N.NorState.bytes l.fn.v.nor.now in
      g.N.NorState.tells l.fn.v.nor.now → IsTidy l.fn.v.geometry image → IsOldestOf l.fn.v.geometry image l.fn.least l.block l.oldest);
}
