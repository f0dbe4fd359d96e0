use Rattle.std.proofs.Common.{◌≡◌, ◌<◌, true}
use Rattle.std.specs.Prelude.{IfSome}
use Rattle.image_model.specs.Tidy.{TellsFree}
use Rattle.flash_view.specs.Same.{OnlyLooks}
use Rattle.free_search.proofs.Worn.{WornBelow}
use Rattle.free_search.proofs.pages.least_worn.Given as goal

abbrev pub invariant-loop-block : goal.invariant-loop-block
invariant-loop-block g l = record {
  looks : OnlyLooks l.fn.v l.v;
  quick : l.fn.v.counted ≡ true → l.v.nor.now ≡ l.fn.v.nor.now;
  end : l.block-end ≡ l.fn.v.geometry.blocks;
  below : IfSome l.least (λ worn. worn.block < l.fn.v.geometry.blocks);
  told : g.N.NorState.tells l.fn.v.nor.now → TellsFree l.fn.v.geometry (g.N.NorState.bytes l.fn.v.nor.now) → WornBelow l.fn.v.geometry (g.N.NorState.bytes l.fn.v.nor.now) l.not_in l.block l.least;
}
