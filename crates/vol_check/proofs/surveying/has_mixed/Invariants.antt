-- None of the blocks so far is mixed.
use Rattle.std.proofs.Common.{◌≡◌, ◌<◌, ℕ, false}
use Rattle.image_model.specs.Kinds.{is_mixed}
use Rattle.flash_view.specs.Same.{OnlyLooks}
use Rattle.vol_check.proofs.surveying.has_mixed.Given as goal

abbrev pub invariant-loop-block : goal.invariant-loop-block
invariant-loop-block g l = record {
  looks : OnlyLooks l.fn.v l.v;
  end : l.block-end ≡ l.fn.v.geometry.blocks;
  told : (g.N.NorState.tells l.fn.v.nor.now → (b : ℕ) → b < l.block → is_mixed l.fn.v.geometry (g.N.NorState.bytes l.fn.v.nor.now) b ≡ false);
}
