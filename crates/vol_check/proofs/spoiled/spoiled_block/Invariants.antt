-- The blocks below `block` have their magic.
use Rattle.std.proofs.Common.{◌≡◌, ◌-◌, ℕ, not}
use Rattle.std.specs.Prelude.{find}
use Rattle.std.specs.List.{range_with_len}
use Rattle.image_model.specs.Places.{has_magic}
use Rattle.flash_view.specs.Same.{OnlyLooks}
use Rattle.vol_check.proofs.spoiled.spoiled_block.Given as goal

abbrev pub invariant-loop-block : goal.invariant-loop-block
invariant-loop-block g l = record {
  looks : OnlyLooks l.fn.v l.v;
  end : l.block-end ≡ l.fn.v.geometry.blocks;
  told :
      (let image = g.N.NorState.bytes l.fn.v.nor.now in
      g.N.NorState.tells l.fn.v.nor.now →
      find (λ (b : ℕ). not (has_magic l.fn.v.geometry image b)) (range_with_len l.block (l.block-end - l.block)) ≡ find (λ (b : ℕ). not (has_magic l.fn.v.geometry image b)) (range_with_len 0 l.fn.v.geometry.blocks));
}
