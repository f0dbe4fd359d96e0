-- The blocks below were counted.
use Rattle.std.proofs.Common.{◌≡◌, ℕ, ◌≤◌, ◌+◌, ◌-◌, length}
use Rattle.std.specs.Prelude.{filter, not}
use Rattle.std.specs.List.{range_with_len}
use Rattle.image_model.specs.Places.{has_magic}
use Rattle.image_model.specs.Kinds.{spoiled_blocks}
use Rattle.flash_view.specs.Same.{OnlyLooks}
use Rattle.vol_mount.proofs.mounting.spoiled_blocks.Given as goal

abbrev pub invariant-loop-block : goal.invariant-loop-block
invariant-loop-block g l = record {
  looks : OnlyLooks l.fn.v l.v;
  end : l.block-end ≡ l.fn.v.geometry.blocks;
  few : l.spoiled ≤ l.block;
  told :
      (let image = g.N.NorState.bytes l.fn.v.nor.now in
      g.N.NorState.tells l.fn.v.nor.now →
      l.spoiled + length (filter (λ (block : ℕ). not (has_magic l.fn.v.geometry image block)) (range_with_len l.block (l.block-end - l.block))) ≡ spoiled_blocks l.fn.v.geometry image);
}
