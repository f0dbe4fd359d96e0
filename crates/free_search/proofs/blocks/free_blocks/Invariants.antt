use Rattle.std.proofs.Common.{◌≡◌, ◌+◌, ◌-◌, ◌≤◌, ℕ, length, true}
use Rattle.std.specs.Prelude.{filter}
use Rattle.std.specs.List.{range_with_len}
use Rattle.image_model.specs.Tidy.{is_free_block, free_blocks, TellsFree}
use Rattle.flash_view.specs.Same.{OnlyLooks}
use Rattle.free_search.proofs.blocks.free_blocks.Given as goal

abbrev pub invariant-loop-block : goal.invariant-loop-block
invariant-loop-block g l = record {
  looks : OnlyLooks l.fn.v l.v;
  quick : l.fn.v.counted ≡ true → l.v.nor.now ≡ l.fn.v.nor.now;
  end : l.block-end ≡ l.fn.v.geometry.blocks;
  few : l.free ≤ l.block;
  told :
      (let image = g.N.NorState.bytes l.fn.v.nor.now in
      g.N.NorState.tells l.fn.v.nor.now → TellsFree l.fn.v.geometry image →
      l.free + length (filter (λ (b : ℕ). is_free_block l.fn.v.geometry image b) (range_with_len (0 + l.block) (l.block-end - l.block))) ≡ free_blocks l.fn.v.geometry image);
}
