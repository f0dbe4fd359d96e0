use Rattle.std.proofs.Common.{◌≡◌, ◌+◌, ◌-◌, ◌&&◌, ℕ, true}
use Rattle.std.specs.Prelude.{find}
use Rattle.std.specs.List.{range_with_len}
use Rattle.image_model.specs.Tidy.{TellsFree}
use Rattle.flash_view.specs.Same.{OnlyLooks}
use Rattle.free_search.specs.Free.{may_choose, is_open_for, the_open_block}
use Rattle.free_search.proofs.pages.open_block.Given as goal

abbrev pub invariant-loop-block : goal.invariant-loop-block
invariant-loop-block g l = record {
  looks : OnlyLooks l.fn.v l.v;
  quick : l.fn.v.counted ≡ true → l.v.nor.now ≡ l.fn.v.nor.now;
  end : l.block-end ≡ l.fn.v.geometry.blocks;
  told :
      (let image = g.N.NorState.bytes l.fn.v.nor.now in
      g.N.NorState.tells l.fn.v.nor.now → TellsFree l.fn.v.geometry image →
      find (λ (block : ℕ). may_choose l.not_in block && is_open_for l.fn.v.geometry image l.kind block) (range_with_len (0 + l.block) (l.block-end - l.block)) ≡ the_open_block l.fn.v.geometry image l.kind l.not_in);
}
