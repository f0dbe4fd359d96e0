-- The blocks so far, and those to come.
use Rattle.std.proofs.Common.{◌≡◌, ◌≤◌}
use Rattle.image_model.specs.Tidy.{IsTidy}
use Rattle.flash_view.specs.Same.{OnlyLooks}
use Rattle.file_calls.proofs.Living.{Living}
use Rattle.file_calls.proofs.live_pages.live_pages.Given as goal

abbrev pub invariant-loop-block : goal.invariant-loop-block
invariant-loop-block g l = record {
  looks : OnlyLooks l.fn.v l.v;
  end : l.block-end ≡ l.fn.v.geometry.blocks;
  few_index : l.live.index_pages ≤ 65535;
  few_pages : l.live.data_pages ≤ 65535;
  few_free : l.live.free_blocks ≤ l.block;
  told :
      (let image = g.N.NorState.bytes l.fn.v.nor.now in
      g.N.NorState.tells l.fn.v.nor.now → IsTidy l.fn.v.geometry image → Living l.fn.v.geometry image l.block l.block-end l.live);
}
