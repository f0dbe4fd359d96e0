-- The header pages before the block were looked at.
use Rattle.std.proofs.Common.{◌≡◌, ◌*◌}
use Rattle.geometry.specs.Numbers.{per_block}
use Rattle.flash_view.specs.Same.{OnlyLooks}
use Rattle.free_search.specs.Ids.{bits_at}
use Rattle.free_search.specs.Naming.{Scanned}
use Rattle.free_search.proofs.naming.name_or_id.Given as goal

abbrev pub invariant-loop-block : goal.invariant-loop-block
invariant-loop-block g l = record {
  looks : OnlyLooks l.fn.v l.v;
  end : l.block-end ≡ l.fn.v.geometry.blocks;
  told : g.N.NorState.tells l.fn.v.nor.now → Scanned l.fn.v.geometry (g.N.NorState.bytes l.fn.v.nor.now) (bits_at l.fn.v.geometry l.v.work.now) l.name (l.block * per_block l.fn.v.geometry);
}
