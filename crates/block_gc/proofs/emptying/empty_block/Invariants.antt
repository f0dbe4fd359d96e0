-- No page of the block before the next one is live, and each image that a cut may have left is one that a turn may leave of the first one.
use Rattle.std.proofs.Common.{◌≡◌, Ok}
use Rattle.geometry.specs.Numbers.{entries}
use Rattle.flash_view.specs.Steps.{Stepped, stopped}
use Rattle.block_gc.specs.Programs.{SixEach}
use Rattle.block_gc.specs.Turns.{CanEmpty}
use Rattle.block_gc.proofs.EntryTurns.{emptying_to}
use Rattle.block_gc.proofs.emptying.empty_block.Given as goal

abbrev pub invariant-loop-i : goal.invariant-loop-i
invariant-loop-i g l = record {
  geometry : l.g ≡ l.fn.v.geometry;
  end : l.i-end ≡ entries l.fn.v.geometry;
  step : Stepped stopped l.fn.v l.v (Ok tt) (emptying_to l.block l.most l.i);
  few : (g.N.NorState.tells l.fn.v.nor.now → CanEmpty l.fn.v.geometry (g.N.NorState.bytes l.fn.v.nor.now) l.block → SixEach l.fn.v.geometry l.block l.most (g.N.NorState.bytes l.fn.v.nor.now) (g.N.NorState.bytes l.v.nor.now) (g.N.NorState.device_writes l.fn.v.nor.now) (g.N.NorState.device_writes l.v.nor.now));
}
