-- The pages from `from` on and before entry `slot` of the block were passed over.
use Rattle.std.proofs.Common.{◌≡◌, ◌+◌, ◌-◌, ◌*◌, ◌≤◌}
use Rattle.geometry.specs.Numbers.{per_block, lookups, entries}
use Rattle.flash_view.specs.Same.{OnlyLooks}
use Rattle.flash_view.proofs.Walking.{Walked}
use Rattle.flash_view.proofs.view.View.next_live.Given as goal

abbrev pub invariant-walk : goal.invariant-walk
invariant-walk g l = record {
  looks : OnlyLooks l.fn.self l.self;
  work : l.self.work.now ≡ l.fn.self.work.now;
  slot : l.slot ≤ entries l.fn.self.geometry;
  from : l.from ≤ l.block * per_block l.fn.self.geometry + lookups l.fn.self.geometry + l.slot;
  told : (g.N.NorState.tells l.fn.self.nor.now → Walked l.fn.self.geometry (g.N.NorState.bytes l.fn.self.nor.now) l.low l.high l.from (l.block * per_block l.fn.self.geometry + lookups l.fn.self.geometry + l.slot));
}

abbrev pub decreases-walk : goal.decreases-walk
decreases-walk g l = l.fn.self.geometry.blocks * per_block l.fn.self.geometry - (l.block * per_block l.fn.self.geometry + l.slot)
