-- Each damaged id up to `after` was counted.
use Rattle.std.proofs.Common.{◌-◌, ◌≤◌}
use Rattle.flash_view.specs.Same.{OnlyLooks}
use Rattle.meta_guess.proofs.Found.{DamagedCounted}
use Rattle.meta_guess.proofs.counting.count_damaged.Given as goal

abbrev pub decreases-ids : goal.decreases-ids
decreases-ids g l = 0x10000 - l.after

abbrev pub invariant-ids : goal.invariant-ids
invariant-ids g l = record {
  looks : OnlyLooks l.fn.v l.v;
  few : l.count ≤ l.after;
  told : (g.N.NorState.tells l.fn.v.nor.now → DamagedCounted l.fn.v.geometry (g.N.NorState.bytes l.fn.v.nor.now) l.after l.count);
}
