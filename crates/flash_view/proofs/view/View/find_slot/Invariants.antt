-- The entries from `from` on and before `at` were passed over. The device was read at most once for each lookup page before that of `at`.
use Rattle.std.proofs.Common.{◌≡◌, ◌+◌, ◌-◌, ◌*◌, ◌/◌, ◌<◌, ◌≤◌, ℕ}
use Rattle.geometry.specs.Numbers.{entries, lookups}
use Rattle.flash_view.specs.Same.{OnlyLooks}
use Rattle.flash_view.specs.Walk.{IsPassedSlot}
use Rattle.flash_view.proofs.view.View.find_slot.Given as goal

abbrev pub invariant-pages : goal.invariant-pages
invariant-pages g l = record {
  looks : OnlyLooks l.fn.self l.self;
  work : l.self.work.now ≡ l.fn.self.work.now;
  from : l.from ≤ l.at;
  few : g.N.NorState.device_reads l.self.nor.now ≤ g.N.NorState.device_reads l.fn.self.nor.now + lookups l.fn.self.geometry;
  pages : (k : ℕ) → l.at < (k + 1) * (l.fn.self.geometry.page / 2) → g.N.NorState.device_reads l.self.nor.now ≤ g.N.NorState.device_reads l.fn.self.nor.now + k;
  told : (g.N.NorState.tells l.fn.self.nor.now → (i : ℕ) → l.from ≤ i → i < l.at → i < entries l.fn.self.geometry → IsPassedSlot l.fn.self.geometry (g.N.NorState.bytes l.fn.self.nor.now) l.block l.low l.high i);
}

abbrev pub decreases-pages : goal.decreases-pages
decreases-pages g l = entries l.fn.self.geometry - l.at
