-- The search is at page `from` or behind it, and no page from there on and below `at` is a copy.
use Rattle.std.proofs.Common.{◌≡◌, ◌-◌, ◌<◌, ◌≤◌, ℕ}
use Rattle.geometry.specs.Numbers.{page_count}
use Rattle.flash_view.specs.Same.{OnlyLooks}
use Rattle.block_gc.proofs.BatchFinds.{NoneTo}
use Rattle.block_gc.proofs.batch.copy_from.Given as goal

abbrev pub invariant-pages : goal.invariant-pages
invariant-pages g l = record {
  low : l.from ≤ l.at;
  looks : OnlyLooks l.fn.v l.v;
  work : l.v.work.now ≡ l.fn.v.work.now;
  told : (g.N.NorState.tells l.fn.v.nor.now → NoneTo l.fn.v.geometry (g.N.NorState.bytes l.fn.v.nor.now) l.id l.span l.block l.from l.at);
}

abbrev pub decreases-pages : goal.decreases-pages
decreases-pages g l = page_count l.fn.v.geometry - l.at
