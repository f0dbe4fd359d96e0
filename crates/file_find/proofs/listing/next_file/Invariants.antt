-- No id up to `at` is in the table, and each turn goes on to a greater id.
use Rattle.std.proofs.Common.{◌-◌, ◌≤◌, ◌≡◌, take}
use Rattle.flash_view.specs.Same.{OnlyLooks}
use Rattle.file_find.proofs.Stepping.{NoFile}
use Rattle.file_find.proofs.listing.next_file.Given as goal

abbrev pub decreases-ids : goal.decreases-ids
decreases-ids g l = 0x10000 - l.at

abbrev pub invariant-ids : goal.invariant-ids
invariant-ids g l = record {
  looks : OnlyLooks l.fn.v l.v;
  built : take l.fn.v.geometry.page l.v.work.now ≡ take l.fn.v.geometry.page l.fn.v.work.now;
  low : l.after ≤ l.at;
  told : (g.N.NorState.tells l.fn.v.nor.now → NoFile l.fn.v.geometry (g.N.NorState.bytes l.fn.v.nor.now) l.after l.at);
}
