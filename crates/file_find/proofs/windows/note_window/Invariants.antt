-- The page that is being built stays.
use Rattle.std.proofs.Common.{◌≡◌, take}
use Rattle.flash_view.specs.Same.{OnlyLooks}
use Rattle.file_find.proofs.windows.note_window.Given as goal

abbrev pub invariant-loop-page : goal.invariant-loop-page
invariant-loop-page g l = record {
  looks : OnlyLooks l.fn.v l.v;
  built : take l.fn.v.geometry.page l.v.work.now ≡ take l.fn.v.geometry.page l.fn.v.work.now;
}
