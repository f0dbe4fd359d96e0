-- No page below `at` is one that is to go, and each image that a cut may have left keeps the first one. Two programs were taken for
-- each page below `at` that was to go, and for each entry there at most.
use Rattle.std.proofs.Common.{◌+◌, ◌-◌, ◌*◌, ◌≤◌, Ok}
use Rattle.geometry.specs.Numbers.{page_count}
use Rattle.flash_view.specs.Steps.{Stepped, failed}
use Rattle.file_drop.specs.Drops.{HasLeft}
use Rattle.file_drop.proofs.Passing.{dropping_to}
use Rattle.file_drop.proofs.Programs.{TwoEach, entries_before}
use Rattle.file_drop.proofs.pages.drop_pages.Given as goal

abbrev pub invariant-pages : goal.invariant-pages
invariant-pages g l = record {
  most : l.at ≤ page_count l.fn.v.geometry;
  few : g.N.NorState.tells l.fn.v.nor.now → HasLeft l.fn.v.geometry l.fn.id l.fn.kept (g.N.NorState.bytes l.fn.v.nor.now) →
      TwoEach l.fn.v.geometry (g.N.NorState.bytes l.fn.v.nor.now) l.fn.id l.fn.kept l.at (g.N.NorState.device_writes l.fn.v.nor.now) (g.N.NorState.device_writes l.v.nor.now);
  entries : g.N.NorState.device_writes l.v.nor.now ≤ g.N.NorState.device_writes l.fn.v.nor.now + 2 * entries_before l.fn.v.geometry l.at;
  step : Stepped failed l.fn.v l.v (Ok tt) (dropping_to l.fn.id l.fn.kept l.at);
}

abbrev pub decreases-pages : goal.decreases-pages
decreases-pages g l = page_count l.fn.v.geometry - l.at
