-- The index pages below `at` had their turns; a tidy image was only read.
use Rattle.std.proofs.Common.{◌-◌, ◌≤◌, Ok}
use Rattle.geometry.specs.Numbers.{page_count}
use Rattle.nor_core.specs.Device.{OnlyReads}
use Rattle.image_model.specs.Tidy.{IsTidy}
use Rattle.flash_view.specs.Steps.{Stepped, stopped}
use Rattle.block_gc.specs.Partings.{parting_to}
use Rattle.block_gc.proofs.parting.part_mixed.Given as goal

abbrev pub invariant-pages : goal.invariant-pages
invariant-pages g l = record {
  most : l.at ≤ page_count l.fn.v.geometry;
  step : Stepped stopped l.fn.v l.v (Ok tt) (parting_to l.at);
  idle : (g.N.NorState.tells l.fn.v.nor.now → IsTidy l.fn.v.geometry (g.N.NorState.bytes l.fn.v.nor.now) → OnlyReads g.N.NorState l.fn.v.nor.now l.v.nor.now);
}

abbrev pub decreases-pages : goal.decreases-pages
decreases-pages g l = page_count l.fn.v.geometry - l.at
