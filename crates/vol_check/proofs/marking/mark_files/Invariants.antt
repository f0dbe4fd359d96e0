-- The files of header pages before page `at` are marked.
use Rattle.std.proofs.Common.{◌-◌, ◌≤◌}
use Rattle.geometry.specs.Numbers.{page_count}
use Rattle.flash_view.specs.Same.{OnlyLooks}
use Rattle.vol_check.specs.Needed.{AddsMarks, OfFirst, OfHeaded, MarksListed}
use Rattle.vol_check.proofs.marking.mark_files.Given as goal

abbrev pub invariant-pages : goal.invariant-pages
invariant-pages g l = record {
  most : l.at ≤ page_count l.fn.v.geometry;
  looks : OnlyLooks l.fn.v l.v;
  told : (g.N.NorState.tells l.fn.v.nor.now → MarksListed l.fn.v.geometry (g.N.NorState.bytes l.fn.v.nor.now) l.least l.fn.marks → AddsMarks (page_count l.fn.v.geometry) (OfFirst (OfHeaded l.fn.v.geometry (g.N.NorState.bytes l.fn.v.nor.now)) l.at) l.fn.marks l.marks);
}

abbrev pub decreases-pages : goal.decreases-pages
decreases-pages g l = page_count l.fn.v.geometry - l.at
