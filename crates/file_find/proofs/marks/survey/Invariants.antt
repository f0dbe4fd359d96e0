-- The pages before `at` are marked and their ids and names noted, and the others have no mark.
use Rattle.std.proofs.Common.{ℕ, ◌≡◌, ◌-◌, ◌<◌, ◌≤◌, take, slice_index}
use Rattle.geometry.specs.Numbers.{page_count}
use Rattle.flash_view.specs.Same.{OnlyLooks}
use Rattle.file_find.specs.Marks.{Surveyed, NamesBelow}
use Rattle.file_find.proofs.marks.survey.Given as goal

abbrev pub invariant-heads : goal.invariant-heads
invariant-heads g l = record {
  most : l.at ≤ page_count l.fn.v.geometry;
  looks : OnlyLooks l.fn.v l.v;
  built : take l.fn.v.geometry.page l.v.work.now ≡ take l.fn.v.geometry.page l.fn.v.work.now;
  zeros : ((p : ℕ) → l.at ≤ p → p < page_count l.fn.v.geometry → slice_index l.marks p ≡ 0);
  told : (g.N.NorState.tells l.fn.v.nor.now → Surveyed l.fn.v.geometry (g.N.NorState.bytes l.fn.v.nor.now) l.marks l.at);
  named : (g.N.NorState.tells l.fn.v.nor.now → NamesBelow l.fn.v.geometry (g.N.NorState.bytes l.fn.v.nor.now) l.marks l.at);
}

abbrev pub decreases-heads : goal.decreases-heads
decreases-heads g l = page_count l.fn.v.geometry - l.at
