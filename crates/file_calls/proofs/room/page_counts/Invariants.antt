use Rattle.std.proofs.Common.{◌≡◌, ◌≤◌}
use Rattle.geometry.specs.Numbers.{page_count}
use Rattle.flash_view.specs.Same.{OnlyLooks}
use Rattle.file_calls.proofs.Counting.{Counting}
use Rattle.file_calls.proofs.room.page_counts.Given as goal

abbrev pub invariant-loop-page : goal.invariant-loop-page
invariant-loop-page g l = record {
  looks : OnlyLooks l.fn.v l.v;
  end : l.page-end ≡ page_count l.fn.v.geometry;
  few_heads : l.counts.heads ≤ l.page;
  few_index : l.counts.index_pages ≤ l.page;
  few_pages : l.counts.data_pages ≤ l.page;
  told : g.N.NorState.tells l.fn.v.nor.now → Counting l.fn.v.geometry (g.N.NorState.bytes l.fn.v.nor.now) l.page-end l.page l.counts;
}
