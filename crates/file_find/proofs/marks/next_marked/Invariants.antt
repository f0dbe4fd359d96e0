-- No id above `after` and below `id` has a header page.
use Rattle.std.proofs.Common.{◌≡◌, ◌<◌, take}
use Rattle.flash_view.specs.Same.{OnlyLooks}
use Rattle.file_find.proofs.Noting.{NoHeads}
use Rattle.file_find.proofs.marks.next_marked.Given as goal

abbrev pub invariant-loop-id : goal.invariant-loop-id
invariant-loop-id g l = record {
  end : l.id-end ≡ 0x8000;
  low : l.after < l.id;
  looks : OnlyLooks l.fn.v l.v;
  built : take l.fn.v.geometry.page l.v.work.now ≡ take l.fn.v.geometry.page l.fn.v.work.now;
  told : (g.N.NorState.tells l.fn.v.nor.now → NoHeads l.fn.v.geometry (g.N.NorState.bytes l.fn.v.nor.now) l.after l.id);
}
