-- The copies of the pages so far are named.
use Rattle.std.proofs.Common.{◌≡◌, ℕ, List, take, ◌≤◌}
use Rattle.flash_view.specs.Same.{OnlyLooks}
use Rattle.block_gc.specs.Batches.{Carried, below, HasCopies, AreNamed}
use Rattle.block_gc.proofs.batch.name_all.Given as goal

abbrev pub invariant-loop-page : goal.invariant-loop-page
invariant-loop-page g l = record {
  from : l.fn.first ≤ l.page;
  end : l.page-end ≡ l.fn.run.end;
  looks : OnlyLooks l.fn.v l.v;
  told : (g.N.NorState.tells l.fn.v.nor.now → (was : List ℕ) (most : ℕ) (cs : List Carried) → HasCopies l.fn.v.geometry was l.block most l.batch l.fn.first l.fn.run cs (g.N.NorState.bytes l.fn.v.nor.now) →
      AreNamed l.fn.v.geometry (take l.fn.v.geometry.page l.fn.v.work.now) (below l.page cs) (take l.fn.v.geometry.page l.v.work.now));
}
