-- Of the pages whose copies were put the last ones are killed, each by two programs.
use Rattle.std.proofs.Common.{◌≡◌, ◌+◌, ◌-◌, ◌*◌, ◌≤◌, ℕ, List, Ok}
use Rattle.flash_view.specs.Steps.{Stepped, failed}
use Rattle.block_gc.proofs.BatchEnds.{dropping_down}
use Rattle.block_gc.proofs.batch.drop_all.Given as goal

abbrev pub invariant-loop-page : goal.invariant-loop-page
invariant-loop-page g l = record {
  from : l.fn.first ≤ l.page;
  end : l.page-end ≡ l.fn.run.end;
  few : g.N.NorState.device_writes l.v.nor.now + 2 * l.left ≤ g.N.NorState.device_writes l.fn.v.nor.now + 2 * l.fn.run.count;
  step : (was : List ℕ) (most : ℕ) → Stepped failed l.fn.v l.v (Ok l.left) (dropping_down was l.block most l.batch l.fn.first l.fn.run (l.fn.run.end - (l.page - l.fn.first)));
}
