-- The pages so far had their turns, and each that was carried took four programs.
use Rattle.std.proofs.Common.{◌≡◌, ℕ, ◌+◌, ◌*◌, ◌≤◌, Ok}
use Rattle.geometry.specs.Numbers.{per_block}
use Rattle.flash_view.specs.Steps.{Stepped, stopped}
use Rattle.block_gc.proofs.BatchCalls.{carrying_part}
use Rattle.block_gc.proofs.batch.carry_all.Given as goal

abbrev pub invariant-loop-page : goal.invariant-loop-page
invariant-loop-page g l = record {
  from : l.fn.first ≤ l.page;
  end : l.page-end ≡ (l.block + 1) * per_block l.fn.v.geometry;
  most : l.page ≤ (l.block + 1) * per_block l.fn.v.geometry;
  run : l.run.end ≤ l.page;
  few : g.N.NorState.device_writes l.v.nor.now ≤ g.N.NorState.device_writes l.fn.v.nor.now + 4 * l.run.count;
  step : (span : ℕ) → Stepped stopped l.fn.v l.v (Ok l.run) (carrying_part l.block l.most l.batch l.fn.first span l.page);
}
