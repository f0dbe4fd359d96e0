-- The data pages so far are put.
use Rattle.std.proofs.Common.{◌≡◌, ℕ, ◌+◌, ◌*◌, ◌/◌, ◌≤◌, length, Ok}
use Rattle.geometry.specs.Numbers.{body}
use Rattle.table_model.specs.Table.{File}
use Rattle.flash_view.specs.Steps.{Stepped, stopped}
use Rattle.file_write.specs.Batches.{laying}
use Rattle.file_write.proofs.batches.add_pages.Given as goal

abbrev pub invariant-loop-i : goal.invariant-loop-i
invariant-loop-i g l = record {
  end : l.i-end ≡ length l.fn.pages;
  size : length l.pages ≡ length l.fn.pages;
  geometry : l.v.geometry ≡ l.fn.v.geometry;
  few : g.N.NorState.device_writes l.v.nor.now ≤ g.N.NorState.device_writes l.fn.v.nor.now + 4 * l.i;
  below : l.i ≤ length l.fn.pages;
  step : ((h size : ℕ) (f : File) → size / body l.fn.v.geometry ≡ l.span → Stepped stopped l.fn.v l.v (Ok tt) (laying l.id h size l.i l.pages l.from f));
}
