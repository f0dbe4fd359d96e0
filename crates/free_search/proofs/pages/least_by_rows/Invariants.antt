use Rattle.std.proofs.Common.{◌≡◌, ◌<◌, ℕ, List}
use Rattle.std.specs.Prelude.{IfSome}
use Rattle.geometry.specs.declared.geometry.Geometry.{Geometry}
use Rattle.geometry.specs.Numbers.{entries}
use Rattle.flash_view.specs.Table.{IsTable}
use Rattle.free_search.proofs.Worn.{WornBelow}
use Rattle.free_search.proofs.pages.least_by_rows.Given as goal

abbrev pub invariant-loop-block : goal.invariant-loop-block
invariant-loop-block l = record {
  below : IfSome l.least (λ worn. worn.block < l.fn.blocks);
  told : (at : Geometry) (image : List ℕ) → IsTable at image l.fn.rows → l.fn.entries ≡ entries at → l.fn.blocks ≡ at.blocks → WornBelow at image l.fn.not_in l.block l.least;
}
