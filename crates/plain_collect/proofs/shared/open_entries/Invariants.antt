-- The parts so far, and those to come.
use Rattle.std.proofs.Common.{ℕ, ◌&&◌, ◌==◌, not, if◌then◌else◌}
use Rattle.image_model.specs.Places.{has_magic}
use Rattle.image_model.specs.Tidy.{is_free_block}
use Rattle.image_model.specs.Collect.{free_in}
use Rattle.image_model.specs.Shared.{wanted_data_in}
use Rattle.plain_collect.specs.Summed.{Sums}
use Rattle.plain_collect.proofs.shared.open_entries.Given as goal

abbrev pub invariant-loop-block : goal.invariant-loop-block
invariant-loop-block l = Sums (λ (j : ℕ). if has_magic l.g l.image j && not (is_free_block l.g l.image j) && (wanted_data_in l.g l.image j == 0) then free_in l.g l.image j else 0) l.total l.block l.block-end
