-- Those so far, and those to come.
use Rattle.image_model.specs.Killed.{is_killable}
use Rattle.plain_image.specs.Counted.{Counts}
use Rattle.std.proofs.Common.{ℕ}
use Rattle.plain_image.proofs.tidy.killed_of.Given as goal

abbrev pub invariant-loop-p : goal.invariant-loop-p
invariant-loop-p l = Counts (λ (j : ℕ). is_killable l.g l.image j) l.count l.p l.p-end
