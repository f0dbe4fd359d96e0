-- No page below p has that name.
use Rattle.std.proofs.Common.{◌≡◌, ◌<◌, ℕ, false}
use Rattle.meta_tally.specs.Names.{is_named_at}
use Rattle.meta_tally.proofs.tally.first_named.Given as goal

abbrev pub invariant-loop-p : goal.invariant-loop-p
invariant-loop-p l = (q : ℕ) → q < l.p → is_named_at l.g l.image l.name q ≡ false
