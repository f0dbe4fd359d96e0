-- It is the rest of none that is longer by fewer blocks.
use Rattle.std.proofs.Common.{◌≡◌, ℕ, ◌+◌, ◌<◌}
use Rattle.volume_detect.specs.Marks.{widest_gap}
use Rattle.volume_detect.specs.Rests.{IsRestBy}
use Rattle.volume_detect.proofs.rests.is_rest.Given as goal

abbrev pub invariant-loop-more : goal.invariant-loop-more
invariant-loop-more l = record {
  end : l.more-end ≡ widest_gap l.g.magic + 2;
  some : 0 < l.more;
  none : ((k : ℕ) → 0 < k → k < l.more → IsRestBy l.words l.first l.step l.g k → ⊥);
}
