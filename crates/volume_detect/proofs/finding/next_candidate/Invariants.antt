-- At the places below stands none.
use Rattle.std.proofs.Common.{◌≡◌, ℕ, ◌*◌, ◌<◌, ◌≤◌, List, length}
use Rattle.geometry.specs.declared.geometry.Geometry.{Geometry}
use Rattle.volume_detect.specs.Places.{IsFoundAt}
use Rattle.volume_detect.specs.Words.{HasWords}
use Rattle.volume_detect.proofs.finding.next_candidate.Given as goal

abbrev pub invariant-loop-place : goal.invariant-loop-place
invariant-loop-place l = record {
  end : l.place-end ≡ 7 * length l.words;
  from : l.fn.from ≤ l.place;
  none : ((file : List ℕ) → HasWords file l.words → (p : ℕ) (h : Geometry) → l.fn.from ≤ p → p < l.place → IsFoundAt file p h → ⊥);
}
