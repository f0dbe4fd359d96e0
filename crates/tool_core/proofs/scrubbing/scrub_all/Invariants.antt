-- The steps so far.
use Rattle.std.proofs.Common.{ℕ, ◌≡◌, ◌≤◌, ◌-◌, List, true, Ok}
use Rattle.volume.specs.Holds.{memory}
use Rattle.volume.specs.Stages.{takes_calls}
use Rattle.volume.specs.Same.{IsSameVolume}
use Rattle.tool_parts.specs.Begins.{closed_memory}
use Rattle.tool_core.specs.Scrubbing.{Makes, StepsMade}
use Rattle.tool_core.proofs.scrubbing.scrub_all.Given as goal

abbrev pub invariant-steps : goal.invariant-steps
invariant-steps g l = record {
  same : IsSameVolume l.fn.volume l.volume;
  stands : takes_calls l.volume ≡ true;
  blocks : l.blocks ≡ l.fn.volume.geometry.blocks;
  few : l.moved ≤ l.blocks;
  makes : (slots : ℕ) → memory l.fn.volume ≡ closed_memory slots → Makes g.B.NorState l.fn.volume.geometry slots l.fn.volume.nor.now l.volume.nor.now (memory l.volume) (Ok l.moved) (λ was image n. StepsMade l.fn.volume.geometry l.fn.limit n was image);
}

abbrev pub decreases-steps : goal.decreases-steps
decreases-steps g l = l.blocks - l.moved
