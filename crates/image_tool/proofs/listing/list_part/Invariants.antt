-- The lines of the ids up to one were said and counted.
use Rattle.std.proofs.Common.{◌≡◌, ◌≤◌, ℕ, ◌-◌, List, length}
use Rattle.flash_view.specs.Same.{IsSameView}
use Rattle.image_tool.specs.Parts.{lines_of, text_of}
use Rattle.image_tool.specs.Saying.{OnlySays}
use Rattle.image_tool.proofs.Walking.{Place}
use Rattle.image_tool.proofs.listing.list_part.Given as goal

abbrev pub invariant-loop-id : goal.invariant-loop-id
invariant-loop-id g l =
    let image = g.B.NorState.bytes l.fn.v.nor.now in
    record {
      same : IsSameView l.fn.v l.v;
      few : l.count ≤ l.after;
      says : OnlySays g.B.NorState l.fn.v.nor.now l.v.nor.now (text_of l.part l.fn.v.geometry image);
      place : g.B.NorState.tells l.fn.v.nor.now → (p : Place (λ (x : ℕ × List ℕ). x.0) (λ (x : ℕ × List ℕ). x.1) (g.B.NorState.said l.fn.v.nor.now) (g.B.NorState.said l.v.nor.now) (lines_of l.part l.fn.v.geometry image) l.after) × (l.count ≡ length p.front);
    }

abbrev pub decreases-loop-id : goal.decreases-loop-id
decreases-loop-id g l = 65536 - l.after
