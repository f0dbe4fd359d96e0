-- What the verdict on a trace is, by what may stand between two events.
use Rattle.std.specs.Prelude.{ℕ, ◌≡◌, ◌+◌, ◌⊎◌, List, [], ◌∷◌, length}
use Rattle.geometry.specs.declared.geometry.Geometry.{Geometry}
use Rattle.call_script.specs.Lines.{calls}
use Rattle.trace_laws.specs.Counting.{replies_in}
use Rattle.flash_trace.specs.declared.event.Event.{Event}
use Rattle.flash_trace.specs.declared.verdict.Verdict.{Verdict}
use Rattle.flash_trace.specs.declared.verdict.Verdict.TheVariants.{Legal, Outside, WrongBits, BadCut}
use Rattle.flash_trace.specs.Events.{Standing, after_event, IsInside, HasRightBits}
use Rattle.flash_trace.specs.Good.{IsGood, first_moment}

-- The verdict on events from number `i` on, on a device of `size` bytes in erase units of `unit` bytes: the first thing that is wrong, or
-- else how many replies were said. P holds of what may stand between two events, and `count` counts the replies in what was said.
unfoldable pub IsVerdict : (P : Standing → Type 0) (count : List ℕ → ℕ) (size unit i : ℕ) → List Event → Standing → Verdict → Type 0
IsVerdict P count size unit i [] s v = ((P s → ⊥) × (v ≡ BadCut i)) ⊎ (P s × (v ≡ Legal i (count s.said)))
IsVerdict P count size unit i (e ∷ es) s v =
    ((P s → ⊥) × (v ≡ BadCut i))
    ⊎ (P s × (((IsInside size unit e → ⊥) × (v ≡ Outside i))
    ⊎ (IsInside size unit e × (((HasRightBits e s.image → ⊥) × (v ≡ WrongBits i))
    ⊎ (HasRightBits e s.image × IsVerdict P count size unit (i + 1) es (after_event unit e s) v)))))

-- The verdict on a trace, from number `i` of its events on, where `s` stands before it. It is one of a run of a script on a device that held the
-- image `first`, with so many descriptors.
abbrev pub IsTraceVerdict : Geometry → (slots : ℕ) → (first script : List ℕ) → (i : ℕ) → List Event → Standing → Verdict → Type 0
IsTraceVerdict g slots first script i events s v =
    IsVerdict (IsGood g slots first script) (replies_in g (first_moment g slots first) (calls script)) (length first) g.phys i events s v
