-- What the judge has seen of a trace.
use Rattle.std.specs.Prelude.{ℕ, List, ◌∷◌, length}
use Rattle.flash_trace.specs.declared.case.Case.{Case}
use Rattle.flash_trace.specs.declared.event.Event.{Event}
use Rattle.flash_trace.specs.declared.going.Going.{Going}
use Rattle.flash_trace.specs.declared.verdict.Verdict.{Verdict}
use Rattle.flash_trace.specs.Events.{Standing, IsInside, HasRightBits}
use Rattle.flash_trace.specs.Good.{IsGood}
use Rattle.flash_trace.specs.Verdicts.{IsTraceVerdict}
use Rattle.flash_trace.specs.Places.{IsSettled}
use Rattle.flash_trace.specs.Stands.{IsPicture}

-- what stands there
abbrev pub standing_of : Going → Standing
standing_of going = record { image = going.picture.image.items; said = going.place.said.items }

-- a picture and a place of one case
pub record IsGoing (case : Case) (going : Going) : Type 0 where
  pub picture : IsPicture case going.picture
  pub place : IsSettled case going.place

-- the verdict on the events of a case from one of them on, where that stands before it
abbrev pub IsVerdictFrom : Case → (i : ℕ) → List Event → Standing → Verdict → Type 0
IsVerdictFrom case i events s v = IsTraceVerdict case.g.now case.slots case.first.now case.script.now i events s v

-- the verdict on these events, whatever comes behind the first of them
abbrev pub IsFault : Case → (i : ℕ) → Event → Standing → Verdict → Type 0
IsFault case i e s v = (later : List Event) → IsVerdictFrom case i (e ∷ later) s v

-- a right event, with what stands before it one that a cut may leave
pub record IsRight (case : Case) (e : Event) (s : Standing) : Type 0 where
  pub good : IsGood case.g.now case.slots case.first.now case.script.now s
  pub inside : IsInside (length case.first.now) case.g.now.phys e
  pub bits : HasRightBits e s.image
