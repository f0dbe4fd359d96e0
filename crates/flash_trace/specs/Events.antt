-- Events of a trace, and what stands before and after them.
use Rattle.std.specs.Prelude.{ℕ, ◌≡◌, ◌+◌, ◌*◌, ◌/◌, ◌<◌, ◌≤◌, List, [], ◌∷◌, ◌++◌, length}
use Rattle.nor_core.specs.Flash.{programmed, erased}
use Rattle.nor_memory.specs.Picks.{put}
use Rattle.flash_trace.specs.declared.event.Event.{Event}
use Rattle.flash_trace.specs.declared.event.Event.TheVariants.{Program, Erase, Say}

-- what stands between two events: the image, and the bytes said
pub record Standing : Type 0 where
  pub image : List ℕ
  pub said : List ℕ

-- an image, where nothing was said
abbrev pub at_first : List ℕ → Standing
at_first image = record { image = image; said = [] }

-- the image after an event, where an erase unit has so many bytes
unfoldable pub image_after : (unit : ℕ) → Event → List ℕ → List ℕ
image_after unit (Program at asked got) image = put image at got.bytes.items
image_after unit (Erase unit_ix) image = erased image (unit_ix * unit) unit
image_after unit (Say piece) image = image

-- what was said after an event
unfoldable pub said_after : Event → List ℕ → List ℕ
said_after (Program at asked got) said = said
said_after (Erase unit_ix) said = said
said_after (Say piece) said = said ++ piece.bytes.items

-- what stands after an event, and after some
abbrev pub after_event : (unit : ℕ) → Event → Standing → Standing
after_event unit e s = record { image = image_after unit e s.image; said = said_after e s.said }

unfoldable pub after_events : ℕ → List Event → Standing → Standing
after_events unit [] s = s
after_events unit (e ∷ es) s = after_events unit es (after_event unit e s)

-- P holds of what stands before the first event, between each two, and after the last one
unfoldable pub EachStands : (P : Standing → Type 0) → ℕ → List Event → Standing → Type 0
EachStands P unit [] s = P s
EachStands P unit (e ∷ es) s = P s × EachStands P unit es (after_event unit e s)

-- An event is inside a device of so many bytes: a program has at least one byte and got as many as it asked for, and an erase is that of a
-- unit of the device.
unfoldable pub IsInside : (size unit : ℕ) → Event → Type 0
IsInside size unit (Program at asked got) =
    (0 < length asked.bytes.items) × (length got.bytes.items ≡ length asked.bytes.items) × (at + length asked.bytes.items ≤ size)
IsInside size unit (Erase unit_ix) = unit_ix < size / unit
IsInside size unit (Say piece) = Unit {0}

-- what a program got is the old and the asked bytes, bit by bit
unfoldable pub HasRightBits : Event → (image : List ℕ) → Type 0
HasRightBits (Program at asked got) image = put image at got.bytes.items ≡ programmed image at asked.bytes.items
HasRightBits (Erase unit_ix) image = Unit {0}
HasRightBits (Say piece) image = Unit {0}

-- an event is inside the image, with the right bits
abbrev pub Fits : ℕ → Event → Standing → Type 0
Fits unit e s = IsInside (length s.image) unit e × HasRightBits e s.image

-- so is each of some events, one after the other
unfoldable pub AllFit : ℕ → List Event → Standing → Type 0
AllFit unit [] s = Unit {0}
AllFit unit (e ∷ es) s = Fits unit e s × AllFit unit es (after_event unit e s)
