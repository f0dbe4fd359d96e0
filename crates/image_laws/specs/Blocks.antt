-- What a block holds after an interrupted erase, and by which test it is mixed.
use Rattle.std.specs.Prelude.{◌≡◌, ℕ, ◌-◌, ◌*◌, ◌<◌, ◌↔◌, List, false, true, Some}
use Rattle.geometry.specs.declared.geometry.Geometry.{Geometry}
use Rattle.geometry.specs.Numbers.{right_magic, slots}
use Rattle.nor_core.specs.declared.device.Mark.{Mark}
use Rattle.nor_core.specs.Flash.{Scrambled}
use Rattle.image_model.specs.Places.{has_magic}
use Rattle.image_model.specs.Live.{live_at}
use Rattle.image_model.specs.Sound.{IsMixed}
use Rattle.image_model.specs.Kinds.{is_mixed}

-- the magic of a block as the mark of its first erase unit
abbrev pub magic_mark : Geometry → ℕ → Mark
magic_mark g block = record { at = 2 * (slots g - 2); word = right_magic g block }

-- A block whose first erase unit an interrupted erase changed lacks its magic, where that was the erase's mark.
abbrev pub ScrambledLacksMagic : Geometry → Type 0
ScrambledLacksMagic g = (a b : List ℕ) (block count : ℕ) → Scrambled (block * g.block) count (Some (magic_mark g block)) a b → has_magic g b block ≡ false

-- A block of the volume is mixed exactly where the test says so.
abbrev pub MixedIsTested : Geometry → Type 0
MixedIsTested g = (image : List ℕ) (block : ℕ) → block < g.blocks → (is_mixed g image block ≡ true) ↔ IsMixed g (live_at g image) block
