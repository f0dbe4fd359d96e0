-- What a kill of a page leaves, done or cut off.
use Rattle.std.specs.Prelude.{ℕ, ◌+◌, ◌⊎◌, List, [], ◌∷◌}
use Rattle.geometry.specs.declared.geometry.Geometry.{Geometry}
use Rattle.nor_core.specs.Flash.{HalfProgrammed, programmed}
use Rattle.flash_view.specs.Places.{page_start}
use Rattle.image_model.specs.Places.{entry_at}

-- DELET is cleared in the page's flags, and in the byte that is asked no other bit is, so that it finishes no page (SPIFFS page header)
abbrev pub deleted : Geometry → ℕ → List ℕ → List ℕ
deleted g page image = programmed image (page_start g page + 4) (0x7F ∷ [])

-- then the page's entry is zero (SPIFFS object lookup)
abbrev pub killed : Geometry → ℕ → List ℕ → List ℕ
killed g page image = programmed (deleted g page image) (entry_at g page) (0 ∷ 0 ∷ [])

-- a cut leaves the flags on their way, or the entry
abbrev pub HalfKilled : Geometry → ℕ → List ℕ → List ℕ → Type 0
HalfKilled g page was image =
    HalfProgrammed (page_start g page + 4) (0x7F ∷ []) was image ⊎ HalfProgrammed (entry_at g page) (0 ∷ 0 ∷ []) (deleted g page was) image
