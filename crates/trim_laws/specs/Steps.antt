-- What programs and erases do to the page numbers of header pages.
use Rattle.std.specs.Prelude.{◌≡◌, ℕ, ◌+◌, ◌*◌, ◌≤◌, ◌⊎◌, List, length, true, false, Some}
use Rattle.geometry.specs.declared.geometry.Geometry.{Geometry}
use Rattle.nor_core.specs.Flash.{HalfProgrammed}
use Rattle.image_model.specs.Files.{is_index}
use Rattle.image_model.specs.Live.{live_at}
use Rattle.image_model.specs.Places.{IsImage}
use Rattle.image_laws.specs.LiveSteps.{PutLeaves, PutDone, KillLeaves, KillDone}
use Rattle.trim_laws.specs.Trim.{IsTrimmed, Trims}

-- where it is a header page, it names no page behind its file's last one
abbrev pub IsTrimHead : Geometry → List ℕ → Type 0
IsTrimHead g page = is_index (Some page) 0 ≡ true → IsTrimmed g page

-- A put of such a page, at each cut and done,
abbrev pub PutTrims : Geometry → Type 0
PutTrims g = (a c : List ℕ) (p : ℕ) (page : List ℕ) → IsTrimHead g page → PutLeaves g p page a c ⊎ PutDone g p page a c → Trims g a c

-- and a kill leave header pages so.
abbrev pub KillTrims : Geometry → Type 0
KillTrims g = (a c : List ℕ) (p : ℕ) → KillLeaves g p a c ⊎ KillDone g p a c → Trims g a c

-- So does a program behind the header of a live page that is no header page, done or cut off,
abbrev pub InPlaceTrims : Geometry → Type 0
InPlaceTrims g = (a c : List ℕ) (p at : ℕ) (page asked : List ℕ) → IsImage g a → live_at g a p ≡ Some page → is_index (Some page) 0 ≡ false →
    p * g.page + 5 ≤ at → at + length asked ≤ p * g.page + g.page →
    HalfProgrammed at asked a c → Trims g a c

-- and one of the flags of a live page.
abbrev pub FlagsTrim : Geometry → Type 0
FlagsTrim g = (a c : List ℕ) (p : ℕ) (page asked : List ℕ) → IsImage g a → live_at g a p ≡ Some page → length asked ≡ 1 →
    HalfProgrammed (p * g.page + 4) asked a c → Trims g a c
