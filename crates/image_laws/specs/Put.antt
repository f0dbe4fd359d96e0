-- Putting a page: three programs place it, one finishes it.
use Rattle.std.specs.Prelude.{◌≡◌, ℕ, ◌+◌, ◌*◌, ◌<◌, ◌⊎◌, List, length, take, drop, true, slice_index, slice_set}
use Rattle.geometry.specs.declared.geometry.Geometry.{Geometry}
use Rattle.nor_core.specs.Flash.{HalfProgrammed}
use Rattle.image_model.specs.Live.{live_at}
use Rattle.image_model.specs.Places.{page_of, IsImage, entry_at}
use Rattle.image_model.specs.Headers.{is_finished}
use Rattle.image_laws.specs.Programs.{IsPlaced, ClearsBit}
use Rattle.image_laws.specs.NewFile.{IsFreePage}
use Rattle.image_model.specs.Sound.{HasMagics, Keeps}
use Rattle.image_laws.specs.TidySteps.{Agree}
use Rattle.image_laws.specs.Creating.{Placed}

-- a page to be placed, which is live once its flags are these
pub record IsReadyPage (g : Geometry) (page : List ℕ) (flags : ℕ) : Type 0 where
  pub len : length page ≡ g.page
  pub bytes : (i : ℕ) → i < g.page → slice_index page i < 256
  pub clears : ClearsBit 1 (slice_index page 4) flags
  pub finished : is_finished (slice_set page 4 flags) ≡ true

-- what one of the three programs, cut off, leaves
abbrev pub PlacingCut : Geometry → ℕ → List ℕ → List ℕ → List ℕ → List ℕ → List ℕ → Type 0
PlacingCut g p page a0 a1 a2 c =
    HalfProgrammed (entry_at g p) (take 2 page) a0 c ⊎ (HalfProgrammed (p * g.page) (take 5 page) a1 c ⊎ HalfProgrammed (p * g.page + 5) (drop 5 page) a2 c)

-- a page is placed, and all else is as it was
pub record IsPut (g : Geometry) (p : ℕ) (page : List ℕ) (flags : ℕ) (a b : List ℕ) : Type 0 where
  pub image : IsImage g b
  pub live : live_at g b ≡ live_at g a
  pub bytes : page_of g b p ≡ page
  pub placed : IsPlaced g b p flags
  pub agree : Agree g a b p
  pub keeps : Keeps g a b

abbrev pub PlacingIsSound : Geometry → Type 0
PlacingIsSound g = (a0 a1 a2 a3 : List ℕ) (p : ℕ) (page : List ℕ) (flags : ℕ) → IsImage g a0 → HasMagics g a0 → IsFreePage g a0 p → IsReadyPage g page flags →
    Placed g p page a0 a1 a2 a3 →
    ((c : List ℕ) → PlacingCut g p page a0 a1 a2 c → Keeps g a0 c × Agree g a0 c p) × IsPut g p page flags a0 a3
