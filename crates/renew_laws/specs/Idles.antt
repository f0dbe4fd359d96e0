-- Pages that are to go, and their kills.
use Rattle.std.specs.Prelude.{◌≡◌, ℕ, ◌≤◌, ◌⊎◌, List, Bool, true, not, ◌==◌, ◌&&◌, Some}
use Rattle.geometry.specs.declared.geometry.Geometry.{Geometry}
use Rattle.image_model.specs.Live.{live_at}
use Rattle.image_model.specs.Sound.{Keeps}
use Rattle.image_model.specs.Tidy.{IsTidy, free_blocks}
use Rattle.image_laws.specs.LiveSteps.{KillLeaves, KillDone}
use Rattle.image_laws.specs.Remove.{Orphans}
use Rattle.image_laws.specs.Spares.{Spares}

-- The image is tidy but for some pages that are not needed: those of ids without a header page, or those that serve no file of the table.
abbrev pub Idles : Geometry → (ℕ → Bool) → List ℕ → Type 0
Idles g spare a = Orphans g spare a ⊎ Spares g spare a

-- One of them is killed: table, soundness and free blocks stay at each cut, and done, the others are still not needed.
abbrev pub IdleKills : Geometry → Type 0
IdleKills g = (a : List ℕ) (r : ℕ) (x : List ℕ) (spare : ℕ → Bool) → Idles g spare a → spare r ≡ true → live_at g a r ≡ Some x →
    ((c : List ℕ) → KillLeaves g r a c → Keeps g a c × (free_blocks g a ≤ free_blocks g c))
    × ((d : List ℕ) → KillDone g r a d → Keeps g a d × (free_blocks g a ≤ free_blocks g d) × Idles g (λ q. spare q && not (q == r)) d)

-- With none left the image is tidy.
abbrev pub IdlesEnd : Geometry → Type 0
IdlesEnd g = (a : List ℕ) (spare : ℕ → Bool) → ((r : ℕ) → spare r ≡ true → ⊥) → Idles g spare a → IsTidy g a
