-- The pages that a step leaves over, and their kills.
use Rattle.std.specs.Prelude.{◌≡◌, ℕ, ◌+◌, ◌*◌, ◌%◌, ◌≤◌, List, Bool, true, false, not, ◌==◌, ◌&&◌, Some, is_some, slice_index}
use Rattle.geometry.specs.declared.geometry.Geometry.{Geometry}
use Rattle.image_model.specs.Live.{live_at, Live}
use Rattle.image_model.specs.Headers.{obj_id}
use Rattle.image_model.specs.Tables.{has_of, counted}
use Rattle.image_model.specs.Tidy.{IsTidy, is_wanted, serves, free_blocks}
use Rattle.image_laws.specs.TidySteps.{IsTidyBut}
use Rattle.image_model.specs.Places.{IsImage}
use Rattle.image_laws.specs.Programs.{ClearsBit}
use Rattle.image_model.specs.Sound.{HasMagics, Keeps}
use Rattle.image_laws.specs.LiveSteps.{Kills, KillCut}

-- a live page of the id that does not serve it with this header page
unfoldable pub leftover : Geometry → Live → List ℕ → ℕ → Bool
leftover g pages head r = is_some (pages r) && not (serves g pages head r)

abbrev pub is_in_table : Geometry → List ℕ → ℕ → Bool
is_in_table g image id = is_some (counted (has_of g (live_at g image)) 0x7FFF (has_of g (live_at g image) id))

-- tidy but for the spare pages, none of which is wanted
pub record Spares (g : Geometry) (spare : ℕ → Bool) (a : List ℕ) : Type 0 where
  pub tidy : IsTidyBut g a spare
  pub unwanted : (r : ℕ) (x : List ℕ) → spare r ≡ true → live_at g a r ≡ Some x → (is_wanted g a r ≡ false) × (is_in_table g a (obj_id x % 0x8000) ≡ true)

-- Killing one of them keeps table and free blocks at each cut, and leaves the others.
abbrev pub SpareKills : Geometry → Type 0
SpareKills g = (a b d : List ℕ) (r kill : ℕ) (x : List ℕ) (spare : ℕ → Bool) → IsImage g a → HasMagics g a → Spares g spare a → spare r ≡ true →
    live_at g a r ≡ Some x →
    ClearsBit 7 (slice_index a (r * g.page + 4)) kill → Kills g r kill a b d →
    ((c : List ℕ) → KillCut g r kill a b c → Keeps g a c × (free_blocks g a ≤ free_blocks g c)) × IsImage g d × Keeps g a d
    × Spares g (λ q. spare q && not (q == r)) d

-- With none left the image is tidy.
abbrev pub SparesEnd : Geometry → Type 0
SparesEnd g = (a : List ℕ) (spare : ℕ → Bool) → ((r : ℕ) → spare r ≡ true → ⊥) → Spares g spare a → IsTidy g a

-- An image that is tidy but for some pages has all its magics.
abbrev pub TidyHasMagics : Geometry → Type 0
TidyHasMagics g = (a : List ℕ) (spare : ℕ → Bool) → IsTidyBut g a spare → HasMagics g a
