-- A put and a kill, each at every cut and done, as changes of the live pages.
use Rattle.std.specs.Prelude.{◌≡◌, ◌≢◌, ℕ, ◌+◌, ◌*◌, ◌⊎◌, List, [], ◌∷◌, slice_index, slice_set, false, Some}
use Rattle.geometry.specs.declared.geometry.Geometry.{Geometry}
use Rattle.nor_core.specs.Flash.{HalfProgrammed}
use Rattle.image_laws.specs.Flash.{Programmed}
use Rattle.image_model.specs.Live.{live_at}
use Rattle.image_model.specs.Places.{entry_of, IsImage, entry_at}
use Rattle.image_model.specs.Tidy.{is_free_entry}
use Rattle.image_laws.specs.Changes.{Gains, Loses}
use Rattle.image_laws.specs.Programs.{ClearsBit}
use Rattle.image_laws.specs.NewFile.{IsFreePage}
use Rattle.image_laws.specs.TidySteps.{Agree}
use Rattle.image_laws.specs.Creating.{Placed}
use Rattle.image_laws.specs.Put.{IsReadyPage, PlacingCut}

-- the four programs of a put, and what each leaves where it is cut off
pub record Finished (g : Geometry) (p : ℕ) (page : List ℕ) (fin : ℕ) (a0 a1 a2 a3 a4 : List ℕ) : Type 0 where
  pub placed : Placed g p page a0 a1 a2 a3
  pub finish : Programmed (p * g.page + 4) (fin ∷ []) a3 a4

abbrev pub PutCut : Geometry → ℕ → List ℕ → ℕ → List ℕ → List ℕ → List ℕ → List ℕ → List ℕ → Type 0
PutCut g p page fin a0 a1 a2 a3 c = PlacingCut g p page a0 a1 a2 c ⊎ HalfProgrammed (p * g.page + 4) (fin ∷ []) a3 c

-- the two of a kill
pub record Kills (g : Geometry) (o kill : ℕ) (a b c : List ℕ) : Type 0 where
  pub delete : Programmed (o * g.page + 4) (kill ∷ []) a b
  pub clear : Programmed (entry_at g o) (0 ∷ 0 ∷ []) b c

abbrev pub KillCut : Geometry → ℕ → ℕ → List ℕ → List ℕ → List ℕ → Type 0
KillCut g o kill a b c = HalfProgrammed (o * g.page + 4) (kill ∷ []) a c ⊎ HalfProgrammed (entry_at g o) (0 ∷ 0 ∷ []) b c

pub record PutLeaves (g : Geometry) (p : ℕ) (page a c : List ℕ) : Type 0 where
  pub image : IsImage g c
  pub agree : Agree g a c p
  pub live : (live_at g c ≡ live_at g a) ⊎ Gains p page (live_at g a) (live_at g c)

pub record PutDone (g : Geometry) (p : ℕ) (page a b : List ℕ) : Type 0 where
  pub image : IsImage g b
  pub agree : Agree g a b p
  pub gains : Gains p page (live_at g a) (live_at g b)
  -- every other free page stays free
  pub free : (q : ℕ) → q ≢ p → IsFreePage g a q → IsFreePage g b q

pub record KillLeaves (g : Geometry) (o : ℕ) (a c : List ℕ) : Type 0 where
  pub image : IsImage g c
  pub agree : Agree g a c o
  pub live : (live_at g c ≡ live_at g a) ⊎ Loses o (live_at g a) (live_at g c)
  -- its entry is not free
  pub used : is_free_entry g c o ≡ false

pub record KillDone (g : Geometry) (o : ℕ) (a b : List ℕ) : Type 0 where
  pub image : IsImage g b
  pub agree : Agree g a b o
  pub loses : Loses o (live_at g a) (live_at g b)
  pub zero : entry_of g b o ≡ 0
  -- every other free page stays free
  pub free : (q : ℕ) → q ≢ o → IsFreePage g a q → IsFreePage g b q

abbrev pub PutChanges : Geometry → Type 0
PutChanges g = (a0 a1 a2 a3 a4 : List ℕ) (p : ℕ) (page : List ℕ) (fin : ℕ) → IsImage g a0 → IsFreePage g a0 p → IsReadyPage g page fin →
    Finished g p page fin a0 a1 a2 a3 a4 →
    ((c : List ℕ) → PutCut g p page fin a0 a1 a2 a3 c → PutLeaves g p (slice_set page 4 fin) a0 c) × PutDone g p (slice_set page 4 fin) a0 a4

abbrev pub KillChanges : Geometry → Type 0
KillChanges g = (a b d : List ℕ) (o kill : ℕ) (page : List ℕ) → IsImage g a → live_at g a o ≡ Some page →
    ClearsBit 7 (slice_index a (o * g.page + 4)) kill → Kills g o kill a b d →
    ((c : List ℕ) → KillCut g o kill a b c → KillLeaves g o a c) × KillDone g o a d
