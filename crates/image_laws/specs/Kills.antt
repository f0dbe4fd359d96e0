-- The entries that the check kills.
use Rattle.std.specs.Prelude.{◌≡◌, ◌≢◌, ℕ, ◌+◌, ◌*◌, List, [], ◌∷◌, length, Bool, true, false, is_some, slice_index, ◌%◌, Some, None, if◌then◌else◌}
use Rattle.std.specs.Int.{bit_at}
use Rattle.geometry.specs.declared.geometry.Geometry.{Geometry}
use Rattle.image_model.specs.Killed.{is_killable, killed_of, is_dead_entry, dead_entries}
use Rattle.nor_core.specs.Flash.{HalfProgrammed}
use Rattle.image_model.specs.Headers.{obj_id, is_finished}
use Rattle.image_model.specs.Live.{live_at}
use Rattle.image_model.specs.Places.{entry_of, page_of, is_entry_page, IsImage, entry_at}
use Rattle.image_model.specs.Tidy.{is_wanted}
use Rattle.image_laws.specs.Programs.{ClearsBit}
use Rattle.image_model.specs.Tables.{has_of, counted}
use Rattle.image_laws.specs.TidySteps.{Agree}
use Rattle.image_model.specs.Sound.{HasMagics, Keeps}

-- asked of this byte it clears DELET, and no other bit
pub record Deletes (old asked : ℕ) : Type 0 where
  pub cleared : bit_at asked 7 ≡ 0
  pub others : (k : ℕ) → k ≢ 7 → bit_at old k ≡ 1 → bit_at asked k ≡ 1

-- The flags byte of a page that is not live: whatever the image holds, cut off or not, no page comes to life.
abbrev pub DeadFlagsKeep : Geometry → Type 0
DeadFlagsKeep g = (a b : List ℕ) (p asked : ℕ) → IsImage g a → HasMagics g a → is_entry_page g p ≡ true → live_at g a p ≡ None →
    Deletes (slice_index a (p * g.page + 4)) asked →
    HalfProgrammed (p * g.page + 4) (asked ∷ []) a b → ((q : ℕ) → live_at g b q ≡ live_at g a q) × Keeps g a b

-- The entry of a page that is not finished, as one that is deleted.
abbrev pub DeadEntryKeeps : Geometry → Type 0
DeadEntryKeeps g = (a b : List ℕ) (p : ℕ) (asked : List ℕ) → IsImage g a → HasMagics g a → is_entry_page g p ≡ true →
    is_finished (page_of g a p) ≡ false → length asked ≡ 2 →
    HalfProgrammed (entry_at g p) asked a b → ((q : ℕ) → live_at g b q ≡ live_at g a q) × Keeps g a b

-- what a turn of the first stage leaves
pub record Turned (g : Geometry) (p : ℕ) (killed : Bool) (a b : List ℕ) : Type 0 where
  pub image : IsImage g b
  pub live : (q : ℕ) → live_at g b q ≡ live_at g a q
  pub clean : is_dead_entry g b p ≡ false
  pub others : (q : ℕ) → is_dead_entry g a q ≡ false → is_dead_entry g b q ≡ false
  pub dead : (if killed then 1 else 0) + dead_entries g b ≡ dead_entries g a
  pub count : (if killed then 1 else 0) + killed_of g b ≡ killed_of g a
  pub keeps : Keeps g a b

-- A kill takes one from the count where it leaves the other pages as wanted as they were.
abbrev pub KillCounts : Geometry → Type 0
KillCounts g = (a b : List ℕ) (p : ℕ) → IsImage g a → Agree g a b p → is_killable g a p ≡ true → entry_of g b p ≡ 0 →
    ((q : ℕ) → q ≢ p → is_wanted g b q ≡ is_wanted g a q) →
    1 + killed_of g b ≡ killed_of g a

-- Killing a page that is not wanted, of an id in the table, leaves the others as wanted as they were, done or cut off.
abbrev pub UnwantedLeaves : Geometry → Type 0
UnwantedLeaves g = (a b : List ℕ) (p flags : ℕ) (page : List ℕ) → IsImage g a → live_at g a p ≡ Some page → is_wanted g a p ≡ false →
    is_some (counted (has_of g (live_at g a)) 0x7FFF (has_of g (live_at g a) (obj_id page % 0x8000))) ≡ true →
    ClearsBit 7 (slice_index a (p * g.page + 4)) flags → HalfProgrammed (p * g.page + 4) (flags ∷ []) a b → (q : ℕ) → q ≢ p → is_wanted g b q ≡ is_wanted g a q
