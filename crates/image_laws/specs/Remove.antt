-- Removing a file: its header page goes first, then its other pages are killed one by one.
use Rattle.std.specs.Prelude.{◌≡◌, ℕ, ◌+◌, ◌*◌, ◌%◌, ◌≤◌, ◌⊎◌, List, [], ◌∷◌, Bool, true, false, not, ◌==◌, ◌&&◌, Some, None, is_some, slice_index}
use Rattle.geometry.specs.declared.geometry.Geometry.{Geometry}
use Rattle.nor_core.specs.Flash.{HalfProgrammed}
use Rattle.table_model.specs.Table.{drop_file}
use Rattle.image_model.specs.Places.{is_entry_page, IsImage}
use Rattle.image_model.specs.Headers.{obj_id}
use Rattle.image_model.specs.Live.{live_at, own}
use Rattle.image_model.specs.Files.{index_page}
use Rattle.image_model.specs.Tables.{table_of, damaged_of}
use Rattle.image_model.specs.Tidy.{IsTidy, is_free_entry, free_blocks}
use Rattle.image_model.specs.Sound.{HasMagics, IsSound, Keeps}
use Rattle.image_laws.specs.Flash.{Programmed}
use Rattle.image_laws.specs.Programs.{ClearsBit, HasOneHead}
use Rattle.image_laws.specs.Kills.{Deletes}
use Rattle.image_laws.specs.TidySteps.{IsTidyBut}
use Rattle.image_laws.specs.LiveSteps.{Kills, KillCut}

-- what a remove begins on: flags that clear IXDELE or DELET of the one header page p of an id
pub record Removes (g : Geometry) (a : List ℕ) (p flags id k : ℕ) (head : List ℕ) : Type 0 where
  pub image : IsImage g a
  pub bit : (k ≡ 6) ⊎ (k ≡ 7)
  pub clears : ClearsBit k (slice_index a (p * g.page + 4)) flags
  pub one : HasOneHead g a id p head

-- Cut off or done, that program leaves the image sound and undamaged, with its free blocks.
abbrev pub RemovingIsSound : Geometry → Type 0
RemovingIsSound g = (a b : List ℕ) (p flags id k : ℕ) (head : List ℕ) → Removes g a p flags id k head → HasMagics g a →
    HalfProgrammed (p * g.page + 4) (flags ∷ []) a b →
    IsSound g b a × (damaged_of g b ≡ []) × (free_blocks g a ≤ free_blocks g b)

-- tidy but for the spare pages, those of them that are live belonging to ids without a header page
pub record Orphans (g : Geometry) (spare : ℕ → Bool) (a : List ℕ) : Type 0 where
  pub tidy : IsTidyBut g a spare
  pub headless : (r : ℕ) (x : List ℕ) → spare r ≡ true → live_at g a r ≡ Some x → index_page g (own (live_at g a) (obj_id x % 0x8000)) 0 ≡ None

-- what the program leaves, done: the file is out of the table, its pages are spare, and its header page isn't live
pub record Removed (g : Geometry) (p id : ℕ) (a b : List ℕ) : Type 0 where
  pub image : IsImage g b
  pub orphans : Orphans g (λ r. is_some (own (live_at g a) id r)) b
  pub table : table_of g b ≡ drop_file id (table_of g a)
  pub dead : live_at g b p ≡ None
  pub others : (q : ℕ) (x : List ℕ) → live_at g b q ≡ Some x → live_at g a q ≡ Some x
  pub used : is_free_entry g b p ≡ false

abbrev pub RemovingLeaves : Geometry → Type 0
RemovingLeaves g = (a b : List ℕ) (p flags id k : ℕ) (head : List ℕ) → Removes g a p flags id k head → IsTidy g a →
    Programmed (p * g.page + 4) (flags ∷ []) a b → Removed g p id a b

-- Killing a spare page keeps table and free blocks at each cut, and leaves the others: a live one,
abbrev pub OrphanKills : Geometry → Type 0
OrphanKills g = (a b d : List ℕ) (r kill : ℕ) (x : List ℕ) (spare : ℕ → Bool) → IsImage g a → HasMagics g a → Orphans g spare a → spare r ≡ true →
    live_at g a r ≡ Some x →
    ClearsBit 7 (slice_index a (r * g.page + 4)) kill → Kills g r kill a b d →
    ((c : List ℕ) → KillCut g r kill a b c → Keeps g a c × (free_blocks g a ≤ free_blocks g c)) × IsImage g d × Keeps g a d
    × Orphans g (λ q. spare q && not (q == r)) d

-- or one that isn't live, as the header page is then.
abbrev pub DeadKills : Geometry → Type 0
DeadKills g = (a b d : List ℕ) (r kill : ℕ) (spare : ℕ → Bool) → IsImage g a → HasMagics g a → Orphans g spare a → spare r ≡ true → is_entry_page g r ≡ true →
    live_at g a r ≡ None → is_free_entry g a r ≡ false →
    Deletes (slice_index a (r * g.page + 4)) kill → Kills g r kill a b d →
    ((c : List ℕ) → KillCut g r kill a b c → Keeps g a c × (free_blocks g a ≤ free_blocks g c)) × IsImage g d × Keeps g a d
    × Orphans g (λ q. spare q && not (q == r)) d

-- With none left the image is tidy.
abbrev pub OrphansEnd : Geometry → Type 0
OrphansEnd g = (a : List ℕ) (spare : ℕ → Bool) → ((r : ℕ) → spare r ≡ true → ⊥) → Orphans g spare a → IsTidy g a
