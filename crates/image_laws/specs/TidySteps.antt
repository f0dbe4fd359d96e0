-- The steps of a call leave an image tidy, and its free blocks.
use Rattle.std.specs.Prelude.{◌≡◌, ◌≢◌, ℕ, Bool, ◌+◌, ◌*◌, ◌%◌, ◌<◌, ◌≤◌, ◌⊎◌, List, [], ◌∷◌, length, true, false, Some, None, slice_index, slice_set}
use Rattle.std.specs.Int.{bit_at}
use Rattle.geometry.specs.declared.geometry.Geometry.{Geometry}
use Rattle.nor_core.specs.Flash.{HalfProgrammed, SameOutside}
use Rattle.image_laws.specs.Flash.{Programmed}
use Rattle.image_model.specs.Live.{live_at, own}
use Rattle.image_model.specs.Places.{page_of, block_of, has_magic, is_entry_page, entry_of, IsImage, entry_at}
use Rattle.image_model.specs.Headers.{obj_id, names_index, is_finished}
use Rattle.table_model.specs.Table.{File}
use Rattle.image_model.specs.Files.{index_page}
use Rattle.image_model.specs.Tables.{damaged_of}
use Rattle.image_model.specs.Tidy.{is_free_entry, is_wanted, IsTidy, is_free_block, free_blocks}
use Rattle.image_model.specs.Shared.{SameCounts}
use Rattle.image_laws.specs.Programs.{IsUnfinished, IsPlaced, LeadsTo, ClearsBit, IsIdle}
use Rattle.image_laws.specs.SoundSteps.{IsOfKind}

-- tidy but for the entries of some pages
pub record IsTidyBut (g : Geometry) (image : List ℕ) (spare : ℕ → Bool) : Type 0 where
  pub magic : (b : ℕ) → b < g.blocks → has_magic g image b ≡ true
  pub entries : (p : ℕ) → is_entry_page g p ≡ true →
      (spare p ≡ true) ⊎ ((entry_of g image p ≡ 0) ⊎ ((is_free_entry g image p ≡ true) ⊎ (is_wanted g image p ≡ true)))
  pub undamaged : damaged_of g image ≡ []
  pub unmixed : (p q : ℕ) (x y : List ℕ) → live_at g image p ≡ Some x → live_at g image q ≡ Some y → block_of g p ≡ block_of g q → names_index x ≡ names_index y

-- neat but for the entries of some pages
pub record IsNeatBut (g : Geometry) (image : List ℕ) (spare : ℕ → Bool) : Type 0 where
  pub magic : (b : ℕ) → b < g.blocks → has_magic g image b ≡ true
  pub entries : (p : ℕ) → is_entry_page g p ≡ true →
      (spare p ≡ true) ⊎ ((entry_of g image p ≡ 0) ⊎ ((is_free_entry g image p ≡ true) ⊎ (is_wanted g image p ≡ true)))
  pub undamaged : damaged_of g image ≡ []

-- the spare pages but for p
pub record Leaves (p : ℕ) (spare later : ℕ → Bool) : Type 0 where
  pub others : (q : ℕ) → q ≢ p → spare q ≡ true → later q ≡ true

-- no page is spare
abbrev pub TidyIsTidy : Geometry → Type 0
TidyIsTidy g = (a : List ℕ) (spare : ℕ → Bool) → (IsTidy g a → IsTidyBut g a spare) × (((p : ℕ) → spare p ≡ true → ⊥) → IsTidyBut g a spare → IsTidy g a)

abbrev pub PlacingEntryTidy : Geometry → Type 0
PlacingEntryTidy g = (a b : List ℕ) (p : ℕ) (asked : List ℕ) (spare : ℕ → Bool) → IsImage g a → IsTidyBut g a spare → spare p ≡ true →
    IsUnfinished g a p → length asked ≡ 2 →
    HalfProgrammed (entry_at g p) asked a b → IsTidyBut g b spare

abbrev pub PlacingPageTidy : Geometry → Type 0
PlacingPageTidy g = (a b : List ℕ) (p at : ℕ) (asked : List ℕ) (spare : ℕ → Bool) → IsImage g a → IsTidyBut g a spare → spare p ≡ true → IsUnfinished g a p →
    p * g.page ≤ at → at + length asked ≤ p * g.page + g.page →
    ((i : ℕ) → i < length asked → at + i ≡ p * g.page + 4 → bit_at (slice_index asked i) 1 ≡ 1) → HalfProgrammed at asked a b → IsTidyBut g b spare

-- finishing the header page of a new id: it is wanted then
abbrev pub FinishingTidies : Geometry → Type 0
FinishingTidies g = (a b : List ℕ) (p flags id : ℕ) (f : File) (spare later : ℕ → Bool) → Leaves p spare later → IsImage g a →
    IsTidyBut g a spare → IsPlaced g a p flags →
    LeadsTo g a id (slice_set (page_of g a p) 4 flags) f → index_page g (own (live_at g a) id) 0 ≡ None →
    IsOfKind g (live_at g a) p (slice_set (page_of g a p) 4 flags) →
    Programmed (p * g.page + 4) (flags ∷ []) a b → slice_index b (p * g.page + 4) ≡ flags → IsTidyBut g b later

-- killing an idle page: the flags byte, also where it is cut off, leaves the others as they are
abbrev pub KillingTidy : Geometry → Type 0
KillingTidy g = (a b : List ℕ) (p flags : ℕ) (page : List ℕ) (spare : ℕ → Bool) → IsImage g a → IsTidyBut g a spare → spare p ≡ true →
    live_at g a p ≡ Some page → ClearsBit 7 (slice_index a (p * g.page + 4)) flags →
    IsIdle g (own (live_at g a) (obj_id page % 0x8000)) p → HalfProgrammed (p * g.page + 4) (flags ∷ []) a b → IsTidyBut g b spare

-- then the entry: cut off it leaves the others, and done the page is no spare one any more
abbrev pub KilledTidies : Geometry → Type 0
KilledTidies g = (a b : List ℕ) (p : ℕ) (spare later : ℕ → Bool) → Leaves p spare later → IsImage g a → IsTidyBut g a spare → spare p ≡ true →
    is_entry_page g p ≡ true → is_finished (page_of g a p) ≡ false →
    (HalfProgrammed (entry_at g p) (0 ∷ 0 ∷ []) a b → IsTidyBut g b spare) × (Programmed (entry_at g p) (0 ∷ 0 ∷ []) a b → IsTidyBut g b later)

-- Two images agree but for page p and its entry, as before and after any programs of these, done or cut off.
pub record Agree (g : Geometry) (a b : List ℕ) (p : ℕ) : Type 0 where
  pub magic : (c : ℕ) → has_magic g b c ≡ has_magic g a c
  pub entry : (q : ℕ) → is_entry_page g q ≡ true → q ≢ p → entry_of g b q ≡ entry_of g a q
  pub page : (q : ℕ) → is_entry_page g q ≡ true → q ≢ p → page_of g b q ≡ page_of g a q
  pub counts : SameCounts g a b

abbrev pub ProgramsAgree : Geometry → Type 0
ProgramsAgree g = ((a b : List ℕ) (p : ℕ) → is_entry_page g p ≡ true → SameOutside (p * g.page) g.page a b ⊎ SameOutside (entry_at g p) 2 a b → Agree g a b p)
    × ((a b c : List ℕ) (p : ℕ) → Agree g a b p → Agree g b c p → Agree g a c p)

-- Programs of a page and its entry take at most its block from the free ones, and that only if it was free.
abbrev pub FreeBlocksFall : Geometry → Type 0
FreeBlocksFall g = (a b : List ℕ) (p : ℕ) → Agree g a b p →
    (free_blocks g a ≤ free_blocks g b + 1) × (is_free_block g a (block_of g p) ≡ false → free_blocks g a ≤ free_blocks g b)

-- A block with an entry that is not free is not free.
abbrev pub UsedIsNotFree : Geometry → Type 0
UsedIsNotFree g = (a : List ℕ) (p : ℕ) → is_entry_page g p ≡ true → is_free_entry g a p ≡ false → is_free_block g a (block_of g p) ≡ false

-- The entry of a live page is not free.
abbrev pub LiveIsUsed : Geometry → Type 0
LiveIsUsed g = (a : List ℕ) (p : ℕ) (page : List ℕ) → live_at g a p ≡ Some page → is_free_entry g a p ≡ false
