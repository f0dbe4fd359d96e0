-- What the steps of a call do to the table of an image.
use Rattle.std.specs.Prelude.{◌≡◌, ◌≢◌, ℕ, ◌+◌, ◌-◌, ◌*◌, ◌%◌, ◌<◌, ◌≤◌, ◌⊎◌, List, [], ◌∷◌, length, true, false, Some, None, Ok, is_some, slice_index}
use Rattle.std.specs.Prelude.{slice_set}
use Rattle.std.specs.List.{All}
use Rattle.std.specs.Int.{bit_at}
use Rattle.geometry.specs.declared.geometry.Geometry.{Geometry}
use Rattle.nor_core.specs.Flash.{SameOutside, HalfProgrammed}
use Rattle.image_model.specs.Places.{IsImage, entry_at}
use Rattle.table_model.specs.Room.{data_pages}
use Rattle.geometry.specs.Numbers.{head_slots, body}
use Rattle.image_model.specs.Live.{live_at, Live, own}
use Rattle.image_model.specs.Headers.{is_finished, is_flag_set, obj_id, names_index, span_of, size_of}
use Rattle.image_model.specs.Places.{has_magic, entry_of, page_of, block_of, is_entry_page}
use Rattle.image_model.specs.Tidy.{is_wanted}
use Rattle.image_model.specs.Tables.{has_of, counted, table_of, damaged_of}
use Rattle.table_model.specs.Table.{File, put_file, drop_file}
use Rattle.image_model.specs.Files.{is_index, index_page, further, entry_number, judged}

-- asked is old with bit k cleared
pub record ClearsBit (k old asked : ℕ) : Type 0 where
  pub set : bit_at old k ≡ 1
  pub cleared : bit_at asked k ≡ 0
  pub others : (j : ℕ) → j ≢ k → bit_at asked j ≡ bit_at old j

-- an entry page that is not finished
pub record IsUnfinished (g : Geometry) (image : List ℕ) (p : ℕ) : Type 0 where
  pub entry_page : is_entry_page g p ≡ true
  pub final : is_flag_set (page_of g image p) 1 ≡ true

-- Placing: programs of the entry, and inside the page that leave FINAL, keep the table, also where they are cut off.
abbrev pub PlacingEntryKeeps : Geometry → Type 0
PlacingEntryKeeps g = (a b : List ℕ) (p : ℕ) (asked : List ℕ) → IsImage g a → IsUnfinished g a p → length asked ≡ 2 → HalfProgrammed (entry_at g p) asked a b →
    (table_of g b ≡ table_of g a) × (damaged_of g b ≡ damaged_of g a) × IsUnfinished g b p

abbrev pub PlacingPageKeeps : Geometry → Type 0
PlacingPageKeeps g = (a b : List ℕ) (p at : ℕ) (asked : List ℕ) → IsImage g a → IsUnfinished g a p → p * g.page ≤ at → at + length asked ≤ p * g.page + g.page →
    ((i : ℕ) → i < length asked → at + i ≡ p * g.page + 4 → bit_at (slice_index asked i) 1 ≡ 1) → HalfProgrammed at asked a b →
    (table_of g b ≡ table_of g a) × (damaged_of g b ≡ damaged_of g a) × IsUnfinished g b p

-- a placed page that is live once its flags are these
pub record IsPlaced (g : Geometry) (image : List ℕ) (p flags : ℕ) : Type 0 where
  pub entry_page : is_entry_page g p ≡ true
  pub magic : has_magic g image (block_of g p) ≡ true
  pub entry : entry_of g image p ≡ obj_id (page_of g image p)
  pub clears : ClearsBit 1 (slice_index image (p * g.page + 4)) flags
  pub finished : is_finished (slice_set (page_of g image p) 4 flags) ≡ true

-- the header page of an id
pub record IsHead (id : ℕ) (page : List ℕ) : Type 0 where
  pub index : names_index page ≡ true
  pub of : obj_id page % 0x8000 ≡ id
  pub first : span_of page ≡ 0

-- with its live pages as they are, this header page leads to file f, whose name no other file has; nothing is damaged
pub record LeadsTo (g : Geometry) (image : List ℕ) (id : ℕ) (head : List ℕ) (f : File) : Type 0 where
  pub is_head : IsHead id head
  pub low : 1 ≤ id
  pub high : id ≤ 0x7FFF
  pub file : judged g (own (live_at g image) id) id head ≡ Ok f
  pub undamaged : damaged_of g image ≡ []
  pub unused : All (λ x. x.id ≢ id → x.name ≢ f.name) (table_of g image)

-- Finishing a header page, also where that is cut off, leaves the table or puts the file into it.
abbrev pub FinishingPublishes : Geometry → Type 0
FinishingPublishes g = (a b : List ℕ) (p flags id : ℕ) (f : File) → IsImage g a → IsPlaced g a p flags →
    LeadsTo g a id (slice_set (page_of g a p) 4 flags) f → HalfProgrammed (p * g.page + 4) (flags ∷ []) a b →
    (table_of g b ≡ table_of g a) ⊎ (table_of g b ≡ put_file f (table_of g a))

-- of the live pages of this id, q and p alone are header pages
pub record HasTwoHeads (g : Geometry) (image : List ℕ) (id p q : ℕ) (old head : List ℕ) : Type 0 where
  pub differ : q ≢ p
  pub was : own (live_at g image) id p ≡ Some old
  pub is : own (live_at g image) id q ≡ Some head
  pub old_head : IsHead id old
  pub only : (r : ℕ) → is_index (own (live_at g image) id r) 0 ≡ true → r ≢ p → r ≡ q

-- Killing the old header page, also where that is cut off, leaves the table or puts the file of the new one into it.
abbrev pub KillingRetires : Geometry → Type 0
KillingRetires g = (a b : List ℕ) (p q flags id : ℕ) (old head : List ℕ) (f : File) → IsImage g a → ClearsBit 7 (slice_index a (p * g.page + 4)) flags →
    HasTwoHeads g a id p q old head → LeadsTo g a id head f → HalfProgrammed (p * g.page + 4) (flags ∷ []) a b →
    (table_of g b ≡ table_of g a) ⊎ (table_of g b ≡ put_file f (table_of g a))

-- page p serves the id with these pages in no way
pub record IsIdle (g : Geometry) (pages : Live) (p : ℕ) : Type 0 where
  pub no_header : index_page g pages 0 ≢ Some p
  pub no_page : (h : ℕ) (head : List ℕ) → index_page g pages 0 ≡ Some h → pages h ≡ Some head → (span : ℕ) → span < data_pages g (size_of head) →
      (head_slots g ≤ span → index_page g pages (further g span) ≢ Some p) × (entry_number g pages head span ≢ Some p)

-- Killing an idle page, also where that is cut off, keeps the table and what is damaged.
abbrev pub KillingKeeps : Geometry → Type 0
KillingKeeps g = (a b : List ℕ) (p flags : ℕ) (page : List ℕ) → IsImage g a → live_at g a p ≡ Some page → ClearsBit 7 (slice_index a (p * g.page + 4)) flags →
    IsIdle g (own (live_at g a) (obj_id page % 0x8000)) p → HalfProgrammed (p * g.page + 4) (flags ∷ []) a b →
    (table_of g b ≡ table_of g a) × (damaged_of g b ≡ damaged_of g a)

-- The program of its entry keeps them too, as that of any entry of a page that is not finished or is deleted.
abbrev pub EntryKeeps : Geometry → Type 0
EntryKeeps g = (a b : List ℕ) (p : ℕ) (asked : List ℕ) → IsImage g a → is_entry_page g p ≡ true → is_finished (page_of g a p) ≡ false → length asked ≡ 2 →
    HalfProgrammed (entry_at g p) asked a b →
    (table_of g b ≡ table_of g a) × (damaged_of g b ≡ damaged_of g a)

-- Programming bytes of a live data page past the end of its file, also where that is cut off, keeps the table and what is damaged.
abbrev pub AppendingKeeps : Geometry → Type 0
AppendingKeeps g = (a b : List ℕ) (p h at : ℕ) (asked page head : List ℕ) → IsImage g a → live_at g a p ≡ Some page → names_index page ≡ false →
    index_page g (own (live_at g a) (obj_id page % 0x8000)) 0 ≡ Some h → own (live_at g a) (obj_id page % 0x8000) h ≡ Some head →
    p * g.page + 5 + (size_of head - span_of page * body g) ≤ at → at + length asked ≤ p * g.page + g.page → HalfProgrammed at asked a b →
    (table_of g b ≡ table_of g a) × (damaged_of g b ≡ damaged_of g a)

-- A change inside block c, none of whose pages is live before or after, as at each moment of an erase, keeps the table and what is damaged.
abbrev pub BlockKeeps : Geometry → Type 0
BlockKeeps g = (a b : List ℕ) (c : ℕ) → IsImage g a → SameOutside (c * g.block) g.block a b →
    ((p : ℕ) → block_of g p ≡ c → live_at g a p ≡ None) → ((p : ℕ) → block_of g p ≡ c → live_at g b p ≡ None) →
    (table_of g b ≡ table_of g a) × (damaged_of g b ≡ damaged_of g a)

-- A block without its magic has no live page.
abbrev pub SpoiledIsDead : Geometry → Type 0
SpoiledIsDead g = (a : List ℕ) (c : ℕ) → has_magic g a c ≡ false → (p : ℕ) → block_of g p ≡ c → live_at g a p ≡ None

-- the file of id, whose one header page is p
pub record HasOneHead (g : Geometry) (image : List ℕ) (id p : ℕ) (head : List ℕ) : Type 0 where
  pub low : 1 ≤ id
  pub high : id ≤ 0x7FFF
  pub is : own (live_at g image) id p ≡ Some head
  pub is_head : IsHead id head
  pub only : (r : ℕ) → is_index (own (live_at g image) id r) 0 ≡ true → r ≡ p
  pub undamaged : damaged_of g image ≡ []

-- Removing: the program of IXDELE or DELET of the one header page, also where that is cut off, leaves the table or takes the file out of it.
abbrev pub RemovingDrops : Geometry → Type 0
RemovingDrops g = (a b : List ℕ) (p flags id k : ℕ) (head : List ℕ) → IsImage g a → (k ≡ 6) ⊎ (k ≡ 7) → ClearsBit k (slice_index a (p * g.page + 4)) flags →
    HasOneHead g a id p head → HalfProgrammed (p * g.page + 4) (flags ∷ []) a b →
    (table_of g b ≡ table_of g a) ⊎ (table_of g b ≡ drop_file id (table_of g a))

-- Killing a page that is not wanted, of an id in the table, keeps the table.
abbrev pub UnwantedIsIdle : Geometry → Type 0
UnwantedIsIdle g = (a : List ℕ) (p : ℕ) (page : List ℕ) → live_at g a p ≡ Some page → is_wanted g a p ≡ false →
    is_some (counted (has_of g (live_at g a)) 0x7FFF (has_of g (live_at g a) (obj_id page % 0x8000))) ≡ true →
    IsIdle g (own (live_at g a) (obj_id page % 0x8000)) p
