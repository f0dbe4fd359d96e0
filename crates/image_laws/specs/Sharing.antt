-- Shared blocks of images, and what leaves the places that their index pages find.
use Rattle.std.specs.Prelude.{◌≡◌, ◌≢◌, ℕ, ◌+◌, ◌<◌, ◌⊎◌, ◌↔◌, List, true, false, Some}
use Rattle.geometry.specs.declared.geometry.Geometry.{Geometry}
use Rattle.table_model.specs.Room.{index_count, data_count}
use Rattle.image_model.specs.Places.{IsImage, has_magic, block_of, is_entry_page}
use Rattle.image_model.specs.Headers.{names_index}
use Rattle.image_model.specs.Live.{live_at}
use Rattle.image_model.specs.Tables.{table_of}
use Rattle.image_model.specs.Tidy.{IsTidy, IsNeat, is_free_entry, is_free_block, free_blocks, HasReserve}
use Rattle.image_model.specs.Kinds.{is_data_block, live_index, live_data}
use Rattle.image_model.specs.Sound.{IsMixed, IsSound, HasMagics}
use Rattle.image_model.specs.Shared.{shared_blocks, fits_over, FitsWith, SameUses}
use Rattle.image_laws.specs.LiveSteps.{PutLeaves, PutDone, KillLeaves}

-- A neat image has as many live pages of each kind as the files of its table need.
abbrev pub NeatCounts : Geometry → Type 0
NeatCounts g = (a : List ℕ) → IsImage g a → IsNeat g a → (live_index g a ≡ index_count g (table_of g a)) × (live_data g a ≡ data_count g (table_of g a))

-- Where no block is mixed none is shared.
abbrev pub UnmixedIsUnshared : Geometry → Type 0
UnmixedIsUnshared g = (image : List ℕ) → ((block : ℕ) → IsMixed g (live_at g image) block → ⊥) → shared_blocks g image ≡ 0

-- Nor is one in an image that is sound with respect to a tidy one.
abbrev pub SoundIsUnshared : Geometry → Type 0
SoundIsUnshared g = (was now : List ℕ) → IsTidy g was → IsSound g now was → shared_blocks g now ≡ 0

-- A neat image without a shared block is tidy.
abbrev pub NeatIsTidy : Geometry → Type 0
NeatIsTidy g = (image : List ℕ) → IsNeat g image → shared_blocks g image ≡ 0 → IsTidy g image

-- It fits over where it does so with none to spare.
abbrev pub FitsIsTested : Geometry → Type 0
FitsIsTested g = (image : List ℕ) → (fits_over g image ≡ true) ↔ FitsWith g image 0

-- Images with the same uses have the same shared blocks, and fit over alike.
abbrev pub SameUsesFit : Geometry → Type 0
SameUsesFit g = (was now : List ℕ) → SameUses g was now → HasMagics g was → HasMagics g now →
    (shared_blocks g now ≡ shared_blocks g was) × ((spare : ℕ) → FitsWith g was spare → FitsWith g now spare)

-- An index page is being copied to page p: the other free entries stay, and no page is live but those that were, and the copy.
pub record IsCopying (g : Geometry) (p : ℕ) (was now : List ℕ) : Type 0 where
  pub magic : (block : ℕ) → has_magic g now block ≡ has_magic g was block
  pub free : (q : ℕ) → is_entry_page g q ≡ true → q ≢ p → is_free_entry g now q ≡ is_free_entry g was q
  pub live : (q : ℕ) (x : List ℕ) → live_at g now q ≡ Some x → (live_at g was q ≡ Some x) ⊎ ((q ≡ p) × (names_index x ≡ true))

-- So it is at each cut in the put of the copy,
abbrev pub PutIsCopying : Geometry → Type 0
PutIsCopying g = (a c : List ℕ) (p : ℕ) (page : List ℕ) → names_index page ≡ true → PutLeaves g p page a c → IsCopying g p a c

-- and in the kill of the old page after it.
abbrev pub KillIsCopying : Geometry → Type 0
KillIsCopying g = (a b c : List ℕ) (p o : ℕ) (page old : List ℕ) → names_index page ≡ true → live_at g a o ≡ Some old → PutDone g p page a b →
    KillLeaves g o b c → IsCopying g p a c

-- In a neat image, to a free page of a block without data pages, which is free only where three blocks are, that costs one of the entries to spare
-- at most, and two free blocks stay.
abbrev pub CopyingFits : Geometry → Type 0
CopyingFits g = (was now : List ℕ) (p : ℕ) → IsNeat g was → is_entry_page g p ≡ true → is_free_entry g was p ≡ true →
    is_data_block g was (block_of g p) ≡ false →
    (is_free_block g was (block_of g p) ≡ true → 2 < free_blocks g was) → IsCopying g p was now →
    ((spare : ℕ) → FitsWith g was (spare + 1) → FitsWith g now spare) × (HasReserve g was → HasReserve g now)
