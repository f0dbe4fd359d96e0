-- What the stages of a check leave of an image.
use Rattle.std.specs.Prelude.{◌≡◌, ℕ, ◌<◌, ◌⊎◌, List, true, false, None}
use Rattle.geometry.specs.declared.geometry.Geometry.{Geometry}
use Rattle.image_model.specs.Places.{has_magic, block_of, is_entry_page}
use Rattle.image_model.specs.Live.{live_at}
use Rattle.image_model.specs.Tables.{table_of}
use Rattle.image_model.specs.Tidy.{IsTidy, IsNeat, is_free_entry, is_free_block}

-- Pages were killed and nothing else: magics and free entries are as they were, and each live page is one that was.
pub record OnlyKills (g : Geometry) (was now : List ℕ) : Type 0 where
  pub magic : (block : ℕ) → has_magic g now block ≡ has_magic g was block
  pub live : (p : ℕ) → (live_at g now p ≡ live_at g was p) ⊎ (live_at g now p ≡ None)
  pub free : (p : ℕ) → is_entry_page g p ≡ true → is_free_entry g now p ≡ is_free_entry g was p

-- What the stages of a check leave of an image: tidy with its table, no live page that wasn't, the same free entries in blocks
-- that had their magic, and the block that lacked it free.
pub record IsStaged (g : Geometry) (was now : List ℕ) : Type 0 where
  pub tidy : IsTidy g now
  pub table : table_of g now ≡ table_of g was
  pub live : (p : ℕ) → (live_at g now p ≡ live_at g was p) ⊎ (live_at g now p ≡ None)
  pub free : (p : ℕ) → is_entry_page g p ≡ true → has_magic g was (block_of g p) ≡ true → is_free_entry g now p ≡ is_free_entry g was p
  pub fresh : (block : ℕ) → block < g.blocks → has_magic g was block ≡ false → is_free_block g now block ≡ true

-- The same of an image with blocks that hold both kinds of pages: it is neat with its table.
pub record IsStripped (g : Geometry) (was now : List ℕ) : Type 0 where
  pub neat : IsNeat g now
  pub table : table_of g now ≡ table_of g was
  pub live : (p : ℕ) → (live_at g now p ≡ live_at g was p) ⊎ (live_at g now p ≡ None)
  pub free : (p : ℕ) → is_entry_page g p ≡ true → has_magic g was (block_of g p) ≡ true → is_free_entry g now p ≡ is_free_entry g was p
  pub fresh : (block : ℕ) → block < g.blocks → has_magic g was block ≡ false → is_free_block g now block ≡ true

-- Where it is tidy the stages left it.
abbrev pub StrippedIsStaged : Geometry → Type 0
StrippedIsStaged g = (was now : List ℕ) → IsStripped g was now → IsTidy g now → IsStaged g was now

-- A tidy image is what the stages leave of itself.
abbrev pub TidyIsStaged : Geometry → Type 0
TidyIsStaged g = (image : List ℕ) → IsTidy g image → IsStaged g image image

-- A neat one is stripped.
abbrev pub NeatIsStripped : Geometry → Type 0
NeatIsStripped g = (image : List ℕ) → IsNeat g image → IsStripped g image image

-- Kills alone keep that.
abbrev pub KillsAreStaged : Geometry → Type 0
KillsAreStaged g = (image was now : List ℕ) → OnlyKills g image was → IsStaged g was now → table_of g now ≡ table_of g image → IsStaged g image now

abbrev pub KillsAreStripped : Geometry → Type 0
KillsAreStripped g = (image was now : List ℕ) → OnlyKills g image was → IsStripped g was now → table_of g now ≡ table_of g image → IsStripped g image now
