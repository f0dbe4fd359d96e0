-- What the check leaves of a block that lacks its magic.
use Rattle.std.specs.Prelude.{◌≡◌, ℕ, ◌<◌, List, Bool, true, false, nat_lt, if◌then◌else◌}
use Rattle.geometry.specs.declared.geometry.Geometry.{Geometry}
use Rattle.image_model.specs.Places.{has_magic, erase_count, next_count, block_of, is_entry_page}
use Rattle.image_model.specs.Live.{live_at}
use Rattle.image_model.specs.Tidy.{is_free_entry, is_free_block}
use Rattle.image_model.specs.Kinds.{spoiled_blocks}
use Rattle.image_model.specs.Killed.{killed_of}
use Rattle.vol_check.specs.Owned.{IsOwn}

-- every block has its magic
abbrev pub HasAllMagics : Geometry → List ℕ → Type 0
HasAllMagics g image = (block : ℕ) → block < g.blocks → has_magic g image block ≡ true

-- the erase count that a block has after the check: its own, or the next one where it lacked its magic
abbrev pub count_after : Geometry → List ℕ → ℕ → ℕ
count_after g was block = if has_magic g was block then erase_count g was block else next_count g was

-- The block without its magic was made fresh with the next erase count, where there was one, and is free: now all have theirs, with the
-- same live pages, and the other blocks have the free entries and the erase counts that they had. Where each entry of 0xFFFF lay over an
-- erased page each one does.
pub record MadeFresh (g : Geometry) (erased : Bool) (was now : List ℕ) : Type 0 where
  pub erased_is : erased ≡ nat_lt 0 (spoiled_blocks g was)
  pub magics : HasAllMagics g now
  pub live : (p : ℕ) → live_at g now p ≡ live_at g was p
  pub killed : killed_of g now ≡ killed_of g was
  pub free : (p : ℕ) → is_entry_page g p ≡ true → has_magic g was (block_of g p) ≡ true → is_free_entry g now p ≡ is_free_entry g was p
  pub fresh : (block : ℕ) → block < g.blocks → has_magic g was block ≡ false → is_free_block g now block ≡ true
  pub counts : (block : ℕ) → block < g.blocks → erase_count g now block ≡ count_after g was block
  pub own : IsOwn g was → IsOwn g now
