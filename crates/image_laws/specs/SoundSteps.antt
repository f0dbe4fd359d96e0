-- The steps of a call keep an image sound.
use Rattle.std.specs.Prelude.{◌≡◌, ◌≢◌, ℕ, ◌+◌, ◌*◌, ◌%◌, ◌<◌, ◌≤◌, List, [], ◌∷◌, length, true, None, Some, slice_index, slice_set}
use Rattle.std.specs.Int.{bit_at}
use Rattle.geometry.specs.declared.geometry.Geometry.{Geometry}
use Rattle.nor_core.specs.Flash.{HalfProgrammed, SameOutside}
use Rattle.image_model.specs.Live.{live_at, Live, own}
use Rattle.image_model.specs.Places.{has_magic, page_of, block_of, IsImage, entry_at}
use Rattle.image_model.specs.Headers.{obj_id, names_index}
use Rattle.table_model.specs.Table.{File}
use Rattle.image_model.specs.Tables.{damaged_of}
use Rattle.image_laws.specs.Programs.{IsUnfinished, IsPlaced, LeadsTo, ClearsBit, HasTwoHeads, IsIdle}
use Rattle.image_model.specs.Sound.{HasMagics, IsSound, Keeps}

abbrev pub KeepsItself : Geometry → Type 0
KeepsItself g = (a : List ℕ) → HasMagics g a → Keeps g a a

abbrev pub KeepsOn : Geometry → Type 0
KeepsOn g = (a b c : List ℕ) → Keeps g a b → Keeps g b c → Keeps g a c

-- the live pages of the block of p are all of this kind
pub record IsOfKind (g : Geometry) (live : Live) (p : ℕ) (page : List ℕ) : Type 0 where
  pub same : (q : ℕ) (x : List ℕ) → live q ≡ Some x → block_of g q ≡ block_of g p → names_index x ≡ names_index page

abbrev pub PlacingEntryIsSound : Geometry → Type 0
PlacingEntryIsSound g = (a b : List ℕ) (p : ℕ) (asked : List ℕ) → IsImage g a → HasMagics g a → IsUnfinished g a p → length asked ≡ 2 →
    HalfProgrammed (entry_at g p) asked a b → Keeps g a b

abbrev pub PlacingPageIsSound : Geometry → Type 0
PlacingPageIsSound g = (a b : List ℕ) (p at : ℕ) (asked : List ℕ) → IsImage g a → HasMagics g a → IsUnfinished g a p → p * g.page ≤ at →
    at + length asked ≤ p * g.page + g.page →
    ((i : ℕ) → i < length asked → at + i ≡ p * g.page + 4 → bit_at (slice_index asked i) 1 ≡ 1) → HalfProgrammed at asked a b → Keeps g a b

-- finishing a header page in a block of its kind
abbrev pub FinishingIsSound : Geometry → Type 0
FinishingIsSound g = (a b : List ℕ) (p flags id : ℕ) (f : File) → IsImage g a → HasMagics g a → IsPlaced g a p flags →
    LeadsTo g a id (slice_set (page_of g a p) 4 flags) f → IsOfKind g (live_at g a) p (slice_set (page_of g a p) 4 flags) →
    HalfProgrammed (p * g.page + 4) (flags ∷ []) a b →
    IsSound g b a × (damaged_of g b ≡ [])

-- killing the old one of two header pages
abbrev pub RetiringIsSound : Geometry → Type 0
RetiringIsSound g = (a b : List ℕ) (p q flags id : ℕ) (old head : List ℕ) (f : File) → IsImage g a → HasMagics g a →
    ClearsBit 7 (slice_index a (p * g.page + 4)) flags →
    HasTwoHeads g a id p q old head → LeadsTo g a id head f → HalfProgrammed (p * g.page + 4) (flags ∷ []) a b → IsSound g b a × (damaged_of g b ≡ [])

-- killing an idle page: its flags byte
abbrev pub KillingIsSound : Geometry → Type 0
KillingIsSound g = (a b : List ℕ) (p flags : ℕ) (page : List ℕ) → IsImage g a → HasMagics g a → live_at g a p ≡ Some page →
    ClearsBit 7 (slice_index a (p * g.page + 4)) flags →
    IsIdle g (own (live_at g a) (obj_id page % 0x8000)) p → HalfProgrammed (p * g.page + 4) (flags ∷ []) a b → Keeps g a b

-- a change inside block c, where every other block has its magic and no page of c is live before or after, as at each moment of an erase
abbrev pub ErasingIsSound : Geometry → Type 0
ErasingIsSound g = (a b : List ℕ) (c : ℕ) → IsImage g a → ((d : ℕ) → d < g.blocks → d ≢ c → has_magic g a d ≡ true) → SameOutside (c * g.block) g.block a b →
    ((p : ℕ) → block_of g p ≡ c → live_at g a p ≡ None) → ((p : ℕ) → block_of g p ≡ c → live_at g b p ≡ None) → Keeps g a b
