-- Erase counts of the blocks of an image while some are made fresh.
use Rattle.std.specs.Prelude.{◌≡◌, ◌≢◌, ℕ, ◌+◌, ◌*◌, ◌<◌, ◌≤◌, ◌⊎◌, List, [], ◌∷◌, length, true}
use Rattle.geometry.specs.declared.geometry.Geometry.{Geometry}
use Rattle.nor_core.specs.Flash.{SameOutside}
use Rattle.image_model.specs.Places.{has_magic, erase_count, next_count}
use Rattle.image_laws.specs.TidySteps.{Agree}

-- Each block has its magic in both images or in neither, and where it has it the same erase count.
pub record SameWear (g : Geometry) (a b : List ℕ) : Type 0 where
  pub magic : (block : ℕ) → block < g.blocks → has_magic g b block ≡ has_magic g a block
  pub count : (block : ℕ) → block < g.blocks → has_magic g a block ≡ true → erase_count g b block ≡ erase_count g a block

-- A block was made fresh: it has its magic and the next erase count. Every other block has its magic and its erase count as before.
pub record IsRenewed (g : Geometry) (block : ℕ) (a b : List ℕ) : Type 0 where
  pub within : block < g.blocks
  pub magic : has_magic g b block ≡ true
  pub count : erase_count g b block ≡ next_count g a
  pub others : (c : ℕ) → c < g.blocks → c ≢ block → has_magic g b c ≡ has_magic g a c
  pub counts : (c : ℕ) → c < g.blocks → c ≢ block → has_magic g a c ≡ true → erase_count g b c ≡ erase_count g a c

-- These blocks were made fresh, one after the other: the first of the list is the last one. Nothing else changed an erase count.
unfoldable pub WornBy : Geometry → (blocks : List ℕ) → (was now : List ℕ) → Type 0
WornBy g [] was now = SameWear g was now
WornBy g (block ∷ more) was now = (mid : List ℕ) × WornBy g more was mid × IsRenewed g block mid now

-- the block is one of these
unfoldable pub IsOneOf : (block : ℕ) → (blocks : List ℕ) → Type 0
IsOneOf block [] = ⊥
IsOneOf block (b ∷ more) = (block ≡ b) ⊎ IsOneOf block more

pub record Worn (g : Geometry) (was now : List ℕ) : Type 0 where
  pub blocks : List ℕ
  pub by : WornBy g blocks was now

-- Each block that has its magic had it before, with the same erase count. One that is being made fresh may lack it.
pub record KeepsWear (g : Geometry) (a c : List ℕ) : Type 0 where
  pub magic : (block : ℕ) → block < g.blocks → has_magic g c block ≡ true → has_magic g a block ≡ true
  pub count : (block : ℕ) → block < g.blocks → has_magic g c block ≡ true → erase_count g c block ≡ erase_count g a block

-- Blocks were made fresh, one after the other, and a cut came then, or while another one is made fresh.
pub record Wears (g : Geometry) (was image : List ℕ) : Type 0 where
  pub last : List ℕ
  pub worn : Worn g was last
  pub left : KeepsWear g last image

-- ---- what follows

-- A block that isn't one of these has the erase count that it had,
abbrev pub OthersKeep : Geometry → Type 0
OthersKeep g = (blocks was now : List ℕ) (block : ℕ) → WornBy g blocks was now → block < g.blocks → (IsOneOf block blocks → ⊥) → has_magic g was block ≡ true →
    (has_magic g now block ≡ true) × (erase_count g now block ≡ erase_count g was block)

-- and the next erase count rises by one with each of them, if counts don't wrap.
abbrev pub NextRises : Geometry → Type 0
NextRises g = (blocks was now : List ℕ) → WornBy g blocks was now → ((block : ℕ) → block < g.blocks → has_magic g was block ≡ true) →
    1 ≤ next_count g was → next_count g was + length blocks < 0x8000 → next_count g now ≡ next_count g was + length blocks

-- Each of them has a greater erase count then than any block had before.
abbrev pub FreshAbove : Geometry → Type 0
FreshAbove g = (blocks was now : List ℕ) (block : ℕ) → WornBy g blocks was now → ((c : ℕ) → c < g.blocks → has_magic g was c ≡ true) →
    1 ≤ next_count g was → next_count g was + length blocks < 0x8000 → IsOneOf block blocks →
    (next_count g was ≤ erase_count g now block) × (erase_count g now block < next_count g was + length blocks)

-- Where each block has its magic after a cut nothing was left out.
abbrev pub CutsWhole : Geometry → Type 0
CutsWhole g = (was image : List ℕ) → Wears g was image → ((block : ℕ) → block < g.blocks → has_magic g image block ≡ true) → Worn g was image

-- Programs of a page and of its entry, at each cut and done, leave all erase counts.
abbrev pub ProgramsKeep : Geometry → Type 0
ProgramsKeep g = (a c : List ℕ) (p : ℕ) → Agree g a c p → SameWear g a c

-- A change of one block that ends with its magic and the next erase count makes it fresh. A cut of it leaves it as it was, or so, or without its magic.
abbrev pub FreshWears : Geometry → Type 0
FreshWears g = (a c : List ℕ) (block : ℕ) → block < g.blocks → SameOutside (block * g.block) g.block a c →
    (has_magic g c block ≡ true → (c ≡ a) ⊎ (erase_count g c block ≡ next_count g a)) → Wears g a c
