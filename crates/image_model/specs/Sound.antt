-- Mixed blocks, and images that a step or a cut may leave.
use Rattle.std.specs.Prelude.{◌≡◌, ℕ, ◌<◌, List, map, true, false, Some, ◌≤◌}
use Rattle.std.specs.List.{Contains}
use Rattle.geometry.specs.declared.geometry.Geometry.{Geometry}
use Rattle.image_model.specs.Places.{has_magic, block_of}
use Rattle.image_model.specs.Headers.{names_index}
use Rattle.image_model.specs.Live.{Live, live_at}
use Rattle.image_model.specs.Tables.{table_of, damaged_of}
use Rattle.image_model.specs.Tidy.{free_blocks}

-- A block is mixed where it holds a live index page and a live data page.
pub record IsMixed (g : Geometry) (live : Live) (block : ℕ) : Type 0 where
  pub p : ℕ
  pub q : ℕ
  pub x : List ℕ
  pub y : List ℕ
  pub p_at : block_of g p ≡ block
  pub q_at : block_of g q ≡ block
  pub p_is : live p ≡ Some x
  pub q_is : live q ≡ Some y
  pub names : names_index x ≡ true
  pub holds : names_index y ≡ false

-- at most one block lacks its magic
pub record HasMagics (g : Geometry) (image : List ℕ) : Type 0 where
  pub one : (b c : ℕ) → b < g.blocks → c < g.blocks → has_magic g image b ≡ false → has_magic g image c ≡ false → b ≡ c

-- the ids of the damaged files
abbrev pub damaged_ids : Geometry → List ℕ → List ℕ
damaged_ids g image = map (λ d. d.0) (damaged_of g image)

-- An image is sound with respect to a first one where at most one block lacks its magic, and what is mixed or damaged was so at first.
pub record IsSound (g : Geometry) (image first : List ℕ) : Type 0 where
  pub magics : HasMagics g image
  pub mixed : (block : ℕ) → IsMixed g (live_at g image) block → IsMixed g (live_at g first) block
  pub damaged : (id : ℕ) → Contains (damaged_ids g image) id → Contains (damaged_ids g first) id

-- b is sound with respect to a, and has its table
pub record Keeps (g : Geometry) (a b : List ℕ) : Type 0 where
  pub sound : IsSound g b a
  pub table : table_of g b ≡ table_of g a

-- b is sound with respect to a, and has its table and no fewer free blocks
pub record KeepsAll (g : Geometry) (a b : List ℕ) : Type 0 where
  pub keeps : Keeps g a b
  pub free : free_blocks g a ≤ free_blocks g b
