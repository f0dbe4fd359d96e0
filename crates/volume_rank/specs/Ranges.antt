-- The numbers of meta bytes that read most of a volume.
use Rattle.std.specs.Prelude.{ℕ, ◌≡◌, ◌+◌, ◌<◌, ◌≤◌, List, length}
use Rattle.geometry.specs.declared.geometry.Geometry.{Geometry}
use Rattle.image_model.specs.Tables.{table_of, damaged_of}
use Rattle.meta_guess.specs.Guesses.{SameBut, CountsBy}
use Rattle.volume_rank.specs.declared.found.MetaRange.{MetaRange}

-- By each number of meta bytes behind `first` and up to `last` so many files are whole, and not by the next one.
pub record ReadsEqual (g : Geometry) (image : List ℕ) (whole first last : ℕ) : Type 0 where
  pub some : first ≤ last
  pub few : last ≤ 64
  pub equal : (h : Geometry) → SameBut g h → first < h.meta → h.meta ≤ last → length (table_of h image) ≡ whole
  pub end : (h : Geometry) → SameBut g h → h.meta ≡ last + 1 → length (table_of h image) ≡ whole → ⊥

-- The first number is the least of those by which most files are whole, and by these the fewest ids are damaged.
-- By each up to the last as many are whole, and not by the next one.
pub record IsRange (g : Geometry) (image : List ℕ) (range : MetaRange) : Type 0 where
  pub counts : CountsBy g image range.first range.counts
  pub most : (h : Geometry) → SameBut g h → length (table_of h image) ≤ range.counts.whole
  pub fewest : (h : Geometry) → SameBut g h → range.counts.damaged ≤ length (damaged_of h image)
  pub least : (h : Geometry) → SameBut g h → h.meta < range.first → length (table_of h image) < range.counts.whole
  pub more : ReadsEqual g image range.counts.whole range.first range.last
