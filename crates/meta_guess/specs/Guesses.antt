-- What a volume holds by different numbers of meta bytes, and which number reads most.
use Rattle.std.specs.Prelude.{ℕ, ◌≡◌, ◌+◌, ◌*◌, ◌<◌, ◌≤◌, List, [], length, Option, Some, None}
use Rattle.geometry.specs.declared.geometry.Geometry.{Geometry}
use Rattle.geometry.specs.Numbers.{page_count, IsOf}
use Rattle.nor_core.specs.Count.{Rose}
use Rattle.nor_core.specs.declared.state.NorState.{Ghosts as NorOf}
use Rattle.image_model.specs.Tables.{table_of, damaged_of}
use Rattle.meta_guess.specs.declared.counts.Counts.{Counts}
use Rattle.meta_guess.specs.declared.counts.Guess.{Guess}

-- so many files of an image are whole, and so many ids are damaged
pub record CountsOf (g : Geometry) (image : List ℕ) (counts : Counts) : Type 0 where
  pub whole : counts.whole ≡ length (table_of g image)
  pub damaged : counts.damaged ≡ length (damaged_of g image)

-- the counts; or none, where no id is damaged
abbrev pub CountsIf : Geometry → List ℕ → Option Counts → Type 0
CountsIf g image None = damaged_of g image ≡ []
CountsIf g image (Some counts) = CountsOf g image counts

-- the same numbers but for the meta bytes
abbrev pub SameBut : Geometry → Geometry → Type 0
SameBut g h = IsOf h g.page g.block g.blocks g.phys h.meta g.magic

-- the same numbers, with so many meta bytes
pub record IsMeta (g : Geometry) (meta : ℕ) (h : Geometry) : Type 0 where
  pub same : SameBut g h
  pub meta_is : h.meta ≡ meta

-- the counts of an image by so many meta bytes
pub record CountsBy (g : Geometry) (image : List ℕ) (meta : ℕ) (counts : Counts) : Type 0 where
  pub volume : Geometry
  pub is : IsMeta g meta volume
  pub counts_are : CountsOf volume image counts

-- Of the numbers of meta bytes below `end` this is the least of those that read most whole files, and these are its counts.
pub record IsBest (g : Geometry) (image : List ℕ) (end meta : ℕ) (best : Counts) : Type 0 where
  pub counts : CountsBy g image meta best
  pub most : (h : Geometry) → SameBut g h → h.meta < end → length (table_of h image) ≤ best.whole
  pub least : (h : Geometry) → SameBut g h → h.meta < meta → length (table_of h image) < best.whole

-- The counts by the given number; and a number by which no fewer files are whole, and no more ids damaged, than by any other, with its counts:
-- the given one where it leaves no id damaged, else the least such number.
pub record IsGuess (g : Geometry) (image : List ℕ) (guess : Guess) : Type 0 where
  pub given : CountsOf g image guess.given
  pub best : CountsBy g image guess.meta guess.best
  pub most : (h : Geometry) → SameBut g h → length (table_of h image) ≤ guess.best.whole
  pub fewest : (h : Geometry) → SameBut g h → guess.best.damaged ≤ length (damaged_of h image)
  pub stays : guess.given.damaged ≡ 0 → guess.meta ≡ g.meta
  pub least : (h : Geometry) → 0 < guess.given.damaged → SameBut g h → h.meta < guess.meta → length (table_of h image) < guess.best.whole

-- the guess, where an id is damaged; or none, where none is
abbrev pub GuessIf : Geometry → List ℕ → Option Guess → Type 0
GuessIf g image None = damaged_of g image ≡ []
GuessIf g image (Some guess) = IsGuess g image guess × (0 < guess.given.damaged)

-- with lent bytes for a copy of each page, and where no fault was counted, the device was asked for no more reads than it has pages
pub record ReadsOnce {D : Type 0} (nor : NorOf D) (g : Geometry) (cache : ℕ) (old new : D) : Type 0 where
  pub few : page_count g * (g.page + 8) ≤ cache → ¬ Rose (nor.faults old) (nor.faults new) → nor.device_reads new ≤ nor.device_reads old + page_count g
