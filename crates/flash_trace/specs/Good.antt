-- What may stand between two events of a trace of a run.
use Rattle.std.specs.Prelude.{◌≡◌, ℕ, ◌+◌, ◌<◌, ◌⊎◌, List, [], ◌∷◌, ◌++◌, length, replicate, codes, decimal, not, nat_lt, ◌&&◌, is_some, Option, Some, None}
use Rattle.std.specs.Prelude.{if◌then◌else◌}
use Rattle.geometry.specs.declared.geometry.Geometry.{Geometry}
use Rattle.table_model.specs.Ask.{Ask}
use Rattle.table_model.specs.Window.{Moment, settled_at}
use Rattle.call_script.specs.Lines.{Parsed, Bad, lines, of_line, calls}
use Rattle.image_model.specs.Tables.{table_of}
use Rattle.image_model.specs.Tidy.{free_blocks}
use Rattle.image_model.specs.Kinds.{spoiled_blocks}
use Rattle.image_model.specs.Shared.{shared_blocks, fits_over}
use Rattle.image_model.specs.Collect.{chosen_block}
use Rattle.image_model.specs.Sound.{IsSound}
use Rattle.run_model.specs.Runs.{RunCall, AreFair, asks_of, after_all, replies}
use Rattle.trace_laws.specs.Standing.{MayStand}
use Rattle.flash_trace.specs.Events.{Standing}

-- a volume with that image and so many descriptors, all closed
abbrev pub first_moment : Geometry → (slots : ℕ) (image : List ℕ) → Moment
first_moment g slots image = settled_at (record { table = table_of g image; slots = replicate slots None })

-- the number of a line where it is outside the grammar, or else what the lines behind it give
abbrev pub bad_or : ℕ → Parsed → Option ℕ → Option ℕ
bad_or n Bad later = Some n
bad_or n _ later = later

-- the number of the first of some lines that is outside the grammar, where they are counted from `n`
unfoldable pub first_bad : ℕ → List (List ℕ) → Option ℕ
first_bad n [] = None
first_bad n (line ∷ ls) = bad_or n (of_line line) (first_bad (n + 1) ls)

-- the line that ends a run for a line outside the grammar
abbrev pub bad_text : ℕ → List ℕ
bad_text number = (codes "! bad line " ++ decimal number) ++ (10 ∷ [])

-- for shared blocks that can't be parted
abbrev pub mixed_text : ℕ → List ℕ
mixed_text blocks = (codes "! mixed blocks " ++ decimal blocks) ++ (10 ∷ [])

-- for too few free blocks
abbrev pub tight_text : ℕ → List ℕ
tight_text free = (codes "! free blocks " ++ decimal free) ++ (10 ∷ [])

-- The line that ends a run before its first call, where the first image is one that mounting takes: it doesn't fit over, or the check left an
-- image with fewer than two free blocks and no block to clean.
unfoldable pub unbegun_text : Geometry → (first image : List ℕ) → Option (List ℕ)
unbegun_text g first image =
    if nat_lt 1 (spoiled_blocks g first) then None
    else if not (fits_over g first) then Some (mixed_text (shared_blocks g first))
    else if nat_lt (free_blocks g image) 2 && not (is_some (chosen_block g image)) then Some (tight_text (free_blocks g image))
    else None

-- a front of a line, of one byte at least
pub record IsBegun (part line : List ℕ) : Type 0 where
  pub rest : List ℕ
  pub line_is : line ≡ part ++ rest
  pub some : 0 < length part

-- All calls were answered, and the line was begun that says which line is outside the grammar; the table is that after the calls.
pub record EndsBadly (g : Geometry) (m : Moment) (asks : List Ask) (bad : Option ℕ) (said image : List ℕ) : Type 0 where
  pub number : ℕ
  pub bad_is : bad ≡ Some number
  pub done : List RunCall
  pub asks_are : asks ≡ asks_of done
  pub fair : AreFair g m done
  pub part : List ℕ
  pub said_is : said ≡ replies g m done ++ part
  pub begun : IsBegun part (bad_text number)
  pub table : table_of g image ≡ (after_all g m done).state.table

-- Nothing was answered, and the line was begun that ends a run before its first call; the table is the first one.
pub record Unbegun (g : Geometry) (m : Moment) (first said image : List ℕ) : Type 0 where
  pub line : List ℕ
  pub why : unbegun_text g first image ≡ Some line
  pub begun : IsBegun said line
  pub table : table_of g image ≡ m.state.table

-- what was said of a script at a moment, and the table, are those of a cut in the calls, or in a closing line
abbrev pub Says : Geometry → Moment → (first script : List ℕ) → Standing → Type 0
Says g m first script s =
    MayStand g m (calls script) s.said s.image
    ⊎ (EndsBadly g m (calls script) (first_bad 1 (lines script)) s.said s.image ⊎ Unbegun g m first s.said s.image)

-- What a cut in a run of a script may leave, on a device that held the image `first`: an image that is sound with respect to it, so many replies,
-- and such a table, that they are those of a cut in the calls, or in a closing line, with the table of the calls before it.
pub record IsGood (g : Geometry) (slots : ℕ) (first script : List ℕ) (s : Standing) : Type 0 where
  pub sound : IsSound g s.image first
  pub says : Says g (first_moment g slots first) first script s

-- An image of more than 131,072 bytes, or a script of more than 16,384, isn't judged.
abbrev pub IsLarge : (image script : List ℕ) → Type 0
IsLarge image script = (131072 < length image) ⊎ (16384 < length script)
