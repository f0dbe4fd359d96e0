-- Which of the blocks are the best so far.
use Rattle.std.specs.Prelude.{◌≡◌, ℕ, ◌<◌, List, Bool, true, false, not, ◌&&◌, ◌||◌, Option, Some, None, is_some, ℤ, ◌==◌, nat_lt, int_le, if◌then◌else◌}
use Rattle.geometry.specs.declared.geometry.Geometry.{Geometry}
use Rattle.std.specs.List.{range_with_len, list_any}
use Rattle.flash_view.specs.declared.counts.BlockCounts.{BlockCounts}
use Rattle.geometry.specs.Numbers.{entries}
use Rattle.image_model.specs.Kinds.{is_data_block}
use Rattle.image_model.specs.Collect.{is_worth, is_fitting, score}
use Rattle.block_gc.specs.Totals.{score_by, room_by, worth_by, fits_by}
use Rattle.block_gc.specs.declared.totals.Room.{Room}
use Rattle.block_gc.specs.declared.choice.Scored.{Scored}
use Rattle.block_gc.specs.declared.choice.Bests.{Bests}

-- the first of the best so far and another block, whichever has the greater score
abbrev pub better_of : Option Scored → Scored → Option Scored
better_of None other = Some other
better_of (Some first) other = if int_le other.score first.score then Some first else Some other

-- a block that is worth cleaning and fits
abbrev pub is_candidate : Geometry → List ℕ → ℕ → Bool
is_candidate g image block = is_worth g image block && is_fitting g image block

-- one of those without live data pages
abbrev pub is_plain : Geometry → List ℕ → ℕ → Bool
is_plain g image block = is_candidate g image block && not (is_data_block g image block)

-- a block of the image with its score
abbrev pub scored_of : Geometry → List ℕ → ℕ → Scored
scored_of g image block = record { block = block; score = score g image block }

-- the bests so far, and a block more
abbrev pub bests_with : Geometry → List ℕ → Bests → ℕ → Bests
bests_with g image bests block = record {
  worth = bests.worth || is_worth g image block;
  any = if is_candidate g image block then better_of bests.any (scored_of g image block) else bests.any;
  plain = if is_plain g image block then better_of bests.plain (scored_of g image block) else bests.plain;
}

-- by its counts and the room of all blocks, a block is worth cleaning and fits
abbrev pub candidate_by : Geometry → BlockCounts → Room → Bool
candidate_by g c all = worth_by c all (room_by c (entries g)) && fits_by g c all (room_by c (entries g))

-- the bests so far, and a block more by its counts, the room of all blocks and the next erase count
abbrev pub bests_by : Geometry → BlockCounts → Room → ℕ → Bests → ℕ → Bests
bests_by g c all next bests block = record {
  worth = bests.worth || worth_by c all (room_by c (entries g));
  any = if candidate_by g c all then better_of bests.any (record { block = block; score = score_by c next }) else bests.any;
  plain = if candidate_by g c all && (c.data_live == 0) then better_of bests.plain (record { block = block; score = score_by c next }) else bests.plain;
}

-- Of the numbers below n that pass a test this one has the greatest value, and each one before it has a lesser one.
pub record Leads (test : ℕ → Bool) (value : ℕ → ℤ) (n : ℕ) (s : Scored) : Type 0 where
  pub below : s.block < n
  pub passes : test s.block ≡ true
  pub score : s.score ≡ value s.block
  pub most : (b : ℕ) → b < n → test b ≡ true → int_le (value b) (value s.block) ≡ true
  pub first : (b : ℕ) → b < s.block → test b ≡ true → int_le (value s.block) (value b) ≡ false

-- that number, or none of those below n passes
abbrev pub IsFirst : (ℕ → Bool) → (ℕ → ℤ) → ℕ → Option Scored → Type 0
IsFirst test value n None = (b : ℕ) → b < n → test b ≡ false
IsFirst test value n (Some s) = Leads test value n s

-- the bests are those of all blocks of the image
pub record AreBests (g : Geometry) (image : List ℕ) (bests : Bests) : Type 0 where
  pub worth : bests.worth ≡ list_any (λ block. is_worth g image block) (range_with_len 0 g.blocks)
  pub any : IsFirst (is_candidate g image) (score g image) g.blocks bests.any
  pub plain : IsFirst (is_plain g image) (score g image) g.blocks bests.plain

-- of the bests the one that is taken, by the number of free blocks
abbrev pub pick_of : ℕ → Bests → Option Scored
pick_of free bests = if nat_lt free 2 && is_some bests.plain then bests.plain else bests.any

-- by the number of free blocks and the bests, collection is stuck
abbrev pub stuck_by : ℕ → Bests → Bool
stuck_by free bests = nat_lt free 2 && bests.worth && not (is_some bests.any)

-- the block of the best one is below a number
abbrev pub IsBelow : ℕ → Option Scored → Type 0
IsBelow n None = Unit
IsBelow n (Some s) = s.block < n

-- both bests are below a number
pub record AreBelow (n : ℕ) (bests : Bests) : Type 0 where
  pub any : IsBelow n bests.any
  pub plain : IsBelow n bests.plain
