-- What the turn of an entry of a block that is emptied asks of an image and leaves.
use Rattle.std.specs.Prelude.{◌≡◌, ℕ, ◌<◌, ◌≤◌, List, None, Some, true}
use Rattle.geometry.specs.declared.geometry.Geometry.{Geometry}
use Rattle.geometry.specs.Numbers.{page_count}
use Rattle.image_model.specs.Live.{live_at}
use Rattle.image_model.specs.Places.{block_of}
use Rattle.image_model.specs.Tidy.{IsTidy}
use Rattle.image_model.specs.Kinds.{is_index_page, is_data_page}
use Rattle.image_model.specs.Sound.{Keeps}
use Rattle.image_model.specs.Shared.{SameCounts}
use Rattle.renew_laws.specs.Tails.{KeepsTails}
use Rattle.flash_view.specs.Steps.{Step}
use Rattle.room_laws.specs.Sorts.{sort_at}
use Rattle.room_laws.specs.Recovery.{Recovers, MayCut, HasPlaces, IsBetween, batch_most}

-- The image is tidy, and the live pages of the block, with as many index pages as it has live data pages, find places in other blocks.
pub record CanEmpty (g : Geometry) (image : List ℕ) (block : ℕ) : Type 0 where
  pub tidy : IsTidy g image
  pub places : HasPlaces g block (sort_at g image)

-- A cut keeps the image. It recovers where pages went out of the block of a first image before, if a cut may come in that cleaning and no
-- batch is longer than the longest one.
pub record TurnCut (g : Geometry) (block most : ℕ) (was image : List ℕ) : Type 0 where
  pub keeps : Keeps g was image
  pub mends : (first : List ℕ) → MayCut g first block → most ≤ batch_most g first block → IsBetween g first block was → Recovers g image

-- After the turn of page p that page isn't live, and each live page of the block was live before. The image still stands between two moves
-- of each cleaning, the pages that are left in the block find places, tails that were ready are so still, and erase counts stay.
pub record TurnDone (g : Geometry) (block p : ℕ) (was now : List ℕ) : Type 0 where
  pub keeps : Keeps g was now
  pub can : CanEmpty g now block
  pub gone : live_at g now p ≡ None
  pub others : (q : ℕ) (x : List ℕ) → block_of g q ≡ block → live_at g now q ≡ Some x → live_at g was q ≡ Some x
  pub between : (first : List ℕ) → IsBetween g first block was → IsBetween g first block now
  pub tails : KeepsTails g was now
  pub counts : SameCounts g was now

-- a live index page of the block, or a live data page, is to be moved out of it
pub record CanMoveIndex (g : Geometry) (image : List ℕ) (block p : ℕ) : Type 0 where
  pub can : CanEmpty g image block
  pub index : is_index_page (live_at g image p) ≡ true

pub record CanMoveBatch (g : Geometry) (image : List ℕ) (block p : ℕ) : Type 0 where
  pub can : CanEmpty g image block
  pub is_data : is_data_page (live_at g image p) ≡ true

-- ---- the steps: an index page is moved out, or the batch that a data page begins, and an entry has its turn

abbrev pub moving_index : (block p : ℕ) → Step (Unit {0})
moving_index block p =
    record { needs = λ g was. CanMoveIndex g was block p; cut = λ g was image. TurnCut g block 1 was image; done = λ g was now ok. TurnDone g block p was now }

abbrev pub moving_batch : (block most p : ℕ) → Step (Unit {0})
moving_batch block most p = record {
  needs = λ g was. CanMoveBatch g was block p;
  cut = λ g was image. TurnCut g block most was image;
  done = λ g was now ok. TurnDone g block p was now;
}

abbrev pub turning_entry : (block most p : ℕ) → Step (Unit {0})
turning_entry block most p =
    record { needs = λ g was. CanEmpty g was block; cut = λ g was image. TurnCut g block most was image; done = λ g was now ok. TurnDone g block p was now }

-- No page of the block below p is live any more. The image still stands between two moves of each cleaning, the pages that are left
-- in the block find places, tails that were ready are so still, and erase counts stay.
pub record Emptied (g : Geometry) (block p : ℕ) (was now : List ℕ) : Type 0 where
  pub keeps : Keeps g was now
  pub can : CanEmpty g now block
  pub gone : (q : ℕ) → block_of g q ≡ block → q < p → live_at g now q ≡ None
  pub between : (first : List ℕ) → IsBetween g first block was → IsBetween g first block now
  pub tails : KeepsTails g was now
  pub counts : SameCounts g was now

-- all entries of a block have their turns
abbrev pub emptying : (block most : ℕ) → Step (Unit {0})
emptying block most = record {
  needs = λ g was. CanEmpty g was block;
  cut = λ g was image. TurnCut g block most was image;
  done = λ g was now ok. Emptied g block (page_count g) was now;
}
