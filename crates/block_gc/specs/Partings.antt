-- Moving index pages out of blocks that hold live pages of both kinds: what it asks of an image, and what it leaves.
use Rattle.std.specs.Prelude.{◌≡◌, ℕ, ◌+◌, ◌<◌, List, true}
use Rattle.geometry.specs.declared.geometry.Geometry.{Geometry}
use Rattle.image_model.specs.Live.{live_at}
use Rattle.image_model.specs.Places.{block_of}
use Rattle.image_model.specs.Tables.{table_of}
use Rattle.image_model.specs.Tidy.{IsTidy, IsNeat, HasReserve}
use Rattle.image_model.specs.Kinds.{is_index_page, is_data_block}
use Rattle.image_model.specs.Shared.{FitsWith, SameCounts}
use Rattle.image_model.specs.Sound.{Keeps}
use Rattle.flash_view.specs.Steps.{Step}

-- A cut keeps the image and two free blocks that were there, and of the entries to spare all but one.
pub record PartCut (g : Geometry) (was image : List ℕ) : Type 0 where
  pub keeps : Keeps g was image
  pub reserve : HasReserve g was → HasReserve g image
  pub fits : (spare : ℕ) → FitsWith g was (spare + 1) → FitsWith g image spare

-- The index pages of shared blocks were moved out: the image is tidy with its table, and two free blocks that were there are there.
pub record Parted (g : Geometry) (was now : List ℕ) : Type 0 where
  pub tidy : IsTidy g now
  pub table : table_of g now ≡ table_of g was
  pub reserve : HasReserve g was → HasReserve g now
  pub counts : SameCounts g was now

abbrev pub parting : Step (Unit {0})
parting = record { needs = λ g was. IsNeat g was × FitsWith g was 0; cut = λ g was image. PartCut g was image; done = λ g was now ok. Parted g was now }

-- ---- page by page

-- a live index page of a block that holds a live data page
pub record IsBesideData (g : Geometry) (image : List ℕ) (page : ℕ) : Type 0 where
  pub index : is_index_page (live_at g image page) ≡ true
  pub held : is_data_block g image (block_of g page) ≡ true

-- Index pages were moved out of shared blocks, and nothing else: as many entries are to spare, and two free blocks that were there are there.
pub record Parts (g : Geometry) (was now : List ℕ) : Type 0 where
  pub neat : IsNeat g now
  pub keeps : Keeps g was now
  pub reserve : HasReserve g was → HasReserve g now
  pub fits : (spare : ℕ) → FitsWith g was spare → FitsWith g now spare
  pub counts : SameCounts g was now

-- An index page had its turn: it doesn't lie beside data pages, and each page that does lay so before.
pub record PartsPage (g : Geometry) (page : ℕ) (was now : List ℕ) : Type 0 where
  pub parts : Parts g was now
  pub gone : IsBesideData g now page → ⊥
  pub others : (q : ℕ) → IsBesideData g now q → IsBesideData g was q

abbrev pub parting_page : (page : ℕ) → Step (Unit {0})
parting_page page =
    record { needs = λ g was. IsNeat g was × FitsWith g was 0; cut = λ g was image. PartCut g was image; done = λ g was now ok. PartsPage g page was now }

-- All index pages below page `at` had their turns.
pub record PartsTo (g : Geometry) (at : ℕ) (was now : List ℕ) : Type 0 where
  pub parts : Parts g was now
  pub none : (page : ℕ) → page < at → IsBesideData g now page → ⊥

abbrev pub parting_to : (at : ℕ) → Step (Unit {0})
parting_to at =
    record { needs = λ g was. IsNeat g was × FitsWith g was 0; cut = λ g was image. PartCut g was image; done = λ g was now ok. PartsTo g at was now }
