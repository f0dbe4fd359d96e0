-- What moving an index page asks of an image and leaves.
use Rattle.std.specs.Prelude.{◌≡◌, ℕ, List, [], ◌∷◌, None, true, false}
use Rattle.geometry.specs.declared.geometry.Geometry.{Geometry}
use Rattle.image_model.specs.Headers.{names_index}
use Rattle.image_model.specs.Live.{live_at}
use Rattle.image_model.specs.Places.{block_of}
use Rattle.image_model.specs.Tidy.{IsNeat, is_free_entry}
use Rattle.image_model.specs.Kinds.{is_index_page, is_data_block}
use Rattle.image_model.specs.Sound.{Keeps}
use Rattle.image_model.specs.Shared.{SameCounts}
use Rattle.image_laws.specs.NewFile.{IsFreePage}
use Rattle.renew_laws.specs.Replace.{Replaced}
use Rattle.renew_laws.specs.Tails.{KeepsTails}
use Rattle.flash_view.specs.Steps.{Step}
use Rattle.room_laws.specs.Recovery.{IsOnWay}

-- In a neat image `page` is a live index page, and `to` a free page of a block without live data pages.
pub record CanMove (g : Geometry) (image : List ℕ) (page to : ℕ) : Type 0 where
  pub neat : IsNeat g image
  pub index : is_index_page (live_at g image page) ≡ true
  pub free : IsFreePage g image to
  pub entry : is_free_entry g image to ≡ true
  pub kind : is_data_block g image (block_of g to) ≡ false

-- A cut keeps the image, and the page is on its way.
pub record IndexCut (g : Geometry) (page to : ℕ) (was image : List ℕ) : Type 0 where
  pub keeps : Keeps g was image
  pub way : IsOnWay g (record { from = page; to = to } ∷ []) was image

-- A move that is done leaves the image neat, and the page isn't live. Tails that were ready are so still, and erase counts stay.
pub record IndexMoved (g : Geometry) (page to : ℕ) (was now : List ℕ) : Type 0 where
  pub cut : IndexCut g page to was now
  pub neat : IsNeat g now
  pub gone : live_at g now page ≡ None
  pub tails : KeepsTails g was now
  pub counts : SameCounts g was now
  -- an index page was put there, and then the page was killed
  pub copy : List ℕ
  pub copy_index : names_index copy ≡ true
  pub replaced : Replaced g to page copy was now

abbrev pub moving : (page to : ℕ) → Step (Unit {0})
moving page to =
    record { needs = λ g was. CanMove g was page to; cut = λ g was image. IndexCut g page to was image; done = λ g was now ok. IndexMoved g page to was now }
