-- What the looks at the tail of a file tell, and what making it ready asks of an image and leaves.
use Rattle.std.specs.Prelude.{◌≡◌, ◌≢◌, ℕ, ◌+◌, ◌/◌, ◌%◌, ◌<◌, ◌≤◌, List, Option, Some, None, true, false, drop, slice_index, option_and_then}
use Rattle.geometry.specs.declared.geometry.Geometry.{Geometry}
use Rattle.geometry.specs.Numbers.{body, head_slots, page_count}
use Rattle.table_model.specs.Table.{File, has_id}
use Rattle.table_model.specs.Room.{data_pages}
use Rattle.image_model.specs.Collect.{are_had}
use Rattle.image_model.specs.Live.{live_at, own}
use Rattle.image_model.specs.Files.{index_page, further, slot_at}
use Rattle.image_model.specs.Kinds.{is_data_block}
use Rattle.image_model.specs.Places.{page_of, block_of}
use Rattle.image_model.specs.Tables.{table_of}
use Rattle.image_model.specs.Tidy.{IsTidy, is_erased}
use Rattle.image_laws.specs.NewFile.{IsFreePage}
use Rattle.renew_laws.specs.Reserve.{CanTake}
use Rattle.renew_laws.specs.Tails.{IsTailReady}
use Rattle.flash_view.specs.DataPages.{data_number_of}
use Rattle.flash_view.specs.Steps.{Step}
use Rattle.page_renew.specs.PageSteps.{StepCut, StepDone}
use Rattle.file_write.specs.Relinkings.{IsFileAt}

-- the bytes of the last data page of a file of that size past the size are 0xFF
abbrev pub HasOnes : Geometry → (image : List ℕ) (id size : ℕ) → Type 0
HasOnes g image id size = (q : ℕ) → size % body g ≢ 0 → data_number_of g image id (size / body g) ≡ Some q → (k : ℕ) → 5 + size % body g ≤ k → k < g.page →
    slice_index (page_of g image q) k ≡ 0xFF

-- one of those bytes isn't 0xFF, where that page is there
abbrev pub HasOther : Geometry → (image : List ℕ) (id size : ℕ) → Type 0
HasOther g image id size = (q : ℕ) → data_number_of g image id (size / body g) ≡ Some q → q < page_count g → size / body g ≤ 0xFFFF →
    is_erased (drop (5 + size % body g) (page_of g image q)) ≡ false

-- page w has another byte than 0xFF from the entry of the span behind the last on
abbrev pub IsTaken : Geometry → (image : List ℕ) (size w : ℕ) → Type 0
IsTaken g image size w = is_erased (drop (slot_at g (data_pages g size)) (page_of g image w)) ≡ false

-- the further index page with the entry of the span behind the last, or none where its bytes from that entry on are 0xFF
abbrev pub IsStale : Geometry → (image : List ℕ) (id size : ℕ) → Option ℕ → Type 0
IsStale g image id size None = (page : List ℕ) (k : ℕ) → head_slots g ≤ data_pages g size →
    option_and_then (own (live_at g image) id) (index_page g (own (live_at g image) id) (further g (data_pages g size))) ≡ Some page →
    slot_at g (data_pages g size) ≤ k → k < g.page → slice_index page k ≡ 0xFF
IsStale g image id size (Some w) = (head_slots g ≤ data_pages g size) × (index_page g (own (live_at g image) id) (further g (data_pages g size)) ≡ Some w)

-- ---- the tail is made ready

-- The image is tidy, its table has a file of that id, and an index page and a data page are to be had.
pub record CanReady (g : Geometry) (image : List ℕ) (id : ℕ) : Type 0 where
  pub tidy : IsTidy g image
  pub there : has_id id (table_of g image) ≡ true
  pub had : are_had g image 1 1 ≡ true

-- The header page of the file was found,
pub record CanReadyIn (g : Geometry) (image : List ℕ) (id size : ℕ) (f : File) : Type 0 where
  pub can : CanReady g image id
  pub home : IsFileAt g image id size f

-- its bytes past the size are 0xFF,
pub record CanReadyEntry (g : Geometry) (image : List ℕ) (id size : ℕ) (f : File) : Type 0 where
  pub at : CanReadyIn g image id size f
  pub ones : HasOnes g image id size

-- and this index page has the entry of the span behind the last.
pub record CanRefresh (g : Geometry) (image : List ℕ) (id size index : ℕ) (f : File) : Type 0 where
  pub at : CanReadyEntry g image id size f
  pub stale : IsStale g image id size (Some index)

-- Page `to` is free for the copy of that index page.
pub record CanRefreshTo (g : Geometry) (image : List ℕ) (id size index to : ℕ) (f : File) : Type 0 where
  pub can : CanRefresh g image id size index f
  pub free : IsFreePage g image to
  pub kind : is_data_block g image (block_of g to) ≡ false
  pub room : CanTake g image to

-- The image is tidy, and the tail of a file of its table is ready for an append.
pub record HasReadyTail (g : Geometry) (image : List ℕ) (id : ℕ) : Type 0 where
  pub tidy : IsTidy g image
  pub there : has_id id (table_of g image) ≡ true
  pub ready : IsTailReady g image id

-- The header page of that file was found.
pub record HasReadyTailAt (g : Geometry) (image : List ℕ) (id size : ℕ) (f : File) : Type 0 where
  pub home : IsFileAt g image id size f
  pub ready : IsTailReady g image id

-- The table is the same, and the tail of the file is ready for an append.
pub record Readied (g : Geometry) (id : ℕ) (was now : List ℕ) : Type 0 where
  pub step : StepDone g (table_of g was) was now
  pub ready : IsTailReady g now id

-- ---- the steps: the index page is renewed, at a page or where one is found; the tail is made ready where its bytes are 0xFF, of a file of a size,
-- and of an id

abbrev pub refreshing_to : (id size index to : ℕ) → File → Step (Unit {0})
refreshing_to id size index to f = record {
  needs = λ g was. CanRefreshTo g was id size index to f;
  cut = λ g was image. StepCut g (table_of g was) was image;
  done = λ g was now ok. Readied g id was now;
}

abbrev pub refreshing : (id size index : ℕ) → File → Step (Unit {0})
refreshing id size index f = record {
  needs = λ g was. CanRefresh g was id size index f;
  cut = λ g was image. StepCut g (table_of g was) was image;
  done = λ g was now ok. Readied g id was now;
}

abbrev pub readying_entry : (id size : ℕ) → File → Step (Unit {0})
readying_entry id size f = record {
  needs = λ g was. CanReadyEntry g was id size f;
  cut = λ g was image. StepCut g (table_of g was) was image;
  done = λ g was now ok. Readied g id was now;
}

abbrev pub readying_in : (id size : ℕ) → File → Step (Unit {0})
readying_in id size f = record {
  needs = λ g was. CanReadyIn g was id size f;
  cut = λ g was image. StepCut g (table_of g was) was image;
  done = λ g was now ok. Readied g id was now;
}

abbrev pub readying : (id : ℕ) → Step (Unit {0})
readying id =
    record { needs = λ g was. CanReady g was id; cut = λ g was image. StepCut g (table_of g was) was image; done = λ g was now ok. Readied g id was now }
