-- What the renewal of a header page asks of an image, and what it leaves.
use Rattle.std.specs.Prelude.{◌≡◌, ℕ, List, Bool, true, false, not, ◌==◌, ◌&&◌, Option, Some, None, is_some}
use Rattle.geometry.specs.declared.geometry.Geometry.{Geometry}
use Rattle.table_model.specs.declared.error.Tag.{Tag}
use Rattle.table_model.specs.Table.{File, put_file}
use Rattle.image_model.specs.Live.{live_at, own}
use Rattle.image_model.specs.Headers.{size_of}
use Rattle.image_model.specs.Files.{index_page}
use Rattle.image_model.specs.Places.{page_of, block_of}
use Rattle.image_model.specs.Kinds.{is_data_block}
use Rattle.image_model.specs.Collect.{are_had}
use Rattle.image_model.specs.Tables.{table_of}
use Rattle.image_model.specs.Sound.{IsSound}
use Rattle.image_model.specs.Tidy.{IsTidy, HasReserve}
use Rattle.image_laws.specs.NewFile.{IsFreePage}
use Rattle.image_laws.specs.Programs.{LeadsTo, HasOneHead}
use Rattle.image_laws.specs.Spares.{leftover}
use Rattle.image_laws.specs.TidySteps.{IsTidyBut}
use Rattle.renew_laws.specs.Idles.{Idles}
use Rattle.renew_laws.specs.Renew.{RenewsTo}
use Rattle.renew_laws.specs.Replace.{ReplaceCut, Replaced}
use Rattle.renew_laws.specs.Reserve.{CanTake}
use Rattle.trim_laws.specs.Trim.{IsTrimmed}
use Rattle.trim_laws.specs.Wear.{SameWear}
use Rattle.flash_view.specs.declared.kinds.Kind.TheVariants.{Index}
use Rattle.flash_view.specs.Steps.{Step}
use Rattle.page_put.specs.LivePages.{IsPuttable, IsKillable, finished_page}
use Rattle.page_renew.specs.declared.edits.Edit.{Edit}
use Rattle.page_renew.specs.declared.finding.Found.{Found}
use Rattle.page_renew.specs.Edits.{IsEdited}
use Rattle.page_renew.specs.PageSteps.{StepCut}

-- ---- where a file is found

-- the header page of an id and the size that it tells, or none
abbrev pub IsHome : Geometry → List ℕ → ℕ → Option Found → Type 0
IsHome g image id None = index_page g (own (live_at g image) id) 0 ≡ None
IsHome g image id (Some found) = (index_page g (own (live_at g image) id) 0 ≡ Some found.header) × (found.size ≡ size_of (page_of g image found.header))

-- ---- an index page in the place of another

-- The built index page can be put at `to`, and page o can be killed.
pub record CanReplace (g : Geometry) (image : List ℕ) (to o : ℕ) (tag : Tag) (built : List ℕ) : Type 0 where
  pub put : IsPuttable g image to Index tag built
  pub kill : IsKillable g image o

abbrev pub replacing : (to o : ℕ) → Tag → List ℕ → Step (Unit {0})
replacing to o tag built = record {
  needs = λ g was. CanReplace g was to o tag built;
  cut = λ g was image. ReplaceCut g to o (finished_page g Index tag built) was image;
  done = λ g was now ok. Replaced g to o (finished_page g Index tag built) was now;
}

-- ---- a header page that is renewed

-- Page o is the one header page of an id, and each page that is it with the edit done leads to file f, and names no page behind its last one.
pub record CanSay (g : Geometry) (image : List ℕ) (id o : ℕ) (edit : Edit) (head : List ℕ) (f : File) : Type 0 where
  pub one : HasOneHead g image id o head
  pub leads : (y : List ℕ) → IsEdited g head edit y → LeadsTo g image id y f
  pub trims : (y : List ℕ) → IsEdited g head edit y → IsTrimmed g y

-- The image is tidy but for pages of the id that were put beside, and `to` is a free page for the edited header page.
pub record CanRenew (g : Geometry) (image : List ℕ) (id o to : ℕ) (edit : Edit) (f : File) : Type 0 where
  pub beside : ℕ → Bool
  pub tidy : IsTidyBut g image beside
  pub mine : (r : ℕ) → beside r ≡ true → is_some (own (live_at g image) id r) ≡ true
  pub head : List ℕ
  pub says : CanSay g image id o edit head f
  pub free : IsFreePage g image to
  pub kind : is_data_block g image (block_of g to) ≡ false
  pub room : CanTake g image to

-- Done, the file is in the table. Page y, put at `to`, has taken the place of header page o, which it is with the edit done,
-- and the image is tidy but for the pages of the id that y doesn't need.
pub record EditDone (g : Geometry) (id : ℕ) (edit : Edit) (f : File) (was now : List ℕ) : Type 0 where
  pub table : table_of g now ≡ put_file f (table_of g was)
  pub o : ℕ
  pub to : ℕ
  pub head : List ℕ
  pub y : List ℕ
  pub edited : IsEdited g head edit y
  pub renews : RenewsTo g was to o id head y f
  pub replaced : Replaced g to o y was now
  pub idles : Idles g (λ r. not (r == o) && leftover g (own (live_at g was) id) y r) now
  pub sound : IsSound g now was
  pub reserve : HasReserve g was → HasReserve g now
  pub wear : SameWear g was now

-- the header page o is renewed at page `to`
abbrev pub renewing_at : (id o to : ℕ) → Edit → File → Step (Unit {0})
renewing_at id o to edit f = record {
  needs = λ g was. CanRenew g was id o to edit f;
  cut = λ g was image. StepCut g (put_file f (table_of g was)) was image;
  done = λ g was now ok. EditDone g id edit f was now;
}

-- The image is tidy, and an index page is to be had.
pub record CanEdit (g : Geometry) (image : List ℕ) (id : ℕ) (edit : Edit) (f : File) : Type 0 where
  pub tidy : IsTidy g image
  pub had : are_had g image 1 0 ≡ true
  pub o : ℕ
  pub at : index_page g (own (live_at g image) id) 0 ≡ Some o
  pub head : List ℕ
  pub says : CanSay g image id o edit head f

-- The image is tidy but for pages of the id that were put beside, an index page is to be had, and page o is its header page.
pub record CanEditAt (g : Geometry) (image : List ℕ) (id o : ℕ) (edit : Edit) (f : File) : Type 0 where
  pub beside : ℕ → Bool
  pub tidy : IsTidyBut g image beside
  pub mine : (r : ℕ) → beside r ≡ true → is_some (own (live_at g image) id r) ≡ true
  pub had : are_had g image 1 0 ≡ true
  pub head : List ℕ
  pub says : CanSay g image id o edit head f

abbrev pub renewing_from : (id o : ℕ) → Edit → File → Step (Unit {0})
renewing_from id o edit f = record {
  needs = λ g was. CanEditAt g was id o edit f;
  cut = λ g was image. StepCut g (put_file f (table_of g was)) was image;
  done = λ g was now ok. EditDone g id edit f was now;
}

abbrev pub renewing : (id : ℕ) → Edit → File → Step (Unit {0})
renewing id edit f = record {
  needs = λ g was. CanEdit g was id edit f;
  cut = λ g was image. StepCut g (put_file f (table_of g was)) was image;
  done = λ g was now ok. EditDone g id edit f was now;
}
