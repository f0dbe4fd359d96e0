-- Data pages that stand beside a file before its header page is renewed.
use Rattle.std.specs.Prelude.{◌≡◌, ℕ, ◌+◌, ◌-◌, ◌/◌, ◌<◌, List, length, Bool, true, Some, slice_index}
use Rattle.geometry.specs.declared.geometry.Geometry.{Geometry}
use Rattle.geometry.specs.Numbers.{body}
use Rattle.table_model.specs.Table.{File, put_file}
use Rattle.table_model.specs.Files.{written}
use Rattle.table_model.specs.Room.{data_pages}
use Rattle.image_model.specs.Collect.{are_had}
use Rattle.image_model.specs.Live.{live_at, own}
use Rattle.image_model.specs.Tables.{table_of}
use Rattle.image_model.specs.Tidy.{HasReserve}
use Rattle.renew_laws.specs.Append.{page_part}
use Rattle.renew_laws.specs.Primed.{Primed}
use Rattle.renew_laws.specs.Tails.{IsTailReady}
use Rattle.trim_laws.specs.Wear.{SameWear}
use Rattle.flash_view.specs.Steps.{Step}
use Rattle.page_renew.specs.PageSteps.{StepCut}
use Rattle.file_write.specs.Appends.{CanAppendAt}
use Rattle.file_write.specs.Beside.{IsDataPage}

-- Page q is the data page of part i of the bytes.
pub record IsPart (g : Geometry) (id size : ℕ) (bytes image : List ℕ) (i q : ℕ) : Type 0 where
  pub page : List ℕ
  pub there : own (live_at g image) id q ≡ Some page
  pub is : IsDataPage g id (size / body g + i) (page_part g bytes i) page

-- n data pages of the bytes stand beside the file, at these numbers: the file and its tail are as they were, and the other pages are had still.
pub record IsLaid (g : Geometry) (was : List ℕ) (id h size : ℕ) (bytes : List ℕ) (f : File) (n : ℕ) (pages image : List ℕ) : Type 0 where
  pub can : CanAppendAt g was id h size bytes f
  pub beside : ℕ → Bool
  pub prime : Primed g id h can.head f beside was image
  pub parts : (i : ℕ) → i < n → IsPart g id size bytes image i (slice_index pages i)
  pub only : (r : ℕ) → beside r ≡ true → (i : ℕ) × (i < n) × (r ≡ slice_index pages i)
  pub ready : IsTailReady g image id
  pub had : are_had g image 1 (data_pages g (length bytes) - n) ≡ true
  pub reserve : HasReserve g was → HasReserve g image
  pub wear : SameWear g was image

abbrev pub laying : (id h size n : ℕ) → List ℕ → List ℕ → File → Step (Unit {0})
laying id h size n pages bytes f = record {
  needs = λ g was. CanAppendAt g was id h size bytes f;
  cut = λ g was image. StepCut g (put_file (written (length f.bytes) bytes f) (table_of g was)) was image;
  done = λ g was now ok. IsLaid g was id h size bytes f n pages now;
}
