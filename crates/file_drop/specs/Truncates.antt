-- What a truncation asks of an image, and what it leaves.
use Rattle.std.specs.Prelude.{◌≡◌, ℕ, ◌≤◌, List, length, take, true, Some}
use Rattle.geometry.specs.declared.geometry.Geometry.{Geometry}
use Rattle.table_model.specs.Table.{File, file_of, put_file}
use Rattle.image_model.specs.Collect.{are_had}
use Rattle.image_model.specs.Tables.{table_of}
use Rattle.image_model.specs.Tidy.{IsTidy}
use Rattle.flash_view.specs.Steps.{Step}
use Rattle.page_renew.specs.PageSteps.{StepCut, StepDone}

-- a file with its first bytes alone
abbrev pub shortened : ℕ → File → File
shortened size f = record f { bytes = take size f.bytes }

-- The image is tidy, an index page is to be had, and its table has this file under the id, with so many bytes at least.
pub record CanTruncate (g : Geometry) (image : List ℕ) (id size : ℕ) (f : File) : Type 0 where
  pub tidy : IsTidy g image
  pub had : are_had g image 1 0 ≡ true
  pub there : file_of id (table_of g image) ≡ Some f
  pub less : size ≤ length f.bytes

abbrev pub truncating : (id size : ℕ) → File → Step (Unit {0})
truncating id size f = record {
  needs = λ g was. CanTruncate g was id size f;
  cut = λ g was image. StepCut g (put_file (shortened size f) (table_of g was)) was image;
  done = λ g was now ok. StepDone g (put_file (shortened size f) (table_of g was)) was now;
}
