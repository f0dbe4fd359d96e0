-- What it asks of an image to overwrite bytes of a file, and what that leaves.
use Rattle.std.specs.Prelude.{◌≡◌, ◌≢◌, ℕ, ◌+◌, ◌/◌, ◌%◌, ◌<◌, ◌≤◌, List, length, true, Some}
use Rattle.geometry.specs.declared.geometry.Geometry.{Geometry}
use Rattle.geometry.specs.Numbers.{body}
use Rattle.table_model.specs.Table.{File, file_of, put_file}
use Rattle.table_model.specs.Files.{written}
use Rattle.image_model.specs.Collect.{are_had}
use Rattle.image_model.specs.Tables.{table_of}
use Rattle.image_model.specs.Tidy.{IsTidy}
use Rattle.renew_laws.specs.Tails.{IsTailReady}
use Rattle.flash_view.specs.Steps.{Step}
use Rattle.page_renew.specs.PageSteps.{StepCut, StepDone}

-- The image is tidy, and its table has this file under the id; some bytes, that end in the data page in which they begin and not behind
-- the file's end, are to be written there, and an index page and a data page are to be had.
pub record CanOverwrite (g : Geometry) (image : List ℕ) (id at : ℕ) (bytes : List ℕ) (f : File) : Type 0 where
  pub tidy : IsTidy g image
  pub there : file_of id (table_of g image) ≡ Some f
  pub some : 0 < length bytes
  pub one_page : at % body g + length bytes ≤ body g
  pub inside : at + length bytes ≤ length f.bytes
  pub had : are_had g image 1 1 ≡ true

-- The bytes are written. The file's tail is ready where it was, and where the file ends in the data page that they are written to.
pub record Overwritten (g : Geometry) (id at : ℕ) (bytes : List ℕ) (f : File) (was now : List ℕ) : Type 0 where
  pub step : StepDone g (put_file (written at bytes f) (table_of g was)) was now
  pub ready : at / body g ≡ length f.bytes / body g → length f.bytes % body g ≢ 0 → IsTailReady g now id
  pub kept : IsTailReady g was id → IsTailReady g now id

abbrev pub overwriting : (id at : ℕ) → List ℕ → File → Step (Unit {0})
overwriting id at bytes f = record {
  needs = λ g was. CanOverwrite g was id at bytes f;
  cut = λ g was image. StepCut g (put_file (written at bytes f) (table_of g was)) was image;
  done = λ g was now ok. Overwritten g id at bytes f was now;
}
