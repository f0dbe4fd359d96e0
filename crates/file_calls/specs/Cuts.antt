-- Files that are cut to their first bytes.
use Rattle.std.specs.Prelude.{◌≡◌, ◌≤◌, ◌⊎◌, ℕ, List, length, Bool, true, false, Some}
use Rattle.geometry.specs.declared.geometry.Geometry.{Geometry}
use Rattle.table_model.specs.Table.{File, file_of, put_file}
use Rattle.image_model.specs.Tables.{table_of}
use Rattle.image_model.specs.Tidy.{IsTidy, HasReserve}
use Rattle.image_model.specs.Sound.{IsSound}
use Rattle.room_laws.specs.Recovery.{Recovers}
use Rattle.page_renew.specs.PageSteps.{StepDone}
use Rattle.file_drop.specs.Truncates.{shortened}
use Rattle.flash_view.specs.Steps.{Step}
use Rattle.file_calls.specs.Collecting.{PageOrNone}

-- The image is tidy with its reserve, and its table has this file under the id, with so many bytes at least.
pub record CanCut (g : Geometry) (image : List ℕ) (id size : ℕ) (f : File) : Type 0 where
  pub tidy : IsTidy g image
  pub reserve : HasReserve g image
  pub there : file_of id (table_of g image) ≡ Some f
  pub less : size ≤ length f.bytes

-- What a job of several steps may leave at a cut, where one of them leaves a table: it is sound, with the table before it or that one, and
-- where two blocks were free it recovers.
pub record JobCut (g : Geometry) (after : List File) (was image : List ℕ) : Type 0 where
  pub sound : IsSound g image was
  pub table : (table_of g image ≡ table_of g was) ⊎ (table_of g image ≡ after)
  pub mends : HasReserve g was → Recovers g image

-- the file is cut, or no index page was had for it
abbrev pub CutOrNone : Geometry → (size : ℕ) → File → Bool → (was now : List ℕ) → Type 0
CutOrNone g size f true was now = StepDone g (put_file (shortened size f) (table_of g was)) was now
CutOrNone g size f false was now = PageOrNone g false was now

-- the step: blocks are cleaned for an index page, and the file is cut
abbrev pub cutting : (id size : ℕ) → File → Step Bool
cutting id size f = record {
  needs = λ g was. CanCut g was id size f;
  cut = λ g was image. JobCut g (put_file (shortened size f) (table_of g was)) was image;
  done = λ g was now had. CutOrNone g size f had was now;
}
