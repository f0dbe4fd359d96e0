-- A file that gets another name or other meta bytes.
use Rattle.std.specs.Prelude.{◌≡◌, ◌≢◌, ℕ, List, All, Bool, true, false, Some}
use Rattle.geometry.specs.declared.geometry.Geometry.{Geometry}
use Rattle.table_model.specs.Table.{File, file_of, put_file}
use Rattle.image_model.specs.Collect.{are_had}
use Rattle.image_model.specs.Tables.{table_of}
use Rattle.image_model.specs.Tidy.{IsTidy}
use Rattle.flash_view.specs.Steps.{Step}
use Rattle.page_renew.specs.declared.edits.Edit.{Edit}
use Rattle.page_renew.specs.declared.edits.Edit.TheVariants.{Name, Meta}
use Rattle.page_renew.specs.PageSteps.{StepCut, StepDone}

-- an edit of the name or of the meta bytes
abbrev pub restates : Edit → Bool
restates (Name name) = true
restates (Meta meta) = true
restates _ = false

-- the file after it
abbrev pub restated : Edit → File → File
restated (Name name) f = record f { name = name.now }
restated (Meta meta) f = record f { meta = meta.now }
restated _ f = f

-- The image is tidy, an index page is to be had, and its table has this file under the id and no other of the name that it gets.
pub record CanRestate (g : Geometry) (image : List ℕ) (id : ℕ) (edit : Edit) (f : File) : Type 0 where
  pub tidy : IsTidy g image
  pub had : are_had g image 1 0 ≡ true
  pub there : file_of id (table_of g image) ≡ Some f
  pub kind : restates edit ≡ true
  pub unused : All (λ x. x.id ≢ id → x.name ≢ (restated edit f).name) (table_of g image)

abbrev pub restating : (id : ℕ) → Edit → File → Step (Unit {0})
restating id edit f = record {
  needs = λ g was. CanRestate g was id edit f;
  cut = λ g was image. StepCut g (put_file (restated edit f) (table_of g was)) was image;
  done = λ g was now ok. StepDone g (put_file (restated edit f) (table_of g was)) was now;
}
