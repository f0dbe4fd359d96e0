-- The header page of a new file is put.
use Rattle.std.specs.Prelude.{◌≡◌, ℕ, List, [], Bool, true, None}
use Rattle.geometry.specs.declared.geometry.Geometry.{Geometry}
use Rattle.image_model.specs.Live.{live_at, own}
use Rattle.table_model.specs.Table.{File, put_file}
use Rattle.image_model.specs.Files.{index_page}
use Rattle.image_model.specs.Places.{is_entry_page}
use Rattle.image_model.specs.Tables.{table_of, damaged_of}
use Rattle.image_model.specs.Sound.{HasMagics}
use Rattle.image_laws.specs.Programs.{LeadsTo}
use Rattle.image_laws.specs.SoundSteps.{IsOfKind}
use Rattle.image_laws.specs.TidySteps.{IsTidyBut}
use Rattle.image_laws.specs.Creating.{CutOf}
use Rattle.image_laws.specs.LiveSteps.{PutLeaves, PutDone}

-- What it begins on: the id has no header page.
pub record IsNewHead (g : Geometry) (a : List ℕ) (p id : ℕ) (head : List ℕ) (f : File) : Type 0 where
  pub inside : is_entry_page g p ≡ true
  pub leads : LeadsTo g a id head f
  pub kind : IsOfKind g (live_at g a) p head
  pub none : index_page g (own (live_at g a) id) 0 ≡ None

-- Each cut is before or after, sound, undamaged, and leaves all free blocks but one.
abbrev pub NewHeadCuts : Geometry → Type 0
NewHeadCuts g = (a c : List ℕ) (p id : ℕ) (head : List ℕ) (f : File) → IsNewHead g a p id head f → HasMagics g a → PutLeaves g p head a c →
    CutOf g a f c × (damaged_of g c ≡ [])

-- Done, the file is put into the table, and the image is tidy but for what was spare.
abbrev pub NewHeadTidies : Geometry → Type 0
NewHeadTidies g = (a b : List ℕ) (p id : ℕ) (head : List ℕ) (f : File) (spare : ℕ → Bool) → IsNewHead g a p id head f →
    PutDone g p head a b → IsTidyBut g a spare →
    IsTidyBut g b spare × (table_of g b ≡ put_file f (table_of g a))
