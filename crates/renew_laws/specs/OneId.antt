-- The pages of one id change, in a step of a call.
use Rattle.std.specs.Prelude.{◌≡◌, ◌≢◌, ℕ, ◌≤◌, ◌⊎◌, List, Bool, true, false, Some, None, Ok}
use Rattle.std.specs.List.{All}
use Rattle.geometry.specs.declared.geometry.Geometry.{Geometry}
use Rattle.image_model.specs.Live.{live_at, own}
use Rattle.image_model.specs.Places.{has_magic, entry_of, page_of, is_entry_page}
use Rattle.table_model.specs.Table.{File, put_file}
use Rattle.image_model.specs.Files.{index_page, judged}
use Rattle.image_model.specs.Tables.{table_of}
use Rattle.image_model.specs.Tidy.{serves}
use Rattle.image_laws.specs.TidySteps.{IsTidyBut}
use Rattle.image_model.specs.Sound.{IsMixed}

-- From image a to b the pages of one id have changed, those touched. The id has header page k and file f now;
-- each of its live pages serves it, or is spare, and so is or has been killed each touched page that is not live.
pub record OneIdChanges (g : Geometry) (id k : ℕ) (head : List ℕ) (f : File) (touched spare : ℕ → Bool) (a b : List ℕ) : Type 0 where
  pub low : 1 ≤ id
  pub high : id ≤ 0x7FFF
  pub magic : (c : ℕ) → has_magic g b c ≡ has_magic g a c
  pub entry : (r : ℕ) → is_entry_page g r ≡ true → touched r ≡ false → entry_of g b r ≡ entry_of g a r
  pub bytes : (r : ℕ) → is_entry_page g r ≡ true → touched r ≡ false → page_of g b r ≡ page_of g a r
  pub others : (j : ℕ) → j ≢ id → own (live_at g b) j ≡ own (live_at g a) j
  pub mixed : (c : ℕ) → IsMixed g (live_at g b) c → IsMixed g (live_at g a) c
  pub at : index_page g (own (live_at g b) id) 0 ≡ Some k
  pub header : own (live_at g b) id k ≡ Some head
  pub file : judged g (own (live_at g b) id) id head ≡ Ok f
  pub unused : All (λ x. x.id ≢ id → x.name ≢ f.name) (table_of g a)
  pub killed : (r : ℕ) → is_entry_page g r ≡ true → touched r ≡ true → own (live_at g b) id r ≡ None → (spare r ≡ true) ⊎ (entry_of g b r ≡ 0)
  pub served : (r : ℕ) (x : List ℕ) → own (live_at g b) id r ≡ Some x → (spare r ≡ true) ⊎ (serves g (own (live_at g b) id) head r ≡ true)

-- Then, where what was spare before is touched, the file is put into the table, and the image is tidy but for the spare pages.
abbrev pub OneIdIsTidy : Geometry → Type 0
OneIdIsTidy g = (a b : List ℕ) (id k : ℕ) (head : List ℕ) (f : File) (before touched spare : ℕ → Bool) → IsTidyBut g a before →
    ((r : ℕ) → before r ≡ true → touched r ≡ true) → OneIdChanges g id k head f touched spare a b →
    IsTidyBut g b spare × (table_of g b ≡ put_file f (table_of g a))
