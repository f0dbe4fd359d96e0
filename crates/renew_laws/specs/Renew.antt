-- A header page is renewed: the new one is put, the old one is killed.
use Rattle.std.specs.Prelude.{◌≡◌, ℕ, List, [], Bool, true, not, ◌==◌, ◌&&◌, Some, is_some}
use Rattle.geometry.specs.declared.geometry.Geometry.{Geometry}
use Rattle.image_model.specs.Live.{live_at, own}
use Rattle.table_model.specs.Table.{File, put_file}
use Rattle.image_model.specs.Files.{is_index, index_page}
use Rattle.image_model.specs.Places.{is_entry_page}
use Rattle.image_model.specs.Tables.{table_of, damaged_of}
use Rattle.image_model.specs.Tidy.{serves}
use Rattle.image_model.specs.Sound.{HasMagics}
use Rattle.image_laws.specs.Programs.{LeadsTo, IsHead}
use Rattle.image_laws.specs.SoundSteps.{IsOfKind}
use Rattle.image_laws.specs.TidySteps.{IsTidyBut}
use Rattle.image_laws.specs.Creating.{CutOf}
use Rattle.image_laws.specs.Spares.{leftover}
use Rattle.renew_laws.specs.Replace.{ReplaceCut, Replaced}
use Rattle.renew_laws.specs.Idles.{Idles}

-- What it begins on: page p, finished, is to take the place of o, the one header page of its id.
pub record RenewsTo (g : Geometry) (a : List ℕ) (p o id : ℕ) (old head : List ℕ) (f : File) : Type 0 where
  pub inside : is_entry_page g p ≡ true
  pub leads : LeadsTo g a id head f
  pub kind : IsOfKind g (live_at g a) p head
  pub was : own (live_at g a) id o ≡ Some old
  pub old_head : IsHead id old
  pub only : (r : ℕ) → is_index (own (live_at g a) id r) 0 ≡ true → r ≡ o

-- Each cut is before or after, sound, undamaged, and leaves all free blocks but one.
abbrev pub RenewCuts : Geometry → Type 0
RenewCuts g = (a c : List ℕ) (p o id : ℕ) (old head : List ℕ) (f : File) → RenewsTo g a p o id old head f → HasMagics g a → ReplaceCut g p o head a c →
    CutOf g a f c × (damaged_of g c ≡ [])

-- Where the new header page is served by all pages of the id that the old one was, and by those that are spare, none is left over.
abbrev pub NoneLeft : Geometry → Type 0
NoneLeft g = (a : List ℕ) (o id : ℕ) (old head : List ℕ) (before : ℕ → Bool) → IsTidyBut g a before → index_page g (own (live_at g a) id) 0 ≡ Some o →
    own (live_at g a) id o ≡ Some old →
    ((r : ℕ) → before r ≡ true → serves g (own (live_at g a) id) head r ≡ true) →
    ((r : ℕ) → serves g (own (live_at g a) id) old r ≡ true → serves g (own (live_at g a) id) head r ≡ true) →
    (r : ℕ) → leftover g (own (live_at g a) id) head r ≡ true → ⊥

-- Done, the file is put into the table. Some pages of the id may be spare before, as data pages put beside;
-- what the new header page does not need is spare after it.
abbrev pub RenewSpares : Geometry → Type 0
RenewSpares g = (a b : List ℕ) (p o id : ℕ) (old head : List ℕ) (f : File) (before : ℕ → Bool) → RenewsTo g a p o id old head f →
    Replaced g p o head a b → IsTidyBut g a before →
    ((r : ℕ) → before r ≡ true → is_some (own (live_at g a) id r) ≡ true) →
    Idles g (λ r. not (r == o) && leftover g (own (live_at g a) id) head r) b × (table_of g b ≡ put_file f (table_of g a))
