-- Pages that are had still once one was put, or bytes were programmed in place.
use Rattle.std.specs.Prelude.{◌≡◌, ℕ, ◌+◌, ◌*◌, ◌≤◌, List, Bool, true, false, Some, None, is_some}
use Rattle.geometry.specs.declared.geometry.Geometry.{Geometry}
use Rattle.nor_core.specs.Flash.{SameOutside}
use Rattle.flash_view.specs.declared.kinds.Kind.TheVariants.{Index, Data}
use Rattle.image_model.specs.Headers.{names_index}
use Rattle.image_model.specs.Live.{live_at}
use Rattle.image_model.specs.Places.{block_of, is_entry_page}
use Rattle.image_model.specs.Collect.{are_had}
use Rattle.image_laws.specs.LiveSteps.{PutDone}
use Rattle.image_laws.specs.TidySteps.{IsTidyBut}
use Rattle.room_laws.specs.Sorts.{sort_at}
use Rattle.image_model.specs.Tidy.{TellsFree}
use Rattle.free_search.specs.Free.{IsFreeFor}

-- Lookup pages tell the free entries, and no block is mixed.
pub record IsClear (g : Geometry) (image : List ℕ) : Type 0 where
  pub tells : TellsFree g image
  pub unmixed : (p q : ℕ) (x y : List ℕ) → live_at g image p ≡ Some x → live_at g image q ≡ Some y → block_of g p ≡ block_of g q → names_index x ≡ names_index y

-- An image that is tidy but for live pages is clear.
abbrev pub TidyButIsClear : Geometry → Type 0
TidyButIsClear g = (image : List ℕ) (beside : ℕ → Bool) → IsTidyBut g image beside →
    ((r : ℕ) → beside r ≡ true → is_some (live_at g image r) ≡ true) → IsClear g image

-- Where pages are had fewer are had.
abbrev pub LessHad : Geometry → Type 0
LessHad g = (image : List ℕ) (index pages index' pages' : ℕ) → index' ≤ index → pages' ≤ pages → are_had g image index pages ≡ true →
    are_had g image index' pages' ≡ true

-- A page that was found is put, and all others that were had are had still.
abbrev pub PutHad : Geometry → Type 0
PutHad g = (a b : List ℕ) (p : ℕ) (page : List ℕ) (index pages : ℕ) → IsClear g a → IsClear g b → PutDone g p page a b →
    (IsFreeFor g a Index 2 None p → names_index page ≡ true → are_had g a (index + 1) pages ≡ true → are_had g b index pages ≡ true)
    × (IsFreeFor g a Data 2 None p → names_index page ≡ false → are_had g a index (pages + 1) ≡ true → are_had g b index pages ≡ true)

-- Where each entry counts as before the same pages are had.
abbrev pub SameHad : Geometry → Type 0
SameHad g = (a b : List ℕ) (index pages : ℕ) → IsClear g a → IsClear g b → ((p : ℕ) → is_entry_page g p ≡ true → sort_at g b p ≡ sort_at g a p) →
    are_had g a index pages ≡ true → are_had g b index pages ≡ true

-- They are had where a live page changes in place and stays of its kind.
abbrev pub InPlaceHad : Geometry → Type 0
InPlaceHad g = (a b : List ℕ) (w : ℕ) (x y : List ℕ) (index pages : ℕ) → IsClear g a → IsClear g b → SameOutside (w * g.page) g.page a b →
    live_at g a w ≡ Some x → live_at g b w ≡ Some y → names_index y ≡ names_index x →
    are_had g a index pages ≡ true → are_had g b index pages ≡ true
