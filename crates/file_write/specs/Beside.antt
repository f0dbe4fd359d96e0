-- Pages that are put beside those of a file.
use Rattle.std.specs.Prelude.{◌≡◌, ℕ, ◌+◌, ◌%◌, ◌<◌, ◌≤◌, ◌⊎◌, List, length, drop, Bool, true, false, None, slice_index, slice_range}
use Rattle.geometry.specs.declared.geometry.Geometry.{Geometry}
use Rattle.table_model.specs.declared.error.Tag.{Tag}
use Rattle.image_model.specs.Files.{slot_at}
use Rattle.image_model.specs.Headers.{obj_id, names_index, span_of}
use Rattle.image_model.specs.Places.{IsImage}
use Rattle.image_model.specs.Collect.{are_had}
use Rattle.image_laws.specs.LiveSteps.{PutLeaves, PutDone}
use Rattle.image_laws.specs.NewFile.{IsFreePage}
use Rattle.image_laws.specs.Reindex.{slot_word}
use Rattle.flash_view.specs.declared.kinds.Kind.{Kind}
use Rattle.flash_view.specs.declared.kinds.Kind.TheVariants.{Index, Data}
use Rattle.flash_view.specs.Steps.{Step}
use Rattle.free_search.specs.Free.{IsFreeFor}
use Rattle.free_search.specs.Had.{IsClear}

-- whether pages of a kind are index pages
abbrev pub is_index : Kind → Bool
is_index Index = true
is_index Data = false

-- A whole page says kind, id and span, and these bytes stand behind its header.
pub record IsPageOf (g : Geometry) (kind : Kind) (tag : Tag) (bytes page : List ℕ) : Type 0 where
  pub names : names_index page ≡ is_index kind
  pub of : obj_id page % 0x8000 ≡ tag.id
  pub span : span_of page ≡ tag.span
  pub len : length page ≡ g.page
  pub rest : drop 5 page ≡ bytes

-- It is the data page of these bytes, with 0xFF behind them.
pub record IsDataPage (g : Geometry) (id span : ℕ) (bytes page : List ℕ) : Type 0 where
  pub kind : names_index page ≡ false
  pub of : obj_id page % 0x8000 ≡ id
  pub at : span_of page ≡ span
  pub holds : slice_range page 5 (5 + length bytes) ≡ bytes
  pub erased : (k : ℕ) → 5 + length bytes ≤ k → k < g.page → slice_index page k ≡ 0xFF

-- It is an index page that names page p as that of a data span, with 0xFF behind that entry.
pub record IsIndexPage (g : Geometry) (id span t p : ℕ) (page : List ℕ) : Type 0 where
  pub kind : names_index page ≡ true
  pub of : obj_id page % 0x8000 ≡ id
  pub at : span_of page ≡ span
  pub slot : slot_word g page t ≡ p
  pub erased : (k : ℕ) → slot_at g t + 2 ≤ k → k < g.page → slice_index page k ≡ 0xFF

-- A page of which this holds is put at a free page,
abbrev pub putting_one : ℕ → (Geometry → List ℕ → Type 0) → Step (Unit {0})
putting_one to Is = record {
  needs = λ g was. IsFreePage g was to;
  cut = λ g was image. (page : List ℕ) × Is g page × PutLeaves g to page was image;
  done = λ g was now ok. (page : List ℕ) × Is g page × PutDone g to page was now;
}

-- in part,
pub record AddsPage (g : Geometry) (kind : Kind) (Is : List ℕ → Type 0) (was image : List ℕ) : Type 0 where
  pub p : ℕ
  pub page : List ℕ
  pub found : IsFreeFor g was kind 2 None p
  pub is : Is page
  pub leaves : PutLeaves g p page was image

-- or whole at page p,
pub record AddedPage (g : Geometry) (kind : Kind) (Is : List ℕ → Type 0) (was now : List ℕ) (p : ℕ) : Type 0 where
  pub page : List ℕ
  pub found : IsFreeFor g was kind 2 None p
  pub is : Is page
  pub put : PutDone g p page was now

-- as at page `to`, where that was found,
abbrev pub adding_at : ℕ → Kind → (Geometry → List ℕ → Type 0) → Step ℕ
adding_at to kind Is = record {
  needs = λ g was. IsImage g was × IsFreeFor g was kind 2 None to;
  cut = λ g was image. AddsPage g kind (Is g) was image;
  done = λ g was now p. AddedPage g kind (Is g) was now p;
}

-- where one of its kind is to be had.
abbrev pub one_had : Geometry → Kind → List ℕ → Bool
one_had g Index image = are_had g image 1 0
one_had g Data image = are_had g image 0 1

pub record HasPage (g : Geometry) (kind : Kind) (was : List ℕ) : Type 0 where
  pub clear : IsClear g was
  pub had : one_had g kind was ≡ true

abbrev pub adding : Kind → (Geometry → List ℕ → Type 0) → Step ℕ
adding kind Is = record {
  needs = λ g was. HasPage g kind was;
  cut = λ g was image. (image ≡ was) ⊎ AddsPage g kind (Is g) was image;
  done = λ g was now p. AddedPage g kind (Is g) was now p;
}

-- ---- the data page of some bytes, and a further index page that names one

abbrev pub is_data : (id span : ℕ) → List ℕ → Geometry → List ℕ → Type 0
is_data id span bytes g page = IsDataPage g id span bytes page

abbrev pub is_further : (id span t p : ℕ) → Geometry → List ℕ → Type 0
is_further id span t p g page = IsIndexPage g id span t p page
