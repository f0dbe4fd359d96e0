-- Volumes of one shape take the same pages for the same files.
use Rattle.std.proofs.Common.{◌≡◌, ℕ, ◌+◌, ◌-◌, ◌/◌, List, Bool, true, false, Option, Some, None, refl, sym, ◌∙◌, ap}
use Rattle.std.specs.Prelude.{nat_lt, sum_by, if◌then◌else◌}
use Rattle.geometry.specs.declared.geometry.Geometry.{Geometry}
use Rattle.geometry.specs.Numbers.{ceil, entries}
use Rattle.folder_core.specs.Files.{Entry}
use Rattle.folder_plan.specs.declared.refusing.Refusal.{Refusal}
use Rattle.folder_plan.specs.declared.refusing.Refusal.TheVariants.{BadNames, Full}
use Rattle.folder_plan.specs.Refusals.{first_bad, index_sum, data_sum, fits, refusal_by, make_refusal}
use Rattle.folder_size.specs.declared.told.Shape.{Shape}
use Rattle.folder_size.specs.Needs.{HasShape, blocks_needed}
use Rattle.folder_size.proofs.Numbers.{entries-is}

-- ---- pages by the bytes of a page and of meta alone

abbrev data_by : (page size : ℕ) → ℕ
data_by page size = ceil size (page - 5)

abbrev index_by : (page meta size : ℕ) → ℕ
index_by page meta size = if nat_lt ((page - 45 - meta) / 2) (data_by page size) then 1 + ceil (data_by page size - (page - 45 - meta) / 2) ((page - 8) / 2) else 1

index-is : (g : Geometry) (shape : Shape) (files : List Entry) → HasShape g shape → index_sum g files ≡ sum_by (λ (e : Entry). index_by shape.page shape.meta e.size) files
unfolding index_sum
index-is g shape files has =
    ap (λ (page : ℕ). sum_by (λ (e : Entry). index_by page g.meta e.size) files) has.page_is
    ∙ ap (λ (meta : ℕ). sum_by (λ (e : Entry). index_by shape.page meta e.size) files) has.meta_is

data-is : (g : Geometry) (shape : Shape) (files : List Entry) → HasShape g shape → data_sum g files ≡ sum_by (λ (e : Entry). data_by shape.page e.size) files
unfolding data_sum
data-is g shape files has = ap (λ (page : ℕ). sum_by (λ (e : Entry). data_by page e.size) files) has.page_is

module _ (g h : Geometry) (shape : Shape) (files : List Entry) (gs : HasShape g shape) (hs : HasShape h shape) where
  pub index-same : index_sum g files ≡ index_sum h files
  index-same = index-is g shape files gs ∙ sym (index-is h shape files hs)

  pub data-same : data_sum g files ≡ data_sum h files
  data-same = data-is g shape files gs ∙ sym (data-is h shape files hs)

  pub entries-same : entries g ≡ entries h
  entries-same = entries-is g shape gs ∙ sym (entries-is h shape hs)

  -- the blocks that the files need
  pub needs-same : blocks_needed g (index_sum g files) (data_sum g files) ≡ blocks_needed h (index_sum h files) (data_sum h files)
  needs-same =
      ap (λ (n : ℕ). ceil (n + 1) (entries g) + ceil (data_sum g files + 1) (entries g) + 2) index-same
      ∙ ap (λ (n : ℕ). ceil (index_sum h files + 1) (entries g) + ceil (n + 1) (entries g) + 2) data-same
      ∙ ap (λ (n : ℕ). ceil (index_sum h files + 1) n + ceil (data_sum h files + 1) n + 2) entries-same

-- ---- what a refusal tells

abbrev pub Tells : Geometry → List Entry → Option ℕ → Option Refusal → Type 0
Tells g files bad None = (bad ≡ None) × (fits g files ≡ true)
Tells g files bad (Some (BadNames at)) = bad ≡ Some at
Tells g files bad (Some (Full index pages)) = (bad ≡ None) × (fits g files ≡ false) × (index ≡ index_sum g files) × (pages ≡ data_sum g files)

by_room : (g : Geometry) (files : List Entry) (room : Bool) → fits g files ≡ room → Tells g files None (if room then None else Some (Full (index_sum g files) (data_sum g files)))
by_room g files true is = (refl, is)
by_room g files false is = (refl, is, refl, refl)

by_first : (g : Geometry) (files : List Entry) (bad : Option ℕ) → Tells g files bad (refusal_by g files bad)
by_first g files (Some at) = refl
by_first g files None = by_room g files (fits g files) refl

pub tells : (g : Geometry) (files : List Entry) → Tells g files (first_bad files) (make_refusal g files)
unfolding make_refusal
tells g files = by_first g files (first_bad files)

-- without a bad name it goes by the room
pub by_names : (g : Geometry) (files : List Entry) (at : ℕ) → first_bad files ≡ Some at → make_refusal g files ≡ Some (BadNames at)
unfolding make_refusal
by_names g files at is = ap (refusal_by g files) is

pub with_room : (g : Geometry) (files : List Entry) → first_bad files ≡ None → fits g files ≡ true → make_refusal g files ≡ None
unfolding make_refusal
with_room g files fine room = ap (refusal_by g files) fine ∙ ap (λ (b : Bool). if b then None else Some (Full (index_sum g files) (data_sum g files))) room

pub without_room : (g : Geometry) (files : List Entry) → first_bad files ≡ None → fits g files ≡ false → make_refusal g files ≡ Some (Full (index_sum g files) (data_sum g files))
unfolding make_refusal
without_room g files fine full = ap (refusal_by g files) fine ∙ ap (λ (b : Bool). if b then None else Some (Full (index_sum g files) (data_sum g files))) full
